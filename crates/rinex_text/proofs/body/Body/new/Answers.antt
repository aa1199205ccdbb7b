use Rattle.rinex_text.proofs.BodyLemmas.{counted_front}
use Rattle.rinex_text.proofs.body.Body.new.Goals as goal

pub returns-clause-lines : goal.returns-clause-lines
returns-clause-lines c = counted_front _ _ (rw c.in_default.ensures.end at c.lines.invariant.counted)
