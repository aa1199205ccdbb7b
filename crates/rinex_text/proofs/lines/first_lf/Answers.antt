use Rattle.memchr.specs.Find.{is_byte}
use Rattle.rinex_text.proofs.PlaceLemmas.{first_place}
use Rattle.rinex_text.proofs.lines.first_lf.Goals as goal

pub returns : goal.returns
returns c = first_place (is_byte 10) c.args.text.now c.next.result c.next.new.self (rw c.memchr_iter.ensures.value at c.next.ensures.steps)
