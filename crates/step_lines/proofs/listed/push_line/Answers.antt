use Rattle.std.proofs.Common.{◌≡◌, [], ◌∷◌, ◌++◌, ◌∙◌}
use Rattle.step_lines.specs.Lines.{step_text}
use Rattle.step_lines.proofs.WrittenLemmas.{one_written}
use Rattle.step_lines.proofs.listed.push_line.Goals as goal

pub returns-then-fits-clause-written : goal.returns-then-fits-clause-written
returns-then-fits-clause-written c = λ yes steps written.
    let text : c.deref.result.now ≡ c.step_line-line.result.bytes = c.deref.ensures.0 in
    let is : c.as_bytes.result.now ≡ step_text c.args.step.now ++ 10 ∷ [] = c.as_bytes.ensures.value ∙ text ∙ c.step_line-line.ensures in
    rw c.in_ok-extend_from_slice.ensures.items (one_written c.args.text.now.items c.as_bytes.result.now steps c.args.step.now written (c.fits.ensures.fits c.if-fits.true) is)
