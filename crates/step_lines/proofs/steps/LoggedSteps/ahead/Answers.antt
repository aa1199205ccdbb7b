use Rattle.std.proofs.Common.{◌≡◌, List, [], ℕ, slice_range, ap, ◌∙◌, arith}
use Rattle.step_lines.proofs.LineLemmas.{no_step_left, one_steps, few_steps, part_le}
use Rattle.step_lines.proofs.steps.LoggedSteps.ahead.Goals as goal

pub returns-in_default-clause-all : goal.returns-in_default-clause-all
returns-in_default-clause-all c = rw c.in_default.is (no_step_left [] _ tt)

pub returns-clause-all : goal.returns-clause-all
returns-clause-all c =
    let part = c.in-Some.part in
    let text : c.deref.result.now ≡ part.text.value.items = c.deref.ensures.value ∙ ap (λ v. v.items) c.deref-text.ensures in
    rw c.in-Some.is (one_steps _ _ _ part.counted.0 (ap (λ (bytes : List ℕ). slice_range bytes part.from part.to) text))

pub returns-clause-few : goal.returns-clause-few
returns-clause-few c =
    let part = c.in-Some.part in
    let text : c.deref.result.now ≡ part.text.value.items = c.deref.ensures.value ∙ ap (λ v. v.items) c.deref-text.ensures in
    rw c.in-Some.is (omega (arith, rw text at c.deref.type_inv.1, few_steps _ part.counted.0, part_le part.text.value.items part.from part.to))
