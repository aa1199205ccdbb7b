use Rattle.std.proofs.Common.{◌≡◌, ◌∙◌, ℕ, ◌≤◌, true, List, take, length, ap, arith, rules}
use Rattle.std.proofs.lemmas.Grind.{common_steps}
use Rattle.sat_model.specs.declared.steps.Step.{Step}
use Rattle.step_lines.proofs.WrittenLemmas.{none_written, counted_whole, told_whole}
use Rattle.step_lines.proofs.steps.LoggedSteps.from_slice.Goals as goal

pub loop-step-init : goal.loop-step-init
loop-step-init c = rw c.new-text.ensures.items none_written

all_taken : (steps : List Step) (n : ℕ) → length steps ≤ n → take n steps ≡ steps
all_taken steps n all = grind (arith, common_steps)

pub of_lines-requires-clause-counted : goal.of_lines-requires-clause-counted
of_lines-requires-clause-counted c =
    let all = all_taken c.args.steps.now c.loop-step.step-index (omega (arith, c.loop-step-test.false)) in
    counted_whole c.loop-step.text.items c.in_ok-text.text.value.items c.len-to.result c.kept_among.result c.args.steps.now (ap (λ v. v.items) c.in_ok-text.ensures.ok) (omega (arith, c.len-to.ensures)) (rw all at c.loop-step.invariant) c.kept_among.ensures

pub returns-clause-told : goal.returns-clause-told
returns-clause-told c =
    let all = all_taken c.args.steps.now c.loop-step.step-index (omega (arith, c.loop-step-test.false)) in
    told_whole c.loop-step.text.items c.in_ok-text.text.value.items c.len-to.result c.args.steps.now _ (ap (λ v. v.items) c.in_ok-text.ensures.ok) (omega (arith, c.len-to.ensures)) (rw all at c.loop-step.invariant) c.of_lines.ensures

pub loop-step-preserved : goal.loop-step-preserved
loop-step-preserved c =
    let yes : c.in_ok-fits.fits ≡ true = search rules in
    let grown = c.in_ok-fits.ensures.written yes (take c.loop-step.step-index c.args.steps.now) c.loop-step.invariant in
    record { found = grown.found; told = grown.told ∙ grind (arith, common_steps) }
