use Rattle.std.proofs.Common.{Some, None, sym, ◌∙◌}
use Rattle.step_lines.proofs.LineLemmas.{rest_found, no_step_left, first_told, first_goes}
use Rattle.step_lines.proofs.ahead.StepsAheadIterator.next.Goals as goal

pub returns-in_err-first-clause-steps : goal.returns-in_err-first-clause-steps
returns-in_err-first-clause-steps c =
    let none = no_step_left c.lines.self.text.now c.lines.self.found c.in_err-first.ensures.none in
    rw c.from_residual.ensures (sym c.lines.invariant ∙ none, none)

pub invariant_of-self : goal.invariant_of-self
invariant_of-self c = record { found = rest_found c.lines.self.text.now c.in_ok-first.behind.now c.in_ok-first.first c.lines.self.found c.in_ok-first.ensures.found }

pub returns-in-Some-clause-steps : goal.returns-in-Some-clause-steps
returns-in-Some-clause-steps c =
    let found = rw c.in-Some.is at c.in_ok-first.ensures.found in
    sym c.lines.invariant ∙ first_told c.lines.self.text.now c.in_ok-first.behind.now (Some c.in-Some.step) c.lines.self.found _ found

pub returns-in-Some-clause-goes : goal.returns-in-Some-clause-goes
returns-in-Some-clause-goes c =
    let found = rw c.in-Some.is at c.in_ok-first.ensures.found in
    first_goes c.args.self.now _ c.in-Some.step (sym c.lines.invariant ∙ first_told c.lines.self.text.now c.in_ok-first.behind.now (Some c.in-Some.step) c.lines.self.found _ found)

pub lines-preserved : goal.lines-preserved
lines-preserved c =
    let found = rw c.in_default.is at c.in_ok-first.ensures.found in
    sym (first_told c.lines.self.text.now c.in_ok-first.behind.now None c.lines.self.found _ found) ∙ c.lines.invariant
