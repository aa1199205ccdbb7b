use Rattle.std.proofs.Common.{sym, ◌∙◌}
use Rattle.std.proofs.lemmas.Bool.{false≢true}
use Rattle.zone_guard.proofs.groups.group_answer.Goals as goal

pub returns-then-are_out_of_all : goal.returns-then-are_out_of_all
returns-then-are_out_of_all c = c.are_out_of_all.ensures.0 c.if-are_out_of_all.true

pub returns-then-lie_in_one : goal.returns-then-lie_in_one
returns-then-lie_in_one c = (
  λ out. false≢true (sym c.if-are_out_of_all.false ∙ c.are_out_of_all.ensures.1 out),
  c.lie_in_one.ensures.0 c.if-lie_in_one.true,
)

pub returns-else-lie_in_one : goal.returns-else-lie_in_one
returns-else-lie_in_one c = (
  λ out. false≢true (sym c.if-are_out_of_all.false ∙ c.are_out_of_all.ensures.1 out),
  λ within. false≢true (sym c.if-lie_in_one.false ∙ c.lie_in_one.ensures.1 within),
)
