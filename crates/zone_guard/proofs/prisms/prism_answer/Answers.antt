use Rattle.std.proofs.Common.{sym, ◌∙◌}
use Rattle.std.proofs.lemmas.Bool.{false≢true}
use Rattle.zone_guard.proofs.prisms.prism_answer.Goals as goal

pub returns-then-are_shut_out : goal.returns-then-are_shut_out
returns-then-are_shut_out c = c.are_shut_out.ensures.0 c.if-are_shut_out.true

pub returns-then-are_enclosed : goal.returns-then-are_enclosed
returns-then-are_enclosed c = (
  λ out. false≢true (sym c.if-are_shut_out.false ∙ c.are_shut_out.ensures.1 out),
  c.are_enclosed.ensures.0 c.if-are_enclosed.true,
)

pub returns-else-are_enclosed : goal.returns-else-are_enclosed
returns-else-are_enclosed c = (
  λ out. false≢true (sym c.if-are_shut_out.false ∙ c.are_shut_out.ensures.1 out),
  λ within. false≢true (sym c.if-are_enclosed.false ∙ c.are_enclosed.ensures.1 within),
)
