use Rattle.std.proofs.Common.{sym, ◌∙◌}
use Rattle.std.proofs.lemmas.Bool.{false≢true}
use Rattle.zone_guard.proofs.answers.answer_of.Goals as goal

pub returns-then-are_apart : goal.returns-then-are_apart
returns-then-are_apart c = c.are_apart.ensures.0 c.if-are_apart.true

pub returns-then-are_enclosed : goal.returns-then-are_enclosed
returns-then-are_enclosed c = (
  λ apart. false≢true (sym c.if-are_apart.false ∙ c.are_apart.ensures.1 apart),
  rw c.faces.ensures at (c.are_enclosed.ensures.0 c.if-are_enclosed.true),
)

pub returns-else-are_enclosed : goal.returns-else-are_enclosed
returns-else-are_enclosed c = (
  λ apart. false≢true (sym c.if-are_apart.false ∙ c.are_apart.ensures.1 apart),
  λ parts. false≢true (sym c.if-are_enclosed.false ∙ c.are_enclosed.ensures.1 (rw c.faces.ensures parts)),
)
