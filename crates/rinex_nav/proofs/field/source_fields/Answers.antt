use Rattle.std.proofs.Common.{arith, inl, inr}
use Rattle.rinex_nav.proofs.field.source_fields.Goals as goal

pub returns-in_err-idot-clause-none : goal.returns-in_err-idot-clause-none
returns-in_err-idot-clause-none c = rw c.from_residual.ensures (λ v is. c.in_err-idot.ensures.none v.0 is.0)

pub returns-in_err-source-clause-none : goal.returns-in_err-source-clause-none
returns-in_err-source-clause-none c = rw c.from_residual-in_err-source.ensures (λ v is. elim is.1 [
  | inl x ↦ c.in_err-source.ensures.none v.1 x.1
  | inr y ↦ absurd (y.0 (omega (arith, c.if-system-ne69.false)))
])
