use Rattle.std.proofs.Common.{inl, inr}
use Rattle.row_pairs.proofs.LeastLemmas.{not_both}
use Rattle.row_pairs.proofs.conflicts.conflict.Goals as goal

pub returns-else-is_below : goal.returns-else-is_below
returns-else-is_below c = (
  λ t. inr (c.is_below-else-is_below.ensures.0 t),
  λ k. elim k [
    | inl x ↦ absurd (not_both c.is_below.result c.if-is_below.false (c.is_below.ensures.1 x))
    | inr x ↦ c.is_below-else-is_below.ensures.1 x
  ],
)
