-- An order of whole numbers holds in one way.
use Rattle.std.proofs.Common.{◌≡◌}
use Rattle.std.specs.Prelude.{ℤ, ◌≤ℤ◌, ◌<ℤ◌}
use Rattle.std.proofs.Math.Dec.{T_prop}

pub le_prop : (a b : ℤ) (p q : a ≤ℤ b) → p ≡ q
le_prop a b = hlevel T_prop

pub lt_prop : (a b : ℤ) (p q : a <ℤ b) → p ≡ q
lt_prop a b = hlevel T_prop
