use Rattle.std.proofs.Common.{◌≡◌, arith}
use Rattle.std.specs.Prelude.{ℤ}
use Rattle.std.proofs.lemmas.Int.{ints}
use Rattle.relaxed_meet.proofs.clocks.clock_at.Goals as goal

same_pair : (a b a' b' : ℤ) → a ≡ a' → b ≡ b' → ◌≡◌ {A = ℤ × ℤ} (a, b) (a', b')
same_pair a b a' b' e f = cc

pub returns : goal.returns
returns c = same_pair _ _ _ _ (omega (arith, ints)) (omega (arith, ints))

pub invariant_of-result : goal.invariant_of-result
invariant_of-result c = record { ordered = omega (arith, ints) }
