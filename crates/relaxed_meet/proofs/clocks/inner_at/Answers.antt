use Rattle.std.proofs.Common.{◌≡◌, arith}
use Rattle.std.specs.Prelude.{ℤ}
use Rattle.std.proofs.lemmas.Int.{ints}
use Rattle.relaxed_meet.proofs.clocks.inner_at.Goals as goal

same_pair : (a b a' b' : ℤ) → a ≡ a' → b ≡ b' → ◌≡◌ {A = ℤ × ℤ} (a, b) (a', b')
same_pair a b a' b' e f = cc

pub returns-then-lo-hi-clause-some : goal.returns-then-lo-hi-clause-some
returns-then-lo-hi-clause-some c = same_pair _ _ _ _ (omega (arith, ints)) (omega (arith, ints))

pub returns-else-lo-hi-clause-none : goal.returns-else-lo-hi-clause-none
returns-else-lo-hi-clause-none c = λ e. omega (arith, ints)
