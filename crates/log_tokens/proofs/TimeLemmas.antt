-- A time is a number without a sign.
use Rattle.std.proofs.Common.{◌≡◌, ℕ, ◌≤◌, ℤ, pos, negsuc, refl, arith}
use Rattle.std.proofs.lemmas.Int.{ints}
use Rattle.log_tokens.specs.Fields.{IsTime}

pub record IsCount (ps : ℤ) : Type 0 where
  pub count : ℕ
  pub is : ps ≡ pos count
  pub within : count ≤ 3999999999999999999999

pub time_count : (ps : ℤ) → IsTime ps → IsCount ps
time_count (pos n) time = record { count = n; is = refl; within = omega (arith, ints, time.1) }
time_count (negsuc n) time = absurd (omega (arith, ints, time.0))
