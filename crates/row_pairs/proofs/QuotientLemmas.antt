-- Quotients that are guessed and tested.
use Rattle.std.proofs.Common.{◌≡◌, ℕ, ◌*◌, ◌/◌, ◌<◌, arith, rules, false, IsTrue, ◌↔◌}
use Rattle.std.specs.Prelude.{ℤ, pos, ◌-ℤ◌, ◌*ℤ◌, ◌<ℤ◌}
use Rattle.std.specs.Int.{int_div_euclid}
use Rattle.std.proofs.lemmas.Int.{ints}
use Rattle.grid_model.specs.Rounding.{IsFloor}
use Rattle.grid_model.proofs.RoundingLemmas.{floor_is, floor_only}
use lib.Signed.{lt_z}

-- a fraction rounded down is the quotient
pub quotient_is : (n d q : ℤ) → pos 0 <ℤ d → IsFloor n d q → q ≡ int_div_euclid n d
quotient_is n d q p f = floor_only n d q (int_div_euclid n d) p f (floor_is n d p)

-- what is left over tells whether v is the fraction rounded down
pub left_over : (n v d : ℤ) → lt_z (n -ℤ (v *ℤ d)) (pos 0) ≡ false
    → IsTrue (lt_z (n -ℤ (v *ℤ d)) d) ↔ IsFloor n d v
left_over n v d h =
    (λ t. record { le = grind (arith, ints); gt = grind (arith, ints) }, λ f. grind (arith, ints, f.gt))

-- an amount below 2^79 has a guess below 2^58
pub guess_small : (amount inverse : ℕ) → amount < 604462909807314587353088 → inverse < 18446744073709551616
    → amount / 65536 * inverse / 590295810358705651712 < 288230376151711744
guess_small amount inverse h k =
    let head : amount / 65536 < 9223372036854775808 = omega arith in
    let whole : amount / 65536 * inverse < 9223372036854775808 * 18446744073709551616 = search rules in
    omega (arith, whole)
