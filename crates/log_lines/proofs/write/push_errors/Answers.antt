use Rattle.std.proofs.Common.{◌≡◌, ℕ, ◌+◌, ◌≤◌, to_z, of_z, w64, List, ◌∷◌, ◌++◌, length, ap, arith, length-append}
use Rattle.std.specs.Prelude.{ℤ, pos, negsuc}
use Rattle.std.specs.Fmt.{signed_decimal}
use Rattle.std.proofs.lemmas.Fmt.{length_signed_le}
use Rattle.std.proofs.lemmas.Int.{ints}
use lib.Signed.{mag}
use Rattle.grid_model.specs.Sizes.{IsErrorSize}
use Rattle.log_lines.proofs.write.push_errors.Goals as goal

error_mag : (z : ℤ) → IsErrorSize z → mag z ≤ 1000000000000
error_mag (pos n) within = omega (arith, ints, within.high)
error_mag (negsuc n) within = omega (arith, ints, within.low)

-- 13 digits and a sign
error_short : (z : ℤ) → IsErrorSize z → length (signed_decimal z) ≤ 14
error_short z within = let small = error_mag z within in length_signed_le 13 z (omega arith) (omega arith)

-- a blank before each of two words
two_words : (line a b : List ℕ) → length a ≤ 14 → length b ≤ 14
    → length (line ++ 32 ∷ (a ++ 32 ∷ b)) ≤ length line + 30
two_words line a b f g = omega (arith, length-append line (32 ∷ (a ++ 32 ∷ b)), length-append a (32 ∷ b))

pub returns-clause-length : goal.returns-clause-length
returns-clause-length c =
    let low : to_z w64 (of_z w64 c.args.low) ≡ c.args.low = omega (arith, ints) in
    let high : to_z w64 (of_z w64 c.args.high) ≡ c.args.high = omega (arith, ints) in
    let pushed = rw (low, high) at c.push_numbers.ensures.pushed in
    omega (arith, two_words c.args.line.now.bytes _ _ (error_short c.args.low c.requires.low) (error_short c.args.high c.requires.high), ap length pushed)
