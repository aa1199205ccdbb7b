-- What stands behind the minus of a word that spells a limit.
use Rattle.std.proofs.Common.{◌≡◌, ℕ, suc, ◌-◌, ◌<◌, ◌≤◌, List, length, take, drop, get_or, arith}
use Rattle.std.specs.Prelude.{ℤ, pos, negsuc}
use Rattle.std.specs.Fmt.{decimal, signed_decimal}
use Rattle.std.proofs.lemmas.Fmt.{decimal_is_IsNumeral_wide}
use Rattle.std.proofs.lemmas.Int.{ints}
use Rattle.std.proofs.lemmas.Str.Parse.{digit_at}
use Rattle.grid_model.specs.Sizes.{IsWithin}
use Rattle.log_tokens.proofs.DigitLemmas.{behind_sign}

pub record IsBehindMinus (digits : List ℕ) : Type 0 where
  pub amount : ℕ
  pub some : 0 < amount
  pub within : amount ≤ 100000000000000000000
  pub spelled : digits ≡ decimal amount

pub behind_minus : (word : List ℕ) (n : ℤ) → get_or word 0 0 ≡ 45 → IsWithin 100000000000000000000 n
    → word ≡ signed_decimal n → IsBehindMinus (take (length word - 1) (drop 1 word))
behind_minus word (pos k) minus within e =
    let is = (decimal_is_IsNumeral_wide k (omega (arith, ints, within.high))).0 in
    let first : get_or (decimal k) 0 0 ≡ 45 = rw e at minus in
    absurd (omega (arith, first, (digit_at (decimal k) 0 is.1 is.0).0))
behind_minus word (negsuc k) minus within e = record {
  amount = suc k;
  some = omega arith;
  within = omega (arith, ints, within.low);
  spelled = rw e (behind_sign (decimal (suc k)));
}
