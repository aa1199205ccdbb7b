-- A number has one spelling, and a spelling one number.
use Rattle.std.proofs.Common.{◌≡◌, ℕ, zero, suc, ◌^◌, ◌<◌, ℤ, pos, negsuc, List, ◌++◌, arith}
use Rattle.std.specs.Fmt.{signed_decimal}
use Rattle.std.proofs.lemmas.Int.{ints}
use Rattle.std.proofs.lemmas.Fmt.{signed_decimal_injective}
use lib.Signed.{mag}
use Rattle.grid_model.specs.Sizes.{IsWithin}
use Rattle.grid_model.specs.declared.boxes.Pos.{Pos}
use Rattle.log_tokens.specs.Fields.{pos_words, IsPosWithin}

-- what is within a bound fits 64 bits
pub mag-within : (bound : ℕ) (n : ℤ) → bound < 2 ^ 63 → IsWithin bound n → mag n < 2 ^ 63
mag-within bound (pos k) small within = omega (arith, ints, within.high)
mag-within zero (negsuc k) small within = omega (arith, ints, within.low)
mag-within (suc bound) (negsuc k) small within = omega (arith, ints, within.low)

-- two numbers within a bound that are spelled alike are one
pub one_number : (bound : ℕ) (m n : ℤ) → bound < 2 ^ 63 → IsWithin bound m → IsWithin bound n
    → signed_decimal m ≡ signed_decimal n → m ≡ n
one_number bound m n small m_within n_within = signed_decimal_injective m n (mag-within bound m small m_within) (mag-within bound n small n_within)

-- two places that begin a line are one
pub one_place : (bound : ℕ) (line rest more : List (List ℕ)) (p q : Pos) → bound < 2 ^ 63
    → IsPosWithin bound p → IsPosWithin bound q → line ≡ pos_words p ++ rest
    → line ≡ pos_words q ++ more
    → (p.x ≡ q.x) × (p.y ≡ q.y) × (p.z ≡ q.z)
one_place bound line rest more p q small p_within q_within e f =
    (one_number bound p.x q.x small p_within.0 q_within.0 cc, one_number bound p.y q.y small p_within.1 q_within.1 cc, one_number bound p.z q.z small p_within.2 q_within.2 cc)
