-- A number with a sign and a point behind what a line has.
use Rattle.std.proofs.Common.{◌≡◌, ℕ, suc, ◌/◌, ◌%◌, ℤ, pos, negsuc, List, [], ◌∷◌, ◌++◌, ◌∙◌, ap, arith, append_assoc, false}
use Rattle.std.specs.Fmt.{decimal, sign_text}
use lib.Signed.{lt_z}
use lib.IntN.{nat_abs}
use Rattle.decimal_digits.specs.Digits.{last_digits}
use Rattle.epoch_report.specs.Metres.{metres_text, seconds_text}
use Rattle.epoch_report.proofs.DigitLemmas.{six_of_rest, twelve_of_rest}

-- four pieces, one behind another
four_behind : (line a b c d : List ℕ) → line ++ a ++ b ++ c ++ d ≡ line ++ (a ++ (b ++ (c ++ d)))
four_behind line a b c d =
    append_assoc (line ++ a ++ b) c d ∙ append_assoc (line ++ a) b (c ++ d) ∙ append_assoc line a (b ++ (c ++ d))

-- the whole metres, the point, and six digits, behind the sign
metres_spelled : (um : ℤ)
    → sign_text (lt_z um (pos 0)) ++ (decimal (nat_abs um / 1000000) ++ ((46 ∷ []) ++ last_digits 6 (nat_abs um % 1000000)))
    ≡ metres_text um
unfolding metres_text
metres_spelled (pos n) =
    let positive : lt_z (pos n) (pos 0) ≡ false = grind arith in
    rw positive (ap (λ ds. decimal (n / 1000000) ++ 46 ∷ ds) (six_of_rest n))
metres_spelled (negsuc n) = ap (λ ds. 45 ∷ (decimal (suc n / 1000000) ++ 46 ∷ ds)) (six_of_rest (suc n))

pub metres_behind : (line : List ℕ) (um : ℤ)
    → line ++ sign_text (lt_z um (pos 0)) ++ decimal (nat_abs um / 1000000) ++ (46 ∷ []) ++ last_digits 6 (nat_abs um % 1000000)
    ≡ line ++ metres_text um
metres_behind line um = four_behind line _ _ _ _ ∙ ap (λ ds. line ++ ds) (metres_spelled um)

abbrev high : ℕ → List ℕ
high n = last_digits 6 (n / 1000000 % 1000000)

abbrev low : ℕ → List ℕ
low n = last_digits 6 (n % 1000000)

-- the whole seconds, the point, and two times six digits, behind a blank and the sign
seconds_spelled : (ps : ℤ)
    → (32 ∷ sign_text (lt_z ps (pos 0))) ++ (decimal (nat_abs ps / 1000000000000) ++ ((46 ∷ []) ++ (high (nat_abs ps) ++ low (nat_abs ps))))
    ≡ 32 ∷ seconds_text ps
unfolding seconds_text
seconds_spelled (pos n) =
    let positive : lt_z (pos n) (pos 0) ≡ false = grind arith in
    rw positive (ap (λ ds. 32 ∷ (decimal (n / 1000000000000) ++ 46 ∷ ds)) (twelve_of_rest n))
seconds_spelled (negsuc n) = ap (λ ds. 32 ∷ 45 ∷ (decimal (suc n / 1000000000000) ++ 46 ∷ ds)) (twelve_of_rest (suc n))

pub seconds_behind : (line : List ℕ) (ps : ℤ)
    → line ++ (32 ∷ []) ++ sign_text (lt_z ps (pos 0)) ++ decimal (nat_abs ps / 1000000000000) ++ (46 ∷ []) ++ high (nat_abs ps) ++ low (nat_abs ps)
    ≡ line ++ 32 ∷ seconds_text ps
seconds_behind line ps =
    ap (λ front. front ++ decimal (nat_abs ps / 1000000000000) ++ (46 ∷ []) ++ high (nat_abs ps) ++ low (nat_abs ps)) (append_assoc line (32 ∷ []) (sign_text (lt_z ps (pos 0))))
    ∙ append_assoc (line ++ (32 ∷ sign_text (lt_z ps (pos 0))) ++ decimal (nat_abs ps / 1000000000000) ++ (46 ∷ [])) (high (nat_abs ps)) (low (nat_abs ps))
    ∙ four_behind line _ _ _ _ ∙ ap (λ ds. line ++ ds) (seconds_spelled ps)
