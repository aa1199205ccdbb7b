-- The text of epochs and satellites one behind another.
use Rattle.std.proofs.Common.{◌≡◌, ℕ, zero, suc, ◌+◌, ◌-◌, ◌<◌, ◌≤◌, List, [], ◌∷◌, ◌++◌, length, get_or, drop, replicate, append_assoc, refl, sym, ap, ◌∙◌, arith}
use Rattle.std.proofs.lemmas.List.{drop_more, drop_all, append-nil}
use Rattle.std.specs.Prelude.{codes, ℤ, pos, negsuc, nat_abs, ◌/◌, false}
use Rattle.std.specs.Fmt.{decimal, sign_text}
use lib.Signed.{lt_z}
use Rattle.decimal_digits.specs.Digits.{last_digits}
use Rattle.made_texts.specs.TextLines.{text_of}
use Rattle.made_texts.specs.ObsText.{right, two_wide, metres_text, satellite_text, satellite_lines, satellites_text, epoch_text, epoch_lines, head_text}
use Rattle.made_texts.specs.declared.sat_codes.SatCode.{SatCode}
use Rattle.made_texts.specs.declared.sat_codes.EpochCodes.{EpochCodes}

pub blanks_more : (n : ℕ) → 0 < n → replicate {A = ℕ} n 32 ≡ 32 ∷ replicate {A = ℕ} (n - 1) 32
blanks_more zero some = absurd (omega arith)
blanks_more (suc n) some =
    let one : suc n - 1 ≡ n = omega arith in
    rw one refl

pub metres_spelled : (z : ℤ)
    → sign_text (lt_z z (pos 0)) ++ (decimal (nat_abs z / 1000) ++ 46 ∷ last_digits 3 (nat_abs z)) ≡ metres_text z
unfolding metres_text
metres_spelled (pos n) =
    let positive : lt_z (pos n) (pos 0) ≡ false = grind arith in
    rw positive refl
metres_spelled (negsuc n) = refl

-- ---- satellites

satellites_before : (sats : List SatCode) (more : List (List ℕ))
    → text_of (satellite_lines sats more) ≡ satellites_text sats ++ text_of more
unfolding satellites_text
satellites_before [] more = refl
satellites_before (seen ∷ sats) more = rw (satellites_before sats more) (sym (append_assoc (satellite_text seen) (10 ∷ satellites_text sats) (text_of more)))

satellites_more : (seen : SatCode) (sats : List SatCode)
    → satellites_text (seen ∷ sats) ≡ satellite_text seen ++ 10 ∷ satellites_text sats
unfolding satellites_text
satellites_more seen sats = refl

pub satellites_next : (text next whole : List ℕ) (sats : List SatCode) (i : ℕ) (d : SatCode)
    → i < length sats → text ++ satellites_text (drop i sats) ≡ whole
    → next ≡ text ++ (satellite_text (get_or sats i d) ++ 10 ∷ [])
    → next ++ satellites_text (drop (i + 1) sats) ≡ whole
satellites_next text next whole sats i d within e more =
    let first = ap satellites_text (drop_more sats i d within) ∙ satellites_more (get_or sats i d) (drop (i + 1) sats) in
    let here = satellite_text (get_or sats i d) in
    let later = satellites_text (drop (i + 1) sats) in
    rw more (append_assoc text (here ++ 10 ∷ []) later ∙ (ap (λ (l : List ℕ). text ++ l) (append_assoc here (10 ∷ []) later ∙ sym first) ∙ e))

no_satellites : satellites_text [] ≡ []
unfolding satellites_text
no_satellites = refl

pub satellites_end : (text whole : List ℕ) (sats : List SatCode) (i : ℕ) → length sats ≤ i
    → text ++ satellites_text (drop i sats) ≡ whole → text ≡ whole
satellites_end text whole sats i past e =
    sym (append-nil text) ∙ (ap (λ (l : List ℕ). text ++ l) (sym (ap satellites_text (drop_all i sats past) ∙ no_satellites)) ∙ e)

-- ---- epochs

epoch_before : (epoch : EpochCodes) (more : List EpochCodes)
    → text_of (epoch_lines (epoch ∷ more)) ≡ epoch_text epoch ++ text_of (epoch_lines more)
unfolding epoch_text
epoch_before epoch more =
    let head = head_text epoch.hour epoch.minute epoch.second (length epoch.sats.items) in
    ap (λ (l : List ℕ). head ++ 10 ∷ l) (satellites_before epoch.sats.items (epoch_lines more))
    ∙ sym (append_assoc head (10 ∷ satellites_text epoch.sats.items) (text_of (epoch_lines more)))

pub epochs_next : (text next whole : List ℕ) (epochs : List EpochCodes) (i : ℕ) (d : EpochCodes)
    → i < length epochs → text ++ text_of (epoch_lines (drop i epochs)) ≡ whole
    → next ≡ text ++ epoch_text (get_or epochs i d)
    → next ++ text_of (epoch_lines (drop (i + 1) epochs)) ≡ whole
epochs_next text next whole epochs i d within e more =
    let first = ap (λ (es : List EpochCodes). text_of (epoch_lines es)) (drop_more epochs i d within) ∙ epoch_before (get_or epochs i d) (drop (i + 1) epochs) in
    let later = text_of (epoch_lines (drop (i + 1) epochs)) in
    rw more (append_assoc text (epoch_text (get_or epochs i d)) later ∙ (ap (λ (l : List ℕ). text ++ l) (sym first) ∙ e))

pub epochs_end : (text whole : List ℕ) (epochs : List EpochCodes) (i : ℕ) → length epochs ≤ i
    → text ++ text_of (epoch_lines (drop i epochs)) ≡ whole → text ≡ whole
epochs_end text whole epochs i past e =
    sym (append-nil text) ∙ (ap (λ (es : List EpochCodes). text ++ text_of (epoch_lines es)) (sym (drop_all i epochs past)) ∙ e)

-- ---- behind what was written before

pub metres_placed : (old : List ℕ) (z : ℤ)
    → (((old ++ sign_text (lt_z z (pos 0))) ++ decimal (nat_abs z / 1000)) ++ 46 ∷ []) ++ last_digits 3 (nat_abs z) ≡ old ++ metres_text z
metres_placed old z =
    let spelled = ap (λ (l : List ℕ). old ++ l) (metres_spelled z) in
    placed old (sign_text (lt_z z (pos 0))) (decimal (nat_abs z / 1000)) (last_digits 3 (nat_abs z)) ∙ spelled where
      placed : (a b c d : List ℕ) → (((a ++ b) ++ c) ++ 46 ∷ []) ++ d ≡ a ++ (b ++ (c ++ 46 ∷ d))
      placed a b c d = simp append_assoc refl

pub head_placed : (old : List ℕ) (hour minute second count : ℕ)
    → (((old ++ (codes "> 2024 01 07 " ++ (last_digits 2 hour ++ 32 ∷ (last_digits 2 minute ++ 32 ∷ [])))) ++ two_wide second (codes ".0000000  0")) ++ right 3 (decimal count)) ++ 10 ∷ []
    ≡ old ++ (head_text hour minute second count ++ 10 ∷ [])
unfolding head_text
head_placed old hour minute second count = simp append_assoc refl
