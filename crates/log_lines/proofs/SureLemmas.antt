-- The words of what is surely allowed of an error.
use Rattle.std.proofs.Common.{◌≡◌, ℕ, ℤ, Bool, true, false, List, [], ◌∷◌, ◌++◌, refl, sym, ap, ◌∙◌, lit<}
use Rattle.std.specs.Prelude.{if◌then◌else◌}
use Rattle.std.specs.Bool.{Decides}
use Rattle.std.specs.Fmt.{signed_decimal}
use Rattle.std.proofs.lemmas.Bool.Decides.{Decides-and, Decides-int_eq}
use Rattle.log_tokens.specs.Fields.{number_words, span_words, IsSpanWithin}
use Rattle.log_tokens.proofs.WordLemmas.{same_rest}
use Rattle.log_tokens.proofs.NumberLemmas.{one_number}
use Rattle.log_lines.specs.Rows.{are_ends, sure_words, AreSure}
use Rattle.grid_model.specs.Sizes.{IsErrorSize}
use Rattle.grid_model.specs.declared.spans.Span.{Span}

-- the test tells whether the numbers are the ends
pub ends_decide : (s : Span) (lo hi : ℤ) → Decides (are_ends s lo hi) ((lo ≡ s.lo) × (hi ≡ s.hi))
ends_decide s lo hi = Decides-and _ _ (Decides-int_eq lo s.lo) (Decides-int_eq hi s.hi)

pub told_words : (s : Span) (lo hi : ℤ) → are_ends s lo hi ≡ false
    → sure_words s lo hi ≡ signed_decimal lo ∷ signed_decimal hi ∷ []
told_words s lo hi other = rw other refl

-- ---- ends that are spelled alike

pub record AreSameEnds (lo low hi high : ℤ) : Type 0 where
  pub lo_same : lo ≡ low
  pub hi_same : hi ≡ high

error_from : (m n : ℤ) → IsErrorSize m → IsErrorSize n → signed_decimal m ≡ signed_decimal n → m ≡ n
error_from m n f g e = one_number 1000000000000 m n (lit< tt) f g e

-- those that were read, and any that are written so
pub read_ends : (line rest more : List (List ℕ)) (lo hi low high : ℤ)
    → IsErrorSize lo × IsErrorSize hi → IsErrorSize low × IsErrorSize high
    → line ≡ number_words lo ++ rest → rest ≡ number_words hi ++ more
    → line ≡ signed_decimal low ∷ signed_decimal high ∷ [] → AreSameEnds lo low hi high
read_ends line rest more lo hi low high f g e d told = record { lo_same = error_from lo low f.0 g.0 cc; hi_same = error_from hi high f.1 g.1 cc }

told_from : (none nothing : Bool) (a b lo hi low high : ℤ) → (none ≡ true → (lo ≡ a) × (hi ≡ b))
    → (nothing ≡ true → (low ≡ a) × (high ≡ b)) → IsErrorSize lo × IsErrorSize hi
    → IsErrorSize low × IsErrorSize high
    → (if none then [] else (signed_decimal lo ∷ signed_decimal hi ∷ [])) ≡ (if nothing then [] else (signed_decimal low ∷ signed_decimal high ∷ []))
    → AreSameEnds lo low hi high
told_from true true a b lo hi low high is are f g e = record { lo_same = (is refl).0 ∙ sym (are refl).0; hi_same = (is refl).1 ∙ sym (are refl).1 }
told_from true false a b lo hi low high is are f g e = absurd cc
told_from false true a b lo hi low high is are f g e = absurd cc
told_from false false a b lo hi low high is are f g e = record { lo_same = error_from lo low f.0 g.0 cc; hi_same = error_from hi high f.1 g.1 cc }

-- they are the same, beside errors that are the same
pub ends_from : (err other : Span) (lo hi low high : ℤ) → err ≡ other
    → IsErrorSize lo × IsErrorSize hi → IsErrorSize low × IsErrorSize high
    → sure_words err lo hi ≡ sure_words other low high → AreSameEnds lo low hi high
ends_from err other lo hi low high same f g e =
    let from : err.lo ≡ other.lo = ap (λ (s : Span). s.lo) same in
    let to : err.hi ≡ other.hi = ap (λ (s : Span). s.hi) same in
    told_from (are_ends err lo hi) (are_ends other low high) err.lo err.hi lo hi low high (ends_decide err lo hi).0
    (λ is. let ends = (ends_decide other low high).0 is in (ends.0 ∙ sym from, ends.1 ∙ sym to)) f g e

-- where none is read behind an error, there is none of any row with that error
pub none_behind : (line rest : List (List ℕ)) (err other : Span) (lo hi : ℤ)
    → IsSpanWithin 1000000000000 err → IsSpanWithin 1000000000000 other
    → line ≡ span_words err ++ rest → line ≡ span_words other ++ sure_words other lo hi
    → AreSure other lo hi
    → ((ends : ℤ × ℤ) → AreSure err ends.0 ends.1 → rest ≡ sure_words err ends.0 ends.1 → ⊥) → ⊥
none_behind line rest err other lo hi f g e d sure none =
    let from : other.lo ≡ err.lo = error_from other.lo err.lo g.0 f.0 cc in
    let to : other.hi ≡ err.hi = error_from other.hi err.hi g.1 f.1 cc in
    let same : sure_words other lo hi ≡ sure_words err lo hi = rw (from, to) refl in
    let left : rest ≡ sure_words other lo hi = same_rest line (span_words err) (span_words other) rest (sure_words other lo hi) refl e d in
    none (lo, hi) (record { lo_within = sure.lo_within; hi_within = sure.hi_within; low_ordered = rw from at sure.low_ordered; high_ordered = rw to at sure.high_ordered }) (left ∙ same)
