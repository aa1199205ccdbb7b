-- The lines of a text, from its first LF.
use Rattle.std.proofs.Common.{◌≡◌, ℕ, zero, suc, ◌+◌, ◌-◌, ◌<◌, true, false, List, [], ◌∷◌, ◌++◌, length, get_or, take, drop, refl, sym, ap, ◌∙◌, arith, inl, inr, subst, add-one}
use Rattle.std.specs.Prelude.{nat_eq, ◌==◌}
use Rattle.std.proofs.lemmas.Bool.{cases_Bool, eqb-true, false_from_ne_true as not_true}
use Rattle.std.proofs.lemmas.List.{length-take-le}
use Rattle.std.proofs.Math.Seq.{take-length}
use Rattle.rinex_text.specs.Lines.{with_ends, without_end, without_lf, lines_of}
use Rattle.rinex_text.specs.LineEnds.{ends_with_cr, without_cr}
use Rattle.grid_model.proofs.ListLemmas.{cut_at}

-- no byte is LF
abbrev pub NoLf : List ℕ → Type 0
NoLf [] = Unit {0}
NoLf (byte ∷ bytes) = ((byte == 10) ≡ false) × NoLf bytes

pub no_lf : (text : List ℕ) (n : ℕ) → ((k : ℕ) → k < n → nat_eq (get_or text k 0) 10 ≡ true → ⊥)
    → NoLf (take n text)
no_lf text zero none = tt
no_lf [] (suc n) none = tt
no_lf (byte ∷ bytes) (suc n) none = (not_true (byte == 10) (none 0 (omega arith)), no_lf bytes n (λ k lt is. none (suc k) (omega arith) is))

-- the first line, where it ends with LF, and where no LF stands
ended : (here more : List ℕ) → NoLf here
    → with_ends (here ++ 10 ∷ more) ≡ (here ++ 10 ∷ []) ∷ with_ends more
ended [] more free = refl
ended (byte ∷ bytes) more free = rw (free.0, ended bytes more free.1) refl

alone : (byte : ℕ) (bytes : List ℕ) → NoLf (byte ∷ bytes)
    → with_ends (byte ∷ bytes) ≡ (byte ∷ bytes) ∷ []
alone byte [] free = rw free.0 refl
alone byte (next ∷ bytes) free = rw (free.0, alone next bytes free.1) refl

lf_end : (here : List ℕ) → NoLf here → without_lf (here ++ 10 ∷ []) ≡ here
lf_end [] free = refl
lf_end (byte ∷ bytes) free = rw (free.0, lf_end bytes free.1) refl

lf_none : (here : List ℕ) → NoLf here → without_lf here ≡ here
lf_none [] free = refl
lf_none (byte ∷ bytes) free = rw (free.0, lf_none bytes free.1) refl

cr_more : (byte next : ℕ) (more : List ℕ)
    → without_cr (byte ∷ next ∷ more) ≡ byte ∷ without_cr (next ∷ more)
cr_more byte next more =
    let e : length (byte ∷ next ∷ more) - 1 ≡ suc (length (next ∷ more) - 1) = omega arith in
    elim (cases_Bool (ends_with_cr (next ∷ more))) [
      | inl h ↦ rw (e, h) refl
      | inr h ↦ rw (e, h) refl
    ]

cr_end : (here : List ℕ) → without_end (here ++ 10 ∷ []) ≡ without_cr here
cr_end [] = refl
cr_end (byte ∷ []) = elim (cases_Bool (byte == 13)) [
  | inl h ↦ rw h refl
  | inr h ↦ rw h refl
]
cr_end (byte ∷ next ∷ []) = ap (λ (l : List ℕ). byte ∷ l) (cr_end (next ∷ [])) ∙ sym (cr_more byte next [])
cr_end (byte ∷ next ∷ other ∷ more) = ap (λ (l : List ℕ). byte ∷ l) (cr_end (next ∷ other ∷ more)) ∙ sym (cr_more byte next (other ∷ more))

cr_none : (here : List ℕ) → NoLf here → without_end here ≡ here
cr_none [] free = refl
cr_none (byte ∷ []) free = rw free.0 refl
cr_none (byte ∷ next ∷ []) free = elim (cases_Bool (byte == 13)) [
  | inl h ↦ rw (h, free.1.0) refl
  | inr h ↦ rw (h, free.1.0) refl
]
cr_none (byte ∷ next ∷ other ∷ more) free = ap (λ (l : List ℕ). byte ∷ l) (cr_none (next ∷ other ∷ more) free.1)

ended_parts : (here more : List ℕ) → NoLf here
    → lines_of (here ++ 10 ∷ more) ≡ record { text = without_cr here; size = length here } ∷ lines_of more
ended_parts here more free = rw (ended here more free, cr_end here, lf_end here free) refl

pub ended_line : (text : List ℕ) (end : ℕ)
    → ((k : ℕ) → k < end → nat_eq (get_or text k 0) 10 ≡ true → ⊥) → end < length text
    → nat_eq (get_or text end 0) 10 ≡ true
    → lines_of text ≡ record { text = without_cr (take end text); size = end } ∷ lines_of (drop (suc end) text)
ended_line text end none lt is =
    let parts = ended_parts (take end text) (drop (suc end) text) (no_lf text end none) in
    let size : length (take end text) ≡ end = length-take-le end text (omega arith) in
    ap lines_of (cut_at text end 10 lt (eqb-true _ _ is)) ∙ subst (λ (n : ℕ). lines_of (take end text ++ 10 ∷ drop (suc end) text) ≡ record { text = without_cr (take end text); size = n } ∷ lines_of (drop (suc end) text)) size parts

pub only_line : (text : List ℕ) → (length text == 0) ≡ false
    → ((k : ℕ) → k < length text → nat_eq (get_or text k 0) 10 ≡ true → ⊥)
    → lines_of text ≡ record { text = text; size = length text } ∷ []
only_line [] some none = absurd cc
only_line (byte ∷ bytes) some none =
    let whole : take (length (byte ∷ bytes)) (byte ∷ bytes) ≡ byte ∷ bytes = take-length (byte ∷ bytes) in
    let free = subst NoLf whole (no_lf (byte ∷ bytes) (length (byte ∷ bytes)) none) in
    rw (alone byte bytes free, cr_none (byte ∷ bytes) free, lf_none (byte ∷ bytes) free) refl

pub line_found : (text here rest : List ℕ) (end : ℕ)
    → lines_of text ≡ record { text = without_cr (take end text); size = end } ∷ lines_of (drop (suc end) text)
    → here ≡ without_cr (take end text) → rest ≡ drop (end + 1) text
    → lines_of text ≡ record { text = here; size = end } ∷ lines_of rest
line_found text here rest end first e f = rw (e, f, add-one end) first
