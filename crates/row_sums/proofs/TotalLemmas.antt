-- Adding a log's terms one by one.
use Rattle.std.proofs.Common.{◌≡◌, ℕ, zero, suc, ◌+◌, ◌*◌, ◌<◌, ◌≤◌, FitsSigned, w64, subst, arith, refl, ap, sym, ◌∙◌, add-one, List, [], ◌∷◌, length, map, get_or, drop}
use Rattle.std.specs.Prelude.{ℤ, pos, negsuc, ◌+ℤ◌, ◌≤ℤ◌, ◌<ℤ◌, All}
use Rattle.std.proofs.lemmas.Int.{ints}
use Rattle.std.proofs.lemmas.List.{get_or-map}
use Rattle.std.proofs.lemmas.List.Elements.{All-head, All-tail, All-cons}
use Rattle.std.proofs.Math.Nat.{mul-le-mul_right}
use Rattle.std.specs.Int.{w128}
use Rattle.grid_model.specs.Sizes.{IsWithin}
use Rattle.row_pairs.specs.declared.forms.Form.{Form}
use Rattle.row_pairs.specs.FormValues.{form_value}
use Rattle.sat_model.specs.Pairs.{FormValue}
use Rattle.sat_model.specs.declared.row_sums.Term.{Term}
use Rattle.sat_model.specs.HalfSpaces.{SumValue, end_of, add_form, add_terms, form_at, no_form, IsUsableBound, IsUsable}

pub form_is : (forms : List Form) (place : ℕ) (form : Form) → place < length forms
    → form ≡ get_or forms place form → form_at (map form_value forms) place ≡ form_value form
form_is forms place form h e = get_or-map form_value forms place form no_form h ∙ ap form_value (sym e)

pub end_high : (m : ℤ) (f : FormValue) → pos 0 ≤ℤ m → f.upper ≡ end_of m f
end_high (pos n) f h = refl
end_high (negsuc n) f h = absurd (omega (arith, ints))

pub end_low : (m : ℤ) (f : FormValue) → m <ℤ pos 0 → f.lower ≡ end_of m f
end_low (pos n) f h = absurd (omega (arith, ints))
end_low (negsuc n) f h = refl

-- the term at a place is the next one
pub next_is : (terms : List Term) (i : ℕ) (t : Term) → i < length terms → t ≡ get_or terms i t
    → drop i terms ≡ t ∷ drop (i + 1) terms
next_is terms i t h e = rw add-one (next_at terms i t h e)
  where
    next_at : (terms : List Term) (i : ℕ) (t : Term) → i < length terms → t ≡ get_or terms i t
        → drop i terms ≡ t ∷ drop (suc i) terms
    next_at [] i t h e = absurd (omega arith)
    next_at (x ∷ terms) zero t h e = ap (λ (t : Term). t ∷ terms) (sym e)
    next_at (x ∷ terms) (suc i) t h e = next_at terms i t (omega arith) e

pub none_next : (terms : List Term) (i : ℕ) → length terms ≤ i → drop i terms ≡ []
none_next [] zero h = refl
none_next [] (suc i) h = refl
none_next (x ∷ terms) zero h = absurd (omega arith)
none_next (x ∷ terms) (suc i) h = none_next terms i (omega arith)

pub sum_same : (t x y z m t' x' y' z' m' : ℤ) → t ≡ t' → x ≡ x' → y ≡ y' → z ≡ z' → m ≡ m'
    → ◌≡◌ {A = SumValue} (record { multipliers = t; x = x; y = y; z = z; most = m }) (record { multipliers = t'; x = x'; y = y'; z = z'; most = m' })
sum_same t x y z m t' x' y' z' m' e f g h i = cc

pub more_is : (s p q : ℤ) → p ≡ q → s +ℤ p ≡ s +ℤ q
more_is s p q e = cc

-- ---- sizes

pub more_within : (n k : ℕ) (s p : ℤ) → IsWithin (n * k) s → IsWithin k p
    → IsWithin ((n + 1) * k) (s +ℤ p)
more_within n k s p v w = record { low = omega (arith, ints, v.low, w.low); high = omega (arith, ints, v.high, w.high) }

pub sum_slopes : (n : ℕ) (z : ℤ) → n ≤ 5 → IsWithin (n * 4398046511104) z → IsWithin 21990232555520 z
sum_slopes n z h w = record { low = omega (arith, ints, w.low, h); high = omega (arith, ints, w.high, h) }

room : (n k : ℕ) → n < 5 → n * k + k ≤ 5 * k
room n k h = omega (arith, mul-le-mul_right k (up_to n h))
  where
    up_to : (n : ℕ) → n < 5 → n ≤ 4
    up_to n h = omega (arith, h)

pub fits_sum64 : (n k : ℕ) (s p : ℤ) → n < 5 → 5 * k < 9223372036854775808 → IsWithin (n * k) s
    → IsWithin k p → FitsSigned w64 (s +ℤ p)
fits_sum64 n k s p h l v w = omega (arith, ints, room n k h, l, v.low, v.high, w.low, w.high)

pub fits_sum128 : (n k : ℕ) (s p : ℤ) → n < 5
    → 5 * k < 170141183460469231731687303715884105728 → IsWithin (n * k) s → IsWithin k p
    → FitsSigned w128 (s +ℤ p)
fits_sum128 n k s p h l v w = omega (arith, ints, room n k h, l, v.low, v.high, w.low, w.high)

-- ---- the next term

as_long : (forms : List Form) → length (map form_value forms) ≡ length forms
as_long [] = refl
as_long (f ∷ forms) = ap suc (as_long forms)

pub record IsNext (forms : List Form) (terms : List Term) (i : ℕ) (t : Term) (row : ℕ) : Type 0 where
  pub within : i < length terms
  pub reads : t ≡ get_or terms i t
  pub is : row ≡ t.place

split : (forms : List Form) (terms : List Term) (i : ℕ) (t : Term) (row : ℕ) → IsNext forms terms i t row
    → All (IsUsable (map form_value forms)) (drop i terms)
    → All (IsUsable (map form_value forms)) (t ∷ drop (i + 1) terms)
split forms terms i t row n all = subst (λ (ts : List Term). All (IsUsable (map form_value forms)) ts) (next_is terms i t n.within n.reads) all

pub not_there : (forms : List Form) (terms : List Term) (i : ℕ) (t : Term) (row : ℕ)
    → IsNext forms terms i t row → length forms ≤ row
    → All (IsUsable (map form_value forms)) (drop i terms) → ⊥
not_there forms terms i t row n far all =
    let u = All-head (IsUsable (map form_value forms)) t (drop (i + 1) terms) (split forms terms i t row n all) in
    absurd (omega (arith, u.there, as_long forms, n.is, far))

at_place : (forms : List Form) (row place : ℕ) (form : Form) → row ≡ place → row < length forms
    → form ≡ get_or forms row form → form_at (map form_value forms) place ≡ form_value form
at_place forms row place form e h r = subst (λ (n : ℕ). form_at (map form_value forms) n ≡ form_value form) e (form_is forms row form h r)

pub not_usable : (forms : List Form) (terms : List Term) (i : ℕ) (t : Term) (row : ℕ) (form : Form)
    → IsNext forms terms i t row → row < length forms → form ≡ get_or forms row form
    → (IsUsableBound form.upper × IsUsableBound form.lower → ⊥)
    → All (IsUsable (map form_value forms)) (drop i terms) → ⊥
not_usable forms terms i t row form n within reads none all =
    let u = All-head (IsUsable (map form_value forms)) t (drop (i + 1) terms) (split forms terms i t row n all) in
    let e = at_place forms row t.place form n.is within reads in
    none (
      subst (λ (f : FormValue). IsUsableBound f.upper) e u.upper,
      subst (λ (f : FormValue). IsUsableBound f.lower) e u.lower,
    )

pub less_usable : (forms : List Form) (terms : List Term) (i : ℕ) (t : Term) (row : ℕ)
    → IsNext forms terms i t row → All (IsUsable (map form_value forms)) (drop i terms)
    → All (IsUsable (map form_value forms)) (drop (i + 1) terms)
less_usable forms terms i t row n all = All-tail (IsUsable (map form_value forms)) t (drop (i + 1) terms) (split forms terms i t row n all)

pub more_usable : (forms : List Form) (terms : List Term) (i : ℕ) (t : Term) (row : ℕ) (form : Form)
    → IsNext forms terms i t row → row < length forms → form ≡ get_or forms row form
    → IsUsableBound form.upper
    → IsUsableBound form.lower
    → All (IsUsable (map form_value forms)) (drop (i + 1) terms)
    → All (IsUsable (map form_value forms)) (drop i terms)
more_usable forms terms i t row form n within reads upper lower all =
    let e = sym (at_place forms row t.place form n.is within reads) in
    subst (λ (ts : List Term). All (IsUsable (map form_value forms)) ts) (sym (next_is terms i t n.within n.reads))
    (All-cons (IsUsable (map form_value forms)) t (drop (i + 1) terms)
    (record {
      there = omega (arith, within, as_long forms, n.is);
      upper = subst (λ (f : FormValue). IsUsableBound f.upper) e upper;
      lower = subst (λ (f : FormValue). IsUsableBound f.lower) e lower;
    })
    all)

pub add_next : (forms : List Form) (terms : List Term) (i : ℕ) (t : Term) (row : ℕ) (form : Form) (s : SumValue)
    → IsNext forms terms i t row → row < length forms → form ≡ get_or forms row form
    → add_terms (map form_value forms) (drop (i + 1) terms) (add_form t.multiplier (form_value form) s) ≡ add_terms (map form_value forms) (drop i terms) s
add_next forms terms i t row form s n within reads =
    ap (λ (f : FormValue). add_terms (map form_value forms) (drop (i + 1) terms) (add_form t.multiplier f s)) (sym (at_place forms row t.place form n.is within reads))
    ∙ ap (λ (ts : List Term). add_terms (map form_value forms) ts s) (sym (next_is terms i t n.within n.reads))
