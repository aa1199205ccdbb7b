-- A sign at the front of a text, and a point with digits behind it.
use Rattle.std.proofs.Common.{◌≡◌, ℕ, Bool, true, false, List, [], ◌∷◌, ◌++◌, arith, refl, sym, ap, subst, inl, inr}
use Rattle.std.specs.Prelude.{◌==◌}
use Rattle.std.specs.Char.{is_ascii_digit}
use Rattle.std.proofs.lemmas.Bool.{cases_Bool}
use Rattle.exact_decimal.specs.NumberFields.{IsSign, IsFraction, AreDigits}
use Rattle.exact_decimal.specs.Parts.{front, is_negative, behind_sign, fraction_of, behind_fraction}
use Rattle.exact_decimal.proofs.Runs.{Stops, cut_at, front_and_behind}

pub is_byte : (a b : ℕ) → (a == b) ≡ true → a ≡ b
is_byte a b h = grind arith

-- ---- signs

pub record SignCut (text : List ℕ) : Type 0 where
  pub sign : List ℕ
  pub parts : text ≡ sign ++ behind_sign text
  pub is_sign : IsSign sign (is_negative text)

pub sign_cut : (text : List ℕ) → SignCut text
sign_cut [] = record { sign = []; parts = refl; is_sign = inl refl }
sign_cut (byte ∷ bytes) = elim (cases_Bool (byte == 45)) [
  | inl minus ↦ record { sign = byte ∷ []; parts = rw minus refl; is_sign = rw minus (ap (λ b. b ∷ []) (is_byte byte 45 minus)) }
  | inr no_minus ↦ elim (cases_Bool (byte == 43)) [
    | inl plus ↦ record { sign = byte ∷ []; parts = rw (no_minus, plus) refl; is_sign = rw no_minus (inr (ap (λ b. b ∷ []) (is_byte byte 43 plus))) }
    | inr no_plus ↦ record { sign = []; parts = rw (no_minus, no_plus) refl; is_sign = rw no_minus (inl refl) }
  ]
]

-- no sign stands at the front
abbrev pub NoSign : List ℕ → Type 0
NoSign [] = Unit {0}
NoSign (byte ∷ bytes) = ((byte == 45) ≡ false) × ((byte == 43) ≡ false)

pub record SignAt (sign : List ℕ) (negative : Bool) (rest : List ℕ) : Type 0 where
  pub minus : is_negative (sign ++ rest) ≡ negative
  pub rest_is : behind_sign (sign ++ rest) ≡ rest

none_at : (rest : List ℕ) → NoSign rest → SignAt [] false rest
none_at [] none = record { minus = refl; rest_is = refl }
none_at (byte ∷ bytes) none = record { minus = none.0; rest_is = rw (none.0, none.1) refl }

pub sign_at : (sign : List ℕ) (negative : Bool) (rest : List ℕ) → IsSign sign negative → NoSign rest
    → SignAt sign negative rest
sign_at sign true rest is none =
    subst (λ (s : List ℕ). SignAt s true rest) (sym is) (record { minus = refl; rest_is = refl })
sign_at sign false rest is none = elim is [
  | inl e ↦ subst (λ (s : List ℕ). SignAt s false rest) (sym e) (none_at rest none)
  | inr e ↦ subst (λ (s : List ℕ). SignAt s false rest) (sym e) (record { minus = refl; rest_is = refl })
]

-- ---- points

pub record FractionCut (text : List ℕ) : Type 0 where
  pub pointed : List ℕ
  pub parts : text ≡ pointed ++ behind_fraction text
  pub is_fraction : IsFraction pointed (fraction_of text)

pub fraction_cut : (text : List ℕ) → FractionCut text
fraction_cut [] = record { pointed = []; parts = refl; is_fraction = inl (refl, refl) }
fraction_cut (byte ∷ bytes) = elim (cases_Bool (byte == 46)) [
  | inl point ↦ record {
    pointed = byte ∷ front is_ascii_digit bytes;
    parts = rw point (ap (λ l. byte ∷ l) (front_and_behind is_ascii_digit bytes));
    is_fraction = rw point (inr (ap (λ b. b ∷ front is_ascii_digit bytes) (is_byte byte 46 point)));
  }
  | inr no_point ↦ record { pointed = []; parts = rw no_point refl; is_fraction = rw no_point (inl (refl, refl)) }
]

-- the number ends: neither a digit nor a point stands at the front
abbrev pub EndsNumber : List ℕ → Type 0
EndsNumber [] = Unit {0}
EndsNumber (byte ∷ bytes) = (is_ascii_digit byte ≡ false) × ((byte == 46) ≡ false)

pub no_digit : (text : List ℕ) → EndsNumber text → Stops is_ascii_digit text
no_digit [] ends = tt
no_digit (byte ∷ bytes) ends = ends.0

pub record FractionAt (pointed fraction tail : List ℕ) : Type 0 where
  pub digits_are : fraction_of (pointed ++ tail) ≡ fraction
  pub rest_is : behind_fraction (pointed ++ tail) ≡ tail

no_point_at : (tail : List ℕ) → EndsNumber tail → FractionAt [] [] tail
no_point_at [] ends = record { digits_are = refl; rest_is = refl }
no_point_at (byte ∷ bytes) ends = record { digits_are = rw ends.1 refl; rest_is = rw ends.1 refl }

pub fraction_at : (pointed fraction tail : List ℕ) → IsFraction pointed fraction
    → AreDigits fraction → EndsNumber tail → FractionAt pointed fraction tail
fraction_at pointed fraction tail is digits ends = elim is [
  | inl (none, empty) ↦
      subst (λ (f : List ℕ). FractionAt pointed f tail) (sym empty) (subst (λ (p : List ℕ). FractionAt p [] tail) (sym none) (no_point_at tail ends))
  | inr point ↦
      let cut = cut_at is_ascii_digit fraction tail digits (no_digit tail ends) in
      subst (λ (p : List ℕ). FractionAt p fraction tail) (sym point) (record { digits_are = cut.front; rest_is = cut.behind })
]
