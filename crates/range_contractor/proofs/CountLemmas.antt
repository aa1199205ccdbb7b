-- Numbers that lie in enough spans.
use Rattle.std.proofs.Common.{◌≡◌, ℕ, ◌≤◌, ◌<◌, arith, List, [], ◌∷◌, count_by, true, false, ◌⊎◌, inl, inr, refl}
use Rattle.std.specs.Prelude.{ℤ, pos, ◌≤ℤ◌, ◌-ℤ◌, ◌+ℤ◌}
use Rattle.std.proofs.lemmas.Int.{ints}
use Rattle.std.proofs.lemmas.Bool.{cases_Bool, and_parts as both}
use Rattle.sat_model.specs.Relaxed.{holds, IsRelaxedHull}
use lib.Signed.{le_z}
use Rattle.grid_model.proofs.PointLemmas.{le_from}
use Rattle.sat_model.proofs.FittingLemmas.{holds_from, count_here, count_not_here}

-- one of the spans
abbrev pub Member : ℤ × ℤ → List (ℤ × ℤ) → Type 0
Member s [] = ⊥
Member s (t ∷ spans) = (s ≡ t) ⊎ Member s spans

-- a number that lies in some span: one of the spans holds it
pub some_holds : (b : ℤ) (spans : List (ℤ × ℤ)) → 1 ≤ count_by (λ t. holds t b) spans
    → (s : ℤ × ℤ) × Member s spans × (s.0 ≤ℤ b) × (b ≤ℤ s.1)
some_holds b [] h = absurd (omega arith)
some_holds b (t ∷ spans) h = elim (cases_Bool (holds t b)) [
  | inl e ↦ let (l, u) = both _ _ e in (t, inl refl, le_from _ _ l, le_from _ _ u)
  | inr e ↦ let (s, m, l, u) = some_holds b spans (omega (arith, count_not_here b t spans e)) in (s, inr m, l, u)
]

-- where one number lies in more of the spans than another, some span holds it and not the other
pub some_more : (b c : ℤ) (spans : List (ℤ × ℤ))
    → count_by (λ t. holds t c) spans < count_by (λ t. holds t b) spans
    → (s : ℤ × ℤ) × Member s spans × (holds s b ≡ true) × (holds s c ≡ false)
some_more b c [] h = absurd (omega arith)
some_more b c (t ∷ spans) h = elim (cases_Bool (holds t b)) [
  | inl e ↦ elim (cases_Bool (holds t c)) [
    | inl f ↦ let (s, m, is, isnt) = some_more b c spans (omega (arith, count_here b t spans e, count_here c t spans f)) in (s, inr m, is, isnt)
    | inr f ↦ (t, inl refl, e, f)
  ]
  | inr e ↦ elim (cases_Bool (holds t c)) [
    | inl f ↦ let (s, m, is, isnt) = some_more b c spans (omega (arith, count_not_here b t spans e, count_here c t spans f)) in (s, inr m, is, isnt)
    | inr f ↦ let (s, m, is, isnt) = some_more b c spans (omega (arith, count_not_here b t spans e, count_not_here c t spans f)) in (s, inr m, is, isnt)
  ]
]

-- the ends of a hull are ends of spans
pub hull_low : (spans : List (ℤ × ℤ)) (need : ℕ) (lo hi : ℤ) → IsRelaxedHull spans need lo hi
    → (s : ℤ × ℤ) × Member s spans × (lo ≡ s.0) × (lo ≤ℤ s.1)
hull_low spans need lo hi h =
    let below : count_by (λ t. holds t (lo -ℤ pos 1)) spans < need = elim (cases_le need (count_by (λ t. holds t (lo -ℤ pos 1)) spans)) [
      | inl le ↦ absurd (let w = h.within (lo -ℤ pos 1) le in omega (arith, ints, w.0))
      | inr lt ↦ lt
    ] in
    let (s, m, is, isnt) = some_more lo (lo -ℤ pos 1) spans (omega (arith, h.lo_lies)) in
    let (l, u) = both _ _ is in
    let l' = le_from _ _ l in
    let u' = le_from _ _ u in
    (s, m, first s.0 lo s.1 l' u' isnt, u')
  where
    cases_le : (a b : ℕ) → (a ≤ b) ⊎ (b < a)
    cases_le a b = grind arith

    first : (l b u : ℤ) → l ≤ℤ b → b ≤ℤ u → holds (l, u) (b -ℤ pos 1) ≡ false → b ≡ l
    first l b u h k e = elim (cases_Bool (le_z l (b -ℤ pos 1))) [
      | inl t ↦ absurd (let f : holds (l, u) (b -ℤ pos 1) ≡ true = holds_from l u (b -ℤ pos 1) (le_from _ _ t) (omega (arith, ints)) in cc)
      | inr t ↦ omega (arith, ints)
    ]

pub hull_high : (spans : List (ℤ × ℤ)) (need : ℕ) (lo hi : ℤ) → IsRelaxedHull spans need lo hi
    → (s : ℤ × ℤ) × Member s spans × (hi ≡ s.1) × (s.0 ≤ℤ hi)
hull_high spans need lo hi h =
    let above : count_by (λ t. holds t (hi +ℤ pos 1)) spans < need = elim (cases_le need (count_by (λ t. holds t (hi +ℤ pos 1)) spans)) [
      | inl le ↦ absurd (let w = h.within (hi +ℤ pos 1) le in omega (arith, ints, w.1))
      | inr lt ↦ lt
    ] in
    let (s, m, is, isnt) = some_more hi (hi +ℤ pos 1) spans (omega (arith, h.hi_lies)) in
    let (l, u) = both _ _ is in
    let l' = le_from _ _ l in
    let u' = le_from _ _ u in
    (s, m, last s.0 hi s.1 l' u' isnt, l')
  where
    cases_le : (a b : ℕ) → (a ≤ b) ⊎ (b < a)
    cases_le a b = grind arith

    last : (l b u : ℤ) → l ≤ℤ b → b ≤ℤ u → holds (l, u) (b +ℤ pos 1) ≡ false → b ≡ u
    last l b u h k e = elim (cases_Bool (le_z (b +ℤ pos 1) u)) [
      | inl t ↦ absurd (let f : holds (l, u) (b +ℤ pos 1) ≡ true = holds_from l u (b +ℤ pos 1) (omega (arith, ints)) (le_from _ _ t) in cc)
      | inr t ↦ omega (arith, ints)
    ]
