-- Either no number lies in enough of the spans, or there are a least and a greatest one that do.
use Rattle.std.proofs.Common.{◌≡◌, ℕ, zero, suc, ◌+◌, ◌*◌, ◌<◌, arith, List, [], ◌∷◌, count_by, Bool, true, false, cond, nat_le, ◌⊎◌, inl, inr, sym, ap, subst}
use Rattle.std.specs.Prelude.{ℤ, pos, neg_ℤ, unsigned_abs, ◌≤ℤ◌, ◌<ℤ◌, ◌+ℤ◌, ◌-ℤ◌}
use Rattle.std.proofs.lemmas.Int.{ints}
use Rattle.std.proofs.lemmas.Bool.{cases_Bool, leb-true}
use Rattle.std.proofs.lemmas.List.Sums.{sum_by-cons}
use lib.Signed.{le_z}
use Rattle.sat_model.specs.Relaxed.{holds, LiesInRelaxed, IsRelaxedEmpty, IsRelaxedHull}
use Rattle.grid_model.specs.Sizes.{IsWithin}
use Rattle.sat_model.proofs.PairAxisLemmas.{amount_within}

-- ---- a test of whole numbers that fails outside a stretch

pub record IsLeast (test : ℤ → Bool) (x : ℤ) : Type 0 where
  pub passes : test x ≡ true
  pub least : (y : ℤ) → test y ≡ true → x ≤ℤ y

pub record IsGreatest (test : ℤ → Bool) (x : ℤ) : Type 0 where
  pub passes : test x ≡ true
  pub greatest : (y : ℤ) → test y ≡ true → y ≤ℤ x

-- no number up to this one passes
NonePasses : (ℤ → Bool) → ℤ → Type 0
NonePasses test top = (y : ℤ) → test y ≡ true → top <ℤ y

next_fails : (test : ℤ → Bool) (top : ℤ) → NonePasses test top → test (top +ℤ pos 1) ≡ false
    → NonePasses test (top +ℤ pos 1)
unfolding NonePasses
next_fails test top none fails y passes = elim (cases_Bool (le_z y (top +ℤ pos 1))) [
  | inl le ↦
      let same : top +ℤ pos 1 ≡ y = omega (arith, ints, none y passes) in
      let no = subst (λ (z : ℤ). test z ≡ false) same fails in
      absurd cc
  | inr gt ↦ omega (arith, ints, gt)
]

least_from : (test : ℤ → Bool) (low : ℤ) (n : ℕ) → NonePasses test low
    → NonePasses test (low +ℤ pos n) ⊎ ((x : ℤ) × IsLeast test x)
unfolding NonePasses
least_from test low zero none = inl (λ y passes. omega (arith, ints, none y passes))
least_from test low (suc n) none = elim (least_from test low n none) [
  | inr found ↦ inr found
  | inl fail ↦ elim (cases_Bool (test (low +ℤ pos n +ℤ pos 1))) [
    | inl passing ↦ inr (low +ℤ pos n +ℤ pos 1, record { passes = passing; least = λ y passes. omega (arith, ints, fail y passes) })
    | inr failing ↦ inl (λ y passes. omega (arith, ints, next_fails test (low +ℤ pos n) fail failing y passes))
  ]
]

-- the numbers that pass are at most n in amount
IsBounded : (ℤ → Bool) → ℕ → Type 0
IsBounded test n = (y : ℤ) → test y ≡ true → IsWithin n y

least_of : (test : ℤ → Bool) (n : ℕ) → IsBounded test n
    → ((y : ℤ) → test y ≡ true → ⊥) ⊎ ((x : ℤ) × IsLeast test x)
unfolding NonePasses IsBounded
least_of test n bounded = elim (least_from test (neg_ℤ (pos n) -ℤ pos 1) (2 * n + 1) (λ y passes. let w = bounded y passes in omega (arith, ints, w.low))) [
  | inl fail ↦ inl (λ y passes. let w = bounded y passes in omega (arith, ints, fail y passes, w.high))
  | inr found ↦ inr found
]

twice : (y : ℤ) → neg_ℤ (neg_ℤ y) ≡ y
twice y = omega (arith, ints)

-- the greatest is the least of the mirrored test, mirrored
greatest_of : (test : ℤ → Bool) (n : ℕ) → IsBounded test n
    → ((y : ℤ) → test y ≡ true → ⊥) ⊎ ((x : ℤ) × IsGreatest test x)
unfolding IsBounded
greatest_of test n bounded =
    let back : (y : ℤ) → test y ≡ true → test (neg_ℤ (neg_ℤ y)) ≡ true = λ y passes. subst (λ (z : ℤ). test z ≡ true) (sym (twice y)) passes in
    elim (least_of (λ y. test (neg_ℤ y)) n (λ y passes. let w = bounded (neg_ℤ y) passes in record { low = omega (arith, ints, w.high); high = omega (arith, ints, w.low) })) [
      | inl none ↦ inl (λ y passes. none (neg_ℤ y) (back y passes))
      | inr (x, l) ↦ inr (neg_ℤ x, record { passes = l.passes; greatest = λ y passes. omega (arith, ints, l.least (neg_ℤ y) (back y passes)) })
    ]

-- ---- how many spans hold a number

held : List (ℤ × ℤ) → ℤ → ℕ
held spans b = count_by (λ s. holds s b) spans

held_cons : (b : ℤ) (s : ℤ × ℤ) (spans : List (ℤ × ℤ))
    → held (s ∷ spans) b ≡ cond (holds s b) 1 0 + held spans b
unfolding held
held_cons b s spans = sum_by-cons (λ t. cond (holds t b) 1 0) s spans

span_within : (lo hi b : ℤ) → holds (lo, hi) b ≡ true
    → IsWithin (unsigned_abs lo + unsigned_abs hi) b
span_within lo hi b e =
    let l = amount_within lo in
    let h = amount_within hi in
    let low : lo ≤ℤ b = grind (arith, ints) in
    let high : b ≤ℤ hi = grind (arith, ints) in
    record { low = omega (arith, ints, l.low, low); high = omega (arith, ints, h.high, high) }

-- a number in some span is within the amounts of all ends together
held_within : (spans : List (ℤ × ℤ)) → (n : ℕ) × ((b : ℤ) → 0 < held spans b → IsWithin n b)
unfolding held
held_within [] = (0, λ b some. absurd (omega arith))
held_within ((lo, hi) ∷ spans) =
    let (n, all) = held_within spans in (
      unsigned_abs lo + unsigned_abs hi + n,
      λ b some. elim (cases_Bool (holds (lo, hi) b)) [
        | inl inside ↦ let w = span_within lo hi b inside in record { low = omega (arith, ints, w.low); high = omega (arith, ints, w.high) }
        | inr outside ↦
            let w = all b (omega (arith, some, held_cons b (lo, hi) spans, ap {B = ℕ} (λ (t : Bool). cond t 1 0) outside)) in
            record { low = omega (arith, ints, w.low); high = omega (arith, ints, w.high) }
      ],
    )

-- ---- the relaxed intersection

lies : List (ℤ × ℤ) → ℕ → ℤ → Bool
lies spans need b = nat_le need (held spans b)

lies_yes : (spans : List (ℤ × ℤ)) (need : ℕ) (b : ℤ) → LiesInRelaxed spans need b
    → lies spans need b ≡ true
unfolding lies held
lies_yes spans need b h = grind arith

lies_from : (spans : List (ℤ × ℤ)) (need : ℕ) (b : ℤ) → lies spans need b ≡ true
    → LiesInRelaxed spans need b
unfolding lies held
lies_from spans need b e = leb-true need _ e

bounded : (spans : List (ℤ × ℤ)) (need : ℕ) → 0 < need → (n : ℕ) × IsBounded (lies spans need) n
unfolding IsBounded held
bounded spans need some =
    let (n, all) = held_within spans in
    (n, λ y passes. all y (let enough : LiesInRelaxed spans need y = lies_from spans need y passes in omega (arith, enough)))

pub record IsLeastRelaxed (spans : List (ℤ × ℤ)) (need : ℕ) (x : ℤ) : Type 0 where
  pub lies : LiesInRelaxed spans need x
  pub least : (b : ℤ) → LiesInRelaxed spans need b → x ≤ℤ b

pub least_relaxed : (spans : List (ℤ × ℤ)) (need : ℕ) → 0 < need
    → IsRelaxedEmpty spans need ⊎ ((x : ℤ) × IsLeastRelaxed spans need x)
least_relaxed spans need some =
    let (n, within) = bounded spans need some in
    elim (least_of (lies spans need) n within) [
      | inl none ↦ inl (λ b h. none b (lies_yes spans need b h))
      | inr (x, l) ↦ inr (x, record { lies = lies_from spans need x l.passes; least = λ b h. l.least b (lies_yes spans need b h) })
    ]

pub relaxed_hull : (spans : List (ℤ × ℤ)) (need : ℕ) → 0 < need
    → IsRelaxedEmpty spans need ⊎ ((lo : ℤ) × (hi : ℤ) × IsRelaxedHull spans need lo hi)
relaxed_hull spans need some =
    let (n, within) = bounded spans need some in
    elim (least_relaxed spans need some) [
      | inl none ↦ inl none
      | inr (lo, l) ↦ elim (greatest_of (lies spans need) n within) [
        | inl none ↦ inl (λ b h. none b (lies_yes spans need b h))
        | inr (hi, g) ↦ inr (
          lo,
          hi,
          record {
            lo_lies = l.lies;
            hi_lies = lies_from spans need hi g.passes;
            within = λ b h. (l.least b h, g.greatest b (lies_yes spans need b h));
          },
        )
      ]
    ]
