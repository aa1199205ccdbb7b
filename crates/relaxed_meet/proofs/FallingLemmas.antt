-- Lists in falling order, and how many of their numbers are greater than one.
use Rattle.std.proofs.Common.{◌≡◌, refl, ℕ, ◌+◌, ◌-◌, ◌<◌, ◌≤◌, min, List, [], ◌∷◌, ◌++◌, length, take, map, get_or, set, true, false, arith, sym, ap, ◌∙◌, ◌⊎◌, inl, inr}
use Rattle.std.specs.Prelude.{ℤ, pos, ◌≤ℤ◌, ◌<ℤ◌}
use Rattle.std.specs.Int.Signed.{≤ℤ_refl}
use Rattle.std.proofs.lemmas.Int.{ints}
use Rattle.std.proofs.lemmas.Bool.{cases_Bool, cases_eq}
use Rattle.std.proofs.lemmas.List.{map_more, length-set, length-append, get_or-set_same, get_or-set_other}
use Rattle.std.proofs.lemmas.List.Sums.{sum_by-append, sum_by-set, sum_by-cons}
use Rattle.std.specs.List.{refill}
use Rattle.std.proofs.lemmas.Grind.{common_steps}
use lib.Signed.{le_z, lt_z}
use Rattle.relaxed_meet.specs.Kept.{above, bit, IsFalling, IsKeptUpTo, Keeps}
use Rattle.relaxed_meet.proofs.CountLemmas.{count_at_least, count_at_most, count_of_all}
use Rattle.grid_model.proofs.IntervalLemmas.{le_z_trans as at_least}

pub lt_true : (a b : ℤ) → a <ℤ b → lt_z a b ≡ true
lt_true a b h = grind (arith, ints)

pub lt_false : (a b : ℤ) → b ≤ℤ a → lt_z a b ≡ false
lt_false a b h = grind (arith, ints)

-- ---- the rank of a number

pub above_le : (xs : List ℤ) (b : ℤ) (k : ℕ) → IsFalling xs → k < length xs
    → get_or xs k (pos 0) ≤ℤ b → above b xs ≤ k
above_le xs b k falling within h =
    count_at_most (λ x. lt_z b x) xs k (pos 0) (λ j le inside. lt_false b (get_or xs j (pos 0)) (at_least _ _ _ (falling.falls k j le inside) h))

pub at_rank : (xs : List ℤ) (b : ℤ) (k : ℕ) → IsFalling xs → k < length xs → above b xs ≤ k
    → get_or xs k (pos 0) ≤ℤ b
at_rank xs b k falling within few = elim (le_or_gt (get_or xs k (pos 0)) b) [
  | inl le ↦ le
  | inr gt ↦ absurd (omega (
    arith,
    few,
    count_at_least (λ x. lt_z b x) xs (k + 1) (pos 0) (omega arith)
        (λ j less. lt_true b (get_or xs j (pos 0)) (more _ _ _ gt (falling.falls j k (omega arith) within))),
  ))
]
  where
    le_or_gt : (a b : ℤ) → (a ≤ℤ b) ⊎ (b <ℤ a)
    le_or_gt a b = elim (cases_Bool (le_z a b)) [ inl e ↦ inl (omega (arith, ints)) | inr e ↦ inr (omega (arith, ints)) ]

    more : (a b c : ℤ) → b <ℤ a → a ≤ℤ c → b <ℤ c
    more a b c h k = omega (arith, ints)

-- ---- a number takes the place of one that is less

le_of_same : (a b x y : ℤ) → a ≡ x → b ≡ y → x ≤ℤ y → a ≤ℤ b
le_of_same a b x y e f h = rw (e, f) h

pub falling_set : (xs : List ℤ) (i : ℕ) (c : ℤ) → IsFalling xs → i < length xs
    → get_or xs i (pos 0) ≤ℤ c
    → ((j : ℕ) → j < i → c ≤ℤ get_or xs j (pos 0)) → IsFalling (set xs i c)
falling_set xs i c falling within more front = record { falls = falls }
  where
    here : get_or (set xs i c) i (pos 0) ≡ c
    here = get_or-set_same xs i c (pos 0) within

    falls : (a b : ℕ) → a ≤ b → b < length (set xs i c)
        → get_or (set xs i c) b (pos 0) ≤ℤ get_or (set xs i c) a (pos 0)
    falls a b le inside =
        let inside_old : b < length xs = omega (arith, length-set xs i c) in
        elim (cases_eq a i) [
          | inl a_is ↦ elim (cases_eq b i) [
            | inl b_is ↦ rw (a_is, b_is) (≤ℤ_refl _)
            | inr b_not ↦ le_of_same _ _ _ _ (get_or-set_other xs i b c (pos 0) b_not) (ap (λ n. get_or (set xs i c) n (pos 0)) a_is ∙ here)
                (at_least _ _ _ (falling.falls i b (omega arith) inside_old) more)
          ]
          | inr a_not ↦ elim (cases_eq b i) [
            | inl b_is ↦ le_of_same _ _ _ _ (ap (λ n. get_or (set xs i c) n (pos 0)) b_is ∙ here) (get_or-set_other xs i a c (pos 0) a_not) (front a (omega arith))
            | inr b_not ↦ le_of_same _ _ _ _ (get_or-set_other xs i b c (pos 0) b_not) (get_or-set_other xs i a c (pos 0) a_not) (falling.falls a b le inside_old)
          ]
        ]

pub above_set : (xs : List ℤ) (i : ℕ) (c b : ℤ) → i < length xs
    → above b (set xs i c) + bit b (get_or xs i (pos 0)) ≡ above b xs + bit b c
above_set xs i c b within = omega (arith, sum_by-set (λ x. bit b x) xs i c (pos 0) within)

-- ---- a number is put last

pub above_push : (xs : List ℤ) (c b : ℤ) → above b (xs ++ c ∷ []) ≡ above b xs + bit b c
above_push xs c b = omega (arith, sum_by-append (λ x. bit b x) xs (c ∷ []), sum_by-cons (λ x. bit b x) c [])

-- a list of numbers that are all at least c has, beside c, none that is greater where c isn't
pub above_full : (xs : List ℤ) (c b : ℤ) → ((j : ℕ) → j < length xs → c ≤ℤ get_or xs j (pos 0))
    → above b xs ≡ min (above b xs + bit b c) (length xs)
above_full xs c b least = elim (cases_Bool (lt_z b c)) [
  | inl less ↦
      let all : length xs ≤ above b xs =
      count_at_least (λ x. lt_z b x) xs (length xs) (pos 0) (omega arith) (λ j within. lt_true b (get_or xs j (pos 0)) (beyond b c _ less (least j within))) in
      omega (arith, all, count_of_all (λ x. lt_z b x) xs)
  | inr not_less ↦ rw not_less (omega (arith, count_of_all (λ x. lt_z b x) xs))
]
  where
    beyond : (a b c : ℤ) → lt_z a b ≡ true → b ≤ℤ c → a <ℤ c
    beyond a b c h k = omega (arith, ints)

-- ---- a number goes past the places of a list in falling order

pub exchanged : (i : ℕ) (xs next old : List ℤ) (c d n : ℤ) → IsKeptUpTo i xs old c n → i < length xs
    → get_or xs i (pos 0) <ℤ c
    → next ≡ set xs i c → d ≡ get_or xs i (pos 0) → IsKeptUpTo (i + 1) next old d n
exchanged i xs next old c d n k within less is carried = rw (is, carried) record {
  falling = falling_set xs i c k.falling within (omega (arith, ints)) k.least;
  count = omega (arith, length-set xs i c, k.count);
  same_above = λ b. omega (arith, above_set xs i c b within, k.same_above b);
  least = λ j before. elim (cases_eq j i) [
    | inl here ↦ le_of_same _ _ _ _ refl (ap (λ m. get_or (set xs i c) m (pos 0)) here ∙ get_or-set_same xs i c (pos 0) within) (omega (arith, ints))
    | inr other ↦ le_of_same _ _ _ _ refl (get_or-set_other xs i j c (pos 0) other) (k.falling.falls j i (omega arith) within)
  ];
}

pub passed_by : (i : ℕ) (xs next old : List ℤ) (c d n : ℤ) → IsKeptUpTo i xs old c n
    → c ≤ℤ get_or xs i (pos 0)
    → next ≡ xs → d ≡ c → IsKeptUpTo (i + 1) next old d n
passed_by i xs next old c d n k le is carried = rw (is, carried) record {
  falling = k.falling;
  count = k.count;
  same_above = k.same_above;
  least = λ j before. elim (cases_eq j i) [
    | inl here ↦ le_of_same _ _ _ _ refl (ap (λ m. get_or xs m (pos 0)) here) le
    | inr other ↦ k.least j (omega arith)
  ];
}

pub refill-same : (xs ys : List ℤ) → length ys ≡ length xs → refill (length xs) xs ys ≡ ys
refill-same xs ys e = grind (arith, common_steps)

-- where no room is left, the least number of all isn't kept
pub above_kept : (xs old : List ℤ) (c n m : ℤ) (most : ℕ) (b : ℤ)
    → IsKeptUpTo (length old) xs old c n → length old ≡ most → m ≡ n
    → above b xs ≡ min (above b (old ++ m ∷ [])) most
above_kept xs old c n m most b k full is =
    rw is (omega (arith, full, k.count, k.same_above b, above_push old n b, above_full xs c b (λ j within. k.least j (omega (arith, k.count)))))

-- a full list whose last number is at least this one has no place for it
pub above_past : (xs : List ℤ) (c b : ℤ) (most : ℕ) → IsFalling xs → 0 < most → length xs ≡ most
    → c ≤ℤ get_or xs (most - 1) (pos 0)
    → above b xs ≡ min (above b (xs ++ c ∷ [])) most
above_past xs c b most falling some full last =
    omega (
      arith,
      above_push xs c b,
      above_full xs c b (λ j within. at_least _ _ _ last (falling.falls j (most - 1) (omega (arith, some, full)) (omega (arith, some, full)))),
    )

pub none_kept : (most : ℕ) → Keeps most [] []
none_kept most = record { falling = record { falls = λ i j le inside. absurd (omega arith) }; count = omega arith; same_above = λ b. omega arith }

-- one more number is read
pub kept_more : (most : ℕ) (kept next all : List ℤ) (n m : ℤ) → Keeps most kept all → IsFalling next
    → length next ≡ min (length kept + 1) most
    → ((b : ℤ) → above b next ≡ min (above b (kept ++ n ∷ [])) most) → n ≡ m
    → Keeps most next (all ++ m ∷ [])
kept_more most kept next all n m k falling count same is = rw (sym is) record {
  falling = falling;
  count = omega (arith, count, k.count, length-append all (n ∷ []));
  same_above = λ b. omega (arith, same b, k.same_above b, above_push kept n b, above_push all n b);
}

pub keeps_more : {X : Type 0} (f : X → ℤ) (spans : List X) (i : ℕ) (x : X) (most : ℕ) (kept next : List ℤ) (n : ℤ)
    → i < length spans → x ≡ get_or spans i x
    → Keeps most kept (map f (take i spans)) → IsFalling next
    → length next ≡ min (length kept + 1) most
    → ((b : ℤ) → above b next ≡ min (above b (kept ++ n ∷ [])) most) → n ≡ f x
    → Keeps most next (map f (take (i + 1) spans))
keeps_more f spans i x most kept next n within reads k falling count same is =
    let more : map f (take (i + 1) spans) ≡ map f (take i spans) ++ f x ∷ [] = let e = map_more f spans i x within in cc in
    rw more (kept_more most kept next (map f (take i spans)) n (f x) k falling count same is)
