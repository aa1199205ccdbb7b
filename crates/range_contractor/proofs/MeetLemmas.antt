-- Meets and hulls of spans of whole numbers.
use Rattle.std.proofs.Common.{◌≡◌, arith, inl, inr, ◌∙◌, refl}
use Rattle.std.specs.Prelude.{ℤ, ◌≤ℤ◌, ◌<ℤ◌}
use Rattle.std.specs.Int.{int_min, int_max}
use Rattle.std.proofs.lemmas.Int.{ints, clamps}
use Rattle.grid_model.specs.Boxes.{Side, IsIn}
use Rattle.sat_model.specs.Contractors.{meet_side}
use Rattle.range_contractor.specs.Sides.{IsMeetOf, DontMeet, IsHullOf, IsHullOfMeets, IsInOneOf, NoneMeets}
use Rattle.grid_model.proofs.SpreadLemmas.{min_is_one as one_of_min, max_is_one as one_of_max}

pub is_hull : (a b r : Side) → r.lo ≡ int_min a.lo b.lo → r.hi ≡ int_max a.hi b.hi → IsHullOf a b r
is_hull a b r e f = record {
  low_a = omega (arith, ints, clamps);
  low_b = omega (arith, ints, clamps);
  high_a = omega (arith, ints, clamps);
  high_b = omega (arith, ints, clamps);
  low_end = rw e (one_of_min a.lo b.lo);
  high_end = rw f (one_of_max a.hi b.hi);
}

pub is_meet : (a b r : Side) → r.lo ≡ int_max a.lo b.lo → r.hi ≡ int_min a.hi b.hi → r.lo ≤ℤ r.hi
    → IsMeetOf a b r
is_meet a b r e f le = record {
  low_a = omega (arith, ints, clamps);
  low_b = omega (arith, ints, clamps);
  ordered = le;
  high_a = omega (arith, ints, clamps);
  high_b = omega (arith, ints, clamps);
  low_end = rw e (one_of_max a.lo b.lo);
  high_end = rw f (one_of_min a.hi b.hi);
}

pub dont_meet : (a b : Side) → int_min a.hi b.hi <ℤ int_max a.lo b.lo → DontMeet a b
dont_meet a b h = elim (one_of_min a.hi b.hi) [
  | inl e ↦ elim (one_of_max a.lo b.lo) [
    | inl f ↦ inr (inr (inl (omega (arith, ints))))
    | inr f ↦ inr (inl (omega (arith, ints)))
  ]
  | inr e ↦ elim (one_of_max a.lo b.lo) [
    | inl f ↦ inl (omega (arith, ints))
    | inr f ↦ inr (inr (inr (omega (arith, ints))))
  ]
]

pub apart : (a b : Side) (v : ℤ) → DontMeet a b → IsIn a v → IsIn b v → ⊥
apart a b v d h k = elim d [
  | inl x ↦ omega (arith, ints, h.0, k.1)
  | inr x ↦ elim x [
    | inl x ↦ omega (arith, ints, h.1, k.0)
    | inr x ↦ elim x [
      | inl x ↦ omega (arith, ints, h.0, h.1)
      | inr x ↦ omega (arith, ints, k.0, k.1)
    ]
  ]
]

in_meet_of : (a b r : Side) (v : ℤ) → IsMeetOf a b r → IsIn a v → IsIn b v → IsIn r v
in_meet_of a b r v m h k = (
  elim m.low_end [ inl e ↦ omega (arith, ints, h.0) | inr e ↦ omega (arith, ints, k.0) ],
  elim m.high_end [ inl e ↦ omega (arith, ints, h.1) | inr e ↦ omega (arith, ints, k.1) ],
)

pub first_meets : (side below above kept : Side) → IsMeetOf side below kept → DontMeet side above
    → IsHullOfMeets side below above kept
first_meets side below above kept m d = record {
  from = m.low_a;
  ordered = m.ordered;
  to = m.high_a;
  holds = λ v h k. elim k [
    | inl k ↦ in_meet_of side below kept v m h k
    | inr k ↦ absurd (apart side above v d h k)
  ];
  low_in = inl (m.low_b, omega (arith, ints, m.ordered, m.high_b));
  high_in = inl (omega (arith, ints, m.ordered, m.low_b), m.high_b);
  low_end = elim m.low_end [ inl e ↦ inl e | inr e ↦ inr (inl e) ];
  high_end = elim m.high_end [ inl e ↦ inl e | inr e ↦ inr (inl e) ];
}

pub second_meets : (side below above kept : Side) → DontMeet side below → IsMeetOf side above kept
    → IsHullOfMeets side below above kept
second_meets side below above kept d m = record {
  from = m.low_a;
  ordered = m.ordered;
  to = m.high_a;
  holds = λ v h k. elim k [
    | inl k ↦ absurd (apart side below v d h k)
    | inr k ↦ in_meet_of side above kept v m h k
  ];
  low_in = inr (m.low_b, omega (arith, ints, m.ordered, m.high_b));
  high_in = inr (omega (arith, ints, m.ordered, m.low_b), m.high_b);
  low_end = elim m.low_end [ inl e ↦ inl e | inr e ↦ inr (inr e) ];
  high_end = elim m.high_end [ inl e ↦ inl e | inr e ↦ inr (inr e) ];
}

pub none_meets : (side below above : Side) → DontMeet side below → DontMeet side above
    → NoneMeets side below above
none_meets side below above d e v h k = elim k [
  | inl k ↦ apart side below v d h k
  | inr k ↦ apart side above v e h k
]

in_hull : (side below above a b kept : Side) (v : ℤ) → IsMeetOf side below a → IsMeetOf side above b
    → IsHullOf a b kept → IsIn side v → IsInOneOf below above v → IsIn kept v
in_hull side below above a b kept v m n h i k = elim k [
  | inl k ↦ let w = in_meet_of side below a v m i k in (omega (arith, ints, w.0, h.low_a), omega (arith, ints, w.1, h.high_a))
  | inr k ↦ let w = in_meet_of side above b v n i k in (omega (arith, ints, w.0, h.low_b), omega (arith, ints, w.1, h.high_b))
]

pub both_meet : (side below above a b kept : Side) → IsMeetOf side below a → IsMeetOf side above b
    → IsHullOf a b kept → IsHullOfMeets side below above kept
both_meet side below above a b kept m n h =
    record {
      from = elim h.low_end [ inl e ↦ omega (arith, ints, m.low_a) | inr e ↦ omega (arith, ints, n.low_a) ];
      ordered = omega (arith, ints, m.ordered, h.low_a, h.high_a);
      to = elim h.high_end [ inl e ↦ omega (arith, ints, m.high_a) | inr e ↦ omega (arith, ints, n.high_a) ];
      holds = λ v i k. in_hull side below above a b kept v m n h i k;
      low_in = elim h.low_end [
        | inl e ↦ inl (omega (arith, ints, m.low_b), omega (arith, ints, m.ordered, m.high_b))
        | inr e ↦ inr (omega (arith, ints, n.low_b), omega (arith, ints, n.ordered, n.high_b))
      ];
      high_in = elim h.high_end [
        | inl e ↦ inl (omega (arith, ints, m.ordered, m.low_b), omega (arith, ints, m.high_b))
        | inr e ↦ inr (omega (arith, ints, n.ordered, n.low_b), omega (arith, ints, n.high_b))
      ];
      low_end = elim h.low_end [
        | inl e ↦ elim m.low_end [ inl f ↦ inl (e ∙ f) | inr f ↦ inr (inl (e ∙ f)) ]
        | inr e ↦ elim n.low_end [ inl f ↦ inl (e ∙ f) | inr f ↦ inr (inr (e ∙ f)) ]
      ];
      high_end = elim h.high_end [
        | inl e ↦ elim m.high_end [ inl f ↦ inl (e ∙ f) | inr f ↦ inr (inl (e ∙ f)) ]
        | inr e ↦ elim n.high_end [ inl f ↦ inl (e ∙ f) | inr f ↦ inr (inr (e ∙ f)) ]
      ];
    }

pub same_side : (l h l' h' : ℤ) → l ≡ l' → h ≡ h'
    → (◌≡◌ {A = Side} (record { lo = l; hi = h }) (record { lo = l'; hi = h' }))
same_side l h l' h' e f = rw (e, f) refl

pub meet_is : (a b r : Side) → IsMeetOf a b r → r ≡ meet_side a b
meet_is a b r m =
    let lo : r.lo ≡ int_max a.lo b.lo = elim m.low_end [ inl e ↦ omega (arith, ints, clamps, m.low_b) | inr e ↦ omega (arith, ints, clamps, m.low_a) ] in
    let hi : r.hi ≡ int_min a.hi b.hi = elim m.high_end [ inl e ↦ omega (arith, ints, clamps, m.high_b) | inr e ↦ omega (arith, ints, clamps, m.high_a) ] in
    same_side r.lo r.hi (int_max a.lo b.lo) (int_min a.hi b.hi) lo hi
