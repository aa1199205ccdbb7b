-- Where a satellite's place, moved by a range of amounts, meets a side.
use Rattle.std.proofs.Common.{◌≡◌, ℕ, ◌-◌, ◌*◌, ◌<◌, ◌≤◌, arith, ◌⊎◌, inl, inr, refl}
use Rattle.std.specs.Prelude.{ℤ, pos, negsuc, ◌+ℤ◌, ◌-ℤ◌, neg_ℤ, ◌≤ℤ◌, unsigned_abs}
use Rattle.std.specs.Int.{int_div_euclid}
use Rattle.std.proofs.lemmas.Int.{ints}
use borrow.Author.Differences.{up}
use Rattle.grid_model.specs.Boxes.{Side}
use Rattle.grid_model.specs.Amounts.{above, least_amount, greatest_amount}
use Rattle.grid_model.specs.Intervals.{Between}
use Rattle.grid_model.specs.Roots.{IsRoot, root}
use Rattle.grid_model.specs.Rounding.{IsFloor, grain_floor, grain_ceil, IsMultipleOf}
use Rattle.grid_model.proofs.ProductLemmas.{add_mul, neg_mul}
use Rattle.grid_model.proofs.RootLemmas.{root_is, root_le}
use Rattle.grid_model.proofs.RoundingLemmas.{floor_is}
use Rattle.grid_model.proofs.SquareLemmas.{root_between, one_part}
use Rattle.range_contractor.specs.Sides.{IsReached, IsNearlyReached, IsKept, NoneIsKept, IsHullOfMeets, IsInOneOf, NoneMeets, IsEndOf, IsBelow, IsAbove}
use Rattle.range_contractor.specs.Squares.{AreAmounts, AreWhole, IsAmount}

-- ---- how far one number is above another

up_le : (z : ℤ) (n : ℕ) → z ≤ℤ pos n → up z ≤ n
up_le z n h = omega (arith, ints, one_part z)

pub above_le : (a b : ℤ) (n : ℕ) → (a -ℤ b) ≤ℤ pos n → above a b ≤ n
unfolding above
above_le a b n h = up_le (a -ℤ b) n h

pub above_is_up : (a b : ℤ) → above a b ≡ up (a -ℤ b)
unfolding above
above_is_up a b = refl

-- ---- rounding to a grain

pub floor_near : (g x : ℤ) → pos 1 ≤ℤ g
    → (grain_floor g x ≤ℤ x) × ((x +ℤ pos 1) ≤ℤ (grain_floor g x +ℤ g))
floor_near g x h =
    let p : IsFloor x g (int_div_euclid x g) = floor_is x g (omega (arith, ints)) in
    (p.le, omega (arith, ints, p.gt))

pub ceil_near : (g x : ℤ) → pos 1 ≤ℤ g
    → (x ≤ℤ grain_ceil g x) × ((grain_ceil g x +ℤ pos 1) ≤ℤ (x +ℤ g))
ceil_near g x h =
    let p = floor_near g (neg_ℤ x) h in
    (omega (arith, ints, p.0), omega (arith, ints, p.1))

-- ---- sums of multiples

pub multiple_sum : (g a b v : ℤ) → IsMultipleOf g a → IsMultipleOf g b → v ≡ a +ℤ b
    → IsMultipleOf g v
multiple_sum g a b v p q e = record { times = p.times +ℤ q.times; is = omega (arith, ints, e, p.is, q.is, add_mul p.times q.times g) }

pub multiple_difference : (g a b v : ℤ) → IsMultipleOf g a → IsMultipleOf g b → v ≡ a -ℤ b
    → IsMultipleOf g v
multiple_difference g a b v p q e = record { times = p.times +ℤ neg_ℤ q.times; is = omega (arith, ints, e, p.is, q.is, add_mul p.times (neg_ℤ q.times) g, neg_mul q.times g) }

-- ---- the amounts

abs_cases : (z : ℤ) → (z ≡ pos (unsigned_abs z)) ⊎ (z ≡ neg_ℤ (pos (unsigned_abs z)))
abs_cases (pos n) = inl refl
abs_cases (negsuc n) = inr (omega (arith, ints))

-- a reached number lies below the place by one of the amounts, or above it
pub reached_in : (g : ℤ) (place amount below above' : Side) (low high others_low others_high : ℕ) (v : ℤ)
    → pos 1 ≤ℤ g
    → AreAmounts g low high others_low others_high amount → IsBelow place amount below
    → IsAbove place amount above'
    → IsReached place low high others_low others_high v → IsInOneOf below above' v
reached_in g place amount below above' low high others_low others_high v h are is_below is_above r =
    let d = unsigned_abs (r.at -ℤ v) in
    let from : (low - others_high) ≤ d * d = omega (arith, r.from, r.others_to) in
    let to : d * d ≤ (high - others_low) = omega (arith, r.to, r.others_from) in
    let b : Between amount.lo amount.hi (pos d) = rw (are.low_is, are.high_is) (root_between g (low - others_high) (high - others_low) (d * d) d h from to (record { square_le = omega arith; next_square_gt = omega arith })) in
    let i = r.at_in in
    elim (abs_cases (r.at -ℤ v)) [
      | inl e ↦ inl (omega (arith, ints, e, b.to, i.0, is_below.low), omega (arith, ints, e, b.from, i.1, is_below.high))
      | inr e ↦ inr (omega (arith, ints, e, b.from, i.0, is_above.low), omega (arith, ints, e, b.to, i.1, is_above.high))
    ]

nearly : (g : ℤ) (place amount : Side) (low high others_low others_high : ℕ) (v : ℤ) → pos 1 ≤ℤ g
    → AreAmounts g low high others_low others_high amount
    → pos (least_amount place.lo place.hi v v) ≤ℤ amount.hi
    → amount.lo ≤ℤ pos (greatest_amount place.lo place.hi v v)
    → IsNearlyReached g place low high others_low others_high v
nearly g place amount low high others_low others_high v h are near far =
    let most : IsRoot (high - others_low) (root (high - others_low)) = root_is _ in
    let least : IsRoot (low - others_high) (root (low - others_high)) = root_is _ in
    let c = ceil_near g (pos (root (high - others_low))) h in
    let f = floor_near g (pos (root (low - others_high))) h in
    record {
      most = root (high - others_low);
      most_fits = omega (arith, most.square_le, are.some);
      near = omega (arith, ints, near, are.high_is, c.1);
      least = root (low - others_high);
      least_fits = omega (arith, least.next_square_gt);
      far = omega (arith, ints, far, are.low_is, f.1);
    }

amount_natural : (g : ℤ) (amount : Side) (low high others_low others_high : ℕ) → pos 1 ≤ℤ g
    → AreAmounts g low high others_low others_high amount → (n : ℕ) × (amount.hi ≡ pos n)
amount_natural g amount low high others_low others_high h are = natural amount.hi (omega (arith, ints, are.high_is, (ceil_near g (pos (root (high - others_low))) h).0))
  where
    natural : (z : ℤ) → pos 0 ≤ℤ z → (n : ℕ) × (z ≡ pos n)
    natural (pos n) h = (n, refl)
    natural (negsuc n) h = absurd (omega (arith, ints))

-- each such number is nearly reached
pub nearly_reached : (g : ℤ) (place amount below above' : Side) (low high others_low others_high : ℕ) (v : ℤ)
    → pos 1 ≤ℤ g → place.lo ≤ℤ place.hi → pos 0 ≤ℤ amount.lo
    → AreAmounts g low high others_low others_high amount → IsBelow place amount below
    → IsAbove place amount above'
    → IsInOneOf below above' v → IsNearlyReached g place low high others_low others_high v
nearly_reached g place amount below above' low high others_low others_high v h ordered natural are is_below is_above i =
    let (n, n_is) = amount_natural g amount low high others_low others_high h are in
    elim i [
      | inl i ↦ nearly g place amount low high others_low others_high v h are
          (let x = above_le place.lo v n (omega (arith, ints, i.0, is_below.low, n_is)) in let y = above_le v place.hi n (omega (arith, ints, i.1, is_below.high, n_is)) in omega (arith, ints, x, y, n_is))
          (let x = above_is_up place.hi v in omega (arith, ints, x, one_part (place.hi -ℤ v), i.1, is_below.high))
      | inr i ↦ nearly g place amount low high others_low others_high v h are
          (let x = above_le place.lo v n (omega (arith, ints, i.0, is_above.low, n_is)) in let y = above_le v place.hi n (omega (arith, ints, i.1, is_above.high, n_is)) in omega (arith, ints, x, y, n_is))
          (let x = above_is_up v place.lo in omega (arith, ints, x, one_part (v -ℤ place.lo), i.0, is_above.low))
    ]

-- ---- what is kept of a side

face_is : (g old a b v : ℤ) → IsMultipleOf g a → IsMultipleOf g b → IsEndOf old a b v
    → (v ≡ old) ⊎ IsMultipleOf g v
face_is g old a b v p q e = elim e [
  | inl e ↦ inl e
  | inr e ↦ elim e [
    | inl e ↦ inr (rw e p)
    | inr e ↦ inr (rw e q)
  ]
]

pub is_kept : (g : ℤ) (place amount side below above' kept : Side) (low high others_low others_high : ℕ)
    → pos 1 ≤ℤ g → place.lo ≤ℤ place.hi
    → IsAmount g low high others_low others_high amount → IsBelow place amount below
    → IsAbove place amount above' → AreWhole g place
    → IsHullOfMeets side below above' kept
    → IsKept g place side low high others_low others_high kept
is_kept g place amount side below above' kept low high others_low others_high h ordered is is_below is_above place_whole k = record {
  from = k.from;
  ordered = k.ordered;
  to = k.to;
  holds = λ v i r. k.holds v i (reached_in g place amount below above' low high others_low others_high v h is.are is_below is_above r);
  low_tight = nearly_reached g place amount below above' low high others_low others_high kept.lo h ordered is.natural is.are is_below is_above k.low_in;
  high_tight = nearly_reached g place amount below above' low high others_low others_high kept.hi h ordered is.natural is.are is_below is_above k.high_in;
  low_face = face_is g side.lo below.lo above'.lo kept.lo
      (multiple_difference g place.lo amount.hi below.lo place_whole.low is.whole.high is_below.low)
      (multiple_sum g place.lo amount.lo above'.lo place_whole.low is.whole.low is_above.low) k.low_end;
  high_face = face_is g side.hi below.hi above'.hi kept.hi
      (multiple_difference g place.hi amount.lo below.hi place_whole.high is.whole.low is_below.high)
      (multiple_sum g place.hi amount.hi above'.hi place_whole.high is.whole.high is_above.high) k.high_end;
}

pub none_is_kept : (g : ℤ) (place amount side below above' : Side) (low high others_low others_high : ℕ)
    → pos 1 ≤ℤ g
    → IsAmount g low high others_low others_high amount → IsBelow place amount below
    → IsAbove place amount above'
    → NoneMeets side below above' → NoneIsKept place side low high others_low others_high
none_is_kept g place amount side below above' low high others_low others_high h is is_below is_above none v i r =
    none v i (reached_in g place amount below above' low high others_low others_high v h is.are is_below is_above r)

-- nothing is reached where the others alone are too great
pub none_where_less : (place side : Side) (low high others_low others_high : ℕ) → high < others_low
    → NoneIsKept place side low high others_low others_high
none_where_less place side low high others_low others_high h v i r = omega (arith, r.to, r.others_from)

-- ---- sizes

-- 0 is a multiple, so the floor of a natural number isn't negative
pub floor_natural : (g : ℤ) (n : ℕ) → pos 1 ≤ℤ g → pos 0 ≤ℤ grain_floor g (pos n)
floor_natural (pos d) n h = omega (arith, ints)
floor_natural (negsuc d) n h = absurd (omega (arith, ints))

pub is_amount : (g : ℤ) (amount : Side) (low high others_low others_high : ℕ) → pos 1 ≤ℤ g
    → g ≤ℤ pos 1048576
    → low ≤ high → high ≤ 79228162514264337593543950336
    → AreAmounts g low high others_low others_high amount → AreWhole g amount
    → IsAmount g low high others_low others_high amount
is_amount g amount low high others_low others_high h k le size are whole =
    let x = root_le (low - others_high) 281474976710656 (omega arith) in
    let y = root_le (high - others_low) 281474976710656 (omega arith) in
    let f = floor_near g (pos (root (low - others_high))) h in
    let c = ceil_near g (pos (root (high - others_low))) h in
    let n = floor_natural g (root (low - others_high)) h in
    record {
      are = are;
      whole = whole;
      natural = omega (arith, ints, are.low_is, n);
      low_size = record { low = omega (arith, ints, are.low_is, n); high = omega (arith, ints, are.low_is, f.0, x) };
      high_size = record { low = omega (arith, ints, are.high_is, c.0); high = omega (arith, ints, are.high_is, c.1, y, k) };
    }
