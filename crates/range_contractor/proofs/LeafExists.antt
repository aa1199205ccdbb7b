-- Each leaf has an answer for each box and each clock span.
use Rattle.std.proofs.Common.{◌≡◌, ℕ, ◌+◌, ◌-◌, ◌≤◌, arith, ◌⊎◌, inl, inr, refl, Option, None, Some}
use Rattle.std.specs.Prelude.{ℤ, pos, negsuc, ◌+ℤ◌, ◌-ℤ◌, ◌*ℤ◌, neg_ℤ, ◌≤ℤ◌}
use Rattle.std.specs.Int.{int_min, int_max, int_div_euclid}
use Rattle.std.proofs.lemmas.Int.{ints, clamps, by_lt_z}
use Rattle.std.proofs.lemmas.Bool.{cases_lt}
use Rattle.grid_model.specs.Boxes.{Side, GridBox}
use Rattle.grid_model.specs.Sizes.{IsWithin, IsBoxSize}
use Rattle.grid_model.specs.Roots.{root}
use Rattle.grid_model.specs.Rounding.{grain_floor, grain_ceil, IsMultipleOf}
use Rattle.grid_model.specs.Squares.{least_square, greatest_square}
use Rattle.grid_model.proofs.ProductLemmas.{neg_mul}
use Rattle.sat_model.specs.Trees.{LeafValue, Sat, IsLeafSized}
use Rattle.sat_model.specs.TightFaces.{least_range, greatest_range}
use Rattle.sat_model.specs.Proposals.{IsTied}
use Rattle.range_contractor.specs.Ranges.{IsWanted, NoneIsWanted, greatest_possible}
use Rattle.range_contractor.specs.Sides.{IsKept, NoneIsKept, IsHullOfMeets, NoneMeets, IsMeetOf, DontMeet, IsBelow, IsAbove}
use Rattle.range_contractor.specs.Squares.{AreDifferenceSquares, AreRangeSquares, AreWhole, IsAmount}
use Rattle.range_contractor.proofs.MeetLemmas.{is_hull, is_meet, dont_meet, both_meet, first_meets, second_meets, none_meets}
use Rattle.range_contractor.proofs.AmountLemmas.{is_amount, is_kept, none_is_kept, none_where_less}
use Rattle.range_contractor.proofs.SquareLemmas.{are_difference_squares, are_range_squares, range_squares_small}
use Rattle.range_contractor.proofs.LeafLemmas.{Measures, IsMeasured, AreSizes, IsOrderedLeaf, none_wanted, none_on_x, none_on_y, none_on_z, leaf_keeps, leaf_answer}

wanted_or_none : (from to : ℤ)
    → ((least : ℤ) × (most : ℤ) × IsWanted from to least most) ⊎ NoneIsWanted from to
wanted_or_none from to = by_lt_z (int_min to (pos greatest_possible)) (int_max (pos 0) from)
    (λ h. inr (λ n le b. let f = b.from in let t = b.to in omega (arith, ints, clamps, h, f, t)))
    (λ h. inl (
      int_max (pos 0) from,
      int_min to (pos greatest_possible),
      record {
        natural = omega (arith, ints, clamps);
        ordered = h;
        possible = omega (arith, ints, clamps);
        low = omega (arith, ints, clamps);
        high = omega (arith, ints, clamps);
        holds = λ n le b. record { from = omega (arith, ints, clamps, b.from); to = omega (arith, ints, clamps, b.to) };
      },
    ))

-- the meet of two sides, or none
pub meet_or_none : (a b : Side) → ((r : Side) × IsMeetOf a b r) ⊎ DontMeet a b
meet_or_none a b = by_lt_z (int_min a.hi b.hi) (int_max a.lo b.lo)
    (λ h. inr (dont_meet a b h))
    (λ h. inl (record { lo = int_max a.lo b.lo; hi = int_min a.hi b.hi }, is_meet a b (record { lo = int_max a.lo b.lo; hi = int_min a.hi b.hi }) refl refl h))

hull_or_none : (side below above : Side)
    → ((k : Side) × IsHullOfMeets side below above k) ⊎ NoneMeets side below above
hull_or_none side below above = elim (meet_or_none side below) [
  | inl (a, m) ↦ elim (meet_or_none side above) [
    | inl (b, n) ↦
        let h : Side = record { lo = int_min a.lo b.lo; hi = int_max a.hi b.hi } in
        inl (h, both_meet side below above a b h m n (is_hull a b h refl refl))
    | inr n ↦ inl (a, first_meets side below above a m n)
  ]
  | inr m ↦ elim (meet_or_none side above) [
    | inl (b, n) ↦ inl (b, second_meets side below above b m n)
    | inr n ↦ inr (none_meets side below above m n)
  ]
]

pub floor_whole : (g x : ℤ) → IsMultipleOf g (grain_floor g x)
floor_whole g x = record { times = int_div_euclid x g; is = refl }

pub ceil_whole : (g x : ℤ) → IsMultipleOf g (grain_ceil g x)
ceil_whole g x = record { times = neg_ℤ (int_div_euclid (neg_ℤ x) g); is = omega (arith, ints, neg_mul (int_div_euclid (neg_ℤ x) g) g) }

pub kept_or_none : (g : ℤ) (place side : Side) (low high others_low others_high : ℕ) → pos 1 ≤ℤ g
    → g ≤ℤ pos 1048576 → place.lo ≤ℤ place.hi → AreWhole g place
    → low ≤ high → high ≤ 79228162514264337593543950336
    → ((k : Side) × IsKept g place side low high others_low others_high k) ⊎ NoneIsKept place side low high others_low others_high
kept_or_none g place side low high others_low others_high one most ordered whole le small = elim (cases_lt high others_low) [
  | inl less ↦ inr (none_where_less place side low high others_low others_high less)
  | inr some ↦
      let amount : Side = record { lo = grain_floor g (pos (root (low - others_high))); hi = grain_ceil g (pos (root (high - others_low))) } in
      let is : IsAmount g low high others_low others_high amount = is_amount g amount low high others_low others_high one most le small
      (record { some = some; low_is = refl; high_is = refl }) (record { low = floor_whole g (pos (root (low - others_high))); high = ceil_whole g (pos (root (high - others_low))) }) in
      let below : Side = record { lo = place.lo -ℤ amount.hi; hi = place.hi -ℤ amount.lo } in
      let above : Side = record { lo = place.lo +ℤ amount.lo; hi = place.hi +ℤ amount.hi } in
      let is_below : IsBelow place amount below = record { low = refl; high = refl } in
      let is_above : IsAbove place amount above = record { low = refl; high = refl } in
      elim (hull_or_none side below above) [
        | inl (k, h) ↦ inl (k, is_kept g place amount side below above k low high others_low others_high one ordered is is_below is_above whole h)
        | inr none ↦ inr (none_is_kept g place amount side below above low high others_low others_high one is is_below is_above none)
      ]
]

pub record AreWholeSides (g : ℤ) (leaf : LeafValue) : Type 0 where
  pub x : AreWhole g leaf.x
  pub y : AreWhole g leaf.y
  pub z : AreWhole g leaf.z

-- what is enclosed of the differences on one axis
record HasSquares (g : ℤ) (place side : Side) : Type 0 where
  pub low : ℕ
  pub high : ℕ
  pub is : AreDifferenceSquares g place side low high

squares_of : (g : ℤ) (place side : Side) → pos 1 ≤ℤ g → g ≤ℤ pos 1048576 → place.lo ≤ℤ place.hi
    → side.lo ≤ℤ side.hi
    → IsWithin 70000000000000 place.lo × IsWithin 70000000000000 place.hi
    → IsBoxSize side.lo × IsBoxSize side.hi → HasSquares g place side
squares_of g place side one most o s (p, q) (r, t) =
    let low = place.lo -ℤ grain_ceil g side.hi in
    let high = place.hi -ℤ grain_floor g side.lo in
    record {
      low = least_square low high;
      high = greatest_square low high;
      is = are_difference_squares g place side low high (least_square low high) (greatest_square low high) one most o s p q r t (record { low_is = refl; high_is = refl }) refl refl;
    }

natural : (z : ℤ) → pos 0 ≤ℤ z → (n : ℕ) × (z ≡ pos n)
natural (pos n) h = (n, refl)
natural (negsuc n) h = absurd (omega (arith, ints))

low_le_high : (g least most : ℤ) (low high : ℕ) → (pos 0 ≤ℤ least) × (least ≤ℤ most)
    → AreRangeSquares g least most low high → low ≤ high
low_le_high g least most low high (zero', le) r =
    let (n, is) = natural least zero' in
    omega (arith, r.holds_from n (omega (arith, ints)), r.holds_to n (omega (arith, ints)))

pub leaf_exists : (g slack : ℤ) (leaf : LeafValue) (clock : Side) (part : GridBox) → pos 1 ≤ℤ g
    → g ≤ℤ pos 1048576 → slack ≡ pos 16 *ℤ g
    → IsLeafSized leaf → AreWholeSides g leaf → IsOrderedLeaf leaf part → AreSizes part
    → (answer : Option GridBox) × IsTied (Sat leaf) g slack clock part answer
leaf_exists g slack leaf clock part one most e sized whole o sizes = elim (wanted_or_none (least_range leaf clock) (greatest_range leaf clock)) [
  | inr none ↦ (None, (none_wanted leaf clock part sized sizes none, tt))
  | inl (least, most_range, w) ↦
      let low_end = grain_floor g least in
      let high_end = grain_ceil g (most_range +ℤ pos 1) in
      let low = least_square low_end high_end in
      let high = greatest_square low_end high_end in
      let reach : AreRangeSquares g least most_range low high = are_range_squares g least most_range low_end high_end low high one w.natural w.ordered refl refl refl refl in
      let small = range_squares_small g least most_range low_end high_end high one most w.natural w.ordered w.possible refl refl refl in
      let x = squares_of g leaf.x part.x one most o.x o.part_x sized.x sizes.x in
      let y = squares_of g leaf.y part.y one most o.y o.part_y sized.y sizes.y in
      let z = squares_of g leaf.z part.z one most o.z o.part_z sized.z sizes.z in
      let m : Measures = record { least = least; most = most_range; low = low; high = high; xl = x.low; xh = x.high; yl = y.low; yh = y.high; zl = z.low; zh = z.high } in
      let is : IsMeasured g leaf clock part m = record { grain = one; wanted = w; reach = reach; x = x.is; y = y.is; z = z.is } in
      let le : low ≤ high = low_le_high g least most_range low high (w.natural, w.ordered) reach in
      elim (kept_or_none g leaf.x part.x low high (y.low + z.low) (y.high + z.high) one most o.x whole.x le small) [
        | inr none ↦ (None, (none_on_x g leaf clock part part.x m is sized sizes refl none, tt))
        | inl (kx, hx) ↦ elim (kept_or_none g leaf.y part.y low high (x.low + z.low) (x.high + z.high) one most o.y whole.y le small) [
          | inr none ↦ (None, (none_on_y g leaf clock part part.y m is sized sizes refl none, tt))
          | inl (ky, hy) ↦ elim (kept_or_none g leaf.z part.z low high (x.low + y.low) (x.high + y.high) one most o.z whole.z le small) [
            | inr none ↦ (None, (none_on_z g leaf clock part part.z m is sized sizes refl none, tt))
            | inl (kz, hz) ↦ (
              Some (record { x = kx; y = ky; z = kz }),
              (leaf_keeps g leaf clock part m kx ky kz is sized sizes hx hy hz, leaf_answer g slack leaf clock part m kx ky kz e is o hx hy hz),
            )
          ]
        ]
      ]
]
