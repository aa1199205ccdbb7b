-- Squares of differences, with ends rounded to a grain.
use Rattle.std.proofs.Common.{◌≡◌, ℕ, ◌≤◌, arith}
use Rattle.std.specs.Prelude.{ℤ, pos, negsuc, ◌+ℤ◌, ◌-ℤ◌, ◌≤ℤ◌}
use Rattle.std.proofs.lemmas.Int.{ints}
use Rattle.grid_model.specs.Boxes.{Side}
use Rattle.grid_model.specs.Sizes.{IsWithin, IsBoxSize}
use Rattle.grid_model.specs.Intervals.{Between}
use Rattle.grid_model.specs.Rounding.{grain_floor, grain_ceil}
use Rattle.grid_model.specs.Squares.{least_end, greatest_end, least_square, greatest_square}
use Rattle.grid_model.proofs.SquareLemmas.{one_part, square_between}
use Rattle.grid_model.proofs.RootLemmas.{square-mono}
use Rattle.range_contractor.specs.Squares.{AreDifferenceSquares, AreRangeSquares}
use Rattle.range_contractor.proofs.AmountLemmas.{floor_near, ceil_near, floor_natural, above_is_up}

-- low and high are the ends of the place less the rounded side
pub record IsRoundedDifference (g : ℤ) (place side : Side) (low high : ℤ) : Type 0 where
  pub low_is : low ≡ place.lo -ℤ grain_ceil g side.hi
  pub high_is : high ≡ place.hi -ℤ grain_floor g side.lo

pub difference_sizes : (g : ℤ) (place side : Side) (low high : ℤ) → pos 1 ≤ℤ g → g ≤ℤ pos 1048576
    → IsWithin 70000000000000 place.lo → IsWithin 70000000000000 place.hi → IsBoxSize side.lo
    → IsBoxSize side.hi
    → IsRoundedDifference g place side low high
    → IsWithin 80000001048576 low × IsWithin 80000001048576 high
difference_sizes g place side low high h k p q r s is =
    let f = floor_near g side.lo h in
    let c = ceil_near g side.hi h in (
      record { low = omega (arith, ints, is.low_is, c.0, c.1, p.low, s.high); high = omega (arith, ints, is.low_is, c.0, p.high, s.low) },
      record { low = omega (arith, ints, is.high_is, f.0, q.low, r.high); high = omega (arith, ints, is.high_is, f.1, q.high, r.low) },
    )

pub are_difference_squares : (g : ℤ) (place side : Side) (low high : ℤ) (area_low area_high : ℕ)
    → pos 1 ≤ℤ g → g ≤ℤ pos 1048576 → place.lo ≤ℤ place.hi → side.lo ≤ℤ side.hi
    → IsWithin 70000000000000 place.lo → IsWithin 70000000000000 place.hi → IsBoxSize side.lo
    → IsBoxSize side.hi
    → IsRoundedDifference g place side low high → area_low ≡ least_square low high
    → area_high ≡ greatest_square low high
    → AreDifferenceSquares g place side area_low area_high
are_difference_squares g place side low high area_low area_high h k o o' p q r s is low_is high_is =
    let f = floor_near g side.lo h in
    let c = ceil_near g side.hi h in
    let sizes = difference_sizes g place side low high h k p q r s is in
    record {
      least = least_end low high;
      greatest = greatest_end low high;
      low_is = low_is;
      high_is = high_is;
      near = omega (arith, ints, above_is_up place.lo side.hi, above_is_up side.lo place.hi, one_part (place.lo -ℤ side.hi), one_part (side.lo -ℤ place.hi), one_part low, one_part high, is.low_is, is.high_is, f.0, f.1, c.0, c.1);
      far = omega (arith, ints, above_is_up place.hi side.lo, above_is_up side.hi place.lo, one_part (place.hi -ℤ side.lo), one_part (side.hi -ℤ place.lo), one_part low, one_part high, is.low_is, is.high_is, f.0, f.1, c.0, c.1);
      small = omega (arith, ints, one_part low, one_part high, sizes.0.low, sizes.0.high, sizes.1.low, sizes.1.high);
      holds = λ s' v i j.
          let b : Between low high (s' -ℤ v) = record { from = omega (arith, ints, i.0, j.1, is.low_is, c.0); to = omega (arith, ints, i.1, j.0, is.high_is, f.0) } in
          let x = square_between low high (s' -ℤ v) b in
          (rw low_is x.0, rw high_is x.1);
    }

pub are_range_squares : (g least most low high : ℤ) (area_low area_high : ℕ) → pos 1 ≤ℤ g
    → pos 0 ≤ℤ least → least ≤ℤ most
    → low ≡ grain_floor g least → high ≡ grain_ceil g (most +ℤ pos 1)
    → area_low ≡ least_square low high → area_high ≡ greatest_square low high
    → AreRangeSquares g least most area_low area_high
are_range_squares g (negsuc least) most low high area_low area_high h natural o e f low_is high_is = absurd (omega (arith, ints))
are_range_squares g (pos least) most low high area_low area_high h natural o e f low_is high_is =
    let x = floor_near g (pos least) h in
    let y = ceil_near g (most +ℤ pos 1) h in
    let z = floor_natural g least h in
    record {
      from = least_end low high;
      to = greatest_end low high;
      low_is = low_is;
      high_is = high_is;
      from_near = omega (arith, ints, one_part low, one_part high, e, x.1, z);
      to_near = omega (arith, ints, one_part low, one_part high, f, y.0, y.1, e, z, x.0);
      holds_from = λ n le. rw low_is (square-mono (least_end low high) n (omega (arith, ints, one_part low, one_part high, e, f, x.0, z, y.0, le)));
      holds_to = λ n le. rw high_is (square-mono n (greatest_end low high) (omega (arith, ints, one_part low, one_part high, f, y.0, le)));
    }

pub difference_squares_small : (low high : ℤ) (area_high : ℕ) → IsWithin 80000001048576 low
    → IsWithin 80000001048576 high → area_high ≡ greatest_square low high
    → area_high ≤ 9903520314283042199192993792
difference_squares_small low high area_high p q e = rw e
    (let x = square-mono (greatest_end low high) 80000001048576 (omega (arith, ints, one_part low, one_part high, p.low, p.high, q.low, q.high)) in omega arith)

pub range_squares_small : (g least most low high : ℤ) (area_high : ℕ) → pos 1 ≤ℤ g
    → g ≤ℤ pos 1048576 → pos 0 ≤ℤ least → least ≤ℤ most → most ≤ℤ pos 139999999999999
    → low ≡ grain_floor g least → high ≡ grain_ceil g (most +ℤ pos 1)
    → area_high ≡ greatest_square low high → area_high ≤ 79228162514264337593543950336
range_squares_small g (negsuc least) most low high area_high h k natural o p e f high_is = absurd (omega (arith, ints))
range_squares_small g (pos least) most low high area_high h k natural o p e f high_is = rw high_is
    (let y = ceil_near g (most +ℤ pos 1) h in
    let z = floor_natural g least h in
    let x = square-mono (greatest_end low high) 281474976710656 (omega (arith, ints, one_part low, one_part high, e, f, y.0, y.1, z)) in omega arith)
