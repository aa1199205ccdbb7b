-- Ends of the numbers on the way from a code to what the equations leave of it.
use Rattle.std.proofs.Common.{◌≡◌, ℕ, ◌+◌, ◌*◌, ◌/◌, ◌≤◌, subst, lit≤, arith}
use Rattle.std.specs.Prelude.{ℤ, pos, ◌+ℤ◌, ◌-ℤ◌, ◌≤ℤ◌}
use Rattle.std.proofs.lemmas.Int.{ints}
use Rattle.fix_interval.specs.Places.{PlaceEnds}
use Rattle.earth_rotation.specs.RoundSizes.{turned_reach, range_amount, range_width}
use Rattle.earth_rotation.specs.TurnSizes.{near_reach, reach_after}
use Rattle.fix_interval.specs.declared.place.Place.{Place}
use Rattle.fix_interval.specs.declared.exact.Exact.{Exact}
use Rattle.fix_interval.specs.Factors.{HasEnds}
use Rattle.pseudorange_prep.specs.Ranges.{IsNarrow}
use Rattle.code_simulation.specs.SearchSizes.{code_amount}
use Rattle.code_simulation.specs.Residuals.{um_of}
use Rattle.grid_model.specs.Amounts.{above}
use Rattle.grid_model.specs.Boxes.{GridBox}
use Rattle.grid_model.specs.Intervals.{Between, Ends}
use Rattle.grid_model.specs.Lengths.{longest_length, spare_of}
use Rattle.grid_model.proofs.AmountLemmas.{above_is}
use Rattle.fix_interval.proofs.PlaceLemmas.{wider_place}

pub no_side : (z : ℤ) → above z z ≡ 0
no_side z = omega (arith, ints, above_is z z)

-- the place as seen from a point
pub from_point : (part : GridBox) (at : Place) → longest_length part ≡ 0
    → PlaceEnds (reach_after near_reach) (spare_of part) at → PlaceEnds turned_reach 2000 at
from_point part at none e =
    wider_place (reach_after near_reach) turned_reach 2000 2000 at (lit≤ tt) (lit≤ tt)
    (subst (λ (n : ℕ). PlaceEnds (reach_after near_reach) (2000 + n / 40000) at) none e)

pub point_range : (part : GridBox) (range : Exact) → longest_length part ≡ 0
    → HasEnds range_amount (range_width part 2000) range → HasEnds range_amount 3501 range
point_range part range none e = subst (λ (n : ℕ). HasEnds range_amount (7 * (n + 2000) / 4 + 1) range) none e

pub code_width_fits : (n w : ℕ) (lo hi : ℤ) → w ≤ 1008 → Ends n w lo hi → IsNarrow 1008 lo hi
code_width_fits n w lo hi small e = record { width = omega (arith, ints, e.width, small) }

-- a difference of members is between the least and the greatest
pub difference_held : (a b c d p r v lo hi : ℤ) → Between a b p → Between c d r → lo ≡ a -ℤ d
    → hi ≡ b -ℤ c → v ≡ p -ℤ r → Between lo hi v
difference_held a b c d p r v lo hi x y low high is = record {
  from = omega (arith, ints, x.from, y.to, low, is);
  to = omega (arith, ints, x.to, y.from, high, is);
}

-- codes from one to the next
pub code_ends : (low high w : ℕ) (lo hi : ℤ) → lo ≡ um_of low → hi ≡ um_of high → low ≤ high
    → high ≤ low + w → high ≤ 100000000000 → w ≤ 1 → Ends code_amount (1000 * w) lo hi
code_ends low high w lo hi a b order close to small = record {
  order = omega (arith, ints, a, b, order);
  low = record { low = omega (arith, ints, a); high = omega (arith, ints, a, order, to) };
  high = record { low = omega (arith, ints, b); high = omega (arith, ints, b, to) };
  width = omega (arith, ints, a, b, close);
}

pub low_held : (lo hi a : ℤ) → lo ≡ a → lo ≤ℤ hi → Between lo hi a
low_held lo hi a is order = record { from = omega (arith, ints, is); to = omega (arith, ints, is, order) }

pub high_held : (lo hi a : ℤ) → hi ≡ a → lo ≤ℤ hi → Between lo hi a
high_held lo hi a is order = record { from = omega (arith, ints, is, order); to = omega (arith, ints, is) }

-- what is left of a code, where the low end is small, or isn't
pub at_most : (lo hi v goal : ℤ) → Between lo hi v → (hi -ℤ lo) ≤ℤ pos 3507 → lo ≤ℤ goal
    → v ≤ℤ (goal +ℤ pos 3507)
at_most lo hi v goal b w h = omega (arith, ints, b.to, w, h)

pub at_least : (lo hi v goal : ℤ) → Between lo hi v → goal ≤ℤ lo → goal ≤ℤ v
at_least lo hi v goal b h = omega (arith, ints, b.from, h)

-- what is left of a code is near to what is left of the next
pub near_next : (lo hi v u goal : ℤ) → Between lo hi v → Between lo hi u → (hi -ℤ lo) ≤ℤ pos 4507
    → goal ≤ℤ u → (goal -ℤ pos 4507) ≤ℤ v
near_next lo hi v u goal b a w h = omega (arith, ints, b.from, a.to, w, h)
