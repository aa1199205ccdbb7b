-- Ends of a place of which each member is as far from the origin as an orbit.
use Rattle.std.proofs.Common.{ℕ, ◌≤◌, arith}
use Rattle.std.specs.Prelude.{ℤ, pos, ◌-ℤ◌, ◌≤ℤ◌}
use Rattle.std.proofs.lemmas.Int.{ints}
use Rattle.grid_model.specs.Sizes.{IsWithin}
use Rattle.grid_model.proofs.IntervalLemmas.{low_member, high_member}
use Rattle.fix_interval.specs.Factors.{Holds}
use Rattle.fix_interval.specs.Places.{PlaceEnds}
use Rattle.fix_interval.specs.declared.place.Place.{Place}
use Rattle.broadcast_orbit.specs.OrbitSizes.{greatest_distance, IsOrbitDistance}
use Rattle.broadcast_orbit.proofs.PairLemmas.{square_natural, side_within}

-- for numbers that are no less than the greatest distance and the width of a place
module _ (reach width : ℕ) (far : greatest_distance ≤ reach) (wide : 500 ≤ width) where
  reached : (x : ℤ) → IsWithin greatest_distance x → IsWithin reach x
  reached x within = record { low = omega (arith, ints, within.low, far); high = omega (arith, ints, within.high, far) }

  x_within : (x y z : ℤ) → IsOrbitDistance x y z → IsWithin reach x
  x_within x y z d = reached x (side_within greatest_distance x (omega (arith, ints, d.to, square_natural y, square_natural z)))

  y_within : (x y z : ℤ) → IsOrbitDistance x y z → IsWithin reach y
  y_within x y z d = reached y (side_within greatest_distance y (omega (arith, ints, d.to, square_natural x, square_natural z)))

  z_within : (x y z : ℤ) → IsOrbitDistance x y z → IsWithin reach z
  z_within x y z d = reached z (side_within greatest_distance z (omega (arith, ints, d.to, square_natural x, square_natural y)))

  more : (lo hi : ℤ) → (hi -ℤ lo) ≤ℤ pos 500 → (hi -ℤ lo) ≤ℤ pos width
  more lo hi h = omega (arith, ints, h, wide)

  pub orbit_ends : (at : Place)
      → ((x y z : ℤ) → Holds at.x x → Holds at.y y → Holds at.z z → IsOrbitDistance x y z)
      → (at.x.hi -ℤ at.x.lo) ≤ℤ pos 500 → (at.y.hi -ℤ at.y.lo) ≤ℤ pos 500
      → (at.z.hi -ℤ at.z.lo) ≤ℤ pos 500 → PlaceEnds reach width at
  orbit_ends at d x y z =
      let low = d at.x.lo at.y.lo at.z.lo (low_member _ _ at.x.ordered) (low_member _ _ at.y.ordered) (low_member _ _ at.z.ordered) in
      let high = d at.x.hi at.y.hi at.z.hi (high_member _ _ at.x.ordered) (high_member _ _ at.y.ordered) (high_member _ _ at.z.ordered) in
      record {
        x_ends = record { order = at.x.ordered; low = x_within _ _ _ low; high = x_within _ _ _ high; width = more at.x.lo at.x.hi x };
        y_ends = record { order = at.y.ordered; low = y_within _ _ _ low; high = y_within _ _ _ high; width = more at.y.lo at.y.hi y };
        z_ends = record { order = at.z.ordered; low = z_within _ _ _ low; high = z_within _ _ _ high; width = more at.z.lo at.z.hi z };
      }
