-- How near the numbers are from which a row is made.
use Rattle.std.specs.Prelude.{ℕ, ◌+◌, ◌*◌, ◌^◌, ℤ, pos, neg_ℤ, ◌+ℤ◌, ◌-ℤ◌, ◌≤ℤ◌, Option, None, Some}
use Rattle.broadcast_orbit.specs.OrbitSizes.{orbit_reach}
use Rattle.pseudorange_prep.specs.Ranges.{IsNarrow}
use Rattle.gnss_model.specs.Pseudorange.{Codes}
use Rattle.grid_model.specs.Sizes.{IsWithin}
use Rattle.gnss_model.specs.declared.elements.Elements.{Elements}
use Rattle.grid_model.specs.declared.spans.Wide.{Wide}

-- each code is known to one um
abbrev pub AreNarrowWith : Wide → Option Wide → Type 0
AreNarrowWith first None = IsNarrow 1 first.lo first.hi
AreNarrowWith first (Some second) = IsNarrow 1 first.lo first.hi × IsNarrow 1 second.lo second.hi

abbrev pub AreNarrow : Codes → Type 0
AreNarrow codes = AreNarrowWith codes.first codes.second

-- how far the ephemeris time may be from the time of the epoch: 14,401 s in ps
abbrev pub epoch_reach : ℕ
epoch_reach = 14401 * 10 ^ 12

-- both ends of the ephemeris time are so near to the time of the epoch
pub record IsNearEpoch (el : Elements) (tag : ℤ) : Type 0 where
  pub low : IsWithin epoch_reach (tag -ℤ (el.week_start +ℤ el.toe_week.lo))
  pub high : IsWithin epoch_reach (tag -ℤ (el.week_start +ℤ el.toe_week.hi))

-- the times from lo to hi are as near to each ephemeris time as the orbit wants them
pub record IsNearOrbit (el : Elements) (lo hi : ℤ) : Type 0 where
  pub from : neg_ℤ (pos orbit_reach) ≤ℤ (lo -ℤ (el.week_start +ℤ el.toe_week.hi))
  pub to : (hi -ℤ (el.week_start +ℤ el.toe_week.lo)) ≤ℤ pos orbit_reach

-- a pseudorange: 40,000 km and what the combination of two codes is rounded by, in um
abbrev pub pseudorange_amount : ℕ
pseudorange_amount = 40 * 10 ^ 12 + 10
