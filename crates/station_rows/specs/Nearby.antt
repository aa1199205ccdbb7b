-- When the pseudorange of a single difference is as small as that of a row: by numbers that the
-- receivers' files and the settings have.
use Rattle.std.specs.Prelude.{ℕ, ◌*◌, ◌^◌, ◌≡◌, ℤ, pos, neg_ℤ, ◌-ℤ◌, ◌*ℤ◌, ◌≤ℤ◌}
use Rattle.std.specs.Prelude.{Option, None, Some}
use Rattle.gnss_model.specs.ChainValues.{Observed}
use Rattle.gnss_model.specs.Pseudorange.{Codes}
use Rattle.gnss_model.specs.Systems.{first_square, second_square, squares_apart}
use Rattle.gnss_model.specs.declared.systems.System.{System}
use Rattle.grid_model.specs.Sizes.{IsWithin}
use Rattle.grid_model.specs.declared.spans.Wide.{Wide}
use Rattle.station_rows.specs.Differences.{CommonView}
use Rattle.usable_sats.specs.Usability.{ArePlausible}

-- the root of the semi-major axis of a medium orbit, in 10^-12 m^(1/2): at most 5,600 m^(1/2), for
-- an axis of 31,360 km
abbrev pub medium_root_a : ℕ
medium_root_a = 56 * 10 ^ 14

-- how far a record's clock time is from a reception: 6 h in ps
abbrev pub clock_time_reach : ℕ
clock_time_reach = 21600 * 10 ^ 12

-- the record that was used is of a medium orbit, and its clock time is near the reception
pub record HasNearRecord (seen : Observed) : Type 0 where
  pub orbit : seen.el.root_a.hi ≤ℤ pos medium_root_a
  pub clock_time : IsWithin clock_time_reach (seen.tag -ℤ seen.el.toc)

-- ---- the codes of both

-- how far the two pseudoranges are apart: 5,000 km in um
abbrev pub pseudoranges_apart : ℕ
pseudoranges_apart = 5 * 10 ^ 12

-- two lengths, known by their ends and each times a scale, are no further apart
pub record AreNear (lo hi other_lo other_hi : ℤ) (scale : ℕ) : Type 0 where
  pub from : neg_ℤ (pos (scale * pseudoranges_apart)) ≤ℤ (lo -ℤ other_hi)
  pub to : (hi -ℤ other_lo) ≤ℤ pos (scale * pseudoranges_apart)

-- the ionosphere-free combinations of two codes each (IS-GPS-200, 20.3.3.3.3.3), times the
-- difference of the squares of their frequencies
abbrev pub AreCombinationsNear : System → Wide → Wide → Wide → Wide → Type 0
AreCombinationsNear system first second other_first other_second =
    AreNear ((pos (first_square system) *ℤ first.lo) -ℤ (pos (second_square system) *ℤ second.hi))
    ((pos (first_square system) *ℤ first.hi) -ℤ (pos (second_square system) *ℤ second.lo))
    ((pos (first_square system) *ℤ other_first.lo)
    -ℤ (pos (second_square system) *ℤ other_second.hi))
    ((pos (first_square system) *ℤ other_first.hi)
    -ℤ (pos (second_square system) *ℤ other_second.lo))
    (squares_apart system)

-- both measured one code, or both two
abbrev pub AreNearWith : System → Wide → Option Wide → Wide → Option Wide → Type 0
AreNearWith system first None other None = AreNear first.lo first.hi other.lo other.hi 1
AreNearWith system first (Some second) other None = ⊥
AreNearWith system first None other (Some other_second) = ⊥
AreNearWith system first (Some second) other (Some other_second) =
    AreCombinationsNear system first second other other_second

abbrev pub AreCodesNear : System → Codes → Codes → Type 0
AreCodesNear system codes other = AreNearWith system codes.first codes.second other.first other.second

-- ---- both

-- the record is near for the receiver and for the station, whose satellite is of the same system,
-- and their pseudoranges aren't far apart, as they are where a clock is off
pub record AreNearby (view : CommonView) : Type 0 where
  pub receiver : HasNearRecord view.receiver
  pub station : HasNearRecord view.station
  pub system : view.station.system ≡ view.receiver.system
  pub codes : AreCodesNear view.receiver.system view.receiver.codes view.station.codes

-- the codes of both are within the range of a signal
pub record ArePlausibleCodes (view : CommonView) : Type 0 where
  pub receiver : ArePlausible view.receiver.system view.receiver.codes
  pub station : ArePlausible view.station.system view.station.codes

-- the pseudorange of a single difference is at most 55,600 km, in um: 5,000 km between the
-- pseudoranges, 3,100 km for each clock offset of the satellite, and a range of 44,400 km
abbrev pub difference_reach : ℕ
difference_reach = 556 * 10 ^ 11
