-- A sum and a direction as plain numbers.
use Rattle.std.specs.Prelude.{ℕ, pos, ◌*ℤ◌}
use Rattle.sat_model.specs.Pairs.{FormValue}
use Rattle.sat_model.specs.declared.half_spaces.HalfSpace.{HalfSpace}
use Rattle.row_sums.specs.declared.form_sum.FormSum.{FormSum}
use Rattle.sat_model.specs.HalfSpaces.{SumValue}

abbrev pub sum_value : FormSum → SumValue
sum_value s = record { multipliers = s.multipliers; x = s.x; y = s.y; z = s.z; most = s.most }

-- the sum's slopes as those of a form
abbrev pub slope_form : SumValue → FormValue
slope_form s = record { x = s.x; y = s.y; z = s.z; upper = s.most; lower = s.most }

-- and those of the direction, so many times
abbrev pub aim_form : ℕ → HalfSpace → FormValue
aim_form aim h = record {
  x = pos aim *ℤ h.x;
  y = pos aim *ℤ h.y;
  z = pos aim *ℤ h.z;
  upper = pos 0;
  lower = pos 0;
}
