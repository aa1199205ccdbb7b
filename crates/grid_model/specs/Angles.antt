-- Angles in units of 10^-16 rad: the quarter of a turn that is nearest to an angle, and the rest.
use Rattle.std.specs.Prelude.{ℕ, ◌*◌, ◌^◌, ℤ, pos, ◌+ℤ◌, ◌-ℤ◌, ◌*ℤ◌}
use Rattle.std.specs.Int.{int_div_euclid}
use Rattle.grid_model.specs.Sizes.{IsWithin}

-- one, in units of an angle or a ratio
abbrev pub unit : ℕ
unit = 10 ^ 16

-- a quarter turn, pi / 2, in units of 10^-20 rad, cut off
abbrev pub quarter_turn : ℕ
quarter_turn = 157079632679489661923

-- the number of quarter turns that is nearest to x
abbrev pub quarter : ℤ → ℤ
quarter x = int_div_euclid (pos 20000 *ℤ x +ℤ pos quarter_turn) (pos (2 * quarter_turn))

-- r is x less its quarter turns, within one unit
pub record IsRest (x r : ℤ) : Type 0 where
  pub within : IsWithin 10000 ((pos 10000 *ℤ (x -ℤ r)) -ℤ (quarter x *ℤ pos quarter_turn))
