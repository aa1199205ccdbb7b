-- The values of sine and cosine at an angle: those of the function that its quarter names, at a
-- rest.
use Rattle.std.specs.Prelude.{ℕ, zero, suc, ◌*◌, ℤ, pos, ◌+ℤ◌, ◌*ℤ◌, neg_ℤ, nat_abs}
use Rattle.std.specs.Int.{int_rem_euclid}
use Rattle.grid_model.specs.Intervals.{Close}
use Rattle.grid_model.specs.Angles.{unit, quarter, IsRest}
use Rattle.grid_model.specs.Taylor.{SineAt, CosineAt}

-- by the quarter's number modulo 4: sin r, cos r, -sin r, -cos r
abbrev pub by_quarter : ℕ → ℤ → ℤ → Type 0
by_quarter zero r s = SineAt r s
by_quarter (suc zero) r s = CosineAt r s
by_quarter (suc (suc zero)) r s = SineAt r (neg_ℤ s)
by_quarter (suc (suc (suc n))) r s = CosineAt r (neg_ℤ s)

-- a number modulo 4, from 0 to 3
abbrev pub modulo_4 : ℤ → ℕ
modulo_4 k = nat_abs (int_rem_euclid k (pos 4))

-- s is a value of the sine of x
unfoldable pub Sine : ℤ → ℤ → Type 0
Sine x s = (r : ℤ) × IsRest x r × by_quarter (modulo_4 (quarter x)) r s

-- s is a value of the cosine of x: of the sine one quarter on
unfoldable pub Cosine : ℤ → ℤ → Type 0
Cosine x s = (r : ℤ) × IsRest x r × by_quarter (modulo_4 (quarter x +ℤ pos 1)) r s

-- s^2 + c^2 is one, within 16 units
abbrev pub NearCircle : ℤ → ℤ → Type 0
NearCircle s c = Close (16 * unit) ((s *ℤ s) +ℤ (c *ℤ c)) (pos (unit * unit))
