-- How the widths of the turn follow one from the other.
use Rattle.std.proofs.Common.{ℕ, ◌+◌, ◌*◌, ◌/◌, ◌^◌, ◌≤◌, arith}
use Rattle.std.specs.Prelude.{pos, ◌*ℤ◌, ◌≤ℤ◌}
use Rattle.std.proofs.lemmas.Int.{ints}
use Rattle.grid_model.specs.Angles.{unit}
use Rattle.gnss_model.specs.EarthModel.{earth_rate, light_speed}
use Rattle.earth_rotation.specs.TurnSizes.{near_reach, narrow_width, turn_reach, reach_after}
use Rattle.earth_rotation.specs.RoundSizes.{range_amount, sine_amount, cosine_amount, sine_width, cosine_width, turned_width}

pub rate_spread : (v : ℕ)
    → pos (earth_rate * v + range_amount * 0) ≤ℤ (pos (v / 400 + 1) *ℤ pos (light_speed * 10 ^ 12))
rate_spread v = omega (arith, ints)

-- ---- the two products of a turned coordinate

pub cosine_reach : (n : ℕ) → n ≤ turn_reach → n * cosine_amount ≤ (n + 1) * unit
cosine_reach n h = omega arith

pub sine_reach : (n : ℕ) → n * sine_amount ≤ (n / 10000 + 1) * unit
sine_reach n = omega arith

pub reach_sum : (n : ℕ) → (n + 1 + 2) + (n / 10000 + 1 + 2) ≤ reach_after n
reach_sum n = omega arith

pub cosine_spread : (w : ℕ)
    → near_reach * w + cosine_amount * narrow_width ≤ (w / 191 + 1002) * unit
cosine_spread w = omega arith

pub sine_spread : (w : ℕ) → near_reach * w + sine_amount * narrow_width ≤ (w / 191 + 2) * unit
sine_spread w = omega arith

pub turned_spread : (v : ℕ)
    → (cosine_width (sine_width v) / 191 + 1002 + 4) + (sine_width v / 191 + 2 + 4) ≤ turned_width v
turned_spread v = omega arith

-- ---- two rounds

pub second_spread : (d : ℕ)
    → turned_width (7 * (d + turned_width (7 * (d + narrow_width) / 4 + 1)) / 4 + 1) ≤ 2000 + d / 40000
second_spread d = omega arith
