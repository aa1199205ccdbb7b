-- How far the sine is spread over a box. All numbers are natural; one is 10^16.
use Rattle.std.proofs.Common.{◌≡◌, ℕ, ◌+◌, ◌*◌, ◌/◌, ◌^◌, ◌≤◌, arith, inl, inr}
use Rattle.std.proofs.lemmas.Bool.{cases_lt}
use Rattle.std.proofs.lemmas.Nat.{mul-le}
use Rattle.grid_model.specs.Angles.{unit}
use Rattle.elevation_mapping.specs.SineSizes.{sine_slope, least_up, least_range}

pub cancel : (a b v : ℕ) → 1 ≤ v → a * v ≤ b * v → a ≤ b
cancel a b v p h = elim (cases_lt b a) [
  | inl less ↦ absurd (omega (arith, mul-le (b + 1) v a v (omega arith) (omega arith), h))
  | inr not_less ↦ omega arith
]

-- ---- the relative widths of both lengths, for a box whose longest side is d

abbrev pub up_slope : ℕ → ℕ
up_slope d = 3000 * d + 10 ^ 6

abbrev pub line_slope : ℕ → ℕ
line_slope d = 3501 * d + 8 * 10 ^ 6

pub slopes_sum : (d : ℕ) → up_slope d + line_slope d ≡ sine_slope d
slopes_sum d = omega arith

pub line_spread : (d r : ℕ) → least_range ≤ r
    → (7 * (d + (2000 + d / 40000)) + 8) * unit ≤ 4 * (line_slope d * r)
line_spread d r h = omega (arith, mul-le (line_slope d) least_range (line_slope d) r (omega arith) h)

pub up_spread : (d v : ℕ) → least_up ≤ v → (7 * (d + d / 148 + 5) + 8) * unit ≤ 4 * (up_slope d * v)
up_spread d v h = omega (arith, mul-le (up_slope d) least_up (up_slope d) v (omega arith) h)

pub line_small : (d r : ℕ) → d ≤ 2 * 10 ^ 11 → least_range ≤ r
    → 3 * (7 * (d + (2000 + d / 40000)) + 8) ≤ r
line_small d r k h = omega arith

pub up_small : (d v : ℕ) → d ≤ 2 * 10 ^ 11 → least_up ≤ v → 3 * (7 * (d + d / 148 + 5) + 8) ≤ v
up_small d v k h = omega arith

-- e: how wide each axis is, w the length, by which the slope p is meant
pub length_slope : (e w p r : ℕ) → 4 * w ≤ 7 * e + 4 → (7 * e + 8) * unit ≤ 4 * (p * r)
    → unit * w ≤ p * r
length_slope e w p r h k = omega (arith, h, k)

pub length_small : (e w r : ℕ) → 4 * w ≤ 7 * e + 4 → 3 * (7 * e + 8) ≤ r → 12 * (w + 1) ≤ r
length_small e w r h k = omega arith

-- amounts of three axes that add up to s, of a vector at most v + w long, times e
pub axes_spread : (s e v w p r : ℕ) → 4 * s ≤ 7 * (v + w + 1) → 12 * (w + 1) ≤ v
    → (7 * e + 8) * unit ≤ 4 * (p * r) → 12 * (s * e * unit) ≤ 13 * (v * (p * r))
axes_spread s e v w p r h k m =
    let i = mul-le (48 * s) (7 * e * unit) (91 * v) (4 * (p * r)) (omega arith) (omega (arith, m)) in
    omega (arith, i)

-- ---- the two quotients

pub inner_step : (n s e t f p q r v : ℕ) → n ≤ s * e + t * f + 12
    → 12 * (s * e * unit) ≤ 13 * (v * (p * r)) → 12 * (t * f * unit) ≤ 13 * (r * (q * v))
    → 12 * (unit * n) ≤ 13 * ((p + q) * r * v) + 144 * unit
inner_step n s e t f p q r v h a b = omega (arith, h, a, b)

pub height_step : (w n g x p q r v : ℕ) → least_up ≤ v → w * v ≤ (g + 2) * x + n + 4 * v
    → unit * x ≤ q * v → 12 * (unit * n) ≤ 13 * ((p + q) * r * v) + 144 * unit
    → 12 * (unit * w) ≤ 12 * ((g + 2) * q) + 13 * ((p + q) * r) + 49 * unit
height_step w n g x p q r v l h k i =
    let j = mul-le (g + 2) (unit * x) (g + 2) (q * v) (omega arith) k in
    cancel (12 * (unit * w)) (12 * ((g + 2) * q) + 13 * ((p + q) * r) + 49 * unit) v (omega arith) (omega (arith, h, i, j))

pub scaled_step : (w g s p q r : ℕ) → g * unit ≤ s * r
    → 12 * (unit * w) ≤ 12 * ((g + 2) * q) + 13 * ((p + q) * r) + 49 * unit
    → 12 * (unit * unit * w) ≤ 12 * (s * r * q) + 24 * unit * q + 13 * unit * ((p + q) * r) + 49 * unit * unit
scaled_step w g s p q r h k =
    let i = mul-le (g * unit) q (s * r) q h (omega arith) in
    omega (arith, i, k)

pub sine_step : (z w g s x p q r : ℕ) → least_range ≤ r → z * r ≤ (s + 2) * x + unit * w + 4 * r
    → unit * x ≤ p * r
    → 12 * (unit * unit * w) ≤ 12 * (s * r * q) + 24 * unit * q + 13 * unit * ((p + q) * r) + 49 * unit * unit
    → z * unit ≤ (p + q) * (s + 109 * 10 ^ 14) + 10004 * unit
sine_step z w g s x p q r l h k i =
    let j = mul-le (s + 2) (unit * x) (s + 2) (p * r) (omega arith) k in
    let a = mul-le least_range q r q l (omega arith) in
    let c = cancel (12 * (z * unit)) (12 * (s * (p + q)) + 24 * p + 48000 * q + 13 * unit * (p + q) + 98048 * unit) r (omega arith) (omega (arith, h, i, j, a)) in
    omega (arith, c)
