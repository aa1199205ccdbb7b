-- How large the numbers are from which the sine of an elevation and a slant are made, and how far
-- the sine is spread over a box. Lengths are in um, sines and slants in 10^-16.
use Rattle.std.specs.Prelude.{ℕ, ◌+◌, ◌*◌, ◌^◌}
use Rattle.grid_model.specs.Angles.{unit}
use Rattle.gnss_model.specs.declared.delays.Layer.{Layer}
use Rattle.gnss_model.specs.declared.delays.Layer.TheVariants.{Troposphere, Ionosphere}

-- a part of the up direction: a coordinate of a point, z raised
abbrev pub up_amount : ℕ
up_amount = 11 * 10 ^ 12

-- from a point to a turned place, on an axis
abbrev pub offset_amount : ℕ
offset_amount = 71 * 10 ^ 12

-- the length of such a line
abbrev pub length_amount : ℕ
length_amount = 123 * 10 ^ 12

-- the inner product of an up direction and a line
abbrev pub inner_amount : ℕ
inner_amount = 3 * 10 ^ 27

-- that over the length of the up direction: how far up the line goes
abbrev pub height_amount : ℕ
height_amount = 10 ^ 15

-- a sine, each axis taken for itself
abbrev pub sine_amount : ℕ
sine_amount = 3 * 10 ^ 18

-- the least lengths of an up direction and of a line
abbrev pub least_up : ℕ
least_up = 5900 * 10 ^ 9

abbrev pub least_range : ℕ
least_range = 5000 * 10 ^ 9

-- by the root of three, or 7 / 4, over each of the least lengths, and a little more: for a box
-- whose longest side is d
abbrev pub sine_slope : ℕ → ℕ
sine_slope d = 6501 * d + 9 * 10 ^ 6

-- how far a sine is spread over such a box whose greatest amount there is s, times one
abbrev pub sine_spread : ℕ → ℕ → ℕ
sine_spread d s = sine_slope d * (s + 109 * 10 ^ 14) + 10020 * unit

-- a little less than the root of a layer's floor, which is its least slant
abbrev pub least_slant : Layer → ℕ
least_slant Troposphere = 44 * 10 ^ 13
least_slant Ionosphere = 318 * 10 ^ 13

-- a slant, each axis of the sine taken for itself
abbrev pub slant_amount : ℕ
slant_amount = 4 * 10 ^ 18
