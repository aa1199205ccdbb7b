-- How large the numbers of one round are, and how far those of one result may be apart. The clauses
-- of `range` cite how large a turned place and a range are, and how wide a range is. Lengths are in
-- um; angles, sines and cosines in 10^-16.
use Rattle.std.specs.Prelude.{ℕ, ◌+◌, ◌*◌, ◌/◌, ◌^◌}
use Rattle.grid_model.specs.Angles.{unit}
use Rattle.grid_model.specs.Boxes.{GridBox}
use Rattle.grid_model.specs.Lengths.{longest_length}
use Rattle.earth_rotation.specs.TurnSizes.{narrow_width}

-- a coordinate after a turn
abbrev pub turned_reach : ℕ
turned_reach = 61 * 10 ^ 12

-- from a turned place to a point of a box
abbrev pub range_amount : ℕ
range_amount = 123 * 10 ^ 12

-- by which the earth turns meanwhile
abbrev pub angle_amount : ℕ
angle_amount = 3 * 10 ^ 11

abbrev pub sine_amount : ℕ
sine_amount = 10 ^ 12

abbrev pub cosine_amount : ℕ
cosine_amount = unit + 8

-- the range to the points of a box, from a place w wide: the root of three of the sides, a little
-- more
abbrev pub range_width : GridBox → ℕ → ℕ
range_width part w = 7 * (longest_length part + w) / 4 + 1

-- the angle and its sine, for a range v wide
abbrev pub angle_width : ℕ → ℕ
angle_width v = v / 400 + 5

abbrev pub sine_width : ℕ → ℕ
sine_width v = angle_width v + 16

-- the cosine, for a sine w wide
abbrev pub cosine_width : ℕ → ℕ
cosine_width w = w / 5000 + 33

-- a coordinate of a satellite's place, turned over a range v wide
abbrev pub turned_width : ℕ → ℕ
turned_width v = v / 75000 + 1016

-- the range from a place that was turned in two rounds, to the points of a box
abbrev pub seen_width : GridBox → ℕ
seen_width part = range_width part (turned_width (range_width part
    (turned_width (range_width part narrow_width))))
