-- How large the coordinates of a place may be that is turned, and how large they are afterwards, in
-- um.
use Rattle.std.specs.Prelude.{ℕ, ◌+◌, ◌*◌, ◌/◌, ◌^◌}

-- a coordinate before the turn
abbrev pub turn_reach : ℕ
turn_reach = 6 * 10 ^ 13

-- a coordinate after the turn that was at most n before it
abbrev pub reach_after : ℕ → ℕ
reach_after n = n + n / 1000 + 10

-- a coordinate of a satellite: 52,300 km
abbrev pub near_reach : ℕ
near_reach = 52300 * 10 ^ 9

-- how wide it is
abbrev pub narrow_width : ℕ
narrow_width = 1000
