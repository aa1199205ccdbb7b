-- How far a receiver of a declared greatest speed comes between two epochs.
use Rattle.std.specs.Prelude.{ℕ, ◌*◌, ◌^◌, ◌≤◌, min, ℤ, ◌-ℤ◌, unsigned_abs}
use Rattle.std.specs.Int.{div_ceil}
use Rattle.grid_model.specs.Squares.{sum_of_squares}
use Rattle.grid_model.specs.Amounts.{square}
use Rattle.grid_model.specs.declared.boxes.Pos.{Pos}

-- the greatest speed that may be declared: 1 km/s, in mm/s
abbrev pub fastest : ℕ
fastest = 1000000

-- more than any search box is long, in um
abbrev pub longest_reach : ℕ
longest_reach = 4 * 10 ^ 11

-- so many um at this speed in mm/s between two times in ps, rounded up; the epochs of a file
-- needn't rise in time
abbrev pub reach_of : ℕ → ℤ → ℤ → ℕ
reach_of speed from to = div_ceil (1000 * speed * unsigned_abs (to -ℤ from)) (10 ^ 12)

-- the same, and no more than any search box is long
abbrev pub short_reach : ℕ → ℤ → ℤ → ℕ
short_reach speed from to = min (reach_of speed from to) longest_reach

-- q is at most so far from p: the squared distance is at most the squared reach
abbrev pub IsWithinReach : ℕ → Pos → Pos → Type 0
IsWithinReach reach p q =
    sum_of_squares (q.x -ℤ p.x) (q.y -ℤ p.y) (q.z -ℤ p.z) ≤ square reach
