-- Intervals as factors: what they hold, and how their products spread. One is 10^16 units.
use Rattle.std.specs.Prelude.{ℕ, ◌+◌, ◌*◌, ◌^◌, ◌≤◌, ℤ}
use Rattle.grid_model.specs.Angles.{unit}
use Rattle.grid_model.specs.Intervals.{Between, Ends}
use Rattle.fix_interval.specs.declared.exact.Exact.{Exact}

-- x is a member
abbrev pub Holds : Exact → ℤ → Type 0
Holds a x = Between a.lo a.hi x

-- the ends are at most n in amount and at most w apart
abbrev pub HasEnds : ℕ → ℕ → Exact → Type 0
HasEnds n w a = Ends n w a.lo a.hi

-- the ends are at most n in amount, so that they are at most twice that apart
abbrev pub HasAmount : ℕ → Exact → Type 0
HasAmount n a = HasEnds n (2 * n) a

-- how large a factor may be
abbrev pub factor_bound : ℕ
factor_bound = 10 ^ 18

-- products of members, over one, are at most k in amount and at most j apart: by the amounts m and
-- n and the widths v and w of the factors
pub record Spread (k j : ℕ) (a b : Exact) : Type 0 where
  pub m : ℕ
  pub v : ℕ
  pub n : ℕ
  pub w : ℕ
  pub left : HasEnds m v a
  pub right : HasEnds n w b
  pub amount : m * n ≤ k * unit
  pub width : m * w + n * v ≤ j * unit
