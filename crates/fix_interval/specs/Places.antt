-- What a place holds, and how large and how wide its coordinates are.
use Rattle.std.specs.Prelude.{ℕ, ◌*◌, ℤ}
use Rattle.fix_interval.specs.Factors.{Holds, HasEnds}
use Rattle.fix_interval.specs.declared.place.Place.{Place}

pub record HoldsPlace (a : Place) (x y z : ℤ) : Type 0 where
  pub x_held : Holds a.x x
  pub y_held : Holds a.y y
  pub z_held : Holds a.z z

-- the ends of each coordinate are at most n in amount and at most w apart
pub record PlaceEnds (n w : ℕ) (a : Place) : Type 0 where
  pub x_ends : HasEnds n w a.x
  pub y_ends : HasEnds n w a.y
  pub z_ends : HasEnds n w a.z

-- the ends are at most n in amount
abbrev pub PlaceAmount : ℕ → Place → Type 0
PlaceAmount n a = PlaceEnds n (2 * n) a
