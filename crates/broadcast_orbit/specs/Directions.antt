-- Angles that are kept as the intervals of their cosine and sine.
use Rattle.std.specs.Prelude.{ℕ, ◌*◌, ℤ}
use Rattle.fix_interval.specs.Factors.{Holds, HasEnds, Spread}
use Rattle.broadcast_orbit.specs.declared.directions.Direction.{Direction}

pub record HoldsDirection (a : Direction) (c s : ℤ) : Type 0 where
  pub cosine : Holds a.cosine c
  pub sine : Holds a.sine s

-- both are at most n in amount and w wide
pub record DirectionEnds (n w : ℕ) (a : Direction) : Type 0 where
  pub cosine : HasEnds n w a.cosine
  pub sine : HasEnds n w a.sine

abbrev pub DirectionAmount : ℕ → Direction → Type 0
DirectionAmount n a = DirectionEnds n (2 * n) a

-- the products of the sum of two angles: those with the cosine of b are at most k, those with its
-- sine at most l
pub record DirectionSpread (k j l i : ℕ) (a b : Direction) : Type 0 where
  pub cosines : Spread k j a.cosine b.cosine
  pub sines : Spread l i a.sine b.sine
  pub sine_cosine : Spread k j a.sine b.cosine
  pub cosine_sine : Spread l i a.cosine b.sine
