-- The ends of intervals that are counted in grains of 65,536 um.
use Rattle.std.proofs.Common.{ℕ, ◌*◌, ◌≤◌, arith}
use Rattle.std.specs.Prelude.{ℤ, pos, ◌*ℤ◌, ◌≤ℤ◌}
use Rattle.std.proofs.lemmas.Int.{ints}
use Rattle.fix_interval.specs.declared.coarse.Coarse.{Coarse}

-- in um
abbrev pub coarse_low : Coarse → ℤ
coarse_low x = x.lo *ℤ pos 65536

abbrev pub coarse_high : Coarse → ℤ
coarse_high x = x.hi *ℤ pos 65536

-- they are in order where the counts are
pub grains_ordered : (lo hi : ℤ) → lo ≤ℤ hi → (lo *ℤ pos 65536) ≤ℤ (hi *ℤ pos 65536)
grains_ordered lo hi h = omega (arith, ints)

pub areas_ordered : (lo hi : ℕ) → lo ≤ hi → (lo * 4294967296) ≤ (hi * 4294967296)
areas_ordered lo hi h = omega arith
