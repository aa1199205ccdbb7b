use Rattle.std.proofs.Common.{◌≡◌, arith, to_z, of_z, w64}
use Rattle.std.proofs.lemmas.Int.{ints}
use Rattle.fix_interval.proofs.GrainLemmas.{least_square_scaled, greatest_square_scaled}
use Rattle.fix_interval.proofs.coarse_interval.CoarseInterval.square.Goals as goal

pub returns-clause-low : goal.returns-clause-low
returns-clause-low c =
    let l : to_z w64 (of_z w64 c.args.self.lo) ≡ c.args.self.lo = omega (arith, ints) in
    let h : to_z w64 (of_z w64 c.args.self.hi) ≡ c.args.self.hi = omega (arith, ints) in
    least_square_scaled c.args.self.lo c.args.self.hi _ (rw (l, h) at c.least_amount-lo.ensures.value)

pub returns-clause-high : goal.returns-clause-high
returns-clause-high c =
    let l : to_z w64 (of_z w64 c.args.self.lo) ≡ c.args.self.lo = omega (arith, ints) in
    let h : to_z w64 (of_z w64 c.args.self.hi) ≡ c.args.self.hi = omega (arith, ints) in
    greatest_square_scaled c.args.self.lo c.args.self.hi _ (rw (l, h) at c.greatest_amount-hi.ensures.value)
