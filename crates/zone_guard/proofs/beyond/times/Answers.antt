use Rattle.std.proofs.Common.{arith, refl, FitsSigned, w64}
use Rattle.std.specs.Prelude.{◌*ℤ◌}
use Rattle.std.proofs.lemmas.Int.{ints, to_z-of_z}
use Rattle.grid_model.specs.Sizes.{IsWithin}
use Rattle.zone_guard.proofs.BeyondLemmas.{times_within}
use Rattle.zone_guard.proofs.beyond.times.Goals as goal

pub returns-clause-value : goal.returns-clause-value
returns-clause-value c =
    let f : FitsSigned w64 c.args.n = c.ranges.n in
    let g : FitsSigned w64 c.args.a = c.ranges.a in
    let w : IsWithin 1099511627776 (c.args.n *ℤ c.args.a) = times_within c.args.n c.args.a c.requires.n c.requires.a in
    let p : FitsSigned w64 (c.args.n *ℤ c.args.a) = omega (arith, ints, w.low, w.high) in
    simp to_z-of_z refl

pub returns-clause-bound : goal.returns-clause-bound
returns-clause-bound c =
    let w : IsWithin 1099511627776 (c.args.n *ℤ c.args.a) = times_within c.args.n c.args.a c.requires.n c.requires.a in
    let v = returns-clause-value c in
    record { low = omega (arith, ints, w.low, w.high, v); high = omega (arith, ints, w.low, w.high, v) }
