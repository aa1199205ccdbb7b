use Rattle.std.proofs.Common.{◌≡◌, arith, rules, refl, FitsSigned, w64}
use Rattle.std.specs.Prelude.{◌*ℤ◌}
use Rattle.std.specs.Int.{w128}
use Rattle.std.proofs.lemmas.Int.{ints, to_z-of_z}
use Rattle.grid_model.specs.Sizes.{IsWithin}
use Rattle.zone_guard.proofs.BeyondLemmas.{limit_times_within}
use Rattle.zone_guard.proofs.beyond.limit_times.Goals as goal

pub returns-clause-value : goal.returns-clause-value
returns-clause-value c =
    let f : FitsSigned w64 c.args.n = c.ranges.n in
    let g : FitsSigned w128 c.args.a = c.ranges.a in
    let h : FitsSigned w128 c.args.n = omega (arith, ints) in
    let i : FitsSigned w128 c.from.result = search rules in
    let e : c.from.result ≡ c.args.n = simp to_z-of_z at c.from.ensures in
    let w : IsWithin 104857600000000000001048576 (c.args.n *ℤ c.args.a) = limit_times_within c.args.n c.args.a c.requires.n c.requires.a in
    let p : FitsSigned w128 (c.args.n *ℤ c.args.a) = omega (arith, ints, w.low, w.high) in
    rw e (simp to_z-of_z refl)

pub returns-clause-bound : goal.returns-clause-bound
returns-clause-bound c =
    let w : IsWithin 104857600000000000001048576 (c.args.n *ℤ c.args.a) = limit_times_within c.args.n c.args.a c.requires.n c.requires.a in
    let v = returns-clause-value c in
    record { low = omega (arith, ints, w.low, w.high, v); high = omega (arith, ints, w.low, w.high, v) }
