use Rattle.std.proofs.Common.{◌≡◌, arith, to_z, of_z, w64}
use Rattle.std.specs.Prelude.{pos, ◌-ℤ◌, neg_ℤ}
use Rattle.std.proofs.lemmas.Int.{ints}
use Rattle.grid_model.proofs.RoundingLemmas.{grain_between}
use Rattle.fix_interval.proofs.coarse_interval.CoarseInterval.of.Goals as goal

pub invariant_of-result : goal.invariant_of-result
invariant_of-result c =
    let a : to_z w64 (of_z w64 c.args.lo) ≡ c.args.lo = omega (arith, ints) in
    let b : to_z w64 (of_z w64 (pos 0 -ℤ to_z w64 (of_z w64 c.args.hi))) ≡ neg_ℤ c.args.hi = omega (arith, ints) in
    let l = grain_between (pos 65536) c.args.lo (record { le = tt }) in
    let h = grain_between (pos 65536) c.args.hi (record { le = tt }) in
    let s = c.grains_below.ensures.size in
    let t = c.grains_below-2.ensures.size in
    record { ordered = omega (arith, ints, l.0, h.1, c.requires.ordered, rw a at c.grains_below.ensures.floor, rw b at c.grains_below-2.ensures.floor) }

pub returns-clause-high : goal.returns-clause-high
returns-clause-high c =
    let b : to_z w64 (of_z w64 (pos 0 -ℤ to_z w64 (of_z w64 c.args.hi))) ≡ neg_ℤ c.args.hi = omega (arith, ints) in
    let t = c.grains_below-2.ensures.size in
    omega (arith, ints, rw b at c.grains_below-2.ensures.floor)
