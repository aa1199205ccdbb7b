use Rattle.std.proofs.Common.{◌≡◌, arith, to_z, of_z, w64}
use Rattle.std.specs.Prelude.{pos, ◌+ℤ◌}
use Rattle.std.proofs.lemmas.Int.{ints}
use Rattle.fix_interval.proofs.GrainLemmas.{root_up_same, root_up_next, root_fits}
use Rattle.fix_interval.proofs.grains.root_above.Goals as goal

pub returns-then-left-root : goal.returns-then-left-root
returns-then-left-root c =
    let f = root_fits c.args.area c.root_u64-root.result c.root_u64-root.ensures c.ranges.area.fits in
    let e : to_z w64 (of_z w64 (to_z w64 c.root_u64-root.result +ℤ pos 1)) ≡ pos c.root_u64-root.result +ℤ pos 1 = omega (arith, ints) in
    rw e (root_up_next c.args.area _ c.root_u64-root.ensures c.if-left-root.true)

pub returns-else-left-root : goal.returns-else-left-root
returns-else-left-root c =
    let f = root_fits c.args.area c.root_u64-root.result c.root_u64-root.ensures c.ranges.area.fits in
    let e : to_z w64 c.root_u64-root.result ≡ pos c.root_u64-root.result = omega (arith, ints) in
    rw e (root_up_same c.args.area _ c.root_u64-root.ensures c.if-left-root.false)
