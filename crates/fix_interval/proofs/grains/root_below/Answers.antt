use Rattle.std.proofs.Common.{◌≡◌, arith, to_z, w64}
use Rattle.std.specs.Prelude.{pos}
use Rattle.std.proofs.lemmas.Int.{ints}
use Rattle.fix_interval.proofs.GrainLemmas.{root_down, root_fits}
use Rattle.fix_interval.proofs.grains.root_below.Goals as goal

pub returns : goal.returns
returns c =
    let f = root_fits c.args.area c.root_u64.result c.root_u64.ensures c.ranges.area.fits in
    let e : to_z w64 c.root_u64.result ≡ pos c.root_u64.result = omega (arith, ints) in
    rw e (root_down c.args.area _ c.root_u64.ensures)
