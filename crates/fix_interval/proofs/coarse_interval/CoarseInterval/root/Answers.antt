use Rattle.std.proofs.Common.{◌*◌, arith}
use Rattle.std.specs.Prelude.{pos}
use Rattle.std.proofs.lemmas.Int.{ints}
use Rattle.grid_model.specs.Roots.{root}
use Rattle.grid_model.proofs.RootLemmas.{root_is}
use Rattle.grid_model.proofs.SquareLemmas.{root_between}
use Rattle.fix_interval.proofs.coarse_interval.CoarseInterval.root.Goals as goal

pub invariant_of-result : goal.invariant_of-result
invariant_of-result c =
    let b = root_between (pos 65536) (c.args.a.lo * 4294967296) (c.args.a.hi * 4294967296) (c.args.a.lo * 4294967296) (root (c.args.a.lo * 4294967296)) (record { le = tt }) (omega arith) (omega (arith, c.args.a.ordered)) (root_is _) in
    record { ordered = omega (arith, ints, b.from, b.to, c.root_below.ensures, c.root_above.ensures) }
