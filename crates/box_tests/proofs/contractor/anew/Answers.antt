use Rattle.std.proofs.Common.{sym, subst}
use Rattle.sat_model.specs.Trees.{IsWellFormed}
use Rattle.range_contractor.proofs.RowLemmas.{row_tree_well_formed}
use Rattle.box_tests.proofs.contractor.anew.Goals as goal

pub refresh-requires : goal.refresh-requires
refresh-requires g c = (c.args.q, c.args.before.now, c.requires.same, c.in_ok-tree.ensures.tree)

pub returns : goal.returns
returns g c =
    let I = g.I.Interval in
    subst IsWellFormed (sym (c.refresh.ensures c.args.q c.args.before.now c.requires.same c.in_ok-tree.ensures.tree)) (row_tree_well_formed I.GRAIN c.args.rows.now c.args.q g.met.I.Interval.grain_low g.met.I.Interval.grain_high c.requires.many.0 c.requires.many.1)
