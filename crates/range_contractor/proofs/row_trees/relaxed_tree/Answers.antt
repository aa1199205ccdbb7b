use Rattle.std.proofs.Common.{ap, ◌∙◌, sym, subst}
use Rattle.std.proofs.lemmas.List.{take_all}
use Rattle.sat_model.specs.Trees.{Relaxed, Again, IsWellFormed, trees_of}
use Rattle.range_contractor.specs.Views.{tree_value}
use Rattle.range_contractor.proofs.ViewLemmas.{view_relaxed, view_again}
use Rattle.range_contractor.proofs.RowLemmas.{row_tree_well_formed}
use Rattle.range_contractor.proofs.row_trees.relaxed_tree.Goals as goal

pub returns-clause-tree : goal.returns-clause-tree
returns-clause-tree g c =
    let I = g.I.Interval in
    let all = take_all c.loop-row.row-index c.args.rows.now c.loop-row-test.false in
    let kids = rw all at c.loop-row.invariant in
    view_again I.low I.high 2 c.in_ok-kid.kid ∙ ap (λ t. Again 2 t)
    (ap (λ t. tree_value I.low I.high t) c.in_ok-kid.ensures.ok ∙ view_relaxed I.low I.high c.args.q c.loop-row.kids ∙ ap (λ ts. Relaxed c.args.q (trees_of ts)) kids)

pub returns-clause-well_formed : goal.returns-clause-well_formed
returns-clause-well_formed g c =
    let I = g.I.Interval in
    subst IsWellFormed (sym (returns-clause-tree g c)) (row_tree_well_formed I.GRAIN c.args.rows.now c.args.q g.met.I.Interval.grain_low g.met.I.Interval.grain_high c.requires.0 c.requires.1)
