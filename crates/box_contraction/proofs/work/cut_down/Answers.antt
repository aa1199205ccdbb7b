use Rattle.std.proofs.Common.{sym, subst, map}
use Rattle.grid_model.specs.Boxes.{grid_box, span_side}
use Rattle.sat_model.specs.Trees.{TreeValue, IsWellFormed}
use Rattle.range_contractor.specs.Views.{tree_value}
use Rattle.range_contractor.proofs.RowLemmas.{row_tree_well_formed}
use Rattle.relaxed_meet.specs.TestValues.{test_value}
use Rattle.box_contraction.specs.Adding.{step_value}
use Rattle.box_contraction.proofs.BoxLemmas.{cut_down_adds}
use Rattle.box_contraction.proofs.work.cut_down.Goals as goal

pub cut_by_tree-requires-clause-tree : goal.cut_by_tree-requires-clause-tree
cut_by_tree-requires-clause-tree g c =
    let I = g.met.I.Interval in
    let test = c.args.test.now in
    subst (λ (t : TreeValue). IsWellFormed t) (sym c.requires.tree) (row_tree_well_formed g.I.Interval.GRAIN test.rows.now test.q I.grain_low I.grain_high test.enough test.at_most)

pub returns-clause-cut : goal.returns-clause-cut
returns-clause-cut g c =
    cut_down_adds g.I.Interval.GRAIN g.I.Interval.SLACK (test_value c.args.test.now) (test_value c.cut_by_tree.new.test) (tree_value g.I.Interval.low g.I.Interval.high c.args.tree.now) (span_side c.args.hull)
    c.args.id (grid_box c.args.part.now) (grid_box c.cut_by_tree.new.part) (grid_box c.cut_rounds.new.part)
    (map step_value c.args.steps.now.items) (map step_value c.cut_by_tree.new.steps.items) (map step_value c.cut_rounds.new.steps.items)
    c.requires.tree c.cut_by_tree.ensures.same c.requires.hull c.cut_by_tree.ensures.cut c.cut_rounds.ensures.cut
