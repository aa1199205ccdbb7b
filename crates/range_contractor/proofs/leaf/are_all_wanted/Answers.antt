use Rattle.std.proofs.Common.{arith}
use Rattle.std.proofs.lemmas.Int.{ints}
use Rattle.std.proofs.lemmas.Bool.{leb-true}
use Rattle.grid_model.specs.Boxes.{grid_box, span_side}
use Rattle.range_contractor.specs.Views.{leaf_value}
use Rattle.range_contractor.proofs.WantedLemmas.{near_from, far_to}
use Rattle.range_contractor.proofs.leaf.are_all_wanted.Goals as goal

pub returns-clause-low : goal.returns-clause-low
returns-clause-low g c = λ yes.
    let I = g.I.Interval in
    let near = near_from (leaf_value I.low I.high c.args.leaf.now) (grid_box c.args.part.now) (span_side c.ends_of-x.result) (span_side c.ends_of-y.result) (span_side c.ends_of-z.result)
    c.from-least.result c.near_square_of.result c.ends_of-x.ensures c.ends_of-y.ensures c.ends_of-z.ensures c.near_square_of.ensures.value (leb-true _ _ yes) in
    omega (arith, ints, near, c.from-least.ensures, c.requires.natural)

pub returns-clause-high : goal.returns-clause-high
returns-clause-high g c = λ yes.
    let I = g.I.Interval in
    let far = far_to (leaf_value I.low I.high c.args.leaf.now) (grid_box c.args.part.now) (span_side c.ends_of-x.result) (span_side c.ends_of-y.result) (span_side c.ends_of-z.result)
    c.from-most.result c.far_square_of.result c.ends_of-x.ensures c.ends_of-y.ensures c.ends_of-z.ensures c.far_square_of.ensures.value (omega (arith, c.if-far_square_of-most.false)) in
    omega (arith, ints, far, c.from-most.ensures, c.requires.natural, c.args.ranges.now.ordered)
