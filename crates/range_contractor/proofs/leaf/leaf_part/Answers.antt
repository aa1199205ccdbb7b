use Rattle.std.proofs.Common.{◌+◌, refl, sym, subst, Some}
use Rattle.grid_model.specs.Boxes.{Side, GridBox, grid_box, span_side}
use Rattle.sat_model.specs.Trees.{Sat}
use Rattle.sat_model.specs.TightFaces.{IsTightAnswer}
use Rattle.sat_model.specs.Proposals.{Keeps}
use Rattle.range_contractor.specs.Sides.{IsKept}
use Rattle.range_contractor.specs.Views.{leaf_value}
use Rattle.range_contractor.proofs.LeafLemmas.{Measures, measures, measured, box_sizes, IsOrderedLeaf, none_wanted, none_on_x, none_on_y, none_on_z, leaf_keeps, leaf_answer}
use Rattle.range_contractor.proofs.BoxLemmas.{box_lies}
use Rattle.range_contractor.proofs.WantedLemmas.{whole_box}
use Rattle.range_contractor.proofs.leaf.leaf_part.Goals as goal

pub returns-in_default : goal.returns-in_default
returns-in_default g c =
    let I = g.I.Interval in
    (none_wanted (leaf_value I.low I.high c.args.leaf.now) (span_side c.args.clock.now) (grid_box c.args.part.now) c.requires (box_sizes c.args.part.now) (c.in_default.ensures.none refl), tt)

pub returns-then-are_all_wanted : goal.returns-then-are_all_wanted
returns-then-are_all_wanted g c =
    let I = g.I.Interval in
    let leaf = leaf_value I.low I.high c.args.leaf.now in
    let ordered : IsOrderedLeaf leaf (grid_box c.args.part.now) = record {
      x = g.met.I.Interval.ordered c.args.leaf.now.x;
      y = g.met.I.Interval.ordered c.args.leaf.now.y;
      z = g.met.I.Interval.ordered c.args.leaf.now.z;
      part_x = c.args.part.now.x_ordered;
      part_y = c.args.part.now.y_ordered;
      part_z = c.args.part.now.z_ordered;
    } in
    whole_box I.GRAIN I.SLACK leaf (span_side c.args.clock.now) (grid_box c.args.part.now) c.in-Some.ranges.lo c.in-Some.ranges.hi g.met.I.Interval.grain_low g.met.I.Interval.slack ordered
    c.in-Some.ensures.some (c.are_all_wanted.ensures.low c.if-are_all_wanted.true) (c.are_all_wanted.ensures.high c.if-are_all_wanted.true) (box_lies c.args.part.now)

pub returns-in_default-side_kept : goal.returns-in_default-side_kept
returns-in_default-side_kept g c =
    let I = g.I.Interval in
    let leaf = leaf_value I.low I.high c.args.leaf.now in
    let part = grid_box c.args.part.now in
    let clock = span_side c.args.clock.now in
    let m : Measures = measures I.area_low I.area_high c.in-Some.ranges c.range_squares-squares.result c.difference_squares-x_squares.result c.difference_squares-y_squares.result c.difference_squares-z_squares.result in
    let is = measured I.GRAIN leaf clock part _ _ _ m g.met.I.Interval.grain_low c.in-Some.ensures.some c.range_squares-squares.ensures.squares c.side_of-x.ensures.side c.side_of-y.ensures.side c.side_of-z.ensures.side
    c.difference_squares-x_squares.ensures.squares c.difference_squares-y_squares.ensures.squares c.difference_squares-z_squares.ensures.squares in
    (none_on_x I.GRAIN leaf clock part _ m is c.requires (box_sizes c.args.part.now) c.side_of-x.ensures.side (c.in_default-side_kept.ensures.none refl), tt)

pub returns-in_default-side_kept-2 : goal.returns-in_default-side_kept-2
returns-in_default-side_kept-2 g c =
    let I = g.I.Interval in
    let leaf = leaf_value I.low I.high c.args.leaf.now in
    let part = grid_box c.args.part.now in
    let clock = span_side c.args.clock.now in
    let m : Measures = measures I.area_low I.area_high c.in-Some.ranges c.range_squares-squares.result c.difference_squares-x_squares.result c.difference_squares-y_squares.result c.difference_squares-z_squares.result in
    let is = measured I.GRAIN leaf clock part _ _ _ m g.met.I.Interval.grain_low c.in-Some.ensures.some c.range_squares-squares.ensures.squares c.side_of-x.ensures.side c.side_of-y.ensures.side c.side_of-z.ensures.side
    c.difference_squares-x_squares.ensures.squares c.difference_squares-y_squares.ensures.squares c.difference_squares-z_squares.ensures.squares in
    (none_on_y I.GRAIN leaf clock part _ m is c.requires (box_sizes c.args.part.now) c.side_of-y.ensures.side (c.in_default-side_kept-2.ensures.none refl), tt)

pub returns-in_default-side_kept-3 : goal.returns-in_default-side_kept-3
returns-in_default-side_kept-3 g c =
    let I = g.I.Interval in
    let leaf = leaf_value I.low I.high c.args.leaf.now in
    let part = grid_box c.args.part.now in
    let clock = span_side c.args.clock.now in
    let m : Measures = measures I.area_low I.area_high c.in-Some.ranges c.range_squares-squares.result c.difference_squares-x_squares.result c.difference_squares-y_squares.result c.difference_squares-z_squares.result in
    let is = measured I.GRAIN leaf clock part _ _ _ m g.met.I.Interval.grain_low c.in-Some.ensures.some c.range_squares-squares.ensures.squares c.side_of-x.ensures.side c.side_of-y.ensures.side c.side_of-z.ensures.side
    c.difference_squares-x_squares.ensures.squares c.difference_squares-y_squares.ensures.squares c.difference_squares-z_squares.ensures.squares in
    (none_on_z I.GRAIN leaf clock part _ m is c.requires (box_sizes c.args.part.now) c.side_of-z.ensures.side (c.in_default-side_kept-3.ensures.none refl), tt)

pub returns : goal.returns
returns g c =
    let I = g.I.Interval in
    let leaf = leaf_value I.low I.high c.args.leaf.now in
    let part = grid_box c.args.part.now in
    let clock = span_side c.args.clock.now in
    let m : Measures = measures I.area_low I.area_high c.in-Some.ranges c.range_squares-squares.result c.difference_squares-x_squares.result c.difference_squares-y_squares.result c.difference_squares-z_squares.result in
    let is = measured I.GRAIN leaf clock part _ _ _ m g.met.I.Interval.grain_low c.in-Some.ensures.some c.range_squares-squares.ensures.squares c.side_of-x.ensures.side c.side_of-y.ensures.side c.side_of-z.ensures.side
    c.difference_squares-x_squares.ensures.squares c.difference_squares-y_squares.ensures.squares c.difference_squares-z_squares.ensures.squares in
    let ordered : IsOrderedLeaf leaf part = record {
      x = g.met.I.Interval.ordered c.args.leaf.now.x;
      y = g.met.I.Interval.ordered c.args.leaf.now.y;
      z = g.met.I.Interval.ordered c.args.leaf.now.z;
      part_x = c.args.part.now.x_ordered;
      part_y = c.args.part.now.y_ordered;
      part_z = c.args.part.now.z_ordered;
    } in
    let x = span_side c.in-Some-side_kept.x_kept in
    let y = span_side c.in-Some-side_kept-2.y_kept in
    let z = span_side c.in-Some-side_kept-3.z_kept in
    let kx = subst (λ (s : Side). IsKept I.GRAIN leaf.x s m.low m.high (m.yl + m.zl) (m.yh + m.zh) x) c.side_of-x.ensures.side c.in-Some-side_kept.ensures.some in
    let ky = subst (λ (s : Side). IsKept I.GRAIN leaf.y s m.low m.high (m.xl + m.zl) (m.xh + m.zh) y) c.side_of-y.ensures.side c.in-Some-side_kept-2.ensures.some in
    let kz = subst (λ (s : Side). IsKept I.GRAIN leaf.z s m.low m.high (m.xl + m.yl) (m.xh + m.yh) z) c.side_of-z.ensures.side c.in-Some-side_kept-3.ensures.some in
    subst (λ (a : GridBox). Keeps (Sat leaf) clock part (Some a) × IsTightAnswer I.GRAIN I.SLACK leaf clock part (Some a)) (sym c.box_of.ensures) (
      leaf_keeps I.GRAIN leaf clock part m x y z is c.requires (box_sizes c.args.part.now) kx ky kz,
      leaf_answer I.GRAIN I.SLACK leaf clock part m x y z g.met.I.Interval.slack is ordered kx ky kz,
    )
