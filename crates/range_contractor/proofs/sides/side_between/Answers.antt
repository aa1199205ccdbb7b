use Rattle.std.proofs.Common.{None, Some, Option}
use Rattle.std.specs.Prelude.{IfSome}
use Rattle.grid_model.specs.Boxes.{Side, span_side}
use Rattle.grid_model.specs.declared.spans.Span.{Span}
use Rattle.range_contractor.specs.Sides.{IsKept, IsHullOfMeets, IsBelow, IsAbove}
use Rattle.range_contractor.specs.Squares.{AreWhole}
use Rattle.range_contractor.proofs.AmountLemmas.{is_kept, none_is_kept}
use Rattle.range_contractor.proofs.sides.side_between.Goals as goal

in_each : (r : Option Span) (Q R : Side → Type 0) → ((k : Side) → Q k → R k)
    → IfSome r (λ k. Q (span_side k)) → IfSome r (λ k. R (span_side k))
in_each None Q R h k = tt
in_each (Some r) Q R h k = h (span_side r) k

pub returns-clause-some : goal.returns-clause-some
returns-clause-some g c =
    let I = g.I.Interval in
    let place : Side = record { lo = I.low c.args.place; hi = I.high c.args.place } in
    let amount = span_side c.in-Some.amount in
    let is_below : IsBelow place amount (span_side c.below.result) = rw c.ends_of-place.ensures at c.below.ensures in
    let is_above : IsAbove place amount (span_side c.above.result) = rw c.ends_of-place.ensures at c.above.ensures in
    let whole : AreWhole I.GRAIN place = record { low = g.met.I.Interval.whole_low c.args.place; high = g.met.I.Interval.whole_high c.args.place } in
    in_each c.hull_of_meets.result
    (λ k. IsHullOfMeets (span_side c.args.side.now) (span_side c.below.result) (span_side c.above.result) k)
    (λ k. IsKept I.GRAIN place (span_side c.args.side.now) (I.area_low c.args.ranges) (I.area_high c.args.ranges) (I.area_low c.args.others) (I.area_high c.args.others) k)
    (λ k is. is_kept I.GRAIN place amount (span_side c.args.side.now) (span_side c.below.result) (span_side c.above.result) k
    (I.area_low c.args.ranges) (I.area_high c.args.ranges) (I.area_low c.args.others) (I.area_high c.args.others)
    g.met.I.Interval.grain_low (g.met.I.Interval.ordered c.args.place) c.in-Some.ensures.some is_below is_above whole is)
    c.hull_of_meets.ensures.some

pub returns-clause-none : goal.returns-clause-none
returns-clause-none g c = λ none.
    let I = g.I.Interval in
    let place : Side = record { lo = I.low c.args.place; hi = I.high c.args.place } in
    let amount = span_side c.in-Some.amount in
    let is_below : IsBelow place amount (span_side c.below.result) = rw c.ends_of-place.ensures at c.below.ensures in
    let is_above : IsAbove place amount (span_side c.above.result) = rw c.ends_of-place.ensures at c.above.ensures in
    none_is_kept I.GRAIN place amount (span_side c.args.side.now) (span_side c.below.result) (span_side c.above.result)
    (I.area_low c.args.ranges) (I.area_high c.args.ranges) (I.area_low c.args.others) (I.area_high c.args.others)
    g.met.I.Interval.grain_low c.in-Some.ensures.some is_below is_above (c.hull_of_meets.ensures.none none)
