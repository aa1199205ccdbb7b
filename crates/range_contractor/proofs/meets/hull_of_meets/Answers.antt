use Rattle.range_contractor.proofs.MeetLemmas.{both_meet, first_meets, second_meets, none_meets}
use Rattle.grid_model.specs.Boxes.{span_side}
use Rattle.std.proofs.Common.{refl}
use Rattle.range_contractor.proofs.meets.hull_of_meets.Goals as goal

pub returns-in-Some-Some-clause-some : goal.returns-in-Some-Some-clause-some
returns-in-Some-Some-clause-some c =
    both_meet (span_side c.args.side.now) (span_side c.args.below.now) (span_side c.args.above.now) (span_side c.in-Some-Some.a) (span_side c.in-Some-Some.b) (span_side c.hull.result)
    (rw c.in-Some-Some.is-0 at c.meet.ensures.some) (rw c.in-Some-Some.is-1 at c.meet-2.ensures.some) c.hull.ensures

pub returns-in-Some-None-clause-some : goal.returns-in-Some-None-clause-some
returns-in-Some-None-clause-some c =
    first_meets (span_side c.args.side.now) (span_side c.args.below.now) (span_side c.args.above.now) (span_side c.in-Some-None.a)
    (rw c.in-Some-None.is-0 at c.meet.ensures.some) ((rw c.in-Some-None.is-1 at c.meet-2.ensures.none) refl)

pub returns-in-None-Some-clause-some : goal.returns-in-None-Some-clause-some
returns-in-None-Some-clause-some c =
    second_meets (span_side c.args.side.now) (span_side c.args.below.now) (span_side c.args.above.now) (span_side c.in-None-Some.b)
    ((rw c.in-None-Some.is-0 at c.meet.ensures.none) refl) (rw c.in-None-Some.is-1 at c.meet-2.ensures.some)

pub returns-in-None-None-clause-none : goal.returns-in-None-None-clause-none
returns-in-None-None-clause-none c = λ _. none_meets (span_side c.args.side.now) (span_side c.args.below.now) (span_side c.args.above.now)
    ((rw c.in-None-None.is-0 at c.meet.ensures.none) refl) ((rw c.in-None-None.is-1 at c.meet-2.ensures.none) refl)
