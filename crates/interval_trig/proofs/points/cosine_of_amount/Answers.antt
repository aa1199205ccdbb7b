use Rattle.std.proofs.Common.{arith, ◌≡◌, ◌*◌, ◌/◌, lit≤}
use Rattle.std.specs.Prelude.{pos}
use Rattle.grid_model.specs.Angles.{unit}
use Rattle.interval_trig.specs.NestedSums.{NestedCosine, fine, plain_num, nested_num, nested_den, cosine_16, cosine_18}
use Rattle.interval_trig.proofs.HornerSteps.{nested_is_plain}
use Rattle.interval_trig.proofs.NestedSums.{cosine_out}
use Rattle.interval_trig.proofs.PointValues.{value_held, square_small}
use Rattle.interval_trig.proofs.points.cosine_of_amount.Goals as goal

pub returns-clause-value : goal.returns-clause-value
unfolding NestedCosine
returns-clause-value c =
    let q = c.square_of.ensures.holds in
    let e : nested_num (c.args.a * c.args.a) cosine_16 ≡ pos (plain_num (c.args.a * c.args.a) cosine_16) = nested_is_plain (c.args.a * c.args.a) cosine_16 (square_small c.args.a c.requires.size) (omega arith) in
    let x = c.cosine_part-part.ensures.holds (c.args.a * c.args.a) q in
    let w = c.cosine_part-part.ensures.width c.square_of.ensures.size c.square_of.ensures.width in
    let e2 : c.from.result ≡ unit * c.cosine_part-part.result.hi / fine = omega arith in
    rw e2 (cosine_out (pos c.args.a) _ (value_held fine unit _ (nested_den cosine_16) c.cosine_part-part.result.lo c.cosine_part-part.result.hi (nested_den cosine_18) _ _ (lit≤ tt) (omega arith) c.cosine_part-part.result.ordered x.low x.high e))
