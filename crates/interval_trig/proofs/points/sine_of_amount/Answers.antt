use Rattle.std.proofs.Common.{arith, ◌≡◌, ◌≤◌, ◌*◌, ◌-◌, ◌/◌, ◌^◌, lit≤}
use Rattle.std.proofs.lemmas.Nat.{mul-le}
use Rattle.std.specs.Prelude.{pos}
use Rattle.std.proofs.Math.Nat.{le_trans}
use Rattle.interval_trig.specs.NestedSums.{NestedSine, fine, plain_num, nested_num, nested_den, sine_15, sine_17}
use Rattle.interval_trig.proofs.HornerSteps.{nested_is_plain}
use Rattle.interval_trig.proofs.NestedSums.{sine_out}
use Rattle.interval_trig.proofs.PointValues.{value_held, quotient_le, square_small}
use Rattle.interval_trig.proofs.points.sine_of_amount.Goals as goal

pub returns-clause-value : goal.returns-clause-value
unfolding NestedSine
returns-clause-value c =
    let q = c.square_of.ensures.holds in
    let e : nested_num (c.args.a * c.args.a) sine_15 ≡ pos (plain_num (c.args.a * c.args.a) sine_15) = nested_is_plain (c.args.a * c.args.a) sine_15 (square_small c.args.a c.requires.size) (omega arith) in
    let x = c.sine_part-part.ensures.holds (c.args.a * c.args.a) q in
    let w = c.sine_part-part.ensures.width c.square_of.ensures.size c.square_of.ensures.width in
    let d : c.args.a * (c.sine_part-part.result.hi - c.sine_part-part.result.lo) ≤ fine = le_trans (mul-le c.args.a (c.sine_part-part.result.hi - c.sine_part-part.result.lo) (787 * 10 ^ 13) 4 c.requires.size (omega arith)) (lit≤ tt) in
    let e2 : c.from.result ≡ c.args.a * c.sine_part-part.result.hi / fine = omega (arith, c.fine_product.ensures.value) in
    rw e2 (sine_out (pos c.args.a) _ (value_held fine c.args.a _ (nested_den sine_15) c.sine_part-part.result.lo c.sine_part-part.result.hi (nested_den sine_17) _ _ (lit≤ tt) d c.sine_part-part.result.ordered x.low x.high e))

pub returns-clause-size : goal.returns-clause-size
returns-clause-size c = let h = quotient_le c.args.a c.sine_part-part.result.hi fine (lit≤ tt) c.sine_part-part.ensures.size in let e : c.from.result ≡ c.args.a * c.sine_part-part.result.hi / fine = omega (arith, c.fine_product.ensures.value) in omega arith
