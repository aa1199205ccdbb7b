use Rattle.std.proofs.Common.{FitsSigned, arith}
use Rattle.std.specs.Int.{w128}
use Rattle.std.proofs.lemmas.Int.{ints, to_z-of_z}
use Rattle.std.specs.Prelude.{pos}
use Rattle.code_simulation.proofs.EndLemmas.{corrected_most, corrected_least, less_most, less_least}
use Rattle.code_simulation.proofs.ResidualLemmas.{difference_held}
use Rattle.code_simulation.proofs.residuals.residual.Goals as goal
use Rattle.grid_model.proofs.IntervalLemmas.{member_within}

pub minus-requires-clause-low_size : goal.minus-requires-clause-low_size
minus-requires-clause-low_size c =
    let code = c.corrected_code.ensures.ends 1002 c.requires.code_ends in let range = c.seen_range.ensures.ends in
    record { low = omega (arith, ints, code.low.low, range.high.high); high = omega (arith, ints, code.low.high, range.high.low) }

pub minus-requires-clause-high_size : goal.minus-requires-clause-high_size
minus-requires-clause-high_size c =
    let code = c.corrected_code.ensures.ends 1002 c.requires.code_ends in let range = c.seen_range.ensures.ends in
    record { low = omega (arith, ints, code.high.low, range.low.high); high = omega (arith, ints, code.high.high, range.low.low) }

pub returns-clause-holds : goal.returns-clause-holds
returns-clause-holds c = λ p v h k.
    let tag : FitsSigned w128 c.args.tag = c.ranges.tag in
    let clock = c.clock-clock.ensures.holds p k.tsv k.n k.dt k.t h (simp to_z-of_z k.tsv_is) k.n_is k.clock in
    let code = c.corrected_code.ensures.holds p k.dt k.corrected h clock.0 k.corrected_is in
    let range = c.seen_range.ensures.holds k.n k.t k.sent_x k.sent_y k.z k.x k.y k.range k.n_is clock.1 k.orbit k.turn in
    difference_held _ _ _ _ k.corrected (pos k.range) v _ _ code range c.minus.ensures.low c.minus.ensures.high k.residual_is

pub returns-clause-width : goal.returns-clause-width
returns-clause-width c = λ w e.
    let code = c.corrected_code.ensures.ends w e in let range = c.seen_range.ensures.ends in
    omega (arith, ints, code.width, range.width, c.minus.ensures.low, c.minus.ensures.high)

pub returns-clause-size : goal.returns-clause-size
returns-clause-size c =
    let code = c.corrected_code.ensures.ends 1002 c.requires.code_ends in let range = c.seen_range.ensures.ends in
    record { low = omega (arith, ints, code.low.low, range.high.high, c.minus.ensures.low); high = omega (arith, ints, code.low.high, range.high.low, c.minus.ensures.low) }

pub returns-clause-most : goal.returns-clause-most
returns-clause-most c = λ p v h k.
    let tag : FitsSigned w128 c.args.tag = c.ranges.tag in
    let clock = c.clock-clock.ensures.holds p k.tsv k.n k.dt k.t h (simp to_z-of_z k.tsv_is) k.n_is k.clock in
    less_most p k.corrected v k.range (corrected_most p k.dt k.corrected (member_within _ _ _ _ k.dt c.clock-clock.ensures.dt clock.0) k.corrected_is) k.residual_is

pub returns-clause-least : goal.returns-clause-least
returns-clause-least c = λ near p v h k.
    let tag : FitsSigned w128 c.args.tag = c.ranges.tag in
    let clock = c.clock-clock.ensures.holds p k.tsv k.n k.dt k.t h (simp to_z-of_z k.tsv_is) k.n_is k.clock in
    let far = c.seen_range.ensures.far near k.n k.t k.sent_x k.sent_y k.z k.x k.y k.range k.n_is clock.1 k.orbit k.turn in
    less_least p k.corrected v k.range (corrected_least p k.dt k.corrected (member_within _ _ _ _ k.dt c.clock-clock.ensures.dt clock.0) k.corrected_is) far k.residual_is
