use Rattle.std.proofs.Common.{FitsSigned, lit≤}
use Rattle.std.specs.Int.{w128}
use Rattle.std.proofs.lemmas.Int.{to_z-of_z}
use Rattle.code_simulation.proofs.ResidualLemmas.{code_width_fits}
use Rattle.code_simulation.proofs.residuals.clock.Goals as goal

pub returns-clause-holds : goal.returns-clause-holds
returns-clause-holds c p v n dt t h sent motion chain =
    let tag : FitsSigned w128 c.args.tag = c.ranges.tag in
    c.correction.ensures.holds n v dt t motion (c.sent_at-sent.ensures.holds p v h (simp to_z-of_z sent)) chain

pub returns-clause-dt : goal.returns-clause-dt
returns-clause-dt c =
    let w = c.sent_at-sent.ensures.width (code_width_fits _ _ _ _ (lit≤ tt) c.requires.code_ends) in
    record { order = c.correction.result.dt.ordered; low = c.correction.ensures.low_size; high = c.correction.ensures.high_size; width = c.correction.ensures.narrow_dt w.width }

pub returns-clause-t : goal.returns-clause-t
returns-clause-t c =
    let w = c.sent_at-sent.ensures.width (code_width_fits _ _ _ _ (lit≤ tt) c.requires.code_ends) in
    c.correction.ensures.narrow_t w.width
