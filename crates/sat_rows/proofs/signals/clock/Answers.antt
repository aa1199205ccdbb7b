use Rattle.std.proofs.Common.{FitsSigned}
use Rattle.std.specs.Int.{w128}
use Rattle.std.proofs.lemmas.Int.{to_z-of_z}
use Rattle.sat_rows.proofs.SpanLemmas.{sent_width}
use Rattle.sat_rows.proofs.signals.clock.Goals as goal

pub returns-clause-holds : goal.returns-clause-holds
returns-clause-holds c p v n dt t h sent motion chain =
    let tag : FitsSigned w128 c.args.tag = c.ranges.tag in
    c.correction_of.ensures.holds n v dt t motion (c.sent_at-sent.ensures.holds p v h (simp to_z-of_z sent)) chain

pub returns-clause-dt : goal.returns-clause-dt
returns-clause-dt c =
    let w = c.sent_at-sent.ensures.width (sent_width _ _ _ c.requires.range_ends) in
    record { order = c.correction_of.result.dt.ordered; low = c.correction_of.ensures.low_size; high = c.correction_of.ensures.high_size; width = c.correction_of.ensures.narrow_dt w.width }

pub returns-clause-t : goal.returns-clause-t
returns-clause-t c =
    let w = c.sent_at-sent.ensures.width (sent_width _ _ _ c.requires.range_ends) in
    c.correction_of.ensures.narrow_t w.width
