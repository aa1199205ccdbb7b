use Rattle.std.proofs.Common.{rules, IsTrue}
use Rattle.satellite_tests.proofs.rows_overhead.seen_from.Goals as goal

pub renewed-row-requires-clause-high : goal.renewed-row-requires-clause-high
renewed-row-requires-clause-high g c =
    let t : IsTrue c.is_far_from_origin.result = search rules in
    c.is_far_from_origin.ensures.0 t
