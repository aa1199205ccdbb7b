use Rattle.std.proofs.Common.{rules, IsTrue, Bool, true, false, ◌*◌, ◌^◌}
use Rattle.grid_model.specs.Boxes.{GridBox, grid_box}
use Rattle.grid_model.specs.SearchBoxes.{IsFarFromOrigin}
use Rattle.gnss_model.specs.Delays.{is_plain}
use Rattle.usable_sats.specs.Usability.{IsHighIf}
use Rattle.satellite_tests.proofs.rows_overhead.seen_through.Goals as goal

high_if_far : (plain : Bool) (root : GridBox) → IsFarFromOrigin (6 * 10 ^ 12) root
    → IsHighIf plain root
high_if_far true root far = tt
high_if_far false root far = far

pub renewed-requires-clause-high : goal.renewed-requires-clause-high
renewed-requires-clause-high g c =
    let t : IsTrue c.is_far_from_origin.result = search rules in
    high_if_far (is_plain c.args.delays) (grid_box c.around-root.result) (c.is_far_from_origin.ensures.0 t)
