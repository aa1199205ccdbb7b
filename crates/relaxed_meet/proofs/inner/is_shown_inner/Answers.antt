use Rattle.std.proofs.Common.{arith}
use Rattle.std.proofs.lemmas.Bool.Decides.{nat_tests}
use Rattle.grid_model.specs.Boxes.{grid_box}
use Rattle.sat_model.specs.ClockSpans.{inner_ends}
use Rattle.relaxed_meet.proofs.HeldLemmas.{count_spans}
use Rattle.relaxed_meet.proofs.inner.is_shown_inner.Goals as goal

pub returns : goal.returns
returns c =
    let counted = count_spans (inner_ends (grid_box c.args.part.now)) c.args.clock c.args.rows.now in
    (λ t. grind (arith, nat_tests), λ h. grind (arith, nat_tests))
