use Rattle.std.proofs.Common.{arith}
use Rattle.grid_model.specs.Boxes.{grid_box}
use Rattle.sat_model.specs.BoxTests.{test_of}
use Rattle.sat_model.specs.Events.{rows_over}
use Rattle.sat_model.specs.Stages.{first_stage}
use Rattle.paving_log.specs.Values.{body_value}
use Rattle.paving_log_check.specs.Renewed.{HoldsGiven}
use Rattle.paving_log_check.proofs.GivenLemmas.{events_any, closing_decided}
use Rattle.paving_log_check.proofs.closing.closing_fault.Goals as goal

pub bounds_fault-requires-clause-passes : goal.bounds_fault-requires-clause-passes
bounds_fault-requires-clause-passes c =
    let given = c.args.given.now in
    let rules = c.args.rules.now in
    let root = grid_box given.root.now in
    let body = c.args.body.now in
    let holds = rw c.in_default.is at c.in_ok-fault.ensures in
    events_any (HoldsGiven given.delays holds.renewed) (rows_over root given.firsts.now) rules body.done 0 (first_stage (test_of rules given.firsts.now) root)
    (body_value body).events holds.passes

pub returns : goal.returns
returns c =
    let given = c.args.given.now in
    let body = body_value c.args.body.now in
    let holds = rw c.in_default.is at c.in_ok-fault.ensures in
    closing_decided given.delays (grid_box given.root.now) given.firsts.now given.bases.now c.args.rules.now body c.bounds_fault.result c.args.line _ holds
    (omega (arith, c.event_lines.ensures)) c.bounds_fault.ensures
