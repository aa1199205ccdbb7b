use Rattle.std.proofs.Common.{rules, w64}
use Rattle.std.proofs.lemmas.Int.{to_z-of_z}
use Rattle.paving_log_check.specs.RowsTests.{rows_test_value}
use Rattle.paving_log_check.proofs.steps.step_fault.Goals as goal

pub returns-in-Cut-clause-fault : goal.returns-in-Cut-clause-fault
returns-in-Cut-clause-fault c =
    let bound = to_z-of_z w64 c.in-Cut.bound (search rules) in
    rw c.in-Cut.is (rw bound at (c.cut_fault.ensures.fault c.args.rules.now))

pub returns-in-Split-clause-fault : goal.returns-in-Split-clause-fault
returns-in-Split-clause-fault c = rw c.in-Split.is (c.split_fault.ensures (rows_test_value c.args.test.now))

pub returns-in-Outside-clause-fault : goal.returns-in-Outside-clause-fault
returns-in-Outside-clause-fault c = rw c.in-Outside.is (c.outside_fault.ensures.fault c.args.rules.now)

pub returns-in-Inside-clause-fault : goal.returns-in-Inside-clause-fault
returns-in-Inside-clause-fault c =
    let clock = to_z-of_z w64 c.in-Inside.clock (search rules) in
    let lo = to_z-of_z w64 c.in-Inside.lo (search rules) in
    let hi = to_z-of_z w64 c.in-Inside.hi (search rules) in
    rw c.in-Inside.is (rw (clock, lo, hi) at (c.inside_fault.ensures c.args.rules.now))

pub returns-in-Edge-clause-fault : goal.returns-in-Edge-clause-fault
returns-in-Edge-clause-fault c =
    let lo = to_z-of_z w64 c.in-Edge.lo (search rules) in
    let hi = to_z-of_z w64 c.in-Edge.hi (search rules) in
    rw c.in-Edge.is (rw (lo, hi) at (c.edge_fault.ensures c.args.rules.now))
