use Rattle.std.proofs.Common.{refl, inr}
use Rattle.paving_log.specs.Values.{log_value}
use Rattle.paving_log.proofs.texts.tested_rows.Goals as goal

pub returns-in-Some-clause-fault : goal.returns-in-Some-clause-fault
returns-in-Some-clause-fault c =
    inr (inr (record { log = log_value c.in_ok-log.log; spelling = c.in_ok-log.ensures.value; line = c.in-Some.line; fails = c.in-Some.ensures; error = refl }))
