use Rattle.std.proofs.Common.{ap}
use Rattle.log_writer.specs.InUse.{rows_value, rows_option}
use Rattle.log_writer.proofs.LinesPut.{renewal_wrote}
use Rattle.log_writer.proofs.WritingLemmas.{went_none}
use Rattle.log_writer.proofs.closing.put_last.Goals as goal

pub returns-in-Some-clause-written : goal.returns-in-Some-clause-written
returns-in-Some-clause-written g c =
    rw c.in-Some.is (renewal_wrote _ _ (rows_value c.in-Some.new) c.put_renewal.result (c.requires.fit (rows_value c.in-Some.new) (ap rows_option c.in-Some.is))
    (rw c.as_slice.ensures.value at c.put_renewal.ensures.went) (rw c.as_slice.ensures.value at c.put_renewal.ensures.broke))

pub returns-in-None-clause-written : goal.returns-in-None-clause-written
returns-in-None-clause-written g c = rw c.in-None.is (went_none _)
