use Rattle.log_writer.proofs.KnownRows.{goes_on}
use Rattle.log_writer.proofs.known_rows.begun_logs_go_on.Goals as goal

pub returns : goal.returns
returns c = goes_on
