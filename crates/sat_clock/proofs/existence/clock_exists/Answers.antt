use Rattle.sat_clock.proofs.ClockExists.{clock_exists}
use Rattle.sat_clock.proofs.existence.clock_exists.Goals as goal

pub returns : goal.returns
returns c el single tsv = clock_exists el single tsv
