use Rattle.sat_clock.proofs.ClockExists.{system_clock_exists}
use Rattle.sat_clock.proofs.existence.system_clock_exists.Goals as goal

pub returns : goal.returns
returns c system el single tsv = system_clock_exists system el single tsv
