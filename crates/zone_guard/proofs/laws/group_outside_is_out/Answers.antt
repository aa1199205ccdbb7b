use Rattle.zone_guard.proofs.KeptLemmas.{none_in_group, holding}
use Rattle.zone_guard.proofs.laws.group_outside_is_out.Goals as goal

pub returns : goal.returns
returns c bounds pieces parts p b out inside some within = none_in_group bounds p within pieces _ out inside (holding parts p b some)
