use Rattle.zone_guard.proofs.KeptLemmas.{none_holds, holding}
use Rattle.zone_guard.proofs.laws.prism_outside_is_out.Goals as goal

pub returns : goal.returns
returns c bounds sides parts p b out inside some within = none_holds bounds p within sides _ out inside (holding parts p b some)
