use Rattle.zone_guard.proofs.KeptLemmas.{in_zone, in_prism, holding}
use Rattle.zone_guard.proofs.laws.inside_is_in.Goals as goal

pub returns-clause-zone : goal.returns-clause-zone
returns-clause-zone c bounds zone parts p b all some within = in_zone bounds p within zone _ all (holding parts p b some)

pub returns-clause-prism : goal.returns-clause-prism
returns-clause-prism c bounds sides parts p b all some within = in_prism bounds p within sides _ all (holding parts p b some)
