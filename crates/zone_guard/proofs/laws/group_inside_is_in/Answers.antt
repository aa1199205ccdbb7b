use Rattle.zone_guard.proofs.KeptLemmas.{in_group, holding}
use Rattle.zone_guard.proofs.laws.group_inside_is_in.Goals as goal

pub returns : goal.returns
returns c bounds pieces parts p b all some within = in_group bounds p within pieces _ all (holding parts p b some)
