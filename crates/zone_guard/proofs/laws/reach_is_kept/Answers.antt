use Rattle.zone_guard.proofs.KeptLemmas.{reached, holding}
use Rattle.zone_guard.proofs.laws.reach_is_kept.Goals as goal

pub returns : goal.returns
returns c a found parts p b reach some = reached a found _ p reach (holding parts p b some)
