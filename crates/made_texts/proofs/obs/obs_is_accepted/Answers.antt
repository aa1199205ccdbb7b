use Rattle.made_texts.proofs.ObsLemmas.{obs_read}
use Rattle.made_texts.proofs.obs.obs_is_accepted.Goals as goal

pub returns : goal.returns
returns c = obs_read
