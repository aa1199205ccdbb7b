use Rattle.made_texts.proofs.NavLemmas.{nav_read}
use Rattle.made_texts.proofs.nav.nav_is_accepted.Goals as goal

pub returns : goal.returns
returns c = nav_read
