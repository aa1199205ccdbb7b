use Rattle.made_texts.proofs.SettingsLemmas.{settings_read}
use Rattle.made_texts.proofs.settings.settings_are_accepted.Goals as goal

pub returns : goal.returns
returns c = settings_read
