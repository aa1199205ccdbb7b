use Rattle.std.proofs.Common.{◌≡◌, ◌++◌, drop}
use Rattle.made_texts.specs.TextLines.{text_of}
use Rattle.made_texts.specs.ObsText.{epoch_lines, obs_lines}
use Rattle.made_texts.proofs.obs.obs_text.Given as goal

abbrev pub invariant-epochs : goal.invariant-epochs
invariant-epochs l = l.text.items ++ text_of (epoch_lines (drop l.epoch-index l.epochs)) ≡ text_of (obs_lines l.epochs)
