use Rattle.std.proofs.Common.{◌≡◌, ◌++◌, drop}
use Rattle.made_texts.specs.ObsText.{satellites_text}
use Rattle.made_texts.proofs.obs.push_satellites.Given as goal

abbrev pub invariant-sats : goal.invariant-sats
invariant-sats l = l.text.items ++ satellites_text (drop l.seen-index l.sats) ≡ l.initial.text.items ++ satellites_text l.sats
