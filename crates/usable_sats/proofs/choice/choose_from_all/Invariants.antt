use Rattle.std.proofs.Common.{drop}
use Rattle.std.specs.Prelude.{Option}
use Rattle.gnss_model.specs.declared.satellites.GalileoUse.{GalileoUse}
use Rattle.usable_sats.proofs.ChoiceLemmas.{IsChosen}
use Rattle.usable_sats.proofs.WalkLemmas.{IsWalked}
use Rattle.usable_sats.proofs.choice.choose_from_all.Given as goal

abbrev pub invariant-loop-place : goal.invariant-loop-place
invariant-loop-place l = (galileo : Option GalileoUse) → IsWalked l.nav l.seen.sat (IsChosen galileo l.settings l.epoch.tag l.seen l.choice) (drop l.place-index l.place-items)
