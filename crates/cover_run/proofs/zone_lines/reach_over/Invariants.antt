use Rattle.std.proofs.Common.{◌≡◌, None, take}
use Rattle.cover_run.specs.ZoneTexts.{reach_from}
use Rattle.cover_run.proofs.zone_lines.reach_over.Given as goal

abbrev pub invariant-loop-epoch : goal.invariant-loop-epoch
invariant-loop-epoch l = l.reach ≡ reach_from None l.place (take l.epoch-index l.epochs)
