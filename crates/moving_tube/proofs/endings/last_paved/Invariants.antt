use Rattle.std.proofs.Common.{◌≡◌, drop, map}
use Rattle.std.specs.Option.{option_map}
use Rattle.paving_log.specs.Values.{block_of}
use Rattle.moving_tube.specs.Endings.{last_paved, paved_behind}
use Rattle.moving_tube.proofs.endings.last_paved.Given as goal

-- the last paved one so far, with those that are left, is that of all
abbrev pub invariant-loop-epoch : goal.invariant-loop-epoch
invariant-loop-epoch l =
    paved_behind (option_map (λ epoch. block_of epoch.now) l.last) (map block_of (drop l.epoch-index l.epochs)) ≡ last_paved (map block_of l.epochs)
