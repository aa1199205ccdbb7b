use Rattle.std.proofs.Common.{None}
use Rattle.epoch_rows.specs.EpochsLeft.{index_of}
use Rattle.epoch_rows.specs.Ready.{CanGive, CanGoOn, GoesByHull}
use Rattle.epoch_selection.specs.Searches.{epochs_left, searches_left}
use Rattle.epoch_selection.specs.declared.searches.Searches.{Searches}
use Rattle.sat_rows.specs.Sources.{gps_meaning}
use Rattle.log_tests.proofs.rows.blocks_of.Given as goal

abbrev pub invariant-loop : goal.invariant-loop
invariant-loop l = CanGive (gps_meaning l.left.source.now.nav.now l.left.source.now.settings.now) (index_of l.left.given) (epochs_left l.left.walk)
    × CanGoOn (Unit {0}) (λ kept. Unit {0}) l.left.given
    × GoesByHull {W = Searches} (λ root block. None) (λ walk tag kept blocks. searches_left walk)
