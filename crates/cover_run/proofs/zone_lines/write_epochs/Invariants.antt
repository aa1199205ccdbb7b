use Rattle.std.proofs.Common.{map}
use Rattle.zone_guard.specs.WatchValues.{watch_values}
use Rattle.cover_run.proofs.ZoneLineLemmas.{Flows}
use Rattle.cover_run.specs.ZoneTexts.{epoch_text}
use Rattle.cover_run.proofs.zone_lines.write_epochs.Given as goal

abbrev pub invariant-loop-epoch : goal.invariant-loop-epoch
invariant-loop-epoch g l =
    Flows (g.O.Sink.state l.fn.out) (g.O.Sink.state l.out) (g.O.Sink.reliable l.fn.out)
    (g.O.Sink.reliable l.out) (map (epoch_text (watch_values l.watches)) l.epochs) l.epoch-index
