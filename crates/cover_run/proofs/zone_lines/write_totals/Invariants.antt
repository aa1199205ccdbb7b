use Rattle.zone_guard.specs.WatchValues.{watch_values}
use Rattle.cover_run.proofs.ZoneLineLemmas.{Flows}
use Rattle.cover_run.specs.ZoneTexts.{total_lines}
use Rattle.cover_run.proofs.zone_lines.write_totals.Given as goal

abbrev pub invariant-loop-place : goal.invariant-loop-place
invariant-loop-place g l =
    Flows (g.O.Sink.state l.fn.out) (g.O.Sink.state l.out) (g.O.Sink.reliable l.fn.out)
    (g.O.Sink.reliable l.out) (total_lines 0 l.epochs (watch_values l.watches)) l.place
