use Rattle.std.proofs.lemmas.Result.{err_from_is_err_and}
use Rattle.zone_guard.specs.WatchValues.{watch_values}
use Rattle.cover_run.proofs.ZoneLineLemmas.{totals_too, zones_cut}
use Rattle.cover_run.proofs.zone_lines.write_zones.Goals as goal

pub returns-in_err-write_epochs : goal.returns-in_err-write_epochs
returns-in_err-write_epochs g c =
    let p = err_from_is_err_and c.from_residual.result c.from_residual.ensures.1 in
    rw (p.1) (zones_cut _ _ (g.O.Sink.reliable c.args.out.now) _ (watch_values c.args.zones.now.list.items) c.args.epochs.now
    c.args.zones.now.is_second (rw c.deref.ensures.value at c.in_err-write_epochs.ensures))

pub returns-then-zones : goal.returns-then-zones
returns-then-zones g c =
    totals_too _ _ _ _ (watch_values c.args.zones.now.list.items) c.args.epochs.now
    c.args.zones.now.is_second _ _ c.write_totals.result c.if-zones.true
    (rw c.deref.ensures.value at c.in_ok-write_epochs.ensures)
    (rw c.deref-then-zones.ensures.value at c.write_totals.ensures)
