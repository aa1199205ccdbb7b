use Rattle.std.proofs.Common.{map, refl, arith}
use Rattle.std.proofs.lemmas.Result.{err_from_is_err_and}
use Rattle.zone_guard.specs.WatchValues.{watch_values}
use Rattle.cover_run.proofs.ZoneLineLemmas.{each_at, flows_all, flows_cut, flows_first, flows_more, mapped_at, mapped_count}
use Rattle.cover_run.specs.ZoneTexts.{HasAll, epoch_text}
use Rattle.std.proofs.Common.{length}
use Rattle.cover_run.proofs.zone_lines.write_epochs.Goals as goal

pub loop-epoch-init : goal.loop-epoch-init
loop-epoch-init g c = flows_first _ _ (map (epoch_text (watch_values c.args.watches.now)) c.args.epochs.now)

pub write_epoch-requires : goal.write_epoch-requires
write_epoch-requires g c =
    each_at (HasAll (length c.args.watches.now)) c.args.epochs.now c.loop-epoch.epoch-index
    c.epoch-item.result c.loop-epoch-test.true c.epoch-item.is c.requires

pub loop-epoch-preserved : goal.loop-epoch-preserved
loop-epoch-preserved g c =
    let text = epoch_text (watch_values c.args.watches.now) in
    let epochs = c.args.epochs.now in
    flows_more _ _ _ _ _ _ (map text epochs) c.loop-epoch.epoch-index (text c.epoch-item.result)
    (omega (arith, c.loop-epoch-test.true, mapped_count text epochs))
    (mapped_at text epochs c.loop-epoch.epoch-index c.epoch-item.result (text c.epoch-item.result)
    c.loop-epoch-test.true c.epoch-item.is refl)
    c.loop-epoch.invariant c.in_ok-write_epoch.ensures

pub returns-in_err-write_epoch : goal.returns-in_err-write_epoch
returns-in_err-write_epoch g c =
    let p = err_from_is_err_and c.from_residual.result c.from_residual.ensures.1 in
    let text = epoch_text (watch_values c.args.watches.now) in
    let epochs = c.args.epochs.now in
    rw (p.1) (flows_cut _ _ _ _ _ _ (map text epochs) c.loop-epoch.epoch-index
    (text c.epoch-item.result)
    (omega (arith, c.loop-epoch-test.true, mapped_count text epochs))
    (mapped_at text epochs c.loop-epoch.epoch-index c.epoch-item.result (text c.epoch-item.result)
    c.loop-epoch-test.true c.epoch-item.is refl)
    c.loop-epoch.invariant c.in_err-write_epoch.ensures)

pub returns : goal.returns
returns g c =
    let text = epoch_text (watch_values c.args.watches.now) in
    let epochs = c.args.epochs.now in
    flows_all _ _ _ _ (map text epochs) c.loop-epoch.epoch-index
    (omega (arith, c.loop-epoch-test.false, mapped_count text epochs)) c.loop-epoch.invariant
