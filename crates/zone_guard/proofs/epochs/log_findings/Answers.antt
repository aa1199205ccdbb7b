use Rattle.zone_guard.specs.WatchValues.{watch_values}
use Rattle.zone_guard.proofs.FoundLemmas.{folds_at, epochs_more}
use Rattle.zone_guard.proofs.epochs.log_findings.Goals as goal

pub epoch_findings-requires : goal.epoch_findings-requires
epoch_findings-requires c =
    let within = rw c.deref-epoch-items.ensures.value at c.loop-epoch-test.true in
    let is = rw c.deref-epoch-items.ensures.value at c.epoch-item.is in
    folds_at c.args.log.now.epochs.items c.loop-epoch.epoch-index c.epoch-item.result within is c.requires

pub loop-epoch-preserved : goal.loop-epoch-preserved
loop-epoch-preserved c =
    let within = rw c.deref-epoch-items.ensures.value at c.loop-epoch-test.true in
    let is = rw c.deref-epoch-items.ensures.value at c.epoch-item.is in
    epochs_more (watch_values c.args.watches.now) c.args.log.now.epochs.items c.loop-epoch.epoch-index c.epoch-item.result c.loop-epoch.found.items c.push.new.self.items c.in_ok-here.here
    within is c.loop-epoch.invariant c.in_ok-here.ensures c.in_ok-push.ensures.items
