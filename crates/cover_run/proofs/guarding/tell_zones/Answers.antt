use Rattle.std.proofs.Common.{refl}
use Rattle.paving_log.specs.Values.{log_value}
use Rattle.zone_guard.specs.WatchValues.{watch_values}
use Rattle.cover_run.proofs.GuardingLemmas.{all_have_all, few_epochs}
use Rattle.cover_run.proofs.TellingLemmas.{tells_yes}
use Rattle.cover_run.proofs.guarding.tell_zones.Goals as goal

pub tell_findings-requires-clause-each : goal.tell_findings-requires-clause-each
tell_findings-requires-clause-each g c =
    let found = c.args.found.now in
    rw c.deref-in-Ok.ensures.value (all_have_all found.zones.list.items
    (log_value found.checked.log).blocks c.in-Ok.epochs.items
    (rw c.deref.ensures.value at c.in-Ok.ensures))

pub tell_findings-requires-clause-few : goal.tell_findings-requires-clause-few
tell_findings-requires-clause-few g c =
    let found = c.args.found.now in
    rw c.deref-in-Ok.ensures.value (few_epochs (watch_values found.zones.list.items)
    (log_value found.checked.log).blocks c.in-Ok.epochs.items c.requires.ready.numbered
    (rw c.deref.ensures.value at c.in-Ok.ensures))

pub returns-in-Ok : goal.returns-in-Ok
returns-in-Ok g c =
    tells_yes _ _ _ _ _ _ c.tell_findings.result
    (c.in-Ok.epochs.items, rw c.deref.ensures.value at c.in-Ok.ensures, refl)
    (rw c.deref-in-Ok.ensures.value at c.tell_findings.ensures)
