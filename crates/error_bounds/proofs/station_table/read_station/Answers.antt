use Rattle.std.proofs.Common.{refl, sym, codes}
use Rattle.toml.proofs.Views.{table_get}
use Rattle.error_bounds.proofs.station_table.read_station.Goals as goal

pub returns-in_default-clause-none : goal.returns-in_default-clause-none
returns-in_default-clause-none c =
    let found = table_get c.get.result (codes "station") c.args.tree.now.entries c.get.ensures.value in
    rw (← rw c.in_default.is at found) refl

pub returns-in_default-clause-value : goal.returns-in_default-clause-value
returns-in_default-clause-value c =
    let found = table_get c.get.result (codes "station") c.args.tree.now.entries c.get.ensures.value in
    sym (rw c.in_default.is at found)

pub returns-in-Ok-clause-none : goal.returns-in-Ok-clause-none
returns-in-Ok-clause-none c =
    let found = table_get c.get.result (codes "station") c.args.tree.now.entries c.get.ensures.value in
    rw (← rw c.in-Some.is at found, c.requires.age) c.in-Ok.ensures.none

pub returns-in-Ok-clause-value : goal.returns-in-Ok-clause-value
returns-in-Ok-clause-value c = (c.in-Ok.ensures.place, rw c.requires.age c.in-Ok.ensures.age)

pub returns-in-Err-clause-fault : goal.returns-in-Err-clause-fault
returns-in-Err-clause-fault c =
    let found = table_get c.get.result (codes "station") c.args.tree.now.entries c.get.ensures.value in
    rw (← rw c.in-Some.is at found, c.requires.age) c.in-Err.ensures.fault
