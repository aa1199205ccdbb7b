use Rattle.std.proofs.Common.{sym, append-nil}
use Rattle.toml.proofs.Views.{table_get}
use Rattle.error_bounds.proofs.names.add_unknown_in.Goals as goal

pub returns-in_default : goal.returns-in_default
returns-in_default c =
    let found = table_get c.get.result c.args.table.now c.args.tree.now.entries c.get.ensures.value in
    rw (← rw c.in_default.is at found) (sym (append-nil _))

pub returns-in-Some-as_table : goal.returns-in-Some-as_table
returns-in-Some-as_table c =
    let found = table_get c.get.result c.args.table.now c.args.tree.now.entries c.get.ensures.value in
    rw (← rw c.in-Some.is at found, ← rw c.in-Some-as_table.is at c.as_table.ensures) c.add_unknown.ensures

pub returns-in-None : goal.returns-in-None
returns-in-None c =
    let found = table_get c.get.result c.args.table.now c.args.tree.now.entries c.get.ensures.value in
    rw (← rw c.in-Some.is at found, ← rw c.in-None.is at c.as_table.ensures) (sym (append-nil _))
