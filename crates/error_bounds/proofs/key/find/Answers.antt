use Rattle.std.proofs.Common.{refl}
use Rattle.toml.proofs.Views.{table_get}
use Rattle.error_bounds.proofs.key.find.Goals as goal

pub returns-in_default : goal.returns-in_default
returns-in_default c =
    let found = table_get c.get.result c.args.table.now c.args.tree.now.entries c.get.ensures.value in
    rw (← rw c.in_default.is at found) refl

pub returns-in_default-as_table : goal.returns-in_default-as_table
returns-in_default-as_table c =
    let found = table_get c.get.result c.args.table.now c.args.tree.now.entries c.get.ensures.value in
    rw (← rw c.in-Some.is at found, ← rw c.in_default-as_table.is at c.as_table.ensures) refl

pub returns-in-Some-get : goal.returns-in-Some-get
returns-in-Some-get c =
    let found = table_get c.get.result c.args.table.now c.args.tree.now.entries c.get.ensures.value in
    let below = table_get c.get-2.result c.args.name.now c.in-Some-as_table.members.now.entries c.get-2.ensures.value in
    rw (← rw c.in-Some.is at found, ← rw c.in-Some-as_table.is at c.as_table.ensures, ← rw c.in-Some-get.is at below) refl

pub returns-in-None : goal.returns-in-None
returns-in-None c =
    let found = table_get c.get.result c.args.table.now c.args.tree.now.entries c.get.ensures.value in
    let below = table_get c.get-2.result c.args.name.now c.in-Some-as_table.members.now.entries c.get-2.ensures.value in
    rw (← rw c.in-Some.is at found, ← rw c.in-Some-as_table.is at c.as_table.ensures, ← rw c.in-None.is at below) refl
