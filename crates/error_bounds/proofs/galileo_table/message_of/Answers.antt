use Rattle.std.proofs.Common.{codes, refl}
use Rattle.toml.proofs.Views.{table_get}
use Rattle.error_bounds.proofs.galileo_table.message_of.Goals as goal

pub returns-in-Some : goal.returns-in-Some
returns-in-Some c =
    let found = table_get c.get.result (codes "message") c.args.members.now.entries c.get.ensures.value in
    rw (← rw c.in-Some.is at found) c.read.ensures.value

pub returns-in-None : goal.returns-in-None
returns-in-None c =
    let found = table_get c.get.result (codes "message") c.args.members.now.entries c.get.ensures.value in
    rw (← rw c.in-None.is at found) refl
