use Rattle.std.proofs.Common.{codes, refl}
use Rattle.toml.specs.View.{table_view}
use Rattle.toml.proofs.Views.{table_get}
use Rattle.error_bounds.specs.Keys.{has_galileo, listed_sats}
use Rattle.error_bounds.specs.declared.fault.Fault.TheVariants.{WrongKind}
use Rattle.error_bounds.proofs.KeyLemmas.{empty_tests, empty_extra}
use Rattle.error_bounds.proofs.satellites.read_satellites.Goals as goal

pub returns-in_default-clause-none : goal.returns-in_default-clause-none
returns-in_default-clause-none c =
    let found = table_get c.get.result (codes "satellite") c.args.tree.now.entries c.get.ensures.value in
    rw (← rw c.in_default.is at found) (empty_tests (listed_sats (has_galileo (table_view c.args.tree.now))))

pub returns-in_default-clause-extra : goal.returns-in_default-clause-extra
returns-in_default-clause-extra c =
    let found = table_get c.get.result (codes "satellite") c.args.tree.now.entries c.get.ensures.value in
    rw (← rw c.in_default.is at found, empty_extra (listed_sats (has_galileo (table_view c.args.tree.now))), c.new.ensures.items) refl

pub returns-in-Some-as_table-clause-none : goal.returns-in-Some-as_table-clause-none
returns-in-Some-as_table-clause-none c =
    let found = table_get c.get.result (codes "satellite") c.args.tree.now.entries c.get.ensures.value in
    rw (← rw c.in-Some.is at found, ← rw c.in-Some-as_table.is at c.as_table.ensures, ← c.has_galileo.ensures) c.own_spans.ensures.none

pub returns-in-Some-as_table-clause-extra : goal.returns-in-Some-as_table-clause-extra
returns-in-Some-as_table-clause-extra c =
    let found = table_get c.get.result (codes "satellite") c.args.tree.now.entries c.get.ensures.value in
    rw (← rw c.in-Some.is at found, ← rw c.in-Some-as_table.is at c.as_table.ensures, ← c.has_galileo.ensures) c.own_spans.ensures.extra

pub returns-in-Some-as_table-clause-fault : goal.returns-in-Some-as_table-clause-fault
returns-in-Some-as_table-clause-fault c =
    let found = table_get c.get.result (codes "satellite") c.args.tree.now.entries c.get.ensures.value in
    rw (← rw c.in-Some.is at found, ← rw c.in-Some-as_table.is at c.as_table.ensures, ← c.has_galileo.ensures) c.own_spans.ensures.fault

pub returns-in-None-clause-fault : goal.returns-in-None-clause-fault
returns-in-None-clause-fault c =
    let found = table_get c.get.result (codes "satellite") c.args.tree.now.entries c.get.ensures.value in (
      record { fault = WrongKind; key = codes "satellite" },
      rw (← rw c.in-Some.is at found, ← rw c.in-None.is at c.as_table.ensures) refl,
      c.new-in-None.ensures,
    )
