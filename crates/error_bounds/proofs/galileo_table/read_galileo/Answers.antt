use Rattle.std.proofs.Common.{◌≡◌, ◌∙◌, true, false, Ok, Err, refl, sym, codes}
use Rattle.toml.specs.Data.{as_table}
use Rattle.toml.specs.View.{view}
use Rattle.toml.proofs.Views.{table_get}
use Rattle.error_bounds.specs.Keys.{dotted, message_in, lacks_codes}
use Rattle.error_bounds.proofs.galileo_table.read_galileo.Goals as goal

pub returns-in_default-clause-none : goal.returns-in_default-clause-none
returns-in_default-clause-none c =
    let found = table_get c.get.result (codes "galileo") c.args.tree.now.entries c.get.ensures.value in
    rw (← rw c.in_default.is at found) refl

pub returns-in_default-clause-value : goal.returns-in_default-clause-value
returns-in_default-clause-value c =
    let found = table_get c.get.result (codes "galileo") c.args.tree.now.entries c.get.ensures.value in
    sym (rw c.in_default.is at found)

pub returns-in-Err-clause-fault : goal.returns-in-Err-clause-fault
returns-in-Err-clause-fault c =
    let found = table_get c.get.result (codes "galileo") c.args.tree.now.entries c.get.ensures.value in
    let message : message_in (as_table (view c.in-Some.value.now)) ≡ Err c.in-Err.fault = sym c.read_message.ensures ∙ c.in-Err.is in (
      record { fault = c.in-Err.fault; key = dotted (codes "galileo") (codes "message") },
      rw (← rw c.in-Some.is at found, message) refl,
      c.fault_at.ensures,
    )

pub returns-then-lacks_codes-clause-fault : goal.returns-then-lacks_codes-clause-fault
returns-then-lacks_codes-clause-fault c =
    let found = table_get c.get.result (codes "galileo") c.args.tree.now.entries c.get.ensures.value in
    let message : message_in (as_table (view c.in-Some.value.now)) ≡ Ok c.in-Ok.message = sym c.read_message.ensures ∙ c.in-Ok.is in
    let lacks : lacks_codes c.args.mode c.in-Ok.message ≡ true = sym c.lacks_codes.ensures ∙ c.if-lacks_codes.true in (
      record { fault = c.not_in_single.result; key = dotted (codes "galileo") (codes "codes") },
      rw (← rw c.in-Some.is at found, c.requires, message, lacks, c.not_in_single.ensures) refl,
      c.fault_at-then-lacks_codes.ensures,
    )

pub returns-in-Ok-read_keys-clause-none : goal.returns-in-Ok-read_keys-clause-none
returns-in-Ok-read_keys-clause-none c =
    let found = table_get c.get.result (codes "galileo") c.args.tree.now.entries c.get.ensures.value in
    let message : message_in (as_table (view c.in-Some.value.now)) ≡ Ok c.in-Ok.message = sym c.read_message.ensures ∙ c.in-Ok.is in
    let lacks : lacks_codes c.args.mode c.in-Ok.message ≡ false = sym c.lacks_codes.ensures ∙ c.if-lacks_codes.false in
    rw (← rw c.in-Some.is at found, c.requires, message, lacks) c.in-Ok-read_keys.ensures.none

pub returns-in-Ok-read_keys-clause-value : goal.returns-in-Ok-read_keys-clause-value
returns-in-Ok-read_keys-clause-value c =
    let found = table_get c.get.result (codes "galileo") c.args.tree.now.entries c.get.ensures.value in
    let message : message_in (as_table (view c.in-Some.value.now)) ≡ Ok c.in-Ok.message = sym c.read_message.ensures ∙ c.in-Ok.is in (
      rw (← rw c.in-Some.is at found, message, c.in-Ok-read_keys.ensures.message) refl,
      rw (c.requires, c.in-Ok-read_keys.ensures.message) c.in-Ok-read_keys.ensures.signal,
      c.in-Ok-read_keys.ensures.offset,
    )

pub returns-in-Err-read_keys-clause-fault : goal.returns-in-Err-read_keys-clause-fault
returns-in-Err-read_keys-clause-fault c =
    let found = table_get c.get.result (codes "galileo") c.args.tree.now.entries c.get.ensures.value in
    let message : message_in (as_table (view c.in-Some.value.now)) ≡ Ok c.in-Ok.message = sym c.read_message.ensures ∙ c.in-Ok.is in
    let lacks : lacks_codes c.args.mode c.in-Ok.message ≡ false = sym c.lacks_codes.ensures ∙ c.if-lacks_codes.false in
    rw (← rw c.in-Some.is at found, c.requires, message, lacks) c.in-Err-read_keys.ensures.fault
