use Rattle.std.proofs.Common.{◌≡◌, refl, ◌∙◌, codes}
use Rattle.toml.proofs.Views.{table_get}
use Rattle.error_bounds.specs.Keys.{satellite_name, dotted}
use Rattle.error_bounds.proofs.satellites.own_span.Goals as goal

pub returns-in_default-clause-span : goal.returns-in_default-clause-span
returns-in_default-clause-span c =
    let name : c.as_str.result.now ≡ satellite_name c.args.sat = c.as_str.ensures.value ∙ c.satellite_name-name.ensures in
    let found = table_get c.get.result c.as_str.result.now c.args.members.now.entries c.get.ensures.value in
    rw (← rw (c.in_default.is, name) at found) refl

pub returns-in-Ok-clause-span : goal.returns-in-Ok-clause-span
returns-in-Ok-clause-span c =
    let name : c.as_str.result.now ≡ satellite_name c.args.sat = c.as_str.ensures.value ∙ c.satellite_name-name.ensures in
    let found = table_get c.get.result c.as_str.result.now c.args.members.now.entries c.get.ensures.value in
    rw (← rw (c.in-Some.is, name) at found, ← c.in-Ok.ensures.value) refl

pub returns-in-Err-clause-fault : goal.returns-in-Err-clause-fault
returns-in-Err-clause-fault c =
    let name : c.as_str.result.now ≡ satellite_name c.args.sat = c.as_str.ensures.value ∙ c.satellite_name-name.ensures in
    let found = table_get c.get.result c.as_str.result.now c.args.members.now.entries c.get.ensures.value in
    let again : c.as_str-in-Err.result.now ≡ satellite_name c.args.sat = c.as_str-in-Err.ensures.value ∙ c.satellite_name-name.ensures in (
      record { fault = c.in-Err.fault; key = dotted (codes "satellite") (satellite_name c.args.sat) },
      rw (← rw (c.in-Some.is, name) at found, ← c.in-Err.ensures.value) refl,
      record { number = c.fault_at.ensures.number; key = rw again at c.fault_at.ensures.key },
    )
