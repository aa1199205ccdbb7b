use Rattle.std.proofs.Common.{ℕ, List, [], ◌∷◌, ◌++◌}
use Rattle.std.proofs.lemmas.Result.{err_from_is_err_and}
use Rattle.command_words.specs.Commands.{Files}
use Rattle.command_words.specs.Seen.{files_asked}
use Rattle.input_files.proofs.InputLemmas.{inputs_fair}
use Rattle.input_files.proofs.ReadingLemmas.{found_err, found_then, found_return, named_fair}
use Rattle.input_files.proofs.ReadingLemmas.{only_as, only_err, only_then}
use Rattle.input_files.proofs.ReadingLemmas.{return_fair}
use Rattle.input_files.specs.Inputs.{input_files, inputs_value}
use Rattle.input_files.specs.Logs.{log_text}
use Rattle.input_files.specs.Zones.{zones_text, zones_value}
use Rattle.input_files.specs.Reading.{NamedSlots}
use Rattle.outer_io.specs.declared.slots.Slot.TheVariants as slot
use Rattle.paving_log.specs.Values.{log_value}
use Rattle.cover_run.proofs.TaskLemmas.{behind_fair, zones_fair}
use Rattle.cover_run.specs.Guarding.{guarded_by}
use Rattle.cover_run.specs.declared.guarded.Guarded.{Guarded}
use Rattle.cover_run.proofs.guarded.read_guarded.Goals as goal

-- ---- the files behind those of a receiver

abbrev zones_at : List ℕ → NamedSlots
zones_at zones = (slot.Rows, zones) ∷ []

abbrev log_at : Files → NamedSlots
log_at names = (slot.Log, names.log) ∷ []

-- ---- the files weren't read

pub returns-in_err-inputs-clause-found : goal.returns-in_err-inputs-clause-found
returns-in_err-inputs-clause-found g c =
    let p = err_from_is_err_and c.from_residual.result c.from_residual.ensures.1 in
    rw (p.1, p.2) (found_err _ _ _ _ _ c.in_err-inputs.field-0.0 c.in_err-inputs.ensures.found)

pub returns-in_err-inputs-clause-only : goal.returns-in_err-inputs-clause-only
returns-in_err-inputs-clause-only g c =
    let names = files_asked c.args.words.now in
    let zones = c.args.zones.now in
    let p = err_from_is_err_and c.from_residual.result c.from_residual.ensures.1 in
    rw (p.1, p.2) (only_err (input_files names) (zones_at zones ++ log_at names) _ _
    c.in_err-inputs.field-0.0 c.in_err-inputs.ensures.only)

-- ---- the zones weren't read

pub returns-in_err-watches-clause-found : goal.returns-in_err-watches-clause-found
returns-in_err-watches-clause-found g c =
    let names = files_asked c.args.words.now in
    let p = err_from_is_err_and c.from_residual-in_err-watches.result
    c.from_residual-in_err-watches.ensures.1 in
    let limits = c.args.limits.now in
    let words = c.args.words.now in
    rw (p.1, p.2) (found_then _ _ (inputs_fair limits (files_asked words) c.args.moving)
    (zones_fair limits words.log.now c.args.zones.now) (input_files names) _ _ _ _ _ _
    (inputs_value c.in_ok-inputs.inputs) _ c.in_ok-inputs.ensures.only c.in_ok-inputs.ensures.found
    (found_err _ _ _ _ _ c.in_err-watches.field-0.0 c.in_err-watches.ensures.found))

pub returns-in_err-watches-clause-only : goal.returns-in_err-watches-clause-only
returns-in_err-watches-clause-only g c =
    let names = files_asked c.args.words.now in
    let zones = c.args.zones.now in
    let p = err_from_is_err_and c.from_residual-in_err-watches.result
    c.from_residual-in_err-watches.ensures.1 in
    rw (p.1, p.2) (only_then (input_files names) (zones_at zones ++ log_at names) _ _ _ c.in_ok-inputs.inputs _
    c.in_ok-inputs.ensures.only (only_err (zones_at zones) (log_at names) _ _
    c.in_err-watches.field-0.0 c.in_err-watches.ensures.only))

-- ---- the log wasn't read

pub returns-in_err-log-clause-found : goal.returns-in_err-log-clause-found
returns-in_err-log-clause-found g c =
    let names = files_asked c.args.words.now in
    let zones = c.args.zones.now in
    let p = err_from_is_err_and c.from_residual-in_err-log.result
    c.from_residual-in_err-log.ensures.1 in
    let limits = c.args.limits.now in
    let words = c.args.words.now in
    let i = inputs_value c.in_ok-inputs.inputs in
    let z = zones_value c.in_ok-watches.watches in
    rw (p.1, p.2) (found_then _ _ (inputs_fair limits (files_asked words) c.args.moving)
    (zones_fair limits words.log.now c.args.zones.now) (input_files names) _ _ _ _ _ _ i _
    c.in_ok-inputs.ensures.only c.in_ok-inputs.ensures.found
    (found_then _ _ (named_fair limits zones_text c.args.zones.now)
    (behind_fair limits words.log.now i) (zones_at zones) _ _ _ _ _ _ z _
    c.in_ok-watches.ensures.only c.in_ok-watches.ensures.found
    (found_err _ _ _ _ _ c.in_err-log.field-0.0 c.in_err-log.ensures.found)))

pub returns-in_err-log-clause-only : goal.returns-in_err-log-clause-only
returns-in_err-log-clause-only g c =
    let names = files_asked c.args.words.now in
    let zones = c.args.zones.now in
    let p = err_from_is_err_and c.from_residual-in_err-log.result
    c.from_residual-in_err-log.ensures.1 in
    rw (p.1, p.2) (only_then (input_files names) (zones_at zones ++ log_at names) _ _ _ c.in_ok-inputs.inputs _
    c.in_ok-inputs.ensures.only (only_then (zones_at zones) (log_at names) _ _ _
    c.in_ok-watches.watches _ c.in_ok-watches.ensures.only
    (only_err (log_at names) [] _ _ c.in_err-log.field-0.0 c.in_err-log.ensures.only)))

-- ---- all were read

pub returns-clause-found : goal.returns-clause-found
returns-clause-found g c =
    let names = files_asked c.args.words.now in
    let zones = c.args.zones.now in
    let limits = c.args.limits.now in
    let words = c.args.words.now in
    let i = inputs_value c.in_ok-inputs.inputs in
    let z = zones_value c.in_ok-watches.watches in
    let log = log_value c.in_ok-log.log in
    found_then _ _ (inputs_fair limits (files_asked words) c.args.moving)
    (zones_fair limits words.log.now c.args.zones.now) (input_files names) _ _ _ _ _ _ i _
    c.in_ok-inputs.ensures.only c.in_ok-inputs.ensures.found
    (found_then _ _ (named_fair limits zones_text c.args.zones.now)
    (behind_fair limits words.log.now i) (zones_at zones) _ _ _ _ _ _ z _
    c.in_ok-watches.ensures.only c.in_ok-watches.ensures.found
    (found_then _ _ (named_fair limits log_text words.log.now)
    (λ x. return_fair (guarded_by i z x)) (log_at names) _ _ _ _ _ _ log _
    c.in_ok-log.ensures.only c.in_ok-log.ensures.found
    (found_return (guarded_by i z log) _ _ _)))

pub returns-clause-only : goal.returns-clause-only
returns-clause-only g c =
    let names = files_asked c.args.words.now in
    let zones = c.args.zones.now in
    let all : Guarded = record {
      checked = record { inputs = c.in_ok-inputs.inputs; log = c.in_ok-log.log };
      zones = c.in_ok-watches.watches;
    } in
    only_then (input_files names) (zones_at zones ++ log_at names) _ _ _ c.in_ok-inputs.inputs _
    c.in_ok-inputs.ensures.only (only_then (zones_at zones) (log_at names) _ _ _
    c.in_ok-watches.watches _ c.in_ok-watches.ensures.only
    (only_as (log_at names) _ _ c.in_ok-log.log all c.in_ok-log.ensures.only))
