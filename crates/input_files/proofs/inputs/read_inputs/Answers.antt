use Rattle.std.proofs.Common.{subst}
use Rattle.std.proofs.lemmas.Result.{err_from_is_err_and}
use Rattle.command_words.specs.Seen.{files_asked}
use Rattle.grid_model.specs.Boxes.{GridBox}
use Rattle.moving_tube.specs.Endings.{IsInsideOf, before_value}
use Rattle.input_files.proofs.InputLemmas.{after_fair, after_found, behind_fair, box_one, receiver_fair}
use Rattle.input_files.proofs.ReadingLemmas.{found_err, found_return, found_then, only_as, only_err, only_err_as, only_then, return_fair}
use Rattle.input_files.specs.Inputs.{after_slot, inputs_value, receiver_files, search_of}
use Rattle.input_files.specs.declared.inputs.Inputs.{Inputs}
use Rattle.input_files.proofs.inputs.read_inputs.Goals as goal

pub returns-in_err-inputs-clause-found : goal.returns-in_err-inputs-clause-found
returns-in_err-inputs-clause-found g c =
    let p = err_from_is_err_and c.from_residual.result c.from_residual.ensures.1 in
    rw (p.1, p.2) (found_err _ _ _ _ _ c.in_err-inputs.field-0.0 c.in_err-inputs.ensures.found)

pub returns-in_err-inputs-clause-only : goal.returns-in_err-inputs-clause-only
returns-in_err-inputs-clause-only g c =
    let names = files_asked c.args.words.now in
    let p = err_from_is_err_and c.from_residual.result c.from_residual.ensures.1 in
    rw (p.1, p.2) (only_err (receiver_files names) (after_slot names.after) _ _ c.in_err-inputs.field-0.0 c.in_err-inputs.ensures.only)

-- ---- the earlier log wasn't read

pub returns-in_err-inputs-2-clause-found : goal.returns-in_err-inputs-2-clause-found
returns-in_err-inputs-2-clause-found g c =
    let p = err_from_is_err_and c.from_residual-in_err-inputs-2.result c.from_residual-in_err-inputs-2.ensures.1 in
    let limits = c.args.limits.now in
    let names = files_asked c.args.words.now in
    let i = inputs_value c.in_ok-inputs.inputs in
    rw (p.1, p.2) (found_then _ _ (receiver_fair limits names c.args.moving) (behind_fair limits names)
    (receiver_files names) _ _ _ _ _ _ i _ c.in_ok-inputs.ensures.only c.in_ok-inputs.ensures.found
    (found_err _ _ _ _ _ c.in_err-inputs-2.field-0.0
    (after_found limits names.after _ _ _ _ _ _ _ c.root-search.ensures.value c.in_err-inputs-2.ensures.found)))

pub returns-in_err-inputs-2-clause-only : goal.returns-in_err-inputs-2-clause-only
returns-in_err-inputs-2-clause-only g c =
    let p = err_from_is_err_and c.from_residual-in_err-inputs-2.result c.from_residual-in_err-inputs-2.ensures.1 in
    let names = files_asked c.args.words.now in
    rw (p.1, p.2) (only_then (receiver_files names) (after_slot names.after) _ _ _ c.in_ok-inputs.inputs _
    c.in_ok-inputs.ensures.only
    (only_err_as (after_slot names.after) _ _ c.in_err-inputs-2.field-0.0 c.in_err-inputs-2.ensures.only))

-- ---- all were read

pub returns-clause-found : goal.returns-clause-found
returns-clause-found g c =
    let limits = c.args.limits.now in
    let names = files_asked c.args.words.now in
    let i = inputs_value c.in_ok-inputs.inputs in
    let left = before_value c.in_ok-inputs-2.field-0 in
    found_then _ _ (receiver_fair limits names c.args.moving) (behind_fair limits names)
    (receiver_files names) _ _ _ _ _ _ i _ c.in_ok-inputs.ensures.only c.in_ok-inputs.ensures.found
    (found_then _ _ (after_fair limits names (search_of i) names.after) (λ other. return_fair (record i { after = other }))
    (after_slot names.after) _ _ _ _ _ _ left _ c.in_ok-inputs-2.ensures.only
    (after_found limits names.after _ _ _ _ _ _ _ c.root-search.ensures.value c.in_ok-inputs-2.ensures.found)
    (found_return (record i { after = left }) _ _ _))

pub returns-clause-only : goal.returns-clause-only
returns-clause-only g c =
    let names = files_asked c.args.words.now in
    let old = c.in_ok-inputs.inputs in
    let all : Inputs = record {
      settings = old.settings;
      nav = old.nav;
      station = old.station;
      obs = old.obs;
      after = c.in_ok-inputs-2.field-0;
    } in
    only_then (receiver_files names) (after_slot names.after) _ _ _ old _ c.in_ok-inputs.ensures.only
    (only_as (after_slot names.after) _ _ c.in_ok-inputs-2.field-0 all c.in_ok-inputs-2.ensures.only)

pub returns-clause-enough : goal.returns-clause-enough
returns-clause-enough g c =
    let e = c.in_ok-inputs.ensures.enough in
    record {
      centre = e.centre;
      usual = e.usual;
      ages = e.ages;
      inside = λ root is.
          subst (λ (b : GridBox). IsInsideOf b (before_value c.in_ok-inputs-2.field-0))
          (box_one _ _ _ root c.root-search.ensures.value is) c.in_ok-inputs-2.ensures.inside;
    }
