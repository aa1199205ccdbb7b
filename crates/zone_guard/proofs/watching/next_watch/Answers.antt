use Rattle.std.proofs.Common.{◌∷◌, ◌++◌, [], inr, refl, sym, ◌∙◌}
use Rattle.std.proofs.lemmas.Bool.{false≢true}
use Rattle.std.proofs.lemmas.Result.{err_from_is_err_and}
use Rattle.zone_guard.specs.WatchText.{IsNextLine}
use Rattle.zone_guard.specs.WatchValues.{watch_names, opening_line, kind_value, form_value}
use Rattle.zone_guard.proofs.WatchLemmas.{unfit_here, no_opening, taken_twice, leads_line, watch_leads, told_mapped as told_by}
use Rattle.zone_guard.proofs.watching.next_watch.Goals as goal

pub returns-in_default-opening_of-clause-fault : goal.returns-in_default-opening_of-clause-fault
returns-in_default-opening_of-clause-fault c = inr (
  c.args.number,
  refl,
  unfit_here (watch_names c.args.before.now) 0 c.args.number c.args.text.now c.in-Some.here.now c.in-Some.behind.now c.in-Some.ensures.found
      (no_opening (watch_names c.args.before.now) c.in-Some.here.now c.in_default-opening_of.ensures.none),
)

pub returns-then-is_name_taken-clause-fault : goal.returns-then-is_name_taken-clause-fault
returns-then-is_name_taken-clause-fault c =
    let o = c.in-Some-opening_of.opening in
    inr (
      c.args.number,
      refl,
      unfit_here (watch_names c.args.before.now) 0 c.args.number c.args.text.now c.in-Some.here.now c.in-Some.behind.now c.in-Some.ensures.found
          (taken_twice (watch_names c.args.before.now) c.in-Some.here.now o.name.bytes (kind_value o.kind) c.in-Some-opening_of.ensures.found.1 (c.is_name_taken.ensures.0 c.if-is_name_taken.true)),
    )

pub returns-in_err-form-clause-fault : goal.returns-in_err-form-clause-fault
returns-in_err-form-clause-fault c =
    let o = c.in-Some-opening_of.opening in
    let found = c.in-Some-opening_of.ensures.found in
    let next : IsNextLine (watch_names c.args.before.now) 0 c.in-Some.here.now (opening_line o)
    = record { fits = found.0; spelled = found.1; due = λ h. false≢true (sym c.if-is_name_taken.false ∙ c.is_name_taken.ensures.1 h) } in
    let first = leads_line (watch_names c.args.before.now) 0 c.args.number c.args.text.now c.in-Some.here.now c.in-Some.behind.now c.in-Some.ensures.found (opening_line o) next in
    let p = err_from_is_err_and c.from_residual.result c.from_residual.ensures.1 in
    rw (p.1, p.2) (told_by _ _ _ (λ k fails. first.fails k (fails (watch_names c.args.before.now ++ o.name.bytes ∷ []))) c.in_err-form.ensures.fault)

pub returns-clause-value : goal.returns-clause-value
returns-clause-value c =
    let o = c.in-Some-opening_of.opening in
    let found = c.in-Some-opening_of.ensures.found in
    let next : IsNextLine (watch_names c.args.before.now) 0 c.in-Some.here.now (opening_line o)
    = record { fits = found.0; spelled = found.1; due = λ h. false≢true (sym c.if-is_name_taken.false ∙ c.is_name_taken.ensures.1 h) } in
    watch_leads (watch_names c.args.before.now) c.args.number c.args.text.now c.in-Some.here.now c.in-Some.behind.now o.name.bytes (kind_value o.kind) (form_value c.in_ok-form.form) c.in_ok-form.after c.in_ok-form.left.now
    c.in-Some.ensures.found next c.in_ok-form.ensures.kind (c.in_ok-form.ensures.value (watch_names c.args.before.now ++ o.name.bytes ∷ []))
