use Rattle.std.proofs.Common.{◌≤◌, Bool, true, false, cond, [], ◌∷◌, ◌++◌, refl, arith}
use Rattle.std.proofs.lemmas.Result.{err_from_is_err_and}
use Rattle.std.specs.List.{flat_map}
use Rattle.sat_model.specs.StepKinds.{is_kept_step}
use Rattle.log_lines.specs.declared.line.LogLine.TheVariants as line
use Rattle.log_lines.specs.declared.line.Place.TheVariants as place
use Rattle.paving_log.specs.Renewing.{events_from}
use Rattle.log_lines.specs.Text.{event_lines}
use Rattle.step_lines.specs.Steps.{steps_of}
use Rattle.paving_log.proofs.LineLemmas.{takes_on, refuses_behind}
use Rattle.paving_log.proofs.CountedLemmas.{few_counted, few_kept, step_counted, renewal_counted, between, found_between, places_between, done_between, fit_between}
use Rattle.paving_log.proofs.closing_lines.events.Goals as goal

pub returns-in_err-rows-in-Renew-clause-refused : goal.returns-in_err-rows-in-Renew-clause-refused
returns-in_err-rows-in-Renew-clause-refused c =
    let p = err_from_is_err_and c.from_residual-in_err-rows-in-Renew.result c.from_residual-in_err-rows-in-Renew.ensures.1 in
    let start = place.Steps c.args.may c.args.n 0 in
    let rows = place.Steps c.args.may c.args.n c.args.n in
    let box = rw c.in-Renew.is at c.in_ok-line.ensures.taken in
    let so_far = c.events.invariant in
    let lines = flat_map event_lines (events_from 0 so_far.steps c.events.renewals.items) in
    let taken = takes_on start start rows c.args.lines c.events.left c.in_ok-line.behind lines (line.Renew c.in-Renew.corners ∷ []) so_far.taken.taken box in
    rw (p.1, p.2) (refuses_behind start rows c.args.lines c.in_ok-line.behind (lines ++ line.Renew c.in-Renew.corners ∷ []) _ taken c.in_err-rows-in-Renew.ensures.refused)

pub overflow_add-count : goal.overflow_add-count
overflow_add-count c = omega (arith, few_counted c.args.may c.args.n c.args.lines c.events.count c.events.kept c.events.renewals.items c.events.left c.events.invariant)

kept_count-most : (b : Bool) → cond b 1 0 ≤ 1
kept_count-most true = omega arith
kept_count-most false = omega arith

pub overflow_add-kept : goal.overflow_add-kept
overflow_add-kept c =
    let old = c.events in
    let all = few_counted c.args.may c.args.n c.args.lines old.count old.kept old.renewals.items old.left old.invariant in
    let some = few_kept c.args.may c.args.n c.args.lines old.count old.kept old.renewals.items old.left old.invariant in
    omega (arith, all, some, c.kept_count-kept.ensures, kept_count-most (is_kept_step c.in-Step.step))

pub events-preserved-in-Step : goal.events-preserved-in-Step
events-preserved-in-Step c =
    rw c.kept_count-kept.ensures (step_counted c.args.may c.args.n c.args.lines c.events.left c.in_ok-line.behind c.events.count c.events.kept c.events.renewals.items c.in-Step.step c.events.invariant
    (rw c.in-Step.is at c.in_ok-line.ensures.taken))

pub events-preserved : goal.events-preserved
events-preserved c =
    let rows = c.in_ok-rows-in-Renew in
    renewal_counted c.args.may c.args.n c.args.lines c.events.left c.in_ok-line.behind rows.behind c.events.count c.events.kept c.events.renewals.items c.push.new.self.items
    (record { at = c.events.count; part = c.box_of-part.result; rows = rows.rows }) c.in-Renew.corners c.box_of-part.ensures refl c.in_ok-push-in-Renew.ensures.items
    c.events.invariant (rw c.in-Renew.is at c.in_ok-line.ensures.taken) rows.ensures.taken rows.ensures.many

pub steps_between-requires-clause-between : goal.steps_between-requires-clause-between
steps_between-requires-clause-between c = between c.args.may c.args.n c.args.lines c.events.left c.events.count c.events.kept c.events.renewals.items c.events.invariant

pub invariant_of-result : goal.invariant_of-result
invariant_of-result c =
    let renewals = c.events.renewals.items in
    let steps = steps_of c.in_ok-steps-in-Done.steps in
    let same = found_between c.args.may c.args.n c.args.lines c.events.left c.events.count c.events.kept renewals steps c.events.invariant c.in_ok-steps-in-Done.ensures in
    record { places = places_between c.args.may c.args.n c.args.lines c.events.left c.events.count c.events.kept renewals c.shrink_to_fit.new.self.items steps c.events.invariant c.shrink_to_fit.ensures.items same }

pub returns-in-Done-clause-taken : goal.returns-in-Done-clause-taken
returns-in-Done-clause-taken c =
    let renewals = c.events.renewals.items in
    let steps = steps_of c.in_ok-steps-in-Done.steps in
    let same = found_between c.args.may c.args.n c.args.lines c.events.left c.events.count c.events.kept renewals steps c.events.invariant c.in_ok-steps-in-Done.ensures in
    done_between c.args.may c.args.n c.args.lines c.events.left c.in_ok-line.behind c.events.count c.events.kept renewals c.shrink_to_fit.new.self.items steps c.in-Done.splits c.events.invariant
    c.shrink_to_fit.ensures.items same (rw c.in-Done.is at c.in_ok-line.ensures.taken)

pub returns-in-Done-clause-fits : goal.returns-in-Done-clause-fits
returns-in-Done-clause-fits c =
    let renewals = c.events.renewals.items in
    let steps = steps_of c.in_ok-steps-in-Done.steps in
    let same = found_between c.args.may c.args.n c.args.lines c.events.left c.events.count c.events.kept renewals steps c.events.invariant c.in_ok-steps-in-Done.ensures in
    fit_between c.args.may c.args.n c.args.lines c.events.left c.in_ok-line.behind c.events.count c.events.kept renewals c.shrink_to_fit.new.self.items steps c.in-Done.splits c.events.invariant
    c.shrink_to_fit.ensures.items same (rw c.in-Done.is at c.in_ok-line.ensures.taken)
