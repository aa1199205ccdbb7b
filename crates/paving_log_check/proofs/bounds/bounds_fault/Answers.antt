use Rattle.std.proofs.Common.{◌≡◌, ℕ, zero, suc, ◌+◌, ◌<◌, false, eqb, arith, length, map, ap, subst, sym, ◌∙◌, List, Option}
use Rattle.std.specs.Prelude.{MatchOption}
use Rattle.std.proofs.lemmas.List.{length-map}
use Rattle.grid_model.specs.Boxes.{GridBox, grid_box}
use Rattle.sat_model.specs.BoxTests.{test_of}
use Rattle.sat_model.specs.Events.{rows_over}
use Rattle.sat_model.specs.Fold.{first_boxes, pieces}
use Rattle.sat_model.specs.KeptHulls.{kept_hull}
use Rattle.sat_model.specs.Renewals.{AnyLine}
use Rattle.sat_model.specs.ShownBounds.{AreShownOver, IsFirstUnshownOver}
use Rattle.sat_model.specs.Stages.{first_stage}
use Rattle.sat_model.specs.declared.steps.Step.{Step}
use Rattle.step_lines.specs.Steps.{steps_of}
use Rattle.subpaving.specs.Folding.{StepsFold}
use Rattle.subpaving.specs.LiveValues.{box_option}
use Rattle.subpaving.proofs.FoldingLemmas.{steps_fold}
use Rattle.paving_log.specs.Values.{bound_value, body_value}
use Rattle.paving_log.proofs.EventLemmas.{steps_in_events}
use Rattle.paving_log_check.specs.Answers.{ShowsNoSpans}
use Rattle.paving_log_check.proofs.BoundLemmas.{lasts_few, none_shown}
use Rattle.paving_log_check.proofs.bounds.bounds_fault.Goals as goal

positive : (n : ℕ) → eqb n 0 ≡ false → 0 < n
positive zero e = absurd cc
positive (suc n) e = omega arith

pub kept_hull-requires : goal.kept_hull-requires
kept_hull-requires c =
    let body = c.args.body.now in
    let root = grid_box c.args.root.now in
    subst (λ (steps : List Step). StepsFold (first_boxes root) steps) (steps_in_events 0 (steps_of body.steps) body.renewals.items)
    (steps_fold AnyLine (rows_over root c.args.firsts.now) c.args.rules.now body.done 0 (first_stage (test_of c.args.rules.now c.args.firsts.now) root)
    (body_value body).events c.requires.passes)

pub returns-in_default : goal.returns-in_default
returns-in_default c =
    let body = c.args.body.now in
    let root = grid_box c.args.root.now in
    let steps = ap (λ (steps : List Step). kept_hull (pieces root steps)) (steps_in_events 0 (steps_of body.steps) body.renewals.items) in
    let none = steps ∙ sym c.in_ok-hull.ensures ∙ ap box_option c.in_default.is in
    let some : 0 < length (map bound_value body.bounds.items) =
    omega (arith, length-map body.bounds.items bound_value, positive _ (sym c.is_empty.ensures ∙ c.if-is_empty.false), body.bounds.ok) in (
      0,
      none_shown c.args.rules.now.outliers (rows_over root c.args.firsts.now) (body_value body).events (body_value body).bounds some none,
      c.plain_fault.ensures.number,
      c.plain_fault.ensures.no_spans,
      omega (arith, c.plain_fault.ensures.line),
    )

pub first_unshown-found-requires-clause-lasts : goal.first_unshown-found-requires-clause-lasts
first_unshown-found-requires-clause-lasts c =
    let body = c.args.body.now in
    let root = grid_box c.args.root.now in
    let firsts = c.args.firsts.now in
    omega (
      arith,
      c.requires.rows,
      lasts_few c.args.rules.now body.done (first_stage (test_of c.args.rules.now firsts) root) (rows_over root firsts) (body_value body).events c.requires.passes,
    )

pub returns : goal.returns
returns c =
    let body = c.args.body.now in
    let root = grid_box c.args.root.now in
    let first = rows_over root c.args.firsts.now in
    let events = (body_value body).events in
    let q = c.args.rules.now.outliers in
    let steps = ap (λ (steps : List Step). kept_hull (pieces root steps)) (steps_in_events 0 (steps_of body.steps) body.renewals.items) in
    let hull = steps ∙ sym c.in_ok-hull.ensures ∙ ap box_option c.in-Some.is in
    subst (λ (part : Option GridBox). MatchOption c.first_unshown-found.result
    (AreShownOver q first events part (body_value body).bounds)
    (λ fault. (k : ℕ) × IsFirstUnshownOver q first events part (body_value body).bounds k
    × (fault.number ≡ 66) × ShowsNoSpans fault × (fault.line ≡ c.args.line + k))) (sym hull) c.first_unshown-found.ensures
