use Rattle.std.proofs.Common.{◌≡◌, ◌+◌, arith, drop, map, ap, subst, sym, inl, refl, ◌∙◌, List, Some, Bool, true, false, not}
use Rattle.std.proofs.lemmas.Bool.{false≢true}
use Rattle.grid_model.specs.Boxes.{GridBox, grid_box}
use Rattle.grid_model.proofs.ListLemmas.{next_item}
use Rattle.row_pairs.specs.FormValues.{form_value}
use Rattle.row_pairs.specs.declared.forms.Form.{Form}
use Rattle.sat_model.specs.Events.{rows_over}
use Rattle.sat_model.specs.HalfSpaces.{FormsShow}
use Rattle.sat_model.specs.MovedFaces.{box_under}
use Rattle.sat_model.specs.ShownBounds.{IsBoundShown}
use Rattle.sat_model.specs.declared.row_sums.RowSum.{RowSum}
use Rattle.subpaving.proofs.BoxLemmas.{same_coordinates}
use Rattle.paving_log.specs.Values.{bound_value, body_value}
use Rattle.paving_log_check.proofs.BoundLemmas.{shown_by, shows, way_first, way_more}
use Rattle.paving_log_check.proofs.bounds.first_unshown.Goals as goal
use Rattle.paving_log_check.proofs.bounds.first_unshown.Goals.{then-ne, else-ne}

pub loop-bound-init : goal.loop-bound-init
loop-bound-init c =
    let body = c.args.body.now in (
      way_first c.args.q (rows_over (grid_box c.args.root.now) c.args.firsts.now) (body_value body).events (grid_box c.args.hull)
          (body_value body).bounds c.args.line,
      c.forms_for-forms.ensures,
    )

pub returns-then-not-forms_show : goal.returns-then-not-forms_show
returns-then-not-forms_show c =
    let body = c.args.body.now in
    let first = rows_over (grid_box c.args.root.now) c.args.firsts.now in
    let events = (body_value body).events in
    let hull = grid_box c.loop-bound.hull in
    let q = c.args.q in
    let bound = c.bound-item.result in
    let next = rw c.deref-bound-items.ensures.value at (next_item c.deref-bound-items.result.now c.loop-bound.bound-index bound c.loop-bound-test.true c.bound-item.is) in
    let w = rw next at c.loop-bound.invariant.0 in
    let Shown : List Form → List RowSum → Type 0 = λ (forms : List Form) (sums : List RowSum). FormsShow (map form_value forms) hull q bound.half sums in
    let hidden = λ (h : IsBoundShown q first events (Some hull) (bound_value bound)).
    false≢true (sym c.if-not-forms_show.true ∙ c.forms_show.ensures.1
    (subst (λ (forms : List Form). Shown forms c.deref-in-loop-bound.result.now) (sym c.deref.ensures.0)
    (subst (Shown c.loop-bound.forms.items) (sym c.deref-in-loop-bound.ensures.value)
    (shows q first events hull (map form_value c.loop-bound.forms.items) c.loop-bound.invariant.1 (bound_value bound) h)))) in (
      w.offset + 0,
      w.fail 0 (inl (hidden, refl)),
      c.plain_fault.ensures.number,
      c.plain_fault.ensures.no_spans,
      omega (arith, c.plain_fault.ensures.line, w.next_is),
    )

pub loop-bound-preserved : goal.loop-bound-preserved
loop-bound-preserved c =
    let body = c.args.body.now in
    let first = rows_over (grid_box c.args.root.now) c.args.firsts.now in
    let events = (body_value body).events in
    let hull = grid_box c.loop-bound.hull in
    let q = c.args.q in
    let bound = c.bound-item.result in
    let next = rw c.deref-bound-items.ensures.value at (next_item c.deref-bound-items.result.now c.loop-bound.bound-index bound c.loop-bound-test.true c.bound-item.is) in
    let w = rw next at c.loop-bound.invariant.0 in
    let Shown : List Form → List RowSum → Type 0 = λ (forms : List Form) (sums : List RowSum). FormsShow (map form_value forms) hull q bound.half sums in
    let shown = shown_by q first events hull (map form_value c.loop-bound.forms.items) c.loop-bound.invariant.1 (bound_value bound)
    (subst (Shown c.loop-bound.forms.items) c.deref-in-loop-bound.ensures.value
    (subst (λ (forms : List Form). Shown forms c.deref-in-loop-bound.result.now) c.deref.ensures.0 (c.forms_show.ensures.0 c.if-not-forms_show.false))) in
    let on = λ (after : GridBox) (moved : after ≡ box_under bound.half hull).
    way_more q first events (grid_box c.args.hull) (body_value body).bounds c.args.line c.loop-bound.next (c.loop-bound.next + (1 + c.len.result)) hull after (bound_value bound)
    (map bound_value (drop (c.loop-bound.bound-index + 1) body.bounds.items)) w shown moved (omega (arith, c.len.ensures, bound.sums.ok)) in
    elim c.if-ne.branch [
      | then-ne w ↦ (
        on (grid_box c.if-ne.hull) (ap grid_box w.hull-is ∙ c.box_under-left.ensures),
        rw (w.hull-is, w.forms-is) w.forms_for-forms-then-ne.ensures,
      )
      | else-ne w ↦ (
        on (grid_box c.if-ne.hull) (ap grid_box w.hull-is
            ∙ (sym (same_coordinates c.box_under-left.result c.loop-bound.hull (equal _ (sym c.ne.ensures ∙ w.if-ne.false))) ∙ c.box_under-left.ensures)),
        rw (w.hull-is, w.forms-is) c.loop-bound.invariant.1,
      )
    ]
  where
    equal : (b : Bool) → not b ≡ false → b ≡ true
    equal true e = refl
    equal false e = absurd cc
