use Rattle.std.proofs.Common.{ap, subst, sym, inl, inr, refl, ◌∙◌}
use Rattle.std.proofs.lemmas.Bool.{false≢true}
use Rattle.grid_model.specs.Boxes.{grid_box, IsInside}
use Rattle.sat_model.specs.Events.{RowsOver, rows_over}
use Rattle.sat_model.specs.ShownBounds.{rows_behind}
use Rattle.paving_log.specs.Values.{body_value}
use Rattle.paving_log_check.proofs.bounds.rows_for.Goals as goal

pub returns-then-lies_in : goal.returns-then-lies_in
returns-then-lies_in c =
    let hull = grid_box c.args.hull.now in
    let first = rows_over (grid_box c.args.root.now) c.args.firsts.now in
    let inside = subst (λ (rows : RowsOver). IsInside hull rows.part) c.last_rows.ensures (c.lies_in.ensures.0 c.if-lies_in.true) in
    (rows_behind first (body_value c.args.body.now).events, inl (inside, refl), ap (λ (rows : RowsOver). rows.rows) (sym c.last_rows.ensures))

pub returns-else-lies_in : goal.returns-else-lies_in
returns-else-lies_in c =
    let hull = grid_box c.args.hull.now in
    let first = rows_over (grid_box c.args.root.now) c.args.firsts.now in
    let last = rows_behind first (body_value c.args.body.now).events in
    let beyond = λ (inside : IsInside hull last.part).
    false≢true (sym c.if-lies_in.false ∙ c.lies_in.ensures.1 (subst (λ (rows : RowsOver). IsInside hull rows.part) (sym c.last_rows.ensures) inside)) in
    (first, inr (beyond, refl), refl)
