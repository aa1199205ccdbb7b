use Rattle.std.proofs.Common.{◌≡◌, ◌≤◌, arith, ap, length, subst, List, Some, Ok}
use Rattle.std.specs.Prelude.{slice_get}
use Rattle.std.proofs.lemmas.Result.{err_from_is_err_and}
use Rattle.gnss_model.specs.declared.satellites.Sat.{Sat}
use Rattle.grid_model.specs.Boxes.{GridBox, grid_box}
use Rattle.paving.proofs.TurnLemmas.{Suits}
use Rattle.sat_model.specs.Events.{rows_over}
use Rattle.subpaving.specs.LiveValues.{box_option}
use Rattle.log_writer.specs.InUse.{rows_value, rows_option}
use Rattle.log_writer.specs.LastRenewals.{RenewsOver}
use Rattle.log_writer.proofs.EndLemmas.{new_fits, closing_last, closing_done, closing_bounds}
use Rattle.log_writer.proofs.StepSizes.{gives_fit}
use Rattle.log_writer.proofs.closing.put_closing.Goals as goal

pub put_last-requires : goal.put_last-requires
put_last-requires g c =
    let maker = g.M.Renewals.maker c.args.maker.now in
    let rows = c.args.search.now.rows.now in
    let suits : Suits maker rows = λ active i part row gives. subst (λ (l : List Sat). slice_get l i ≡ Some row.sat) (c.requires.sats active) (g.met.M.Renewals.of_sat c.args.maker.now i part row gives) in
    record { fit = new_fits maker _ _ _ (rows_option c.last_renewal-last.result) (gives_fit maker rows suits c.requires.fit) c.last_renewal-last.ensures }

pub returns-in_err-put_last-clause-written : goal.returns-in_err-put_last-clause-written
returns-in_err-put_last-clause-written g c =
    let p = err_from_is_err_and c.from_residual.result c.from_residual.ensures.1 in
    let search = c.args.search.now in
    let maker = g.M.Renewals.maker c.args.maker.now in
    let first = rows_over (grid_box search.root.now) search.rows.now in
    let last = rows_option c.last_renewal-last.result in
    let list = c.over-list.result.items in
    let few : length list ≤ 64 = omega (arith, c.as_slice-along.ensures.fits, ap length c.as_slice-along.ensures.value) in
    let renews = subst (λ (b : GridBox). RenewsOver maker b (box_option c.args.done.now.kept) (length search.rows.now) last) (c.part_in_use-used.ensures search.rows.now) c.last_renewal-last.ensures in
    rw (p.1, p.2) (λ events behind. closing_last search.wanted.now c.in-Some.directions c.in-Some.is list c.over-list.ensures few maker first events c.args.done.now behind last renews _ _ _ c.in_err-put_last.ensures.written)

pub returns-in_err-put_done-clause-written : goal.returns-in_err-put_done-clause-written
returns-in_err-put_done-clause-written g c =
    let p = err_from_is_err_and c.from_residual-in_err-put_done.result c.from_residual-in_err-put_done.ensures.1 in
    let search = c.args.search.now in
    let maker = g.M.Renewals.maker c.args.maker.now in
    let first = rows_over (grid_box search.root.now) search.rows.now in
    let last = rows_option c.last_renewal-last.result in
    let list = c.over-list.result.items in
    let few : length list ≤ 64 = omega (arith, c.as_slice-along.ensures.fits, ap length c.as_slice-along.ensures.value) in
    let renews = subst (λ (b : GridBox). RenewsOver maker b (box_option c.args.done.now.kept) (length search.rows.now) last) (c.part_in_use-used.ensures search.rows.now) c.last_renewal-last.ensures in
    rw (p.1, p.2) (λ events behind. closing_done search.wanted.now c.in-Some.directions c.in-Some.is list c.over-list.ensures few maker first events c.args.done.now behind last renews _ _ _ _ c.in_ok-put_last.ensures.written c.in_err-put_done.ensures.written)

pub returns-in_default-kept-clause-written : goal.returns-in_default-kept-clause-written
returns-in_default-kept-clause-written g c =
    let search = c.args.search.now in
    let maker = g.M.Renewals.maker c.args.maker.now in
    let first = rows_over (grid_box search.root.now) search.rows.now in
    let last = rows_option c.last_renewal-last.result in
    let list = c.over-list.result.items in
    let few : length list ≤ 64 = omega (arith, c.as_slice-along.ensures.fits, ap length c.as_slice-along.ensures.value) in
    let renews = subst (λ (b : GridBox). RenewsOver maker b (box_option c.args.done.now.kept) (length search.rows.now) last) (c.part_in_use-used.ensures search.rows.now) c.last_renewal-last.ensures in
    λ events behind. closing_done search.wanted.now c.in-Some.directions c.in-Some.is list c.over-list.ensures few maker first events c.args.done.now behind last renews _ _ _ (Ok tt) c.in_ok-put_last.ensures.written c.in_ok-put_done.ensures.written

pub returns-clause-written : goal.returns-clause-written
returns-clause-written g c =
    let search = c.args.search.now in
    let maker = g.M.Renewals.maker c.args.maker.now in
    let first = rows_over (grid_box search.root.now) search.rows.now in
    let last = rows_option c.last_renewal-last.result in
    let list = c.over-list.result.items in
    let few : length list ≤ 64 = omega (arith, c.as_slice-along.ensures.fits, ap length c.as_slice-along.ensures.value) in
    let renews = subst (λ (b : GridBox). RenewsOver maker b (box_option c.args.done.now.kept) (length search.rows.now) last) (c.part_in_use-used.ensures search.rows.now) c.last_renewal-last.ensures in
    let hull = grid_box c.in-Some-kept.hull in
    let kept = ap box_option c.in-Some-kept.is in
    λ events behind. closing_bounds search.wanted.now c.in-Some.directions c.in-Some.is list c.over-list.ensures few maker first events c.args.done.now behind last renews
    hull kept (rows_value c.rows_at_end-at_end.result) c.rows_at_end-at_end.ensures _ _ _ _ c.put_bounds.result
    c.in_ok-put_last.ensures.written c.in_ok-put_done.ensures.written (rw c.as_slice-along.ensures.value at c.put_bounds.ensures.written)
