use Rattle.std.proofs.Common.{◌≡◌, arith, length, refl, sym, None, Some}
use Rattle.std.specs.Prelude.{slice_get}
use Rattle.std.proofs.lemmas.Option.{slice_get_read, slice_get_past}
use Rattle.grid_model.specs.Boxes.{grid_box}
use Rattle.sat_rows.specs.Bases.{IsRowOfBase}
use Rattle.paving_log_check.proofs.RenewalLemmas.{can_see, line_found}
use Rattle.paving_log_check.proofs.renewals.RenewalTest.line_fault.Goals as goal

pub returns-then-self-i : goal.returns-then-self-i
returns-then-self-i c =
    (c.is_of_place.ensures.0 c.if-not-is_of_place.false, (None, rw (slice_get_past c.args.self.now.bases.now c.args.i c.if-self-i.true) tt, tt))

pub renewed-requires-clause-base : goal.renewed-requires-clause-base
renewed-requires-clause-base c =
    let self = c.args.self.now in
    let base = c.index-self-i.result in
    let at : slice_get self.bases.now c.args.i ≡ Some base = slice_get_read self.bases.now (length self.bases.now) c.args.i base refl (omega (arith, c.if-self-i.false)) c.index-self-i.is in
    rw (sym c.index-self-i.is) (can_see self.delays (grid_box self.root.now) self.bases.now c.args.part.now c.args.i base c.requires.ready c.requires.inside at).narrow

pub renewed-requires-clause-part : goal.renewed-requires-clause-part
renewed-requires-clause-part c =
    let self = c.args.self.now in
    let base = c.index-self-i.result in
    let at : slice_get self.bases.now c.args.i ≡ Some base = slice_get_read self.bases.now (length self.bases.now) c.args.i base refl (omega (arith, c.if-self-i.false)) c.index-self-i.is in
    (can_see self.delays (grid_box self.root.now) self.bases.now c.args.part.now c.args.i base c.requires.ready c.requires.inside at).search

pub renewed-requires-clause-high : goal.renewed-requires-clause-high
renewed-requires-clause-high c =
    let self = c.args.self.now in
    let base = c.index-self-i.result in
    let at : slice_get self.bases.now c.args.i ≡ Some base = slice_get_read self.bases.now (length self.bases.now) c.args.i base refl (omega (arith, c.if-self-i.false)) c.index-self-i.is in
    (can_see self.delays (grid_box self.root.now) self.bases.now c.args.part.now c.args.i base c.requires.ready c.requires.inside at).high

pub returns : goal.returns
returns c =
    let self = c.args.self.now in
    let base = c.index-self-i.result in
    let at : slice_get self.bases.now c.args.i ≡ Some base = slice_get_read self.bases.now (length self.bases.now) c.args.i base refl (omega (arith, c.if-self-i.false)) c.index-self-i.is in
    let own = c.renewed.ensures in
    let formed : IsRowOfBase self.delays base (grid_box c.args.part.now) c.renewed.result = record {
      holds = rw (sym c.index-self-i.is) at own.holds;
      x = own.x_tight;
      y = own.y_tight;
      z = own.z_tight;
      range = own.range_tight;
      bounds = own.bounds_tight;
      plain = rw (sym c.index-self-i.is) at own.plain;
    } in
    line_found self.delays (grid_box c.args.part.now) self.firsts.now self.bases.now c.args.i c.args.row.now c.renewed.result c.rows_fault.result c.args.line
    (c.is_of_place.ensures.0 c.if-not-is_of_place.false) (rw at formed) c.rows_fault.ensures
