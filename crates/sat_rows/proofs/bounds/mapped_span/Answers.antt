use Rattle.std.proofs.Common.{rules, ℕ, ◌+◌, ◌*◌, FitsSigned, subst}
use Rattle.std.specs.Int.{w64}
use Rattle.std.specs.Prelude.{nat_abs}
use Rattle.std.proofs.lemmas.Int.{to_z-of_z}
use Rattle.fix_interval.specs.Places.{HoldsPlace}
use Rattle.grid_model.specs.Boxes.{grid_box}
use Rattle.grid_model.specs.Lengths.{longest_length}
use Rattle.gnss_model.specs.Mapping.{Mapping}
use Rattle.gnss_model.specs.Delays.{span_amount, spare_over}
use Rattle.grid_model.proofs.IntervalLemmas.{low_member}
use Rattle.sat_rows.specs.BoundLemmas.{mapped_exist}
use Rattle.sat_rows.proofs.DelayLemmas.{same_holds, same_width, same_order, low_spare, high_spare, small_span}
use Rattle.sat_rows.proofs.bounds.mapped_span.Goals as goal
use Rattle.grid_model.proofs.PointLemmas.{low_corner}

pub returns-clause-holds : goal.returns-clause-holds
returns-clause-holds c p chain delay inside held range_is is =
    let low_fits : FitsSigned w64 c.args.upward.lo = search rules in
    let high_fits : FitsSigned w64 c.args.upward.hi = search rules in
    let m = c.mapped-mapping.ensures.holds p chain.x chain.y chain.z is.factor inside held (subst (λ (r : ℕ). Mapping c.args.layer p chain.x chain.y chain.z r is.factor) range_is is.factor_is) in
    let low = c.mapped_delay.ensures.holds is.factor delay.0 m (simp to_z-of_z is.low) in
    let high = c.mapped_delay-2.ensures.holds is.factor delay.1 m (simp to_z-of_z is.high) in
    record {
      lo = same_holds _ _ _ _ delay.0 c.short.ensures.low c.short.ensures.high low;
      hi = same_holds _ _ _ _ delay.1 c.short-2.ensures.low c.short-2.ensures.high high;
    }

pub returns-clause-low_tight : goal.returns-clause-low_tight
returns-clause-low_tight c =
    let low_fits : FitsSigned w64 c.args.upward.lo = search rules in
    let d = longest_length (grid_box c.args.root.now) in
    let w = c.mapped_delay.ensures.narrow c.args.layer d c.mapped-mapping.ensures.width in
    same_width (spare_over c.args.layer (nat_abs c.args.upward.lo) d) (spare_over c.args.layer (span_amount c.args.upward) d) _ _ _ _ c.short.ensures.low c.short.ensures.high (simp to_z-of_z at w) (low_spare c.args.layer c.args.upward d)

pub returns-clause-high_tight : goal.returns-clause-high_tight
returns-clause-high_tight c =
    let high_fits : FitsSigned w64 c.args.upward.hi = search rules in
    let d = longest_length (grid_box c.args.root.now) in
    let w = c.mapped_delay-2.ensures.narrow c.args.layer d c.mapped-mapping.ensures.width in
    same_width (spare_over c.args.layer (nat_abs c.args.upward.hi) d) (spare_over c.args.layer (span_amount c.args.upward) d) _ _ _ _ c.short-2.ensures.low c.short-2.ensures.high (simp to_z-of_z at w) (high_spare c.args.layer c.args.upward d)

pub returns-clause-order : goal.returns-clause-order
returns-clause-order c =
    let low_fits : FitsSigned w64 c.args.upward.lo = search rules in
    let high_fits : FitsSigned w64 c.args.upward.hi = search rules in
    let p = c.args.root.now.lo in
    let inside = low_corner c.args.root.now in
    let a = c.args.place in
    let at : HoldsPlace a a.x.lo a.y.lo a.z.lo = record { x_held = low_member _ _ a.x.ordered; y_held = low_member _ _ a.y.ordered; z_held = low_member _ _ a.z.ordered } in
    let d = mapped_exist c.args.layer c.args.upward p a.x.lo a.y.lo a.z.lo (c.requires.from_origin p inside) (c.requires.far p a.x.lo a.y.lo a.z.lo inside at) in
    let m = c.mapped-mapping.ensures.holds p a.x.lo a.y.lo a.z.lo d.factor inside at d.factor_is in
    let low = c.mapped_delay.ensures.holds d.factor d.low m (simp to_z-of_z d.low_is) in
    let high = c.mapped_delay-2.ensures.holds d.factor d.high m (simp to_z-of_z d.high_is) in
    same_order _ _ d.low d.high _ _ c.short.ensures.low c.short-2.ensures.high low.from d.order high.to

pub returns-clause-low_small : goal.returns-clause-low_small
returns-clause-low_small c n within =
    let low_fits : FitsSigned w64 c.args.upward.lo = search rules in
    let e = c.mapped_delay.ensures.small n (simp to_z-of_z within) in
    small_span (30 * n + 2) c.short.result _ _ c.short.ensures.low c.short.ensures.high e.low e.high

pub returns-clause-high_small : goal.returns-clause-high_small
returns-clause-high_small c n within =
    let high_fits : FitsSigned w64 c.args.upward.hi = search rules in
    let e = c.mapped_delay-2.ensures.small n (simp to_z-of_z within) in
    small_span (30 * n + 2) c.short-2.result _ _ c.short-2.ensures.low c.short-2.ensures.high e.low e.high
