use Rattle.std.proofs.Common.{lit≤}
use Rattle.std.specs.Prelude.{pos}
use Rattle.gnss_model.specs.RecordBounds.{eccentricity_bound}
use Rattle.grid_model.proofs.EndsLemmas.{wider_ends}
use Rattle.broadcast_orbit.specs.OrbitSizes.{eccentricity_amount}
use Rattle.broadcast_orbit.proofs.Chains.{range_ends, value_held}
use Rattle.broadcast_orbit.proofs.ellipse.on_ellipse.Goals as goal

pub ratio-ratio-requires-clause-e_ends : goal.ratio-ratio-requires-clause-e_ends
ratio-ratio-requires-clause-e_ends c = wider_ends eccentricity_bound eccentricity_amount 1 1 _ _ (lit≤ tt) (lit≤ tt) (range_ends 0 eccentricity_bound c.args.el.now.e c.of_wide-e.result c.of_wide-e.ensures.low c.of_wide-e.ensures.high c.args.el.now.e_within)

pub true_cosine-requires-clause-e_ends : goal.true_cosine-requires-clause-e_ends
true_cosine-requires-clause-e_ends c = wider_ends eccentricity_bound eccentricity_amount 1 1 _ _ (lit≤ tt) (lit≤ tt) (range_ends 0 eccentricity_bound c.args.el.now.e c.of_wide-e.result c.of_wide-e.ensures.low c.of_wide-e.ensures.high c.args.el.now.e_within)

pub flatness-requires-clause-e_ends : goal.flatness-requires-clause-e_ends
flatness-requires-clause-e_ends c = wider_ends eccentricity_bound eccentricity_amount 1 1 _ _ (lit≤ tt) (lit≤ tt) (range_ends 0 eccentricity_bound c.args.el.now.e c.of_wide-e.result c.of_wide-e.ensures.low c.of_wide-e.ensures.high c.args.el.now.e_within)

pub returns-clause-holds : goal.returns-clause-holds
returns-clause-holds c f n t r cv sv F q p a =
    let e = value_held c.args.el.now.e c.of_wide-e.result f.e c.of_wide-e.ensures.low c.of_wide-e.ensures.high F.e_is in
    let m = c.mean_anomaly.ensures.holds f.m0 n t a.mean F.m0_is q p a.mean_is in
    let d = c.eccentric_direction-at.ensures.holds a.mean f.e a.eccentric a.cos_e a.sin_e m e a.eccentric_is a.cos_e_is a.sin_e_is in
    let g = c.ratio-ratio.ensures.holds f.e a.cos_e r e d.cosine a.ratio_is in
    let w = c.flatness.ensures.holds f.e a.flatness e a.flatness_low a.flatness_high in (
      g,
      record {
        cosine = c.true_cosine.ensures.holds a.cos_e f.e r cv d.cosine e g a.cos_v_is;
        sine = c.true_sine.ensures.holds (pos a.flatness) a.sin_e r sv w d.sine g a.sin_v_is;
      },
    )
