use Rattle.std.proofs.Common.{◌^◌, ◌*◌, FitsSigned, lit≤, subst, sym, arith}
use Rattle.std.specs.Int.{w128}
use Rattle.std.specs.Prelude.{Bool, ℤ, pos, ◌≤ℤ◌}
use Rattle.std.proofs.lemmas.Int.{to_z-of_z, ints}
use Rattle.gnss_model.specs.ClockChain.{ClockChainOf}
use Rattle.sat_rows.proofs.SpanLemmas.{span_holds, span_small, span_width}
use Rattle.sat_rows.proofs.bases.base_of.Goals as goal

pub returns-clause-holds : goal.returns-clause-holds
returns-clause-holds c delays p chain (value, bound) =
    let el = c.args.el.now in
    let tag : FitsSigned w128 c.args.tag = c.ranges.tag in
    let pr = c.pseudorange-range.ensures.holds value.pr value.pr_is in
    let clock = subst (λ (one : Bool). ClockChainOf c.args.system el one value.n value.tsv value.dt value.t) (sym c.of_one_code.ensures) value.clock in
    let sent = c.clock-sending.ensures.holds value.pr value.tsv value.n value.dt value.t pr (simp to_z-of_z value.tsv_is) value.n_is clock in
    let range = c.corrected_range.ensures.holds value.pr value.dt chain.corrected pr sent.0 value.corrected_is in
    record {
      sent_x = value.sent_x;
      sent_y = value.sent_y;
      sent_in = c.sent_place.ensures.holds value.n value.t value.sent_x value.sent_y chain.z value.n_is sent.1 value.orbit;
      turn = value.turn;
      corrected = span_holds c.corrected_range.result c.span_of.result chain.corrected c.span_of.ensures.low c.span_of.ensures.high range;
      bound = bound;
    }

wider : {z : ℤ} → z ≤ℤ pos 14 → z ≤ℤ pos 1900
wider h = omega (arith, ints, h)

pub returns-clause-range_width : goal.returns-clause-range_width
returns-clause-range_width c = span_width 14 c.corrected_range.result c.span_of.result c.span_of.ensures.low c.span_of.ensures.high c.corrected_range.ensures.ends.width

pub returns-clause-narrow : goal.returns-clause-narrow
returns-clause-narrow c =
    let e = c.corrected_range.ensures.ends in
    record {
      place = c.sent_place.ensures.ends;
      distance = c.sent_place.ensures.distance;
      range = span_small (56 * 10 ^ 12) (56 * 10 ^ 12) _ c.corrected_range.result c.span_of.result c.span_of.ensures.low c.span_of.ensures.high (lit≤ tt) e;
      range_width = wider (span_width 14 c.corrected_range.result c.span_of.result c.span_of.ensures.low c.span_of.ensures.high e.width);
      err = c.requires.small;
    }
