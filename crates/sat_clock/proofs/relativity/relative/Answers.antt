use Rattle.std.proofs.Common.{◌+◌, lit≤}
use Rattle.std.specs.Prelude.{pos, neg_ℤ}
use Rattle.grid_model.specs.Angles.{unit}
use Rattle.gnss_model.specs.EarthModel.{relativity}
use Rattle.grid_model.specs.Intervals.{Between, Ends}
use Rattle.gnss_model.specs.Systems.{relativity_of}
use Rattle.gnss_model.specs.RecordBounds.{eccentricity_bound, greatest_root_a}
use Rattle.grid_model.proofs.IntervalLemmas.{ends_of, low_member}
use Rattle.grid_model.proofs.SpreadLemmas.{products_fit}
use Rattle.sat_clock.specs.ClockSizes.{focus_size, height_size, width}
use Rattle.sat_clock.proofs.RelativityLemmas.{e_ends, root_ends, factor_ends, focus_ends, height_ends, relative_ends, relative_held}
use Rattle.sat_clock.proofs.relativity.relative.Goals as goal

pub times_over-focus-requires-clause-sizes : goal.times_over-focus-requires-clause-sizes
times_over-focus-requires-clause-sizes c =
    products_fit _ eccentricity_bound 1 greatest_root_a 1 _ _ _ _ (lit≤ tt) (rw (c.of_wide.ensures.low, c.of_wide.ensures.high) (e_ends _ c.args.el.now.e_within)) (rw (c.of_wide-2.ensures.low, c.of_wide-2.ensures.high) (root_ends _ c.args.el.now.root_a_within))

pub times_over-requires-clause-sizes : goal.times_over-requires-clause-sizes
times_over-requires-clause-sizes c =
    let el = c.args.el.now in
    let f = focus_ends el.e el.root_a c.of_wide.result.lo c.of_wide.result.hi c.of_wide-2.result.lo c.of_wide-2.result.hi c.times_over-focus.result.lo c.times_over-focus.result.hi el.e_within el.root_a_within c.of_wide.ensures.low c.of_wide.ensures.high c.of_wide-2.ensures.low c.of_wide-2.ensures.high c.times_over-focus.result.ordered c.times_over-focus.ensures.tight in
    products_fit _ focus_size _ (unit + 8) _ _ _ _ _ (lit≤ tt) f (ends_of (unit + 8) _ _ c.args.sine.ordered c.requires.low_size c.requires.high_size)

pub times_over-requires-2-clause-sizes : goal.times_over-requires-2-clause-sizes
times_over-requires-2-clause-sizes c =
    let el = c.args.el.now in
    let f = focus_ends el.e el.root_a c.of_wide.result.lo c.of_wide.result.hi c.of_wide-2.result.lo c.of_wide-2.result.hi c.times_over-focus.result.lo c.times_over-focus.result.hi el.e_within el.root_a_within c.of_wide.ensures.low c.of_wide.ensures.high c.of_wide-2.ensures.low c.of_wide-2.ensures.high c.times_over-focus.result.ordered c.times_over-focus.ensures.tight in
    let h = height_ends (width c.args.sine.lo c.args.sine.hi) c.times_over-focus.result.lo c.times_over-focus.result.hi c.args.sine.lo c.args.sine.hi c.times_over.result.lo c.times_over.result.hi f (ends_of (unit + 8) _ _ c.args.sine.ordered c.requires.low_size c.requires.high_size) c.times_over.result.ordered c.times_over.ensures.tight in
    let k : Ends relativity 0 c.factor.result.lo c.factor.result.hi = rw (c.factor.ensures.low, c.factor.ensures.high) (factor_ends c.args.system) in
    products_fit _ height_size _ relativity _ _ _ _ _ (lit≤ tt) h k

pub returns-clause-holds : goal.returns-clause-holds
returns-clause-holds c e s x v p q r n =
    let p' : Between c.of_wide.result.lo c.of_wide.result.hi e = rw (c.of_wide.ensures.low, c.of_wide.ensures.high) p in
    let q' : Between c.of_wide-2.result.lo c.of_wide-2.result.hi s = rw (c.of_wide-2.ensures.low, c.of_wide-2.ensures.high) q in
    let f = neg_ℤ (pos (relativity_of c.args.system)) in
    let factor : Between c.factor.result.lo c.factor.result.hi f = rw (c.factor.ensures.low, c.factor.ensures.high) (low_member f f (factor_ends c.args.system).order) in
    relative_held c.args.system e s x v c.times_over-focus.result.lo c.times_over-focus.result.hi c.times_over.result.lo c.times_over.result.hi c.times_over-2.result.lo c.times_over-2.result.hi
    c.times_over-focus.result.ordered c.times_over.result.ordered (λ u m. c.times_over-focus.ensures.holds e s u p' q' m) (λ d u m i. c.times_over.ensures.holds d x u m r i) (λ d u m i. c.times_over-2.ensures.holds d f u m factor i) n

pub returns-clause-ends : goal.returns-clause-ends
returns-clause-ends c =
    let el = c.args.el.now in
    let f = focus_ends el.e el.root_a c.of_wide.result.lo c.of_wide.result.hi c.of_wide-2.result.lo c.of_wide-2.result.hi c.times_over-focus.result.lo c.times_over-focus.result.hi el.e_within el.root_a_within c.of_wide.ensures.low c.of_wide.ensures.high c.of_wide-2.ensures.low c.of_wide-2.ensures.high c.times_over-focus.result.ordered c.times_over-focus.ensures.tight in
    let h = height_ends (width c.args.sine.lo c.args.sine.hi) c.times_over-focus.result.lo c.times_over-focus.result.hi c.args.sine.lo c.args.sine.hi c.times_over.result.lo c.times_over.result.hi f (ends_of (unit + 8) _ _ c.args.sine.ordered c.requires.low_size c.requires.high_size) c.times_over.result.ordered c.times_over.ensures.tight in
    let k : Ends relativity 0 c.factor.result.lo c.factor.result.hi = rw (c.factor.ensures.low, c.factor.ensures.high) (factor_ends c.args.system) in
    relative_ends (width c.args.sine.lo c.args.sine.hi) c.times_over.result.lo c.times_over.result.hi c.factor.result.lo c.factor.result.hi c.times_over-2.result.lo c.times_over-2.result.hi h k c.times_over-2.result.ordered c.times_over-2.ensures.tight
