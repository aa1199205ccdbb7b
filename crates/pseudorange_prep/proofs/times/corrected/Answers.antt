use Rattle.std.proofs.Common.{lit≤, ◌^◌, ◌*◌, ◌+◌}
use Rattle.std.specs.Prelude.{pos, ◌-ℤ◌, ◌*ℤ◌}
use Rattle.grid_model.proofs.EndsLemmas.{sum_ends}
use Rattle.gnss_model.specs.EarthModel.{light_speed}
use Rattle.fix_interval.proofs.NearLemmas.{near_without, between_sums}
use Rattle.pseudorange_prep.proofs.WidthLemmas.{amount_ends, narrow_ends, plus_size, near_light, sum_width}
use Rattle.pseudorange_prep.proofs.times.corrected.Goals as goal

pub plus-requires-clause-low_size : goal.plus-requires-clause-low_size
plus-requires-clause-low_size c =
    let e = c.times_light.ensures.ends (10 ^ 16) (10 ^ 16 + 10 ^ 16) (3 * 10 ^ 14) (6 * 10 ^ 14) (amount_ends (10 ^ 16) _ _ c.args.offset.ordered c.requires.offset_low c.requires.offset_high) (lit≤ tt) (lit≤ tt) in
    plus_size c.args.range.lo c.times_light.result.lo c.requires.range_low e.low

pub plus-requires-clause-high_size : goal.plus-requires-clause-high_size
plus-requires-clause-high_size c =
    let e = c.times_light.ensures.ends (10 ^ 16) (10 ^ 16 + 10 ^ 16) (3 * 10 ^ 14) (6 * 10 ^ 14) (amount_ends (10 ^ 16) _ _ c.args.offset.ordered c.requires.offset_low c.requires.offset_high) (lit≤ tt) (lit≤ tt) in
    plus_size c.args.range.hi c.times_light.result.hi c.requires.range_high e.high

pub returns-clause-holds : goal.returns-clause-holds
returns-clause-holds c p d v f g n =
    between_sums _ _ _ _ _ _ p v f
    (c.times_light.ensures.holds d (v -ℤ p) g (near_light d (v -ℤ p) (near_without p (pos light_speed *ℤ d) (pos (10 ^ 10)) v n)))
    c.plus.ensures.low c.plus.ensures.high

pub returns-clause-width : goal.returns-clause-width
returns-clause-width c w f g =
    let e = c.times_light.ensures.ends (10 ^ 16) 64 (3 * 10 ^ 14) 2 (narrow_ends (10 ^ 16) 64 _ _ c.args.offset.ordered c.requires.offset_low c.requires.offset_high g) (lit≤ tt) (lit≤ tt) in
    sum_width w _ _ _ _ _ _ f e.width c.plus.ensures.low c.plus.ensures.high

pub returns-clause-ends : goal.returns-clause-ends
returns-clause-ends c l u m v k j e f g h =
    rw (c.plus.ensures.low, c.plus.ensures.high) (sum_ends l u (k + 2) (j + 4) _ _ _ _ e (c.times_light.ensures.ends m v k j f g h))
