use Rattle.std.proofs.Common.{arith}
use Rattle.std.proofs.lemmas.Int.{ints}
use Rattle.gnss_model.specs.RecordBounds.{delay_bound}
use Rattle.grid_model.proofs.EndsLemmas.{difference_ends}
use Rattle.grid_model.proofs.IntervalLemmas.{ends_of}
use Rattle.sat_clock.specs.ClockSizes.{offset_size}
use Rattle.sat_clock.proofs.ClockLemmas.{field_ends}
use Rattle.sat_clock.proofs.drift.less_group_delay.Goals as goal

pub returns-then-single-clause-holds : goal.returns-then-single-clause-holds
returns-then-single-clause-holds c a b p q = rw c.if-single.true (record { from = omega (arith, ints); to = omega (arith, ints) })

pub returns-then-single-clause-ends : goal.returns-then-single-clause-ends
returns-then-single-clause-ends c =
    rw (c.minus.ensures.low, c.minus.ensures.high)
    (difference_ends offset_size _ delay_bound 1 _ _ _ _ (ends_of offset_size _ _ c.args.offset.ordered c.requires.low_size c.requires.high_size)
    (rw (c.of_wide.ensures.low, c.of_wide.ensures.high) (field_ends _ _ c.args.el.now.tgd_within)))
