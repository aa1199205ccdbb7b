use Rattle.std.proofs.Common.{arith}
use Rattle.std.proofs.lemmas.Int.{ints}
use Rattle.satellite_tests.proofs.clocks.corrected.Goals as goal

pub plus-requires-clause-low_size : goal.plus-requires-clause-low_size
plus-requires-clause-low_size g c =
    let el = c.args.el.now in
    let near = el.toc_near.low in
    record {
      low = omega (arith, ints, c.just_before.ensures.low, c.of_wide-toe.ensures.low, c.ephemeris_time.ensures.low, el.toc_from, near.high);
      high = omega (arith, ints, c.just_before.ensures.high, c.just_before.result.ordered, c.of_wide-toe.ensures.low, c.ephemeris_time.ensures.low, el.toc_under, near.low);
    }

pub plus-requires-clause-high_size : goal.plus-requires-clause-high_size
plus-requires-clause-high_size g c =
    let el = c.args.el.now in
    let near = el.toc_near.high in
    record {
      low = omega (arith, ints, c.just_before.ensures.low, c.just_before.result.ordered, c.of_wide-toe.ensures.high, c.ephemeris_time.ensures.high, el.toc_from, near.high);
      high = omega (arith, ints, c.just_before.ensures.high, c.of_wide-toe.ensures.high, c.ephemeris_time.ensures.high, el.toc_under, near.low);
    }
