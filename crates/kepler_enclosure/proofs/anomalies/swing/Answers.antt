use Rattle.std.proofs.Common.{◌≤◌, ◌+◌, ◌/◌, arith, lit≤}
use Rattle.std.specs.Prelude.{ℤ, pos, ◌≤ℤ◌, ◌-ℤ◌, nat_abs}
use Rattle.std.proofs.lemmas.Int.{ints}
use Rattle.grid_model.specs.Angles.{unit}
use Rattle.grid_model.specs.Intervals.{Between, Ends}
use Rattle.grid_model.specs.Sizes.{IsWithin}
use Rattle.grid_model.specs.Rounding.{IsTightRound}
use Rattle.grid_model.specs.Products.{least_product, greatest_product}
use Rattle.grid_model.proofs.IntervalLemmas.{ends_of}
use Rattle.grid_model.proofs.SpreadLemmas.{products_fit}
use Rattle.kepler_enclosure.proofs.Narrowing.{fifth, swing_ends, swing_width}
use Rattle.kepler_enclosure.proofs.anomalies.swing.Goals as goal

eccentricities : (lo hi : ℤ) → lo ≤ℤ hi → pos 0 ≤ℤ lo → hi ≤ℤ pos fifth
    → Ends fifth (nat_abs (hi -ℤ lo)) lo hi
eccentricities lo hi o h k = ends_of fifth lo hi o (record { low = omega (arith, ints); high = omega (arith, ints) }) (record { low = omega (arith, ints); high = omega (arith, ints) })

few : (lo hi : ℤ) → lo ≤ℤ hi → pos 0 ≤ℤ lo → hi ≤ℤ pos fifth → nat_abs (hi -ℤ lo) ≤ fifth
few lo hi o h k = omega (arith, ints)

pub times_over-requires-clause-sizes : goal.times_over-requires-clause-sizes
times_over-requires-clause-sizes c =
    products_fit _ fifth _ (unit + 8) _ _ _ _ _ (lit≤ tt) (eccentricities c.args.e.lo c.args.e.hi c.args.e.ordered c.requires.e_low c.requires.e_high)
    (ends_of (unit + 8) c.sine.result.lo c.sine.result.hi c.sine.result.ordered c.sine.ensures.low_size c.sine.ensures.high_size)

pub returns-clause-holds : goal.returns-clause-holds
returns-clause-holds c b y s v p q a n =
    let k : Between c.with_next.result.lo c.with_next.result.hi y = let e = c.with_next.ensures.low in let f = c.with_next.ensures.high in record { from = omega (arith, ints); to = omega (arith, ints) } in
    c.times_over.ensures.holds b s v p (c.sine.ensures.holds y s k a) n

-- the ends of e s over one
swung : (el eh sl sh l h : ℤ) → el ≤ℤ eh → pos 0 ≤ℤ el → eh ≤ℤ pos fifth → sl ≤ℤ sh
    → IsWithin (unit + 8) sl → IsWithin (unit + 8) sh → l ≤ℤ h
    → IsTightRound (least_product el eh sl sh) (pos unit) (greatest_product el eh sl sh) (pos unit) l h
    → Ends (fifth + 4) (nat_abs (sh -ℤ sl) / 5 + 1 + nat_abs (eh -ℤ el) + 2 + 4) l h
swung el eh sl sh l h o p q r s t u v = swing_ends (nat_abs (eh -ℤ el)) (nat_abs (sh -ℤ sl)) el eh sl sh l h (few el eh o p q) (eccentricities el eh o p q) (ends_of (unit + 8) sl sh r s t) u v

pub returns-clause-width : goal.returns-clause-width
returns-clause-width c =
    let k = swung c.args.e.lo c.args.e.hi c.sine.result.lo c.sine.result.hi c.times_over.result.lo c.times_over.result.hi c.args.e.ordered c.requires.e_low c.requires.e_high c.sine.result.ordered c.sine.ensures.low_size c.sine.ensures.high_size c.times_over.result.ordered c.times_over.ensures.tight in
    swing_width c.args.e.lo c.args.e.hi c.args.x.lo c.args.x.hi c.with_next.result.lo c.with_next.result.hi c.sine.result.lo c.sine.result.hi c.times_over.result.lo c.times_over.result.hi
    c.args.e.ordered c.sine.result.ordered c.with_next.ensures.low c.with_next.ensures.high c.sine.ensures.width k.width

pub returns-clause-low_size : goal.returns-clause-low_size
returns-clause-low_size c = (swung c.args.e.lo c.args.e.hi c.sine.result.lo c.sine.result.hi c.times_over.result.lo c.times_over.result.hi c.args.e.ordered c.requires.e_low c.requires.e_high c.sine.result.ordered c.sine.ensures.low_size c.sine.ensures.high_size c.times_over.result.ordered c.times_over.ensures.tight).low

pub returns-clause-high_size : goal.returns-clause-high_size
returns-clause-high_size c = (swung c.args.e.lo c.args.e.hi c.sine.result.lo c.sine.result.hi c.times_over.result.lo c.times_over.result.hi c.args.e.ordered c.requires.e_low c.requires.e_high c.sine.result.ordered c.sine.ensures.low_size c.sine.ensures.high_size c.times_over.result.ordered c.times_over.ensures.tight).high
