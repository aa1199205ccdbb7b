use Rattle.std.proofs.Common.{◌≡◌, ◌*◌, ◌^◌, arith, lit≤, subst, ◌+◌}
use Rattle.std.specs.Prelude.{ℤ, pos, ◌*ℤ◌, ◌≤ℤ◌, ◌<ℤ◌}
use Rattle.std.proofs.lemmas.Int.{ints}
use Rattle.grid_model.specs.Angles.{unit}
use Rattle.grid_model.specs.Intervals.{Ends}
use Rattle.grid_model.specs.Rounding.{Near, IsTightRound}
use Rattle.grid_model.specs.Products.{least_product, greatest_product}
use Rattle.grid_model.specs.Sizes.{IsWithin}
use Rattle.grid_model.proofs.EndsLemmas.{product_ends, quotient_ends, wider_ends}
use Rattle.grid_model.proofs.SpreadLemmas.{products_fit}
use Rattle.fix_interval.proofs.ProductEnds.{amount_of}
use Rattle.broadcast_orbit.specs.OrbitSizes.{height_amount, height_width, value_amount, eccentric_value_width, ratio_amount, ratio_width, least_ratio, true_width}
use Rattle.fix_interval.proofs.NearLemmas.{near_itself}
use Rattle.broadcast_orbit.proofs.ellipse.true_sine.Goals as goal

one_within : IsWithin 1 (pos 1)
one_within = record { low = omega (arith, ints); high = omega (arith, ints) }

-- the root times a sine
height : (a b c d l h : ℤ) → Ends unit 1 a b → Ends value_amount (2 * value_amount) c d → l ≤ℤ h
    → IsTightRound (least_product a b c d) (pos 1) (greatest_product a b c d) (pos 1) l h
    → Ends height_amount (2 * height_amount) l h
height a b c d l h p q o t = amount_of _ _ _ _ (product_ends unit 1 value_amount (2 * value_amount) 100000000000000080000000000000000 (10 ^ 33) a b c d (pos 1) l h p q (record { lt = tt }) (omega (arith, ints)) (omega (arith, ints)) o t)

narrow_height : (a b c d l h : ℤ) → Ends unit 1 a b → Ends value_amount eccentric_value_width c d
    → l ≤ℤ h → IsTightRound (least_product a b c d) (pos 1) (greatest_product a b c d) (pos 1) l h
    → Ends height_amount height_width l h
narrow_height a b c d l h p q o t = product_ends unit 1 value_amount eccentric_value_width 100000000000000080000000000000000 4730000000000000008 a b c d (pos 1) l h p q (record { lt = tt }) (omega (arith, ints)) (omega (arith, ints)) o t

pub times_over-requires-clause-sizes : goal.times_over-requires-clause-sizes
times_over-requires-clause-sizes c = products_fit _ _ _ _ _ _ _ _ _ (lit≤ tt) c.requires.flatness_ends c.requires.sin_size

pub over-requires-clause-low_size : goal.over-requires-clause-low_size
over-requires-clause-low_size c =
    let h = (height _ _ _ _ _ _ c.requires.flatness_ends c.requires.sin_size c.times_over.result.ordered c.times_over.ensures.tight).low in
    record { low = omega (arith, ints); high = omega (arith, ints) }

pub over-requires-clause-high_size : goal.over-requires-clause-high_size
over-requires-clause-high_size c =
    let h = (height _ _ _ _ _ _ c.requires.flatness_ends c.requires.sin_size c.times_over.result.ordered c.times_over.ensures.tight).high in
    record { low = omega (arith, ints); high = omega (arith, ints) }

times_one : (a : ℤ) → a ≡ a *ℤ pos 1
times_one a = omega (arith, ints)

pub returns-clause-holds : goal.returns-clause-holds
returns-clause-holds c w s r v p q i n = c.over.ensures.holds (w *ℤ s) r v (c.times_over.ensures.holds w s (w *ℤ s) p q (near_itself (w *ℤ s))) i (subst (λ (z : ℤ). Near z r v) (times_one (w *ℤ s)) n)

pub returns-clause-amount : goal.returns-clause-amount
returns-clause-amount c =
    let p : pos 0 <ℤ c.args.ratio.lo = let l = c.requires.least in omega (arith, ints) in
    let h = height _ _ _ _ _ _ c.requires.flatness_ends c.requires.sin_size c.times_over.result.ordered c.times_over.ensures.tight in
    amount_of _ _ _ _ (wider_ends _ _ (10 ^ 17 + 4) (10 ^ 17 + 4) _ _ (lit≤ tt) (lit≤ tt) (quotient_ends height_amount (2 * height_amount) ratio_amount (2 * ratio_amount) 12500000000000017 (10 ^ 17) 1 least_ratio (pos 1) _ _ _ _ _ _ h c.requires.ratio_size one_within p c.requires.least (lit≤ tt) (lit≤ tt) c.over.result.ordered c.over.ensures.tight))

pub returns-clause-narrow : goal.returns-clause-narrow
returns-clause-narrow c a b =
    let p : pos 0 <ℤ c.args.ratio.lo = let l = c.requires.least in omega (arith, ints) in
    let h = narrow_height _ _ _ _ _ _ c.requires.flatness_ends a c.times_over.result.ordered c.times_over.ensures.tight in
    wider_ends _ _ 1048 true_width _ _ (lit≤ tt) (lit≤ tt) (quotient_ends height_amount height_width ratio_amount ratio_width 12500000000000017 1044 1 least_ratio (pos 1) _ _ _ _ _ _ h b one_within p c.requires.least (lit≤ tt) (lit≤ tt) c.over.result.ordered c.over.ensures.tight)
