use Rattle.std.proofs.Common.{◌*◌, lit≤}
use Rattle.std.specs.Prelude.{ℤ, pos, ◌≡◌, ◌+ℤ◌, ◌*ℤ◌}
use Rattle.std.proofs.Common.{arith, subst}
use Rattle.std.proofs.lemmas.Int.{ints}
use Rattle.grid_model.proofs.EndsLemmas.{wider_ends}
use Rattle.fix_interval.specs.Factors.{Holds}
use Rattle.fix_interval.proofs.ProductEnds.{spread_by, amount_of, spread}
use Rattle.broadcast_orbit.specs.OrbitSizes.{phi_amount, phi_width, twice_amount, twice_width}
use Rattle.broadcast_orbit.proofs.Chains.{sum_has, sum_held}
use Rattle.broadcast_orbit.proofs.directions.doubled.Goals as goal

twice_is : (s : ℤ) → s +ℤ s ≡ pos 2 *ℤ s
twice_is s = omega (arith, ints)

pub returns-clause-holds : goal.returns-clause-holds
returns-clause-holds c d s p q h i j = record {
  cosine = c.difference_of_products.ensures.holds d d s s p h.cosine h.cosine h.sine h.sine i;
  sine = c.product.ensures.holds (pos 2 *ℤ s) d q (subst (λ (z : ℤ). Holds c.plus.result z) (twice_is s) (sum_held c.args.a.sine c.args.a.sine c.plus.result s s c.plus.ensures.low c.plus.ensures.high h.sine h.sine)) h.cosine j;
}

pub returns-clause-amount : goal.returns-clause-amount
returns-clause-amount c =
    let a = c.requires.cosine in
    let b = c.requires.sine in
    let s = sum_has phi_amount (2 * phi_amount) phi_amount (2 * phi_amount) c.args.a.sine c.args.a.sine c.plus.result c.plus.ensures.low c.plus.ensures.high b b in
    record {
      cosine = amount_of _ _ _ _ (c.difference_of_products.ensures.ends _ _ _ _ (spread_by phi_amount phi_amount _ _ a a 90000000000000421 (lit≤ tt)) (spread_by phi_amount phi_amount _ _ b b 90000000000000421 (lit≤ tt)));
      sine = amount_of _ _ _ _ (wider_ends 180000000000000843 twice_amount _ 720000000000003368 _ _ (lit≤ tt) (lit≤ tt) (c.product.ensures.ends _ _ (spread_by (2 * phi_amount) phi_amount _ _ s a 180000000000000841 (lit≤ tt))));
    }

pub returns-clause-narrow : goal.returns-clause-narrow
returns-clause-narrow c d =
    let a = d.cosine in
    let b = d.sine in
    let s = sum_has phi_amount phi_width phi_amount phi_width c.args.a.sine c.args.a.sine c.plus.result c.plus.ensures.low c.plus.ensures.high b b in
    record {
      cosine = c.difference_of_products.ensures.ends _ _ _ _ (spread phi_amount phi_width phi_amount phi_width 90000000000000421 13309 _ _ a a (lit≤ tt) (lit≤ tt)) (spread phi_amount phi_width phi_amount phi_width 90000000000000421 13309 _ _ b b (lit≤ tt) (lit≤ tt));
      sine = wider_ends 180000000000000843 twice_amount 26621 twice_width _ _ (lit≤ tt) (lit≤ tt) (c.product.ensures.ends _ _ (spread (2 * phi_amount) (2 * phi_width) phi_amount phi_width 180000000000000841 26617 _ _ s a (lit≤ tt) (lit≤ tt)));
    }
