use Rattle.std.proofs.Common.{arith}
use Rattle.std.specs.Prelude.{◌*ℤ◌}
use Rattle.std.proofs.lemmas.Int.{ints}
use Rattle.grid_model.proofs.EndsLemmas.{sum_ends}
use Rattle.fix_interval.proofs.ProductEnds.{factors_spread, sum_held}
use Rattle.fix_interval.proofs.products.sum_of_products.Goals as goal

pub plus-requires-clause-low_size : goal.plus-requires-clause-low_size
plus-requires-clause-low_size c =
    let p = c.product.ensures.ends _ _ (factors_spread _ _ c.requires.a_size c.requires.b_size) in
    let q = c.product-2.ensures.ends _ _ (factors_spread _ _ c.requires.c_size c.requires.d_size) in
    record { low = omega (arith, ints); high = omega (arith, ints) }

pub plus-requires-clause-high_size : goal.plus-requires-clause-high_size
plus-requires-clause-high_size c =
    let p = c.product.ensures.ends _ _ (factors_spread _ _ c.requires.a_size c.requires.b_size) in
    let q = c.product-2.ensures.ends _ _ (factors_spread _ _ c.requires.c_size c.requires.d_size) in
    record { low = omega (arith, ints); high = omega (arith, ints) }

pub returns-clause-holds : goal.returns-clause-holds
returns-clause-holds c x y z w v p q r s n =
    let e = c.plus.ensures.low in
    let f = c.plus.ensures.high in
    rw (e, f) (sum_held (x *ℤ y) (z *ℤ w) _ _ _ _ v (λ u. c.product.ensures.holds x y u p q) (λ u. c.product-2.ensures.holds z w u r s) n)

pub returns-clause-ends : goal.returns-clause-ends
returns-clause-ends c k j l i s t =
    let e = c.plus.ensures.low in
    let f = c.plus.ensures.high in
    rw (e, f) (sum_ends _ _ _ _ _ _ _ _ (c.product.ensures.ends k j s) (c.product-2.ensures.ends l i t))
