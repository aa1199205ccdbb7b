use Rattle.std.proofs.Common.{◌+◌, ◌*◌, arith, lit≤}
use Rattle.std.proofs.lemmas.Int.{ints}
use Rattle.grid_model.proofs.EndsLemmas.{sum_ends, wider_ends}
use Rattle.fix_interval.proofs.ProductEnds.{amount_of}
use Rattle.elevation_mapping.specs.SineSizes.{up_amount, offset_amount, inner_amount}
use Rattle.elevation_mapping.proofs.elevation.inner_product.Goals as goal

pub returns-clause-narrow : goal.returns-clause-narrow
returns-clause-narrow c k l m i j n v w a b d e f g =
    let p = c.product.ensures.ends k v i w a e in
    let q = c.product-2.ensures.ends l v j w b f in
    let r = c.product-3.ensures.ends m v n w d g in
    let s = c.plus.ensures in
    let t = c.plus-2.ensures in
    let el = s.low in
    let eh = s.high in
    let fl = t.low in
    let fh = t.high in
    rw (fl, fh, el, eh) (wider_ends _ (k * i + l * j + m * n + 6) _ ((k + l + m) * w + (i + j + n) * v + 12) _ _ (omega arith) (omega arith) (sum_ends _ _ _ _ _ _ _ _ (sum_ends _ _ _ _ _ _ _ _ p q) r))

pub returns-clause-amount : goal.returns-clause-amount
returns-clause-amount c =
    let a = c.requires.a_size in
    let b = c.requires.b_size in
    let u = up_amount in
    let l = offset_amount in
    let e = returns-clause-narrow c u u u l l l (2 * u) (2 * l) a.x_ends a.y_ends a.z_ends b.x_ends b.y_ends b.z_ends in
    amount_of inner_amount ((u + u + u) * (2 * l) + (l + l + l) * (2 * u) + 12) _ _ (wider_ends (u * l + u * l + u * l + 6) inner_amount ((u + u + u) * (2 * l) + (l + l + l) * (2 * u) + 12) ((u + u + u) * (2 * l) + (l + l + l) * (2 * u) + 12) _ _ (lit≤ tt) (lit≤ tt) e)

pub plus-requires-clause-low_size : goal.plus-requires-clause-low_size
plus-requires-clause-low_size c =
    let a = c.requires.a_size in
    let b = c.requires.b_size in
    let p = c.product.ensures.ends up_amount (2 * up_amount) offset_amount (2 * offset_amount) a.x_ends b.x_ends in
    let q = c.product-2.ensures.ends up_amount (2 * up_amount) offset_amount (2 * offset_amount) a.y_ends b.y_ends in
    record { low = omega (arith, ints, p.low, q.low); high = omega (arith, ints, p.low, q.low) }

pub plus-requires-clause-high_size : goal.plus-requires-clause-high_size
plus-requires-clause-high_size c =
    let a = c.requires.a_size in
    let b = c.requires.b_size in
    let p = c.product.ensures.ends up_amount (2 * up_amount) offset_amount (2 * offset_amount) a.x_ends b.x_ends in
    let q = c.product-2.ensures.ends up_amount (2 * up_amount) offset_amount (2 * offset_amount) a.y_ends b.y_ends in
    record { low = omega (arith, ints, p.high, q.high); high = omega (arith, ints, p.high, q.high) }

pub plus-requires-2-clause-low_size : goal.plus-requires-2-clause-low_size
plus-requires-2-clause-low_size c =
    let a = c.requires.a_size in
    let b = c.requires.b_size in
    let p = c.product.ensures.ends up_amount (2 * up_amount) offset_amount (2 * offset_amount) a.x_ends b.x_ends in
    let q = c.product-2.ensures.ends up_amount (2 * up_amount) offset_amount (2 * offset_amount) a.y_ends b.y_ends in
    let r = c.product-3.ensures.ends up_amount (2 * up_amount) offset_amount (2 * offset_amount) a.z_ends b.z_ends in
    let s = c.plus.ensures.low in
    record { low = omega (arith, ints, s, p.low, q.low, r.low); high = omega (arith, ints, s, p.low, q.low, r.low) }

pub plus-requires-2-clause-high_size : goal.plus-requires-2-clause-high_size
plus-requires-2-clause-high_size c =
    let a = c.requires.a_size in
    let b = c.requires.b_size in
    let p = c.product.ensures.ends up_amount (2 * up_amount) offset_amount (2 * offset_amount) a.x_ends b.x_ends in
    let q = c.product-2.ensures.ends up_amount (2 * up_amount) offset_amount (2 * offset_amount) a.y_ends b.y_ends in
    let r = c.product-3.ensures.ends up_amount (2 * up_amount) offset_amount (2 * offset_amount) a.z_ends b.z_ends in
    let s = c.plus.ensures.high in
    record { low = omega (arith, ints, s, p.high, q.high, r.high); high = omega (arith, ints, s, p.high, q.high, r.high) }

pub returns-clause-holds : goal.returns-clause-holds
returns-clause-holds c x y z p q r h k =
    let a = c.product.ensures.holds x p h.x_held k.x_held in
    let b = c.product-2.ensures.holds y q h.y_held k.y_held in
    let d = c.product-3.ensures.holds z r h.z_held k.z_held in
    let s = c.plus.ensures in
    let t = c.plus-2.ensures in
    record { from = omega (arith, ints, s.low, t.low, a.from, b.from, d.from); to = omega (arith, ints, s.high, t.high, a.to, b.to, d.to) }
