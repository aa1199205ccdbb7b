use Rattle.std.proofs.Common.{refl}
use Rattle.zone_guard.proofs.CornerLemmas.{uncast_sum, uncast_factor}
use Rattle.grid_model.proofs.PlainLemmas.{uncast_end}
use Rattle.zone_guard.proofs.corners.greatest.Goals as goal

pub returns : goal.returns
returns c =
    let a = c.args.along.now in
    let b = c.args.part.now in
    let x = c.greatest_product-x.ensures in
    let y = c.greatest_product-y.ensures in
    let z = c.greatest_product-z.ensures in
    rw (
      uncast_sum _ _ _ x.bound y.bound z.bound,
      x.value,
      y.value,
      z.value,
      uncast_factor a.x c.requires.0,
      uncast_factor a.y c.requires.1,
      uncast_factor a.z c.requires.2,
      uncast_end b.lo.x b.lo_within.0,
      uncast_end b.lo.y b.lo_within.1,
      uncast_end b.lo.z b.lo_within.2,
      uncast_end b.hi.x b.hi_within.0,
      uncast_end b.hi.y b.hi_within.1,
      uncast_end b.hi.z b.hi_within.2,
    ) refl
