-- A box inside another.
use Rattle.std.specs.Int.Signed.{≤ℤ_refl}
use Rattle.grid_model.specs.Boxes.{GridBox, IsInside}
use Rattle.grid_model.proofs.IntervalLemmas.{le_z_trans}

pub lies_trans : (a b c : GridBox) → IsInside a b → IsInside b c → IsInside a c
lies_trans a b c p q = (
  (le_z_trans c.x.lo b.x.lo a.x.lo q.0.0 p.0.0, le_z_trans a.x.hi b.x.hi c.x.hi p.0.1 q.0.1),
  (le_z_trans c.y.lo b.y.lo a.y.lo q.1.0 p.1.0, le_z_trans a.y.hi b.y.hi c.y.hi p.1.1 q.1.1),
  (le_z_trans c.z.lo b.z.lo a.z.lo q.2.0 p.2.0, le_z_trans a.z.hi b.z.hi c.z.hi p.2.1 q.2.1),
)

pub lies_refl : (a : GridBox) → IsInside a a
lies_refl a = ((≤ℤ_refl a.x.lo, ≤ℤ_refl a.x.hi), (≤ℤ_refl a.y.lo, ≤ℤ_refl a.y.hi), (≤ℤ_refl a.z.lo, ≤ℤ_refl a.z.hi))
