-- What is left of a box on one axis after another.
use Rattle.std.proofs.Common.{◌≡◌, refl}
use Rattle.std.specs.Prelude.{ℕ, ℤ}
use Rattle.grid_model.specs.Boxes.{GridBox, side_at, with_side}
use Rattle.sat_model.specs.MovedFaces.{alone, side_under, box_under}
use Rattle.sat_model.specs.declared.half_spaces.HalfSpace.{HalfSpace}

pub all_under : (h : HalfSpace) (c p q r : GridBox)
    → p ≡ with_side 0 c (side_under (alone h.x h.y h.z) h.most (side_at 0 c))
    → q ≡ with_side 1 p (side_under (alone h.y h.x h.z) h.most (side_at 1 p))
    → r ≡ with_side 2 q (side_under (alone h.z h.x h.y) h.most (side_at 2 q))
    → r ≡ box_under h c
all_under h c p q r e f g = rw g (rw f (rw e refl))

-- the same by a factor that is known
pub by_factor : (axis : ℕ) (c r : GridBox) (d factor most : ℤ) → d ≡ factor
    → r ≡ with_side axis c (side_under factor most (side_at axis c))
    → r ≡ with_side axis c (side_under d most (side_at axis c))
by_factor axis c r d factor most is e = rw is e
