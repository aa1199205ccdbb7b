-- What a half-space along an axis leaves of a box: it moves a face, as a cut does.
use Rattle.std.specs.Prelude.{zero, suc, ℤ, pos, negsuc, ◌-ℤ◌, cond, Option, None, Some}
use Rattle.grid_model.specs.Boxes.{Side, GridBox, side_holds}
use Rattle.sat_model.specs.declared.half_spaces.HalfSpace.{HalfSpace}

-- the first number where the two others are 0, and else 0
abbrev pub alone : ℤ → ℤ → ℤ → ℤ
alone d (pos zero) (pos zero) = d
alone d (pos zero) (pos (suc n)) = pos 0
alone d (pos zero) (negsuc n) = pos 0
alone d (pos (suc n)) f = pos 0
alone d (negsuc n) f = pos 0

-- the numbers n of a side with d n at most so much, where d is 1 or -1 and the end lies in the side,
-- and else the side
abbrev pub side_under : ℤ → ℤ → Side → Side
side_under (pos zero) most s = s
side_under (pos (suc zero)) most s = cond (side_holds s most) (record { lo = s.lo; hi = most }) s
side_under (pos (suc (suc n))) most s = s
side_under (negsuc zero) most s =
    cond (side_holds s (pos 0 -ℤ most)) (record { lo = pos 0 -ℤ most; hi = s.hi }) s
side_under (negsuc (suc n)) most s = s

abbrev pub box_under : HalfSpace → GridBox → GridBox
box_under h c = record {
  x = side_under (alone h.x h.y h.z) h.most c.x;
  y = side_under (alone h.y h.x h.z) h.most c.y;
  z = side_under (alone h.z h.x h.y) h.most c.z;
}

abbrev pub hull_under : HalfSpace → Option GridBox → Option GridBox
hull_under h None = None
hull_under h (Some hull) = Some (box_under h hull)
