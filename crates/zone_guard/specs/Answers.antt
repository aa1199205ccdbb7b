-- What the boxes that an epoch keeps say of a zone that is a box, as far as they lie within bounds.
use Rattle.std.specs.Prelude.{◌≡◌, ◌⊎◌, true, ℤ, pos, negsuc, neg_ℤ, ◌<ℤ◌, List, [], ◌∷◌}
use Rattle.std.specs.List.{AllByRecursion}
use Rattle.grid_model.specs.Boxes.{GridBox, box_holds}
use Rattle.grid_model.specs.declared.boxes.Pos.{Pos}
use Rattle.zone_guard.specs.Beyond.{IsSoOfOne}
use Rattle.zone_guard.specs.Planes.{PlaneValue, dot}
use Rattle.zone_guard.specs.PrismAnswers.{AreEnclosed, IsAnswerBy}
use Rattle.zone_guard.specs.declared.zone.ZoneAnswer.{ZoneAnswer}

-- they share no grid point
abbrev pub IsApart : GridBox → GridBox → Type 0
IsApart zone part = (p : Pos) → box_holds part p ≡ true → box_holds zone p ≡ true → ⊥

-- each grid point that they share lies beyond the bound
abbrev pub IsApartWithin : GridBox → GridBox → PlaneValue → Type 0
IsApartWithin zone part h = (p : Pos) → box_holds part p ≡ true → box_holds zone p ≡ true
    → h.most <ℤ dot h.along p

-- what lies in the zone lies behind each of these six planes
abbrev pub plane_on : (x y z most : ℤ) → PlaneValue
plane_on x y z most = record { along = record { x = x; y = y; z = z }; most = most }

abbrev pub faces : GridBox → List PlaneValue
faces zone =
    plane_on (pos 1) (pos 0) (pos 0) zone.x.hi
    ∷ plane_on (negsuc 0) (pos 0) (pos 0) (neg_ℤ zone.x.lo)
    ∷ plane_on (pos 0) (pos 1) (pos 0) zone.y.hi
    ∷ plane_on (pos 0) (negsuc 0) (pos 0) (neg_ℤ zone.y.lo)
    ∷ plane_on (pos 0) (pos 0) (pos 1) zone.z.hi
    ∷ plane_on (pos 0) (pos 0) (negsuc 0) (neg_ℤ zone.z.lo) ∷ []

module _ (bounds : List PlaneValue) (zone : GridBox) where
  -- no point of what the bounds leave of the box lies in the zone
  abbrev pub IsOutOf : GridBox → Type 0
  IsOutOf part = IsApart zone part ⊎ IsSoOfOne (IsApartWithin zone part) bounds

  abbrev pub AreApart : List GridBox → Type 0
  AreApart boxes = AllByRecursion IsOutOf boxes

  -- what the bounds leave of each box lies behind each face
  abbrev pub AreParts : List GridBox → Type 0
  AreParts boxes = AreEnclosed bounds (faces zone) boxes

  abbrev pub IsAnswer : List GridBox → ZoneAnswer → Type 0
  IsAnswer boxes answer = IsAnswerBy (AreApart boxes) (AreParts boxes) answer
