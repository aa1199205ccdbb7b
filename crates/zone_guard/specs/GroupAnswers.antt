-- What the boxes that an epoch keeps say of a group of pieces, as far as they lie within bounds.
use Rattle.std.specs.Prelude.{ℕ, zero, suc, List, [], ◌∷◌, take, drop}
use Rattle.std.specs.List.{AllByRecursion}
use Rattle.grid_model.specs.Boxes.{GridBox}
use Rattle.grid_model.specs.declared.boxes.Pos.{Pos}
use Rattle.zone_guard.specs.Beyond.{IsSoOfOne}
use Rattle.zone_guard.specs.Planes.{PlaneValue, IsInPrism}
use Rattle.zone_guard.specs.PrismAnswers.{AreShutOut, IsEnclosed, IsAnswerBy}
use Rattle.zone_guard.specs.declared.zone.ZoneAnswer.{ZoneAnswer}

-- so many pieces, each with so many of the sides, one behind another
abbrev pub pieces_of : {X : Type 0} → (count each : ℕ) → List X → List (List X)
pieces_of zero each sides = []
pieces_of (suc count) each sides = take each sides ∷ pieces_of count each (drop each sides)

-- a point of the group lies in one of its pieces
abbrev pub IsInOne : List (List PlaneValue) → Pos → Type 0
IsInOne pieces p = IsSoOfOne (λ sides. IsInPrism sides p) pieces

module _ (bounds : List PlaneValue) (pieces : List (List PlaneValue)) where
  -- what the bounds leave of each box lies outside each piece
  abbrev pub AreOutOfAll : List GridBox → Type 0
  AreOutOfAll boxes = AllByRecursion (λ sides. AreShutOut bounds sides boxes) pieces

  -- what they leave of the box lies in one of the pieces
  abbrev pub LiesInOne : GridBox → Type 0
  LiesInOne part = IsSoOfOne (λ sides. IsEnclosed bounds sides part) pieces

  -- so it is of each box, and the pieces may differ from box to box
  abbrev pub LieInOne : List GridBox → Type 0
  LieInOne boxes = AllByRecursion LiesInOne boxes

  abbrev pub IsGroupAnswer : List GridBox → ZoneAnswer → Type 0
  IsGroupAnswer boxes answer = IsAnswerBy (AreOutOfAll boxes) (LieInOne boxes) answer
