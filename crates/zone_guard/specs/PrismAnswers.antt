-- What the boxes that an epoch keeps say of a prism, as far as they lie within bounds.
use Rattle.std.specs.Prelude.{List}
use Rattle.std.specs.List.{AllByRecursion}
use Rattle.grid_model.specs.Boxes.{GridBox}
use Rattle.zone_guard.specs.Beyond.{IsBeyond, IsSoOfOne, opposite}
use Rattle.zone_guard.specs.Planes.{PlaneValue}
use Rattle.zone_guard.specs.declared.zone.ZoneAnswer.{ZoneAnswer}
use Rattle.zone_guard.specs.declared.zone.ZoneAnswer.TheVariants.{Outside, Inside, Open}

-- The three answers, each exactly where it is so. Where nothing fits, as where there is no box, both
-- may be: then outside is said.
abbrev pub IsAnswerBy : (AreOut AreIn : Type 0) → ZoneAnswer → Type 0
IsAnswerBy AreOut AreIn Outside = AreOut
IsAnswerBy AreOut AreIn Inside = (AreOut → ⊥) × AreIn
IsAnswerBy AreOut AreIn Open = (AreOut → ⊥) × (AreIn → ⊥)

module _ (bounds sides : List PlaneValue) where
  -- what the bounds leave of the box lies beyond one of the planes
  abbrev pub IsShutOut : GridBox → Type 0
  IsShutOut part = IsSoOfOne (IsBeyond bounds part) sides

  -- it lies behind each plane
  abbrev pub IsEnclosed : GridBox → Type 0
  IsEnclosed part = AllByRecursion (λ s. IsBeyond bounds part (opposite s)) sides

  abbrev pub AreShutOut : List GridBox → Type 0
  AreShutOut boxes = AllByRecursion IsShutOut boxes

  abbrev pub AreEnclosed : List GridBox → Type 0
  AreEnclosed boxes = AllByRecursion IsEnclosed boxes

  abbrev pub IsPrismAnswer : List GridBox → ZoneAnswer → Type 0
  IsPrismAnswer boxes answer = IsAnswerBy (AreShutOut boxes) (AreEnclosed boxes) answer
