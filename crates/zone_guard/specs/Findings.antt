-- What is found of a zone or a direction, and what it says of points that boxes keep within bounds.
use Rattle.std.specs.Prelude.{ℤ, ◌≤ℤ◌, List, Option, None, Some}
use Rattle.grid_model.specs.Boxes.{GridBox}
use Rattle.grid_model.specs.declared.boxes.Pos.{Pos}
use Rattle.zone_guard.specs.Answers.{IsAnswer}
use Rattle.zone_guard.specs.GroupAnswers.{IsGroupAnswer, pieces_of}
use Rattle.zone_guard.specs.Planes.{PlaneValue}
use Rattle.zone_guard.specs.PrismAnswers.{IsPrismAnswer}
use Rattle.zone_guard.specs.Reaches.{IsReach}
use Rattle.zone_guard.specs.Watched.{FormValue, BoxValue, PrismValue, GroupValue, ReachValue}
use Rattle.zone_guard.specs.declared.found.Finding.{Finding}
use Rattle.zone_guard.specs.declared.found.Finding.TheVariants.{Zone, Reach}
use Rattle.zone_guard.specs.declared.planes.Extent.{Extent}

-- the box with these corners
abbrev pub corner_box : Pos → Pos → GridBox
corner_box lo hi = record {
  x = record { lo = lo.x; hi = hi.x };
  y = record { lo = lo.y; hi = hi.y };
  z = record { lo = lo.z; hi = hi.z };
}

-- of a direction the bounds say nothing more
module _ (bounds : List PlaneValue) where
  abbrev pub IsFinding : FormValue → List GridBox → Finding → Type 0
  IsFinding (BoxValue lo hi) boxes (Zone found) = IsAnswer bounds (corner_box lo hi) boxes found
  IsFinding (PrismValue sides) boxes (Zone found) = IsPrismAnswer bounds sides boxes found
  IsFinding (GroupValue count each sides) boxes (Zone found) =
      IsGroupAnswer bounds (pieces_of count each sides) boxes found
  IsFinding (ReachValue a) boxes (Zone found) = ⊥
  IsFinding (BoxValue lo hi) boxes (Reach found) = ⊥
  IsFinding (PrismValue sides) boxes (Reach found) = ⊥
  IsFinding (GroupValue count each sides) boxes (Reach found) = ⊥
  IsFinding (ReachValue a) boxes (Reach found) = IsReach a boxes found

-- n lies between the ends, which are there
abbrev pub IsReached : Option Extent → ℤ → Type 0
IsReached None n = ⊥
IsReached (Some e) n = (e.least ≤ℤ n) × (n ≤ℤ e.greatest)
