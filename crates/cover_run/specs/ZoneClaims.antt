-- What the lines of `guard` claim of the points that fit.
use Rattle.std.specs.Prelude.{◌≡◌, ◌⊎◌, ℕ, ℤ, true, List, [], ◌∷◌, Option, None, Some}
use Rattle.std.specs.List.{slice_get}
use Rattle.std.specs.declared.alloc.Global.{Global}
use Rattle.std.specs.declared.vec.Vec.{Vec}
use Rattle.epoch_selection.specs.Searches.{Search}
use Rattle.grid_model.specs.Boxes.{GridBox, box_holds}
use Rattle.grid_model.specs.declared.boxes.Pos.{Pos}
use Rattle.sat_rows.specs.Fitting.{FitsEpoch}
use Rattle.sat_rows.specs.Meanings.{Meaning}
use Rattle.zone_guard.specs.Counted.{counts_at}
use Rattle.zone_guard.specs.Findings.{IsReached, corner_box}
use Rattle.zone_guard.specs.GroupAnswers.{IsInOne, pieces_of}
use Rattle.zone_guard.specs.Planes.{IsInPrism, dot}
use Rattle.zone_guard.specs.Watched.{BoxValue, FormValue, GroupValue, PrismValue, ReachValue}
use Rattle.zone_guard.specs.Watched.{WatchValue}
use Rattle.zone_guard.specs.declared.found.Counts.{Counts}
use Rattle.zone_guard.specs.declared.found.EpochFindings.{EpochFindings}
use Rattle.zone_guard.specs.declared.found.Finding.{Finding}
use Rattle.zone_guard.specs.declared.found.Finding.TheVariants.{Zone, Reach}
use Rattle.zone_guard.specs.declared.zone.ZoneAnswer.{ZoneAnswer}
use Rattle.zone_guard.specs.declared.zone.ZoneAnswer.TheVariants.{Outside, Inside, Open}
use Rattle.cover_run.specs.ZoneTexts.{reach_from}

-- ---- the lines of an epoch

-- outside the point isn't in the zone, and inside it is
abbrev pub IsSo : ZoneAnswer → (IsIn : Type 0) → Type 0
IsSo Outside IsIn = IsIn → ⊥
IsSo Inside IsIn = IsIn
IsSo Open IsIn = Unit {0}

-- its product with a direction lies between the ends of the reach
abbrev pub IsTrueAt : FormValue → Finding → Pos → Type 0
IsTrueAt (BoxValue lo hi) (Zone found) p = IsSo found (box_holds (corner_box lo hi) p ≡ true)
IsTrueAt (BoxValue lo hi) (Reach found) p = ⊥
IsTrueAt (PrismValue sides) (Zone found) p = IsSo found (IsInPrism sides p)
IsTrueAt (PrismValue sides) (Reach found) p = ⊥
IsTrueAt (GroupValue count each sides) (Zone found) p =
    IsSo found (IsInOne (pieces_of count each sides) p)
IsTrueAt (GroupValue count each sides) (Reach found) p = ⊥
IsTrueAt (ReachValue a) (Zone found) p = ⊥
IsTrueAt (ReachValue a) (Reach found) p = IsReached found (dot a p)

-- it is true of each grid point of the root that fits at any clock offset
module _ (FitsAt : Pos → ℤ → Type 0) (root : GridBox) where
  abbrev pub IsTrueOf : FormValue → Finding → Type 0
  IsTrueOf form f =
      (p : Pos) (b : ℤ) → box_holds root p ≡ true → FitsAt p b → IsTrueAt form f p

  abbrev pub AreTrueOf : List WatchValue → List Finding → Type 0
  AreTrueOf [] [] = Unit {0}
  AreTrueOf [] (f ∷ found) = ⊥
  AreTrueOf (w ∷ watches) [] = ⊥
  AreTrueOf (w ∷ watches) (f ∷ found) = IsTrueOf w.form f × AreTrueOf watches found

  -- nothing is claimed of an epoch of few satellites
  abbrev pub IsEpochTrue : List WatchValue → Option (Vec Finding Global) → Type 0
  IsEpochTrue watches None = Unit {0}
  IsEpochTrue watches (Some found) = AreTrueOf watches found.items

-- in each epoch, of all usable satellites but at most q
abbrev pub AreEpochsTrue : Meaning → ℕ → List WatchValue → List Search → List EpochFindings
    → Type 0
AreEpochsTrue m q watches [] [] = Unit {0}
AreEpochsTrue m q watches [] (e ∷ epochs) = ⊥
AreEpochsTrue m q watches (search ∷ rest) [] = ⊥
AreEpochsTrue m q watches (search ∷ rest) (e ∷ epochs) =
    IsEpochTrue (FitsEpoch m q search.root search.epoch) search.root watches e.found
    × AreEpochsTrue m q watches rest epochs

-- ---- the totals

-- where all paved epochs lie outside the point isn't in the zone, and where all lie inside it is
pub record IsTotalTrue (c : Counts) (IsIn : Type 0) : Type 0 where
  pub outside : c.inside ≡ 0 → c.undecided ≡ 0 → IsIn → ⊥
  pub inside : c.outside ≡ 0 → c.undecided ≡ 0 → IsIn

-- its product lies between the ends of the reach over all epochs
abbrev pub IsTotalTrueAt : FormValue → ℕ → List EpochFindings → Pos → Type 0
IsTotalTrueAt (BoxValue lo hi) place epochs p =
    IsTotalTrue (counts_at place epochs) (box_holds (corner_box lo hi) p ≡ true)
IsTotalTrueAt (PrismValue sides) place epochs p =
    IsTotalTrue (counts_at place epochs) (IsInPrism sides p)
IsTotalTrueAt (GroupValue count each sides) place epochs p =
    IsTotalTrue (counts_at place epochs) (IsInOne (pieces_of count each sides) p)
IsTotalTrueAt (ReachValue a) place epochs p = IsReached (reach_from None place epochs) (dot a p)

module _ (m : Meaning) (q : ℕ) where
  -- the point fits in the epoch, which is paved
  abbrev pub FitsPaved : Search → Option (Vec Finding Global) → Pos → ℤ → Type 0
  FitsPaved search None p b = ⊥
  FitsPaved search (Some found) p b =
      (box_holds search.root p ≡ true) × FitsEpoch m q search.root search.epoch p b

  -- it fits in one of the epochs
  abbrev pub FitsSome : List Search → List EpochFindings → Pos → ℤ → Type 0
  FitsSome [] epochs p b = ⊥
  FitsSome (search ∷ rest) [] p b = ⊥
  FitsSome (search ∷ rest) (e ∷ epochs) p b =
      FitsPaved search e.found p b ⊎ FitsSome rest epochs p b

  -- of the zone or direction at each place, of each point that fits in a paved epoch
  abbrev pub AreTotalsTrue : List WatchValue → List Search → List EpochFindings → Type 0
  AreTotalsTrue watches searches epochs =
      (place : ℕ) (w : WatchValue) → slice_get watches place ≡ Some w
      → (p : Pos) (b : ℤ) → FitsSome searches epochs p b → IsTotalTrueAt w.form place epochs p
