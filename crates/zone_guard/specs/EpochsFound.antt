-- What is found in the epochs of a log.
use Rattle.std.specs.Prelude.{◌≡◌, true, false, List, [], ◌∷◌, Option, None, Some}
use Rattle.std.specs.declared.vec.Vec.{Vec}
use Rattle.std.specs.declared.alloc.Global.{Global}
use Rattle.grid_model.specs.Boxes.{GridBox}
use Rattle.sat_model.specs.Logs.{Block, is_few}
use Rattle.paving_log.specs.CoverBoxes.{cover_of}
use Rattle.zone_guard.specs.Bounds.{bounds_of}
use Rattle.zone_guard.specs.Findings.{IsFinding}
use Rattle.zone_guard.specs.Planes.{PlaneValue}
use Rattle.zone_guard.specs.Watched.{WatchValue}
use Rattle.zone_guard.specs.declared.found.EpochFindings.{EpochFindings}
use Rattle.zone_guard.specs.declared.found.Finding.{Finding}

-- one for each zone and direction, in order
module _ (bounds : List PlaneValue) (boxes : List GridBox) where
  abbrev pub AreFindings : List WatchValue → List Finding → Type 0
  AreFindings [] [] = Unit {0}
  AreFindings [] (f ∷ found) = ⊥
  AreFindings (w ∷ watches) [] = ⊥
  AreFindings (w ∷ watches) (f ∷ found) = IsFinding bounds w.form boxes f
      × AreFindings watches found

-- nothing exactly in an epoch of few satellites, and else what its kept boxes and its bounds say
abbrev pub IsFoundIn : List WatchValue → Block → Option (Vec Finding Global) → Type 0
IsFoundIn watches block None = is_few block ≡ true
IsFoundIn watches block (Some found) =
    (is_few block ≡ false)
    × AreFindings (bounds_of block.body) (cover_of block.body) watches found.items

abbrev pub IsEpochFound : List WatchValue → Block → EpochFindings → Type 0
IsEpochFound watches block e = (e.index ≡ block.index) × IsFoundIn watches block e.found

-- epoch by epoch
abbrev pub AreEpochsFound : List WatchValue → List Block → List EpochFindings → Type 0
AreEpochsFound watches [] [] = Unit {0}
AreEpochsFound watches [] (e ∷ found) = ⊥
AreEpochsFound watches (block ∷ more) [] = ⊥
AreEpochsFound watches (block ∷ more) (e ∷ found) =
    IsEpochFound watches block e × AreEpochsFound watches more found
