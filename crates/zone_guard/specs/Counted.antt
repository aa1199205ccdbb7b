-- In how many epochs a zone is so.
use Rattle.std.specs.Prelude.{ℕ, zero, suc, Bool, true, false, List, [], ◌∷◌, Option, None, Some}
use Rattle.std.specs.Prelude.{is_none}
use Rattle.std.specs.List.{count_by}
use Rattle.std.specs.declared.vec.Vec.{Vec}
use Rattle.std.specs.declared.alloc.Global.{Global}
use Rattle.zone_guard.specs.declared.found.Counts.{Counts}
use Rattle.zone_guard.specs.declared.found.EpochFindings.{EpochFindings}
use Rattle.zone_guard.specs.declared.found.Finding.{Finding}
use Rattle.zone_guard.specs.declared.found.Finding.TheVariants.{Zone, Reach}
use Rattle.zone_guard.specs.declared.zone.ZoneAnswer.{ZoneAnswer}
use Rattle.zone_guard.specs.declared.zone.ZoneAnswer.TheVariants.{Outside, Inside, Open}

abbrev pub item_at : ℕ → List Finding → Option Finding
item_at place [] = None
item_at zero (f ∷ found) = Some f
item_at (suc place) (f ∷ found) = item_at place found

abbrev pub found_at : ℕ → Option (Vec Finding Global) → Option Finding
found_at place None = None
found_at place (Some found) = item_at place found.items

-- what is found in an epoch of the zone or direction at a place of the file
abbrev pub finding_at : ℕ → EpochFindings → Option Finding
finding_at place e = found_at place e.found

abbrev pub same_answer : ZoneAnswer → ZoneAnswer → Bool
same_answer Outside Outside = true
same_answer Outside Inside = false
same_answer Outside Open = false
same_answer Inside Outside = false
same_answer Inside Inside = true
same_answer Inside Open = false
same_answer Open Outside = false
same_answer Open Inside = false
same_answer Open Open = true

abbrev pub is_answer : ZoneAnswer → Option Finding → Bool
is_answer wanted None = false
is_answer wanted (Some (Zone answer)) = same_answer wanted answer
is_answer wanted (Some (Reach found)) = false

abbrev pub is_few : EpochFindings → Bool
is_few e = is_none e.found

abbrev pub count_of : ZoneAnswer → ℕ → List EpochFindings → ℕ
count_of wanted place epochs = count_by (λ e. is_answer wanted (finding_at place e)) epochs

abbrev pub counts_at : ℕ → List EpochFindings → Counts
counts_at place epochs = record {
  outside = count_of Outside place epochs;
  inside = count_of Inside place epochs;
  undecided = count_of Open place epochs;
  few = count_by is_few epochs;
}
