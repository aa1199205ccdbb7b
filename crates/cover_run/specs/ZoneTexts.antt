-- What is told of zones and directions: the lines of each epoch, and the totals behind them.
use Rattle.std.specs.Prelude.{◌≡◌, ℕ, ◌+◌, ◌≤◌, Bool, true, false, List, [], ◌∷◌, ◌++◌, map, length}
use Rattle.std.specs.Prelude.{Option, None, Some, Result, Ok, Err}
use Rattle.std.specs.declared.alloc.Global.{Global}
use Rattle.std.specs.declared.vec.Vec.{Vec}
use Rattle.input_files.specs.Zones.{ZonesValue}
use Rattle.outer_io.specs.Causes.{Rose}
use Rattle.outer_io.specs.Taken.{SinkState, TakenBy, TakenPrefix}
use Rattle.outer_io.specs.declared.failed.Failed.{Failed}
use Rattle.zone_guard.specs.Counted.{counts_at, finding_at}
use Rattle.zone_guard.specs.Texts.{counts_text, few_text, finding_text, whole_text}
use Rattle.zone_guard.specs.Totals.{joined}
use Rattle.zone_guard.specs.Watched.{BoxValue, FormValue, GroupValue, PrismValue, ReachValue}
use Rattle.zone_guard.specs.Watched.{WatchValue}
use Rattle.zone_guard.specs.declared.found.EpochFindings.{EpochFindings}
use Rattle.zone_guard.specs.declared.found.Finding.{Finding}
use Rattle.zone_guard.specs.declared.found.Finding.TheVariants.{Zone, Reach}
use Rattle.zone_guard.specs.declared.planes.Extent.{Extent}

-- lines, one behind another
abbrev pub text_of : List (List ℕ) → List ℕ
text_of [] = []
text_of (line ∷ more) = line ++ text_of more

-- ---- the epochs

-- a line for each zone and direction, in order
abbrev pub finding_lines : ℕ → List WatchValue → List Finding → List (List ℕ)
finding_lines index [] found = []
finding_lines index (w ∷ watches) [] = []
finding_lines index (w ∷ watches) (f ∷ found) =
    finding_text index w.name f ∷ finding_lines index watches found

abbrev pub found_text : List WatchValue → ℕ → Option (Vec Finding Global) → List ℕ
found_text watches index None = few_text index
found_text watches index (Some found) = text_of (finding_lines index watches found.items)

abbrev pub epoch_text : List WatchValue → EpochFindings → List ℕ
epoch_text watches e = found_text watches e.index e.found

abbrev pub epochs_text : List WatchValue → List EpochFindings → List ℕ
epochs_text watches epochs = text_of (map (epoch_text watches) epochs)

-- ---- the totals

-- none of a zone
abbrev pub reach_of : Option Finding → Option Extent
reach_of None = None
reach_of (Some (Zone found)) = None
reach_of (Some (Reach found)) = found

abbrev pub reach_in : ℕ → EpochFindings → Option Extent
reach_in place e = reach_of (finding_at place e)

-- the reach of these epochs, and of those before
abbrev pub reach_from : Option Extent → ℕ → List EpochFindings → Option Extent
reach_from before place [] = before
reach_from before place (e ∷ epochs) = reach_from (joined before (reach_in place e)) place epochs

-- in how many epochs a zone is so, or the reach over all of them
abbrev pub total_of : FormValue → List ℕ → ℕ → List EpochFindings → List ℕ
total_of (BoxValue lo hi) name place epochs = counts_text name (counts_at place epochs)
total_of (PrismValue sides) name place epochs = counts_text name (counts_at place epochs)
total_of (GroupValue count each sides) name place epochs =
    counts_text name (counts_at place epochs)
total_of (ReachValue a) name place epochs = whole_text name (reach_from None place epochs)

abbrev pub total_text : ℕ → List EpochFindings → WatchValue → List ℕ
total_text place epochs w = total_of w.form w.name place epochs

-- from this place on
abbrev pub total_lines : ℕ → List EpochFindings → List WatchValue → List (List ℕ)
total_lines place epochs [] = []
total_lines place epochs (w ∷ watches) =
    total_text place epochs w ∷ total_lines (place + 1) epochs watches

abbrev pub totals_text : List WatchValue → List EpochFindings → List ℕ
totals_text watches epochs = text_of (total_lines 0 epochs watches)

-- ---- all of it

-- totals are told for a file of the second form alone
abbrev pub text_with : Bool → List WatchValue → List EpochFindings → List ℕ
text_with false watches epochs = epochs_text watches epochs
text_with true watches epochs = epochs_text watches epochs ++ totals_text watches epochs

abbrev pub guard_text : ZonesValue → List EpochFindings → List ℕ
guard_text zones epochs = text_with zones.is_second zones.watches epochs

-- ---- how it is written

-- something is found of so many zones and directions, but where there are few satellites
abbrev pub HasAllOf : ℕ → Option (Vec Finding Global) → Type 0
HasAllOf count None = Unit {0}
HasAllOf count (Some found) = length found.items ≡ count

abbrev pub HasAll : ℕ → EpochFindings → Type 0
HasAll count e = HasAllOf count e.found

-- the whole text was taken, and a sink that is reliable has counted no fault
pub record IsWritten (old new : SinkState) (before after : Type 0) (text : List ℕ) : Type 0 where
  pub taken : TakenBy old new text
  pub later : old.faults ≤ new.faults
  pub reliable : after → before × (new.faults ≡ old.faults)

-- a write has failed behind its first bytes
pub record IsCutOff (old new : SinkState) (after : Type 0) (text : List ℕ) : Type 0 where
  pub prefix : TakenPrefix old new text
  pub rose : Rose old.faults new.faults
  pub unreliable : after → ⊥

abbrev pub WritesText : (old new : SinkState) → (before after : Type 0) → (text : List ℕ)
    → Result (Unit {0}) Failed → Type 0
WritesText old new before after text (Ok done) = IsWritten old new before after text
WritesText old new before after text (Err fault) = IsCutOff old new after text
