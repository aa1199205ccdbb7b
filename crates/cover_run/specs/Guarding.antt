-- What `guard` reads, and what it tells of zones and directions.
use Rattle.std.specs.Prelude.{◌≡◌, ℕ, Bool, true, false, List, [], ◌∷◌, ◌++◌}
use Rattle.command_words.specs.Commands.{Files}
use Rattle.epoch_selection.specs.Searches.{Search, searches_in}
use Rattle.epoch_selection.specs.declared.selection.Selection.{Selection}
use Rattle.input_files.specs.Inputs.{InputsValue, ReadsFor, input_files}
use Rattle.input_files.specs.Logs.{log_text}
use Rattle.input_files.specs.Reading.{Reading, Named, NamedSlots, Then, Returns}
use Rattle.input_files.specs.Zones.{ZonesValue, zones_text, zones_value}
use Rattle.input_files.specs.declared.inputs.Inputs.{Inputs}
use Rattle.input_files.specs.declared.limits.Limits.{Limits}
use Rattle.outer_io.specs.declared.slots.Slot.TheVariants as slot
use Rattle.paving_log.specs.Values.{log_value}
use Rattle.paving_log_check.specs.declared.verdict.Fault.{Fault}
use Rattle.sat_model.specs.Logs.{LogValue}
use Rattle.tube_searches.specs.Tubes.{tube_searches}
use Rattle.zone_guard.specs.EpochsFound.{AreEpochsFound}
use Rattle.zone_guard.specs.Watched.{WatchValue}
use Rattle.zone_guard.specs.declared.found.EpochFindings.{EpochFindings}
use Rattle.cover_run.specs.CheckTexts.{fault_text}
use Rattle.cover_run.specs.Checking.{Accepts, CheckedValue, Refuses, checked_value}
use Rattle.cover_run.specs.Rechecking.{AcceptsTrack, RefusesTrack}
use Rattle.cover_run.specs.Solving.{epochs_of, meaning_of}
use Rattle.cover_run.specs.Tracking.{tube_of}
use Rattle.cover_run.specs.ZoneClaims.{AreEpochsTrue, AreTotalsTrue}
use Rattle.cover_run.specs.ZoneTexts.{guard_text}
use Rattle.cover_run.specs.declared.guarded.Guarded.{Guarded}

-- ---- what is read

-- what the texts of a log, of a receiver's files and of zones stand for
pub record GuardedValue : Type 0 where
  pub checked : CheckedValue
  pub zones : ZonesValue

abbrev pub guarded_value : Guarded → GuardedValue
guarded_value g = record { checked = checked_value g.checked; zones = zones_value g.zones }

-- the files that are read, in their order
abbrev pub guarded_files : Files → (zones : List ℕ) → NamedSlots
guarded_files names zones =
    input_files names ++ (slot.Rows, zones) ∷ (slot.Log, names.log) ∷ []

abbrev pub guarded_by : InputsValue → ZonesValue → LogValue → GuardedValue
guarded_by i z l = record { checked = record { inputs = i; log = l }; zones = z }

abbrev pub ReadsLogBehind : Limits → (log : List ℕ) → InputsValue → ZonesValue
    → Reading GuardedValue
ReadsLogBehind limits log i z =
    Then (Named limits log_text log) (λ l. Returns (guarded_by i z l))

abbrev pub ReadsZones : Limits → (zones log : List ℕ) → InputsValue → Reading GuardedValue
ReadsZones limits zones log i = Then (Named limits zones_text zones) (ReadsLogBehind limits log i)

-- the files of a receiver, the zones, and then the log
abbrev pub ReadsGuarded : Bool → Limits → Files → (zones : List ℕ) → Reading GuardedValue
ReadsGuarded moving limits names zones =
    Then (ReadsFor moving limits names) (ReadsZones limits zones names.log)

-- ---- the verdict

-- that of `retrack` for the log of a track, and else that of `check`
abbrev pub AcceptsAs : Bool → Selection → Inputs → LogValue → ℕ → Type 0
AcceptsAs false chosen i log boxes = Accepts chosen i log boxes
AcceptsAs true chosen i log boxes = AcceptsTrack chosen i log boxes

abbrev pub RefusesAs : Bool → Selection → Inputs → LogValue → Fault → Type 0
RefusesAs false chosen i log fault = Refuses chosen i log fault
RefusesAs true chosen i log fault = RefusesTrack chosen i log fault

-- the epochs, each in the box in which it is searched
abbrev pub searches_as : (tracked : Bool) → (chosen : Selection) → (i : Inputs) → (log : LogValue)
    → (boxes : ℕ) → AcceptsAs tracked chosen i log boxes → List Search
searches_as false chosen i log boxes accepted = searches_in accepted.root (epochs_of chosen i)
searches_as true chosen i log boxes accepted =
    tube_searches (tube_of chosen i accepted.search accepted.speed) log.blocks

-- ---- what is told

module _ (tracked : Bool) (chosen : Selection) (g : Guarded) where
  abbrev pub inputs_in : Inputs
  inputs_in = g.checked.inputs

  abbrev pub log_in : LogValue
  log_in = log_value g.checked.log

  abbrev pub watches_in : List WatchValue
  watches_in = (zones_value g.zones).watches

  -- The log is accepted, and the answers are those of its boxes in each epoch. They are true of
  -- what fits there, and the totals of what fits in any paved epoch. The text tells them.
  pub record SaysGuarded (text : List ℕ) : Type 0 where
    pub boxes : ℕ
    pub accepted : AcceptsAs tracked chosen inputs_in log_in boxes
    pub epochs : List EpochFindings
    pub found : AreEpochsFound watches_in log_in.blocks epochs
    pub holds : AreEpochsTrue (meaning_of inputs_in) inputs_in.settings.rules.outliers watches_in
        (searches_as tracked chosen inputs_in log_in boxes accepted) epochs
    pub totals_hold : AreTotalsTrue (meaning_of inputs_in) inputs_in.settings.rules.outliers
        watches_in (searches_as tracked chosen inputs_in log_in boxes accepted) epochs
    pub told : text ≡ guard_text (zones_value g.zones) epochs

  -- it has this first fault, and the line tells it
  abbrev pub SaysDenied : List ℕ → Type 0
  SaysDenied line =
      (fault : Fault) × RefusesAs tracked chosen inputs_in log_in fault × (line ≡ fault_text fault)

-- the answers of the log's boxes, and the text that tells them
abbrev pub SaysFound : Guarded → List ℕ → Type 0
SaysFound g text =
    (epochs : List EpochFindings)
    × AreEpochsFound (zones_value g.zones).watches (log_value g.checked.log).blocks epochs
    × (text ≡ guard_text (zones_value g.zones) epochs)
