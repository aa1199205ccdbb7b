-- What `check` reads, and what it says of a log.
use Rattle.std.specs.Prelude.{◌≡◌, ℕ, Bool, true, false, List, [], ◌∷◌, ◌++◌, Result, Ok}
use Rattle.command_words.specs.Commands.{Files}
use Rattle.epoch_selection.specs.declared.selection.Selection.{Selection}
use Rattle.input_files.specs.Inputs.{InputsValue, ReadsFor, AreEnough, input_files, inputs_value}
use Rattle.input_files.specs.Logs.{log_text}
use Rattle.input_files.specs.Reading.{Reading, Named, NamedSlots, Then, Returns}
use Rattle.input_files.specs.declared.inputs.Inputs.{Inputs}
use Rattle.input_files.specs.declared.limits.Limits.{Limits}
use Rattle.outer_io.specs.declared.slots.Slot.TheVariants as slot
use Rattle.paving_log.specs.Values.{log_value}
use Rattle.paving_log_check.specs.GpsChecked.{IsFileAccepted, IsFileRefused}
use Rattle.paving_log_check.specs.declared.verdict.Fault.{Fault}
use Rattle.paving_log_check.specs.declared.verdict.Verdict.{Verdict}
use Rattle.paving_log_check.specs.declared.verdict.Verdict.TheVariants as verdict
use Rattle.sat_model.specs.Logs.{LogValue, IsNumbered}
use Rattle.grid_model.specs.declared.memory.NoMemory.{NoMemory}
use Rattle.cover_run.specs.CheckTexts.{fault_text}
use Rattle.cover_run.specs.Solving.{meaning_of}
use Rattle.cover_run.specs.Texts.{yes_text}
use Rattle.cover_run.specs.declared.checked.Checked.{Checked}

-- ---- what is read

-- what the texts of a log and of a receiver's files stand for
pub record CheckedValue : Type 0 where
  pub inputs : InputsValue
  pub log : LogValue

abbrev pub checked_value : Checked → CheckedValue
checked_value c = record { inputs = inputs_value c.inputs; log = log_value c.log }

-- the files that are read, in their order
abbrev pub checked_files : Files → NamedSlots
checked_files names = input_files names ++ (slot.Log, names.log) ∷ []

abbrev pub ReadsLog : Limits → (log : List ℕ) → InputsValue → Reading CheckedValue
ReadsLog limits log i =
    Then (Named limits log_text log) (λ value. Returns (record { inputs = i; log = value }))

-- the files, and then the log
abbrev pub ReadsCheckedFor : Bool → Limits → Files → Reading CheckedValue
ReadsCheckedFor moving limits names =
    Then (ReadsFor moving limits names) (ReadsLog limits names.log)

abbrev pub ReadsChecked : Limits → Files → Reading CheckedValue
ReadsChecked limits names = ReadsCheckedFor false limits names

-- of a receiver that moves
abbrev pub ReadsTracked : Limits → Files → Reading CheckedValue
ReadsTracked limits names = ReadsCheckedFor true limits names

-- the search box is known, and the log's lines are numbered
pub record AreReady (found : Checked) : Type 0 where
  pub enough : AreEnough found.inputs
  pub numbered : IsNumbered (log_value found.log)

-- ---- the log against the files

-- The log is admissible for own lines of each chosen epoch, over the search box of the settings. In
-- each epoch that it gives as paved, what fits is covered, and each in box fits. It has so many in
-- and edge boxes.
abbrev pub Accepts : Selection → Inputs → LogValue → ℕ → Type 0
Accepts chosen i log boxes = IsFileAccepted (meaning_of i) i.obs i.settings chosen log boxes

-- it isn't admitted by own lines of the first of them, and this is its first fault
abbrev pub Refuses : Selection → Inputs → LogValue → Fault → Type 0
Refuses chosen i log fault = IsFileRefused (meaning_of i) i.obs i.settings chosen log fault

-- the line says so
abbrev pub SaysAccepted : Selection → Checked → List ℕ → Type 0
SaysAccepted chosen found line =
    (boxes : ℕ) × Accepts chosen found.inputs (log_value found.log) boxes ×
    (line ≡ yes_text boxes)

abbrev pub SaysRefused : Selection → Checked → List ℕ → Type 0
SaysRefused chosen found line =
    (fault : Fault) × Refuses chosen found.inputs (log_value found.log) fault ×
    (line ≡ fault_text fault)

-- the line for a verdict
abbrev pub SaysYes : Result Verdict NoMemory → List ℕ → Type 0
SaysYes told line =
    (boxes : ℕ) × (told ≡ Ok (verdict.Yes boxes)) × (line ≡ yes_text boxes)

abbrev pub SaysNo : Result Verdict NoMemory → List ℕ → Type 0
SaysNo told line =
    (fault : Fault) × (told ≡ Ok (verdict.No fault)) × (line ≡ fault_text fault)
