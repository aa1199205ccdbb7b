-- What `retrack` says of a log, against the files.
use Rattle.std.proofs.Common.{ℕ, Result}
use Rattle.std.specs.Prelude.{IfOk}
use Rattle.epoch_selection.specs.declared.selection.Selection.{Selection}
use Rattle.grid_model.specs.Boxes.{GridBox}
use Rattle.grid_model.specs.declared.memory.NoMemory.{NoMemory}
use Rattle.input_files.specs.declared.inputs.Inputs.{Inputs}
use Rattle.paving_log.specs.Values.{log_value}
use Rattle.paving_log_check.specs.Answers.{IfNo, IfYes}
use Rattle.paving_log_check.specs.Checked.{IsAccepted, IsRefused}
use Rattle.paving_log_check.specs.declared.verdict.Fault.{Fault}
use Rattle.paving_log_check.specs.declared.verdict.Verdict.{Verdict}
use Rattle.tube_searches.proofs.FoundLemmas.{found_by}
use Rattle.tube_searches.specs.Tubes.{tube_searches}
use Rattle.cover_run.proofs.TellingLemmas.{no_as, yes_as}
use Rattle.cover_run.specs.Rechecking.{AcceptsTrack, RefusesTrack}
use Rattle.cover_run.specs.Solving.{meaning_of}
use Rattle.cover_run.specs.Tracking.{IsTubeOf, tube_of}
use Rattle.cover_run.specs.declared.checked.Checked.{Checked}

module _ (chosen : Selection) (f : Checked) (search : GridBox) (speed : ℕ)
    (is_tube : IsTubeOf f.inputs search speed) where
  abbrev i : Inputs
  i = f.inputs

  abbrev Accepted : ℕ → Type 0
  Accepted boxes = IsAccepted (meaning_of i)
      (tube_searches (tube_of chosen i search speed) (log_value f.log).blocks) i.settings.rules
      (log_value f.log) boxes

  -- by an accepted log a receiver is found
  accepts : (boxes : ℕ) → Accepted boxes → AcceptsTrack chosen i (log_value f.log) boxes
  accepts boxes accepted = record {
    search = search;
    speed = speed;
    is_tube = is_tube;
    accepted = accepted;
    found = λ k left path begins goes fits. found_by (meaning_of i) (tube_of chosen i search speed)
        i.settings.rules (log_value f.log) boxes k left path accepted begins goes fits;
  }

  -- what is known of a verdict by the checker's clauses
  pub track_yes : (verdict : Result Verdict NoMemory) → IfOk verdict (λ v. IfYes v Accepted)
      → IfOk verdict (λ v. IfYes v (AcceptsTrack chosen i (log_value f.log)))
  track_yes verdict told =
      yes_as verdict Accepted (AcceptsTrack chosen i (log_value f.log)) accepts told

  abbrev Refused : Fault → Type 0
  Refused fault = IsRefused (meaning_of i)
      (tube_searches (tube_of chosen i search speed) (log_value f.log).blocks) i.settings.rules
      (log_value f.log) fault

  refuses : (fault : Fault) → Refused fault → RefusesTrack chosen i (log_value f.log) fault
  refuses fault refused =
      record { search = search; speed = speed; is_tube = is_tube; refused = refused }

  pub track_no : (verdict : Result Verdict NoMemory) → IfOk verdict (λ v. IfNo v Refused)
      → IfOk verdict (λ v. IfNo v (RefusesTrack chosen i (log_value f.log)))
  track_no verdict told =
      no_as verdict Refused (RefusesTrack chosen i (log_value f.log)) refuses told
