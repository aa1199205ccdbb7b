-- Settings that suit what a command asks of them, and those that don't.
use Rattle.std.proofs.Common.{◌≡◌, ℕ, Bool, true, false, List, Option, None, Some, Result, Ok, Err}
use Rattle.std.proofs.Common.{inl, inr, refl, sym, ap, ◌∙◌}
use Rattle.std.proofs.lemmas.Option.{none-some}
use Rattle.std.specs.Prelude.{IfErr, IfOk}
use Rattle.error_bounds.specs.Faults.{Found}
use Rattle.error_bounds.specs.Reading.{RefusesFirst, value_of_settings}
use Rattle.error_bounds.specs.Texts.{SettingsValue, IsSettings, IsFirstFault}
use Rattle.error_bounds.specs.declared.fault.SettingsError.{SettingsError}
use Rattle.error_bounds.specs.declared.fault.SettingsError.TheVariants as error
use Rattle.error_bounds.specs.declared.settings.Settings.{Settings}
use Rattle.input_files.proofs.GrammarLemmas.{SettlesErr, memory_settles, read_settles, refused_settles}
use Rattle.input_files.specs.Inputs.{NamesSettingsFault, settings_text}
use Rattle.input_files.specs.Motion.{HasMotion}
use Rattle.input_files.specs.Reading.{Gives, GivesOrEnds, Settles, valued}
use Rattle.input_files.specs.Statuses.{notice_of_settings, status_of}
use Rattle.input_files.specs.Suits.{NamesMisfit, Suits, misfit_in, motion_misfit}
use Rattle.input_files.specs.declared.input_fault.InputFault.TheVariants as input
use Rattle.input_files.specs.declared.notice.Notice.{Notice}
use Rattle.input_files.specs.declared.notice.Notice.TheVariants as notice
use Rattle.input_files.specs.declared.status.Status.TheVariants as status

-- nothing is amiss, so the speed is there, and nothing is amiss of the station
pub has_motion : (moving : Bool) (speed : Option ℕ) (later : Option Found)
    → motion_misfit moving speed later ≡ None → HasMotion moving speed
has_motion false speed later suits = tt
has_motion true None later suits = cc
has_motion true (Some speed) later suits = tt

pub later_suits : (moving : Bool) (speed : Option ℕ) (later : Option Found)
    → motion_misfit moving speed later ≡ None → later ≡ None
later_suits false speed later suits = suits
later_suits true None later suits = cc
later_suits true (Some speed) later suits = suits

-- ---- a text without a fault

module _ (moving stationed : Bool) (bytes : List ℕ) (s : Settings)
    (is : IsSettings bytes (value_of_settings s))
    (exact : (v : SettingsValue) → IsSettings bytes v → value_of_settings s ≡ v)
    (first : (found : Found) → IsFirstFault bytes found → ⊥) where
  pub read_gives : (r : Result Settings Notice) → IfOk r (λ kept. kept ≡ s)
      → IfOk r (Suits moving stationed) → IfErr r (NamesMisfit moving stationed s)
      → GivesOrEnds (settings_text moving stationed) bytes (valued value_of_settings r)
  read_gives (Ok kept) same suits misfit = inr (rw same is, suits)
  read_gives (Err (notice.BadInput (input.Settings told))) same suits misfit =
      inr (refl, inr (value_of_settings s, is, misfit))
  read_gives (Err _) same suits misfit = absurd misfit

  not_named : (n : Notice) → Suits moving stationed s → NamesSettingsFault moving stationed bytes n
      → ⊥
  not_named (notice.BadInput (input.Settings told)) suits (inl (found, fault, tells)) = first found fault
  not_named (notice.BadInput (input.Settings told)) suits (inr (v, there, (found, is_found, tells))) =
      none-some found (sym suits ∙ ap (misfit_in moving stationed) (exact v there) ∙ is_found)
  not_named _ suits names = names

  misfit_status : (n : Notice) → NamesMisfit moving stationed s n → status_of n ≡ status.Refused
  misfit_status (notice.BadInput (input.Settings told)) misfit = refl
  misfit_status _ misfit = absurd misfit

  unsuited : (n : Notice) → NamesMisfit moving stationed s n
      → misfit_in moving stationed (value_of_settings s) ≡ None → ⊥
  unsuited (notice.BadInput (input.Settings told)) (found, is_found, tells) suits =
      none-some found (sym suits ∙ is_found)
  unsuited _ misfit suits = misfit

  pub read_same : (r : Result Settings Notice) → IfOk r (λ kept. kept ≡ s)
      → IfOk r (Suits moving stationed) → IfErr r (NamesMisfit moving stationed s)
      → (other : Result SettingsValue Notice) → Gives (settings_text moving stationed) bytes other
      → Settles (valued value_of_settings r) other
  read_same (Ok kept) same suits misfit =
      read_settles (settings_text moving stationed) bytes (value_of_settings kept)
      (λ v there. rw same (exact v there.0)) (λ n. not_named n (rw same at suits))
  read_same (Err n) same suits misfit =
      refused_settles (settings_text moving stationed) bytes n (misfit_status n misfit)
      (λ v there. absurd (unsuited n misfit
      (ap (misfit_in moving stationed) (exact v there.0) ∙ there.1)))

-- ---- one that was refused

module _ (moving stationed : Bool) (bytes : List ℕ) where
  pub refused_gives : (e : SettingsError) → RefusesFirst bytes e
      → GivesOrEnds (settings_text moving stationed) bytes (Err (notice_of_settings e))
  refused_gives (error.Refused told) refuses = inr (refl, inl refuses)
  refused_gives error.NoMemory refuses = inl refl

  pub refused_same : (e : SettingsError)
      → ((v : SettingsValue) → IsSettings bytes v → e ≡ error.NoMemory)
      → SettlesErr (settings_text moving stationed) bytes (notice_of_settings e)
  refused_same (error.Refused told) none =
      refused_settles (settings_text moving stationed) bytes (notice.BadInput (input.Settings told)) refl
      (λ v there. let m : error.Refused told ≡ error.NoMemory = none v there.0 in cc)
  refused_same error.NoMemory none =
      memory_settles (settings_text moving stationed) bytes notice.NoMemory refl
