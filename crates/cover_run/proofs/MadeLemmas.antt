-- Made files, as they are read.
use Rattle.std.proofs.Common.{◌≡◌, ◌≤◌, ℕ, List, length, map, Result, Ok, Err, false, None}
use Rattle.std.proofs.Common.{inl, inr, sym, ap, subst, arith}
use Rattle.std.specs.Prelude.{IfOk, IfErr, Bool}
use Rattle.std.proofs.lemmas.List.{length-map}
use Rattle.error_bounds.specs.Reading.{value_of_settings}
use Rattle.error_bounds.specs.Texts.{SettingsValue}
use Rattle.error_bounds.specs.declared.settings.Settings.{Settings}
use Rattle.input_files.specs.Inputs.{wants_position}
use Rattle.input_files.specs.Reading.{Text, Gives, GivesOrEnds, IsBrokenOff, Settles, valued}
use Rattle.input_files.specs.Statuses.{status_of}
use Rattle.input_files.specs.declared.notice.Notice.{Notice}
use Rattle.input_files.specs.declared.notice.Notice.TheVariants as notice
use Rattle.input_files.specs.declared.status.Status.{Status}
use Rattle.input_files.specs.declared.status.Status.TheVariants as status
use Rattle.made_input.proofs.EpochLemmas.{all_can_be_written}
use Rattle.made_input.specs.MadeCodes.{centre_x, centre_y, centre_z}
use Rattle.made_input.specs.MadeInput.{IsMade}
use Rattle.made_input.specs.MadeRecords.{made_records}
use Rattle.made_input.specs.declared.made.Made.{Made}
use Rattle.made_texts.proofs.NavLemmas.{nav_length}
use Rattle.made_texts.proofs.ObsLemmas.{obs_length}
use Rattle.made_texts.specs.NavText.{broadcast_of}
use Rattle.made_texts.specs.ObsText.{code_c1c, observed_from}
use Rattle.made_texts.specs.SettingsText.{settings_of}
use Rattle.rinex_obs.specs.Files.{AreBetween, IsObsFile, Observations, alone}
use Rattle.rinex_obs.proofs.KeptLemmas.{all_kept}
use Rattle.gnss_model.specs.declared.satellites.Signal.{Signal}
use Rattle.gnss_model.specs.declared.satellites.Signal.TheVariants.{Single}

-- ---- a text without a fault

not_refused : (s : Status) → IsBrokenOff s → s ≡ status.Refused → ⊥
not_refused s (inl e) refused = cc
not_refused s (inr (inl e)) refused = cc
not_refused s (inr (inr e)) refused = cc

module _ {V : Type 0} (text : Text V) (bytes : List ℕ) (w : text.Value)
    (is : text.Spells bytes w) where
  abbrev SettlesAll : Result V Notice → Type 0
  SettlesAll r = (other : Result text.Value Notice) → Gives text bytes other
      → Settles (valued text.value r) other

  -- it is read as what it spells
  pub faultless : (r : Result V Notice) → SettlesAll r → IfOk r (λ v. text.value v ≡ w)
  faultless (Ok v) same = elim (same (Ok w) is) [
    | inl none ↦ absurd none
    | inr e ↦ e
  ]
  faultless (Err n) same = tt

  -- or memory ran out
  pub faultless_ends : (r : Result V Notice) → GivesOrEnds text bytes (valued text.value r)
      → SettlesAll r → IfErr r (λ n. n ≡ notice.NoMemory)
  faultless_ends (Ok v) gives same = tt
  faultless_ends (Err n) (inl m) same = cc
  faultless_ends (Err n) (inr refused) same = elim (same (Ok w) is) [
    | inl broken ↦ absurd (not_refused (status_of n) broken refused.0)
    | inr none ↦ absurd none
  ]

-- ---- the texts aren't long

module _ (seed count : ℕ) (made : Made) (m : IsMade seed count made) where
  pub nav_short : length made.nav.items ≤ 4000000000
  nav_short =
      let eight : length (map broadcast_of m.records) ≡ length (made_records seed) =
      ap length m.records_are in
      subst (λ (text : List ℕ). length text ≤ 4000000000) (sym m.nav)
      (nav_length m.records (omega (arith, eight, length-map m.records broadcast_of)))

  pub obs_short : count ≤ 240 → length made.obs.items ≤ 4000000000
  obs_short few =
      let are = all_can_be_written seed 0 m.epochs m.epochs_are (omega (arith, few, m.count_is)) in
      subst (λ (text : List ℕ). length text ≤ 4000000000) (sym m.obs)
      (obs_length m.epochs are (omega (arith, few, m.count_is)))

  -- ---- the observation file is read for the codes of the settings

  abbrev pub seen : Observations
  seen = record { position = None; epochs = observed_from 1 m.epochs }

  pub obs_for : (s : Settings)
      → value_of_settings s ≡ settings_of (centre_x seed) (centre_y seed) (centre_z seed)
      → IsObsFile s.signal (wants_position s.centre) made.obs.items seen
  obs_for s e =
      let signal : s.signal ≡ Single code_c1c = ap (λ (v : SettingsValue). v.signal) e in
      let centre : wants_position s.centre ≡ false =
      ap (λ (v : SettingsValue). wants_position v.centre) e in
      subst (λ (b : Bool). IsObsFile s.signal b made.obs.items seen) (sym centre)
      (subst (λ (x : Signal). IsObsFile x false made.obs.items seen) (sym signal) m.obs_accepted)

  -- ... with all its epochs
  pub obs_all : (s : Settings)
      → value_of_settings s ≡ settings_of (centre_x seed) (centre_y seed) (centre_z seed)
      → AreBetween 1 200000 (IsObsFile s.signal (wants_position s.centre) made.obs.items) seen
  obs_all s e =
      let file = obs_for s e in
      (seen, file, sym (all_kept false (alone s.signal) (wants_position s.centre) made.obs.items seen file))
