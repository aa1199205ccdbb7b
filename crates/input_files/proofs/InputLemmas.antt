-- What the files of a receiver give may be broken off as what any reading reads.
use Rattle.std.proofs.Common.{◌≡◌, ℕ, Bool, List, Option, None, Some, Result, sym, subst, ◌∙◌}
use Rattle.std.specs.Prelude.{is_some}
use Rattle.command_words.specs.Commands.{Files}
use Rattle.error_bounds.specs.Reading.{IsRoot}
use Rattle.error_bounds.specs.Texts as settings
use Rattle.error_bounds.specs.Texts.{SettingsValue}
use Rattle.rinex_nav.specs.Records.{Broadcast}
use Rattle.rinex_obs.specs.declared.sought.Sought.{Sought}
use Rattle.input_files.proofs.ReadingLemmas.{IsFair, named_fair, return_fair, then_fair}
use Rattle.grid_model.specs.Boxes.{GridBox}
use Rattle.grid_model.specs.declared.boxes.Pos.{Pos}
use Rattle.input_files.specs.Earlier.{earlier_text}
use Rattle.input_files.specs.Inputs.{InputsValue, ReadsAfter, ReadsBehind, ReadsBehindNav, ReadsFor, ReadsNav, ReadsObs, ReadsReceiver, ReadsStation, StationValue}
use Rattle.input_files.specs.Inputs.{search_box, search_of}
use Rattle.input_files.specs.Inputs.{message_of, nav_text, obs_text, sought_of}
use Rattle.input_files.specs.Inputs.{settings_text, station_text, wants_position}
use Rattle.moving_tube.specs.Roots.{Before}
use Rattle.outer_io.specs.Told.{ShelfState}
use Rattle.input_files.specs.Reading.{Found, Named, Returns}
use Rattle.input_files.specs.declared.limits.Limits.{Limits}
use Rattle.input_files.specs.declared.notice.Notice.{Notice}

pub station_fair : (limits : Limits) (sought : Sought) (name : Option (List ℕ))
    (declared : Option settings.StationValue) → IsFair (ReadsStation limits sought name declared)
station_fair limits sought None declared = return_fair None
station_fair limits sought (Some name) None = return_fair None
station_fair limits sought (Some name) (Some declared) =
    let text = station_text sought declared.place declared.age in
    then_fair (Named limits text name) (λ station. Returns (Some station)) (named_fair limits text name)
    (λ station. return_fair (Some station))

module _ (limits : Limits) (names : Files) where
  pub obs_fair : (s : SettingsValue) (records : List Broadcast) (station : Option StationValue)
      → IsFair (ReadsObs limits names s records station)
  obs_fair s records station =
      let text = obs_text (sought_of s) (wants_position s.centre) names.epochs in
      then_fair (Named limits text names.obs)
      (λ o. Returns (record { settings = s; nav = records; station = station; obs = o; after = None }))
      (named_fair limits text names.obs)
      (λ o. return_fair (record { settings = s; nav = records; station = station; obs = o; after = None }))

  pub behind_nav_fair : (s : SettingsValue) (records : List Broadcast)
      → IsFair (ReadsBehindNav limits names s records)
  behind_nav_fair s records =
      then_fair (ReadsStation limits (sought_of s) names.station s.station) (ReadsObs limits names s records)
      (station_fair limits (sought_of s) names.station s.station) (obs_fair s records)

  pub nav_fair : (s : SettingsValue) → IsFair (ReadsNav limits names s)
  nav_fair s = then_fair (Named limits (nav_text (message_of s)) names.nav) (ReadsBehindNav limits names s)
      (named_fair limits (nav_text (message_of s)) names.nav) (behind_nav_fair s)

  pub receiver_fair : (moving : Bool) → IsFair (ReadsReceiver moving limits names)
  receiver_fair moving =
      let text = settings_text moving (is_some names.station) in
      then_fair (Named limits text names.settings) (ReadsNav limits names)
      (named_fair limits text names.settings) nav_fair

  pub after_fair : (search : GridBox) (name : Option (List ℕ)) → IsFair (ReadsAfter limits search name)
  after_fair search None = return_fair None
  after_fair search (Some name) = named_fair limits (earlier_text search) name

  pub behind_fair : (i : InputsValue) → IsFair (ReadsBehind limits names i)
  behind_fair i =
      then_fair (ReadsAfter limits (search_of i) names.after) (λ left. Returns (record i { after = left }))
      (after_fair (search_of i) names.after) (λ left. return_fair (record i { after = left }))

  pub inputs_fair : (moving : Bool) → IsFair (ReadsFor moving limits names)
  inputs_fair moving =
      then_fair (ReadsReceiver moving limits names) (ReadsBehind limits names) (receiver_fair moving) behind_fair

-- ---- the search box

-- it is one, and that of the files
pub box_is : (centre : Option Pos) (half : Pos) (box : GridBox) → IsRoot centre half box
    → box ≡ search_box centre half
box_is None half box is = absurd is
box_is (Some p) half box is = is

pub box_one : (centre : Option Pos) (half : Pos) (box other : GridBox) → IsRoot centre half box
    → IsRoot centre half other → box ≡ other
box_one centre half box other is also = box_is centre half box is ∙ sym (box_is centre half other also)

-- what was found in the box that the settings give was found in that of the files
pub after_found : (limits : Limits) (name : Option (List ℕ)) (centre : Option Pos) (half : Pos) (box : GridBox)
    (a b : ShelfState) (reliable : Option (List ℕ) → Type 0) (r : Result (Option Before) Notice)
    → IsRoot centre half box → Found (ReadsAfter limits box name) a b reliable r
    → Found (ReadsAfter limits (search_box centre half) name) a b reliable r
after_found limits name centre half box a b reliable r is found =
    subst (λ (c : GridBox). Found (ReadsAfter limits c name) a b reliable r) (box_is centre half box is) found
