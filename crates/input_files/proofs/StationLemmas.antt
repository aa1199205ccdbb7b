-- What the text of a station's file gives.
use Rattle.std.proofs.Common.{◌≡◌, ℕ, Bool, List, Option, Some, Result, Ok, Err, inl, inr, refl, sym, ap, ap₂, subst, ◌∙◌}
use Rattle.std.proofs.lemmas.Option.{same_Some}
use Rattle.std.specs.Prelude.{IfErr, IfOk}
use Rattle.error_bounds.specs.Reading.{centre_with}
use Rattle.error_bounds.specs.declared.station.DeclaredStation.{DeclaredStation}
use Rattle.error_bounds.specs.Sizes.{IsNearGround}
use Rattle.grid_model.specs.declared.boxes.Pos.{Pos}
use Rattle.rinex_obs.specs.Files.{Observations, IsStationFile, IsFirstStationFault, station_file}
use Rattle.rinex_obs.specs.Reading.{observations_of, plain_epochs}
use Rattle.rinex_obs.specs.declared.obs.Obs.{Obs}
use Rattle.rinex_obs.specs.declared.sought.Sought.{Sought}
use Rattle.rinex_text.specs.Lines.{lines_of}
use Rattle.rinex_text.specs.Reading.{Refuses}
use Rattle.rinex_text.specs.declared.fault.ReadError.{ReadError}
use Rattle.rinex_text.specs.declared.fault.ReadError.TheVariants.{Refused, NoMemory}
use Rattle.rinex_text.specs.declared.fault.Refusal.{Refusal}
use Rattle.input_files.proofs.GrammarLemmas.{read_settles, refused_settles}
use Rattle.input_files.specs.Inputs.{IsStationAt, NamesStationFault, SpellsStation, StationValue, station_text}
use Rattle.input_files.specs.Inputs.{station_value, wants_position}
use Rattle.input_files.specs.Placed.{IsPlaced, NamesFar}
use Rattle.input_files.specs.Reading.{Gives, GivesOrEnds, Settles, valued}
use Rattle.input_files.specs.Statuses.{notice_of_file, status_of}
use Rattle.input_files.specs.declared.input_fault.InputFault.TheVariants as input
use Rattle.input_files.specs.declared.notice.Notice.{Notice}
use Rattle.input_files.specs.declared.notice.Notice.TheVariants as notice
use Rattle.input_files.specs.declared.station_file.StationFile.{StationFile}
use Rattle.input_files.specs.declared.status.Status.TheVariants as status

-- ---- a file without a fault

module _ (sought : Sought) (d : DeclaredStation) (bytes : List ℕ) (o : Obs)
    (is : IsStationFile sought (wants_position d.place) bytes (observations_of o))
    (exact : (x : Observations) → IsStationFile sought (wants_position d.place) bytes x
    → observations_of o ≡ x)
    (first : (r : Refusal) → IsFirstStationFault sought (wants_position d.place) bytes r → ⊥) where
  abbrev value_at : Pos → Observations → StationValue
  value_at p x = record { place = p; age = d.age; epochs = x.epochs }

  value_is : (s : StationFile) → IsPlaced d o s → station_value s ≡ value_at s.place (observations_of o)
  value_is s k =
      ap₂ (λ (age : ℕ) (x : Obs). let v : StationValue = record { place = s.place; age = age; epochs = plain_epochs x.epochs.items } in v) k.age k.obs

  pub placed_gives : (r : Result StationFile Notice) → IfOk r (IsPlaced d o) → IfErr r (NamesFar d o)
      → GivesOrEnds (station_text sought d.place d.age) bytes (valued station_value r)
  placed_gives (Ok s) k far =
      inr (observations_of o, s.place, record { file = is; place_is = k.place }, s.ground, value_is s k)
  placed_gives (Err (notice.BadInput (input.Settings told))) k (p, there, far, tells) =
      inr (refl, ((observations_of o, p, record { file = is; place_is = there }, far), tells))
  placed_gives (Err _) k far = absurd far

  -- the place is one
  one_point : (p q : Pos) (x : Observations) → centre_with o.position d.place ≡ Some p
      → IsStationAt sought d.place bytes x q → p ≡ q
  one_point p q x here there =
      same_Some p q (sym here
      ∙ ap (λ (y : Observations). centre_with y.position d.place) (exact x there.file)
      ∙ there.place_is)

  none_named : (p : Pos) → centre_with o.position d.place ≡ Some p → IsNearGround p → (n : Notice)
      → NamesStationFault sought d.place bytes n → ⊥
  none_named p here near (notice.BadInput (input.Station r)) names = first r names
  none_named p here near (notice.BadInput (input.Settings told)) ((x, q, there, far), tells) =
      far (subst IsNearGround (one_point p q x here there) near)
  none_named p here near _ names = names

  far_status : (n : Notice) → NamesFar d o n → status_of n ≡ status.Refused
  far_status (notice.BadInput (input.Settings told)) far = refl
  far_status _ far = absurd far

  not_near : (n : Notice) (v : StationValue) → NamesFar d o n
      → SpellsStation sought d.place d.age bytes v → ⊥
  not_near (notice.BadInput (input.Settings told)) v (p, here, far, tells) (x, q, there, near, e) =
      far (subst IsNearGround (sym (one_point p q x here there)) near)
  not_near _ v far spells = far

  pub placed_same : (r : Result StationFile Notice) → IfOk r (IsPlaced d o) → IfErr r (NamesFar d o)
      → (other : Result StationValue Notice)
      → Gives (station_text sought d.place d.age) bytes other
      → Settles (valued station_value r) other
  placed_same (Ok s) k far =
      read_settles (station_text sought d.place d.age) bytes (station_value s)
      (λ v spells. value_is s k
      ∙ ap₂ value_at (one_point s.place spells.1 spells.0 k.place spells.2) (exact spells.0 spells.2.file)
      ∙ sym spells.4)
      (none_named s.place k.place s.ground)
  placed_same (Err n) k far =
      refused_settles (station_text sought d.place d.age) bytes n (far_status n far)
      (λ v spells. absurd (not_near n v far spells))

-- ---- one that was refused

pub station_gives : (sought : Sought) (d : DeclaredStation) (bytes : List ℕ) (e : ReadError)
    → Refuses (station_file sought (wants_position d.place) (lines_of bytes)) e
    → GivesOrEnds (station_text sought d.place d.age) bytes (Err (notice_of_file (λ r. input.Station r) e))
station_gives sought d bytes (Refused r) refuses = inr (refl, refuses)
station_gives sought d bytes NoMemory refuses = inl refl
