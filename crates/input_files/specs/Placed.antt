-- The place of a station that was read. No public clause cites this.
use Rattle.std.specs.Prelude.{◌≡◌, Some}
use Rattle.error_bounds.specs.Reading.{Tells, centre_with}
use Rattle.error_bounds.specs.declared.station.DeclaredStation.{DeclaredStation}
use Rattle.error_bounds.specs.Sizes.{IsNearGround}
use Rattle.grid_model.specs.declared.boxes.Pos.{Pos}
use Rattle.rinex_obs.specs.declared.obs.Obs.{Obs}
use Rattle.input_files.specs.Suits.{far_place}
use Rattle.input_files.specs.declared.input_fault.InputFault.TheVariants as fault
use Rattle.input_files.specs.declared.notice.Notice.{Notice}
use Rattle.input_files.specs.declared.notice.Notice.TheVariants as notice
use Rattle.input_files.specs.declared.station_file.StationFile.{StationFile}

module _ (declared : DeclaredStation) (o : Obs) where
  -- the station stands at the declared place, or at that of the header
  pub record IsPlaced (s : StationFile) : Type 0 where
    pub place : centre_with o.position declared.place ≡ Some s.place
    pub age : s.age ≡ declared.age
    pub obs : s.obs ≡ o

  -- that of the header isn't near the ground, and the notice says so
  abbrev pub NamesFar : Notice → Type 0
  NamesFar (notice.BadInput (fault.Settings told)) =
      (p : Pos) × (centre_with o.position declared.place ≡ Some p) × (IsNearGround p → ⊥)
      × Tells far_place told
  NamesFar _ = ⊥
