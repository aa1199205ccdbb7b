-- What the texts of zones and directions stand for.
use Rattle.std.specs.Prelude.{ℕ, Bool, List}
use Rattle.zone_guard.specs.Watched.{WatchValue}
use Rattle.zone_guard.specs.WatchText.{IsWatchesText, IsFirstUnfit}
use Rattle.zone_guard.specs.WatchValues.{watch_values}
use Rattle.zone_guard.specs.declared.watch.Watches.{Watches}
use Rattle.input_files.specs.Reading.{Text}
use Rattle.input_files.specs.declared.notice.Notice.{Notice}
use Rattle.input_files.specs.declared.notice.Notice.TheVariants as notice
use Rattle.input_files.specs.declared.role.Role.TheVariants as role

-- the zones and directions, and whether the text is of the second form
pub record ZonesValue : Type 0 where
  pub is_second : Bool
  pub watches : List WatchValue

abbrev pub zones_value : Watches → ZonesValue
zones_value w = record { is_second = w.is_second; watches = watch_values w.list.items }

abbrev pub SpellsZones : List ℕ → ZonesValue → Type 0
SpellsZones bytes v = IsWatchesText v.is_second v.watches bytes

-- the notice is that for the first line that doesn't fit
abbrev pub NamesUnfit : List ℕ → Notice → Type 0
NamesUnfit bytes (notice.BadZones line) = IsFirstUnfit bytes line
NamesUnfit bytes _ = ⊥

abbrev pub zones_text : Text Watches
zones_text = record {
  role = role.Zones;
  Value = ZonesValue;
  value = zones_value;
  Spells = SpellsZones;
  Names = NamesUnfit;
  Usual = λ w. Unit {0};
}
