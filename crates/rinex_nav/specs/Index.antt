-- The index of the records by satellite, as a map from satellites to places.
use Rattle.std.specs.Prelude.{ℕ, ◌≡◌, List, [], option_map, unwrap_or, Vec}
use Rattle.indexmap.specs.IndexMap.{IndexMap, get_by}
use Rattle.gnss_model.specs.declared.satellites.Sat.{Sat}
use Rattle.rinex_nav.specs.Places.{is_same, places_of}
use Rattle.rinex_nav.specs.declared.record.NavRecord.{NavRecord}

module _ {S Z : Type 0} where
  -- the places that are listed for a satellite
  abbrev pub listed : IndexMap Sat (Vec ℕ Z) S → Sat → List ℕ
  listed index sat = unwrap_or (option_map (λ list. list.items) (get_by (is_same sat) index)) []

  -- it lists the places of each satellite's records
  abbrev pub IsIndex : IndexMap Sat (Vec ℕ Z) S → List NavRecord → Type 0
  IsIndex index records = (sat : Sat) → listed index sat ≡ places_of records sat
