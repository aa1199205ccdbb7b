-- The places of a satellite's records, by satellite.
use Rattle.std.specs.Prelude.{ℕ, ◌+◌, ◌&&◌, Bool, List, [], ◌∷◌, nat_eq, if◌then◌else◌}
use Rattle.gnss_model.specs.declared.satellites.Sat.{Sat}
use Rattle.rinex_nav.specs.declared.record.NavRecord.{NavRecord}

abbrev pub is_same : Sat → Sat → Bool
is_same a b = nat_eq a.system b.system && nat_eq a.number b.number

-- the places, from one on, of the records of a satellite
abbrev pub places_from : ℕ → Sat → List NavRecord → List ℕ
places_from place sat [] = []
places_from place sat (r ∷ records) =
    if is_same sat r.sat then place ∷ places_from (place + 1) sat records
    else places_from (place + 1) sat records

-- every place with a record of the satellite, in rising order
abbrev pub places_of : List NavRecord → Sat → List ℕ
places_of records sat = places_from 0 sat records
