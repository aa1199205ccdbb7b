-- The text of a navigation file, and the records that it has.
use Rattle.std.specs.Prelude.{ℕ, ◌≤◌, pos, true, List, [], ◌∷◌, ◌++◌, codes}
use Rattle.std.specs.List.{AllByRecursion}
use Rattle.rinex_text.specs.Dates.{gps_time}
use Rattle.decimal_digits.specs.Digits.{last_digits}
use Rattle.made_texts.specs.Fields.{field_text, number_of, zero_field}
use Rattle.made_texts.specs.TextLines.{text_of}
use Rattle.rinex_nav.specs.Records.{Broadcast}
use Rattle.made_texts.specs.declared.field_number.FieldNumber.{FieldNumber}
use Rattle.made_texts.specs.declared.ephemeris.Ephemeris.{Ephemeris}

-- ---- lines

-- the satellite and its clock time, 2024-01-07 02:00:00
unfoldable pub clock_text : Ephemeris → List ℕ
clock_text r =
    71 ∷ (last_digits 2 r.number ++ (codes " 2024 01 07 02 00 00" ++ (field_text r.af0
    ++ (field_text r.af1 ++ field_text r.af2))))

-- a further line: four fields
unfoldable pub further_text : FieldNumber → FieldNumber → FieldNumber → FieldNumber → List ℕ
further_text a b c d = codes "    " ++ (field_text a ++ (field_text b ++ (field_text c
    ++ field_text d)))

-- the lines of a record before others
abbrev pub record_lines : Ephemeris → List (List ℕ) → List (List ℕ)
record_lines r more =
    clock_text r
    ∷ further_text zero_field r.crs r.dn r.m0
    ∷ further_text r.cuc r.e r.cus r.root_a
    ∷ further_text r.toe r.cic r.om0 r.cis
    ∷ further_text r.i0 r.crc r.omega r.om_dot
    ∷ further_text r.idot zero_field zero_field zero_field
    ∷ further_text zero_field zero_field r.tgd zero_field
    ∷ further_text zero_field zero_field zero_field zero_field
    ∷ more

abbrev pub body_lines : List Ephemeris → List (List ℕ)
body_lines [] = []
body_lines (r ∷ records) = record_lines r (body_lines records)

-- ---- the file

abbrev pub nav_lines : List Ephemeris → List (List ℕ)
nav_lines records =
    codes "     3.05           N: GNSS NAV DATA    G                   RINEX VERSION / TYPE"
    ∷ codes "                                                            END OF HEADER"
    ∷ body_lines records

-- the text of a record
unfoldable pub record_text : Ephemeris → List ℕ
record_text r = text_of (record_lines r [])

-- ---- its records

-- satellites G01 to G99
pub record IsNamed (r : Ephemeris) : Type 0 where
  pub from : 1 ≤ r.number
  pub to : r.number ≤ 99

abbrev pub AreNamed : List Ephemeris → Type 0
AreNamed records = AllByRecursion IsNamed records

abbrev pub broadcast_of : Ephemeris → Broadcast
broadcast_of r = record {
  sat = record { system = 71; number = r.number };
  toc = pos (gps_time 2024 1 7 2 0 0);
  healthy = true;
  fields =
      number_of r.af0 ∷ number_of r.af1 ∷ number_of r.af2 ∷ number_of r.crs ∷ number_of r.dn
      ∷ number_of r.m0
      ∷ number_of r.cuc ∷ number_of r.e ∷ number_of r.cus ∷ number_of r.root_a
      ∷ number_of r.toe ∷ number_of r.cic ∷ number_of r.om0 ∷ number_of r.cis
      ∷ number_of r.i0 ∷ number_of r.crc ∷ number_of r.omega ∷ number_of r.om_dot
      ∷ number_of r.idot ∷ number_of r.tgd ∷ [];
}
