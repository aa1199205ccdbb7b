-- Satellite lines no two of which name one satellite.
use Rattle.std.proofs.Common.{◌≢◌, ℕ, zero, suc, ◌<◌, List, [], ◌∷◌, length, map, Some, sym, arith}
use Rattle.std.specs.Prelude.{slice_get}
use Rattle.std.specs.List.{AllByRecursion}
use Rattle.std.proofs.lemmas.Option.{same_Some}
use Rattle.sat_model.specs.Logs.{sat_of}
use Rattle.sat_model.specs.Verdicts.{NoneRepeats}
use Rattle.gnss_model.specs.declared.satellites.Sat.{Sat}
use Rattle.sat_model.specs.declared.rows.SatEntry.{SatEntry}

-- none of the lines names the satellite
abbrev pub NoneNames : Sat → List SatEntry → Type 0
NoneNames sat entries = AllByRecursion (λ entry. sat_of entry ≢ sat) entries

abbrev pub AreApart : List SatEntry → Type 0
AreApart [] = Unit {0}
AreApart (entry ∷ entries) = NoneNames (sat_of entry) entries × AreApart entries

named_at : (sat : Sat) (entries : List SatEntry) (k : ℕ) → NoneNames sat entries
    → k < length entries → slice_get (map sat_of entries) k ≢ Some sat
named_at sat [] k none within is = absurd (omega arith)
named_at sat (entry ∷ entries) zero none within is = none.0 (same_Some (sat_of entry) sat is)
named_at sat (entry ∷ entries) (suc k) none within is = named_at sat entries k none.1 (omega arith) is

no_pair : (entries : List SatEntry) (j k : ℕ) → AreApart entries → j < k → k < length entries
    → slice_get (map sat_of entries) j ≢ slice_get (map sat_of entries) k
no_pair [] j k apart less within same = absurd (omega arith)
no_pair (entry ∷ entries) j zero apart less within same = absurd (omega arith)
no_pair (entry ∷ entries) zero (suc k) apart less within same = named_at (sat_of entry) entries k apart.0 (omega arith) (sym same)
no_pair (entry ∷ entries) (suc j) (suc k) apart less within same = no_pair entries j k apart.1 (omega arith) (omega arith) same

pub none_repeats : (entries : List SatEntry) → AreApart entries → NoneRepeats entries
none_repeats entries apart k r = no_pair entries r.earlier k apart r.is_earlier r.is_line r.same
