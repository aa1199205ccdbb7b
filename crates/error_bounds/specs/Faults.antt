-- The numbers of the faults of a settings text, and the key that a fault is told with.
use Rattle.std.specs.Prelude.{ℕ, ◌≡◌, ◌≤◌, ◌<◌, List, take}
use Rattle.std.specs.Str.{IsCharBoundary}
use Rattle.error_bounds.specs.declared.fault.Fault.{Fault}
use Rattle.error_bounds.specs.declared.fault.Fault.TheVariants as fault

abbrev pub number_of : Fault → ℕ
number_of fault.NotToml = 30
number_of fault.Missing = 31
number_of fault.WrongKind = 32
number_of fault.Outside = 33
number_of fault.Unknown = 34

-- a fault, and the printed name of its key
pub record Found : Type 0 where
  pub fault : Fault
  pub key : List ℕ

-- the longest front of whole characters within 64 bytes
pub record IsCut (name kept : List ℕ) : Type 0 where
  pub bytes : ℕ
  pub front : kept ≡ take bytes name
  pub fits : bytes ≤ 64
  pub whole : IsCharBoundary name bytes
  pub longest : (n : ℕ) → bytes < n → n ≤ 64 → ¬ (IsCharBoundary name n)
