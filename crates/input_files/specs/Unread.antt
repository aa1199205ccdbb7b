-- The bytes of a named file, and why they weren't read.
use Rattle.std.specs.Prelude.{◌≡◌, ◌⊎◌, ℕ, List, Option, None, Some, IsSomeAnd}
use Rattle.std.specs.FinMap as map
use Rattle.outer_io.specs.Told.{Told, ShelfState}
use Rattle.input_files.specs.declared.notice.Notice.{Notice}
use Rattle.input_files.specs.declared.notice.Notice.TheVariants as notice
use Rattle.input_files.specs.declared.role.Role.{Role}

abbrev pub IsTold : Option Told → List ℕ → (List ℕ → Type 0) → Type 0
IsTold None name Meets = Unit {0}
IsTold (Some told) name Meets = IsSomeAnd (map.get told.files name) Meets

-- where the files are told, the named one is there, and the fact holds of its bytes
abbrev pub HasFile : ShelfState → List ℕ → (List ℕ → Type 0) → Type 0
HasFile s name Meets = IsTold s.told name Meets

-- why it wasn't read to its end
abbrev pub IsUnread : Role → ℕ → Notice → Type 0
IsUnread of limit n = (n ≡ notice.NoMemory)
    ⊎ ((n ≡ notice.ReadFault of) ⊎ (n ≡ notice.TooLong of limit))
