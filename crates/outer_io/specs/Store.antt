-- Files in memory: those that were handed over, and a log that takes the place of one of its name.
use Rattle.std.specs.Prelude.{◌≡◌, ◌<◌, ℕ, nat_eq, ◌+◌, ◌-◌, List, [], ◌++◌, length, map, slice_get}
use Rattle.std.specs.Prelude.{Bool, true, false, Option, None, Some, unwrap_or, String, Vec}
use Rattle.std.specs.Prelude.{string_bytes}
use Rattle.std.specs.List.{IsDistinct}
use lib.Pointwise.{pointwise}
use Rattle.std.specs.Option.{option_map}
use Rattle.std.specs.declared.alloc.Global.{Global}
use Rattle.std.specs.FinMap as map
use Rattle.outer_io.specs.declared.memory_files.FileId.{FileId}
use Rattle.outer_io.specs.declared.memory_files.FileId.TheVariants.{Listed, Log}
use Rattle.outer_io.specs.Told.{Files}

-- a file's name and its bytes
abbrev pub NamedBytes : Type 0
NamedBytes = String Global × Vec ℕ Global

-- what is kept of a shelf's files
pub record Store : Type 0 where
  pub files : List NamedBytes
  pub log_name : List ℕ
  -- none until it is created
  pub log : Option (List ℕ)
  -- how many bytes may still be written, and how many were
  pub room : ℕ
  pub written : ℕ

abbrev pub name_in : NamedBytes → List ℕ
name_in file = string_bytes file.0

-- no two files have one name
abbrev pub HaveOwnNames : List NamedBytes → Type 0
HaveOwnNames files = IsDistinct (pointwise nat_eq) (map name_in files)

abbrev pub entry_of : NamedBytes → List ℕ × List ℕ
entry_of file = (string_bytes file.0, file.1.items)

-- the files of a list, under their names
abbrev pub listed : List NamedBytes → Files
listed files = map.from_entries (map entry_of files)

-- the log takes the place of a file of its name, once it is created
abbrev pub covered : Files → List ℕ → Option (List ℕ) → Files
covered files log_name None = files
covered files log_name (Some log) = map.insert files log_name log

-- all files of the store
abbrev pub files_in : Store → Files
files_in s = covered (listed s.files) s.log_name s.log

-- the name of a file
abbrev pub name_among : List NamedBytes → List ℕ → FileId → List ℕ
name_among files log_name (Listed i) =
    unwrap_or (option_map (λ file. string_bytes file.0) (slice_get files i)) []
name_among files log_name Log = log_name

abbrev pub name_of : Store → FileId → List ℕ
name_of s id = name_among s.files s.log_name id

-- with these bytes more in its log
abbrev pub grown : Store → List ℕ → Store
grown s bytes = record s {
  log = option_map (λ log. log ++ bytes) s.log;
  room = s.room - length bytes;
  written = s.written + length bytes;
}

-- a log, where it is created
abbrev pub log_if : Bool → List ℕ → Option (List ℕ)
log_if false log = None
log_if true log = Some log

-- the named log can be created and is not full; nothing is asked where none is named
abbrev pub HasRoomFor : Store → Option (List ℕ) → Type 0
HasRoomFor s None = Unit {0}
HasRoomFor s (Some log) = (s.log_name ≡ log) × (0 < s.room)
