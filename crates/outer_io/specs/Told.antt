-- What is seen of a shelf: its files, where each slot stands in them, and which calls failed.
use Rattle.std.specs.Prelude.{◌≡◌, ◌≤◌, ℕ, ◌+◌, List, [], ◌∷◌, ◌++◌, length, take, drop, Bool}
use Rattle.std.specs.Prelude.{false, not, Option, None, Some, IfSome, unwrap_or, Result}
use Rattle.std.specs.Prelude.{MatchResult}
use Rattle.std.specs.Option.{option_map}
use Rattle.std.specs.Ordering.{nat_cmp}
use Rattle.std.specs.Cmp.Lexicographic.{slice_cmp}
use Rattle.std.specs.FinMap as map
use Rattle.outer_io.specs.declared.shelf.Phase.{Phase}
use Rattle.outer_io.specs.declared.shelf.Phase.TheVariants.{Closed}
use Rattle.outer_io.specs.declared.slots.Slot.{Slot}
use Rattle.outer_io.specs.declared.slots.Slots.{Slots}
use Rattle.outer_io.specs.Slots.{all, at, put}

-- files under their names
abbrev pub Files : Type 0
Files = map.FinMap (slice_cmp nat_cmp) (List ℕ)

-- a file, and the number of its bytes that were read or written
pub record FilePosition : Type 0 where
  pub name : List ℕ
  pub from : ℕ

-- What a shelf in memory was made with. No call of the trait changes it.
pub record ShelfTerms : Type 0 where
  -- the one file that can be created
  pub log : List ℕ
  -- the most bytes that `write` takes in all
  pub room : ℕ
  -- the most bytes that one `read` or `write` moves
  pub piece : ℕ
  -- the numbers, from 1, of the calls that are to fail
  pub fails : List ℕ

pub record Told : Type 0 where
  pub files : Files
  pub positions : Slots FilePosition
  -- the bytes that `write` took in all
  pub written : ℕ
  pub terms : ShelfTerms

-- What each slot is open for, and the names for which `begin` and `create` were called, the first
-- one first, whatever the call answered.
pub record Openings : Type 0 where
  pub phases : Slots Phase
  pub names : List (List ℕ)

-- slots that are closed, and no name yet
abbrev pub none_opened : Openings
none_opened = record { phases = all Closed; names = [] }

-- and then the name was opened at the slot, which is open for this since
abbrev pub opened : Slot → List ℕ → Phase → Openings → Openings
opened slot name phase o =
    record { phases = put o.phases slot phase; names = o.names ++ name ∷ [] }

-- What is seen of a shelf: what it tells, where it tells anything; what was opened; how often
-- `begin` and `read` have failed, but for a name that is told and missing; and how often `create`
-- and `write` have.
pub record ShelfState : Type 0 where
  pub told : Option Told
  pub openings : Openings
  pub read_faults : ℕ
  pub write_faults : ℕ

-- the files, where they are told
abbrev pub files_of : ShelfState → Option Files
files_of s = option_map (λ t. t.files) s.told

-- how many bytes were written in all, where it is told
abbrev pub written_of : ShelfState → Option ℕ
written_of s = option_map (λ t. t.written) s.told

-- what it was made with, where it is told
abbrev pub terms_of : ShelfState → Option ShelfTerms
terms_of s = option_map (λ t. t.terms) s.told

-- so many bytes are no more than one call moves, where that is told
abbrev pub IsPiece : ShelfState → ℕ → Type 0
IsPiece s count = IfSome (terms_of s) (λ terms. count ≤ terms.piece)

-- with other pieces
abbrev pub in_pieces : ℕ → Told → Told
in_pieces piece t = record t { terms = record t.terms { piece = piece } }

-- the bytes of a file, and none where there is no such file
abbrev pub content : Files → List ℕ → List ℕ
content files name = unwrap_or (map.get files name) []

-- what a slot has left to read
abbrev pub left : Slot → Told → List ℕ
left slot t = drop (at t.positions slot).from (content t.files (at t.positions slot).name)

-- the same, where it is told
abbrev pub left_of : Slot → ShelfState → Option (List ℕ)
left_of slot s = option_map (left slot) s.told

-- the files are told, and have no such name
abbrev pub lacks : Option Told → List ℕ → Bool
lacks None name = false
lacks (Some t) name = not (map.contains_key t.files name)

-- the same of what is seen of a shelf
abbrev pub is_missing : ShelfState → List ℕ → Bool
is_missing s name = lacks s.told name

-- with the slot at this place
abbrev pub set : Slot → FilePosition → Told → Told
set slot position t = record t { positions = put t.positions slot position }

-- at the start of the named file
abbrev pub begun : List ℕ → Slot → Told → Told
begun name slot t = set slot (record { name = name; from = 0 }) t

-- where the call succeeds, the slot is at the start of the file, and else nothing moves
abbrev pub Begins : {T E : Type 0}
    → ShelfState → ShelfState → List ℕ → Slot → Result T E → Type 0
Begins old new name slot result =
    MatchResult result
    (λ _. new.told ≡ option_map (begun name slot) old.told)
    (λ _. new.told ≡ old.told)

-- k bytes further on
abbrev pub moved : Slot → ℕ → Told → Told
moved slot k t =
    set slot (record { name = (at t.positions slot).name; from = (at t.positions slot).from + k }) t

-- the slot is k bytes further on
abbrev pub MovedBy : ShelfState → ShelfState → Slot → ℕ → Type 0
MovedBy old new slot k = new.told ≡ option_map (moved slot k) old.told

-- the slot moves on by the count that was answered, and at `Err` nothing moves
abbrev pub Moves : {E : Type 0} → ShelfState → ShelfState → Slot → Result ℕ E → Type 0
Moves old new slot result =
    MatchResult result (λ k. MovedBy old new slot k) (λ _. new.told ≡ old.told)

-- with an empty file of this name, at whose start the slot is
abbrev pub created : List ℕ → Slot → Told → Told
created name slot t = begun name slot (record t { files = map.insert t.files name [] })

-- where the call succeeds, the file is empty, and else nothing has changed
abbrev pub Creates : {T E : Type 0}
    → ShelfState → ShelfState → List ℕ → Slot → Result T E → Type 0
Creates old new name slot result =
    MatchResult result
    (λ _. new.told ≡ option_map (created name slot) old.told)
    (λ _. new.told ≡ old.told)

-- with these bytes at the end of the slot's file, and nothing else where there are none
abbrev pub appended : Slot → List ℕ → Told → Told
appended slot [] t = t
appended slot (b ∷ bytes) t =
    let name = (at t.positions slot).name in
    let from = (at t.positions slot).from in
    record {
      files = map.insert t.files name (content t.files name ++ b ∷ bytes);
      positions = put t.positions slot (record { name = name; from = from + length (b ∷ bytes) });
      written = t.written + length (b ∷ bytes);
      terms = t.terms;
    }

-- these bytes were appended
abbrev pub AppendedBy : ShelfState → ShelfState → Slot → List ℕ → Type 0
AppendedBy old new slot bytes = new.told ≡ option_map (appended slot bytes) old.told

-- some first bytes of the piece were appended
abbrev pub AppendedPrefix : ShelfState → ShelfState → Slot → List ℕ → Type 0
AppendedPrefix old new slot bytes =
    (k : ℕ) × (k ≤ length bytes) × AppendedBy old new slot (take k bytes)

-- as many bytes of the piece were appended as was answered, and none at `Err`
abbrev pub Writes : {E : Type 0}
    → ShelfState → ShelfState → Slot → Result ℕ E → List ℕ → Type 0
Writes old new slot result bytes =
    MatchResult result (λ k. AppendedBy old new slot (take k bytes)) (λ _. new.told ≡ old.told)
