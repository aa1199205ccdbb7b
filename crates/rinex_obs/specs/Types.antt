-- The observation types of a system that a header lists (RINEX 3.05, table A2, `SYS / # / OBS
-- TYPES`).
use Rattle.std.specs.Prelude.{ℕ, zero, suc, ◌≡◌, ◌+◌, ◌-◌, ◌*◌, ◌≤◌, ◌<◌, min, Bool, true, false}
use Rattle.std.specs.Prelude.{cond, ◌==◌, ◌&&◌, ◌||◌, ◌⊎◌, List, [], ◌∷◌, ◌++◌, length, Option}
use Rattle.std.specs.Prelude.{None, Some, Result}
use Rattle.std.specs.Option.{option_map}
use Rattle.std.specs.List.{list_all}
use Rattle.std.specs.Str.{bytes_eq}
use Rattle.exact_decimal.specs.Counts.{IsCount}
use Rattle.exact_decimal.specs.NumberFields.{is_blank}
use Rattle.rinex_text.specs.Columns.{column_of, columns_of}
use Rattle.rinex_text.specs.Faults.{test, where_holds, read, then, gives}
use Rattle.rinex_text.specs.declared.fault.Fault.{Fault}
use Rattle.rinex_text.specs.declared.fault.Fault.TheVariants.{BadCount}

-- the bytes of a code
abbrev pub Code : Type 0
Code = List ℕ

-- how many there are, and the codes of the lines so far
pub record Types : Type 0 where
  pub count : ℕ
  pub codes : List Code

-- ---- the lines

-- The code at a place of a line, from 0: columns 8 to 10, 12 to 14, and so on up to place 12.
abbrev pub code_at : List ℕ → ℕ → Code
code_at text place = column_of text (8 + 4 * place) ∷ column_of text (9 + 4 * place)
    ∷ column_of text (10 + 4 * place) ∷ []

abbrev pub IsSolid : Code → Type 0
IsSolid code = list_all is_blank code ≡ false

-- so many codes of a line, from a place on, behind those before
abbrev pub codes_from : List ℕ → ℕ → ℕ → List Code → Result (List Code) Fault → Type 0
codes_from text place zero codes answer = gives codes answer
codes_from text place (suc left) codes answer =
    test (IsSolid (code_at text place)) BadCount
    (codes_from text (place + 1) left (codes ++ code_at text place ∷ [])) answer

-- the codes of a line: 13, or those that are missing
abbrev pub more_codes : List ℕ → Types → Result Types Fault → Type 0
more_codes text types =
    then (codes_from text 0 (min 13 (types.count - length types.codes)) types.codes) (λ codes.
    gives (record { count = types.count; codes = codes }))

-- the line with their number, in columns 4 to 6
abbrev pub first_codes : List ℕ → Result Types Fault → Type 0
first_codes text =
    read (IsCount (columns_of text 4 6)) BadCount (λ count.
    test (0 < count) BadCount
    (more_codes text (record { count = count; codes = [] })))

-- the letter of GPS, and where both systems are read also that of Galileo
abbrev pub IsRead : Bool → ℕ → Type 0
IsRead false letter = letter ≡ 71
IsRead true letter = (letter ≡ 71) ⊎ (letter ≡ 69)

abbrev pub is_read : Bool → ℕ → Bool
is_read both letter = letter == 71 || (both && letter == 69)

-- a line belongs to the system with this letter
abbrev pub IsOf : ℕ → List ℕ → Type 0
IsOf letter text = column_of text 1 ≡ letter

-- ... to one that is read
abbrev pub IsOfRead : Bool → List ℕ → Type 0
IsOfRead both text = IsRead both (column_of text 1)

-- a line goes on with the types of the line before
abbrev pub GoesOn : List ℕ → Type 0
GoesOn text = list_all is_blank (columns_of text 1 6) ≡ true

-- A line of types, as it is for the system with this letter. Where some of its types are missing
-- the line has to go on with them; where there are all, it may not be another line of the system.
-- What is left belongs to other systems.
abbrev pub types_line : ℕ → Option Types → List ℕ → Result (Option Types) Fault → Type 0
types_line letter None text =
    where_holds (IsOf letter text)
    (then (first_codes text) (λ types. gives (Some types)))
    (gives None)
types_line letter (Some types) text =
    where_holds (length types.codes < types.count)
    (test (GoesOn text) BadCount (then (more_codes text types) (λ more. gives (Some more))))
    (test (IsOf letter text → ⊥) BadCount (gives (Some types)))

-- ... as it is for Galileo, where both systems are read
abbrev pub galileo_line : Bool → Option Types → List ℕ → Result (Option Types) Fault → Type 0
galileo_line false known text = gives known
galileo_line true known text = types_line 69 known text

-- ---- the list

-- no type is missing
abbrev pub AreComplete : Option Types → Type 0
AreComplete None = Unit {0}
AreComplete (Some types) = types.count ≤ length types.codes

abbrev pub codes_of : Option Types → List Code
codes_of None = []
codes_of (Some types) = types.codes

-- the first place of a code in a list, from 0
abbrev pub place_of : Code → List Code → Option ℕ
place_of code [] = None
place_of code (next ∷ codes) =
    cond (bytes_eq next code) (Some 0) (option_map suc (place_of code codes))
