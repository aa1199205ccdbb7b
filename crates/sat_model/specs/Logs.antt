-- A log as a value: its version, its rules, and a block for each epoch with the number of its
-- first line.
use Rattle.std.specs.Prelude.{◌≡◌, ℕ, ◌+◌, ◌≤◌, ℤ, Bool, List, [], ◌∷◌, length, Option, None, Some}
use Rattle.std.specs.Prelude.{is_none}
use Rattle.sat_model.specs.declared.rules.Rules.{Rules}
use Rattle.sat_model.specs.declared.rows.Row.{Row}
use Rattle.gnss_model.specs.declared.satellites.Sat.{Sat}
use Rattle.sat_model.specs.declared.rows.SatEntry.{SatEntry}
use Rattle.sat_model.specs.declared.rows.SatEntry.TheVariants as entry
use Rattle.grid_model.specs.Boxes.{GridBox}
use Rattle.sat_model.specs.Bounds.{BoundValue, lines_of_bounds}
use Rattle.sat_model.specs.Events.{Event, RowsOver, rows_over, lines_of_all}

-- How an epoch was paved. The lines stand in this order: the root, the steps with the renewals
-- among them, the number of splits, and the bounds.
pub record Body : Type 0 where
  pub root : GridBox
  pub events : List Event
  pub done : ℕ
  pub bounds : List BoundValue

-- The lines of a block stand in this order: its first line, the satellites, and the body.
pub record Block : Type 0 where
  pub line : ℕ
  pub index : ℕ
  pub ps : ℤ
  pub n : ℕ
  pub sats : List SatEntry
  pub body : Option Body

-- a block of few satellites has no body
abbrev pub is_few : Block → Bool
is_few block = is_none block.body

-- version 1 is without renewals, and versions 1 to 3 are without bounds
pub record LogValue : Type 0 where
  pub version : ℕ
  pub rules : Rules
  pub blocks : List Block

abbrev pub sat_of : SatEntry → Sat
sat_of (entry.Row row) = row.sat
sat_of (entry.Skipped sat skip) = sat

-- the rows among the satellite lines
abbrev pub rows_of : List SatEntry → List Row
rows_of [] = []
rows_of (entry.Row row ∷ more) = row ∷ rows_of more
rows_of (entry.Skipped sat skip ∷ more) = rows_of more

-- the first rows of a block, which hold over the root
abbrev pub first_rows : Block → Body → RowsOver
first_rows block body = rows_over body.root (rows_of block.sats)

-- ---- the numbers of the lines

-- the root, the steps and renewals, the number of splits, and the bounds
abbrev pub lines_of_body : Option Body → ℕ
lines_of_body None = 0
lines_of_body (Some body) = 2 + lines_of_all body.events + lines_of_bounds body.bounds

-- the lines of a block
abbrev pub lines_in : Block → ℕ
lines_in block = 1 + length block.sats + lines_of_body block.body

-- each block begins where the one before ends, and all lines have numbers of at most 4 * 10^9
abbrev pub IsNumberedFrom : ℕ → List Block → Type 0
IsNumberedFrom next [] = next ≤ 4000000001
IsNumberedFrom next (block ∷ more) =
    (block.line ≡ next) × IsNumberedFrom (next + lines_in block) more

-- the first block begins behind the two lines of the head
abbrev pub IsNumbered : LogValue → Type 0
IsNumbered log = IsNumberedFrom 3 log.blocks
