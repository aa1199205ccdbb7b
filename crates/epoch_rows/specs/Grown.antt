-- Own rows with room at their ends, as the blocks of a log that has no steps yet.
use Rattle.std.specs.Prelude.{ℕ, ◌≡◌, ◌+◌, ◌*◌, ◌/◌, ◌^◌, ℤ, pos, nat_lt, List, [], ◌∷◌}
use Rattle.std.specs.Prelude.{Option, None, Some}
use Rattle.epoch_selection.specs.Searches.{Search}
use Rattle.grid_model.specs.Boxes.{GridBox}
use Rattle.grid_model.specs.Lengths.{spare_of}
use Rattle.sat_model.specs.Logs.{Body, Block, is_few}
use Rattle.gnss_model.specs.Delays.{spare_over, err_spare_of}
use Rattle.gnss_model.specs.declared.delays.Layer.TheVariants.{Troposphere, Ionosphere}
use Rattle.sat_model.specs.declared.rows.Row.{Row}
use Rattle.sat_model.specs.declared.rows.SatEntry.{SatEntry}
use Rattle.sat_model.specs.declared.rows.SatEntry.TheVariants as entry
use Rattle.gnss_model.specs.declared.delays.Delays.{Delays}
use Rattle.sat_rows.specs.Growth.{IsGrown, AreBoundsGrown}
use Rattle.sat_rows.specs.Meanings.{Meaning}
use Rattle.sat_rows.specs.OwnRows.{AreLinesOf, usable_in}
use Rattle.sat_rows.specs.declared.lines.SatLine.{SatLine}
use Rattle.sat_rows.specs.declared.lines.SatLine.TheVariants.{Usable, Skipped}

-- the greatest W: the sides of a box are at most 2 * 10^13 um long
abbrev pub greatest_spare : ℕ
greatest_spare = 2000 + (2 * 10 ^ 13) / 40000

-- the greatest G: the delays straight up are within 10 m and 100 m
abbrev pub greatest_err_spare : ℕ
greatest_err_spare =
    spare_over Troposphere (10 ^ 7) (2 * 10 ^ 13) + spare_over Ionosphere (10 ^ 8) (2 * 10 ^ 13)

-- ---- satellite lines

-- `row` is `own` inflated: place and range by `by` at both ends, the error bounds by `err_by`.
pub record IsGrownRow (by err_by : ℤ) (own row : Row) : Type 0 where
  pub sat : row.sat ≡ own.sat
  pub x : IsGrown by own.x row.x
  pub y : IsGrown by own.y row.y
  pub z : IsGrown by own.z row.z
  pub range : IsGrown by own.range row.range
  pub bounds : AreBoundsGrown err_by own row

-- the line with a grown row, or the same reason not to use the satellite
abbrev pub IsGrownLine : ℤ → ℤ → SatLine → SatEntry → Type 0
IsGrownLine by err_by (Usable own) (entry.Row row) = IsGrownRow by err_by own row
IsGrownLine by err_by (Usable own) (entry.Skipped sat skip) = ⊥
IsGrownLine by err_by (Skipped sat skip) (entry.Row row) = ⊥
IsGrownLine by err_by (Skipped sat skip) (entry.Skipped same why) = (same ≡ sat) × (why ≡ skip)

abbrev pub AreGrownLines : ℤ → ℤ → List SatLine → List SatEntry → Type 0
AreGrownLines by err_by [] [] = Unit {0}
AreGrownLines by err_by [] (sat ∷ sats) = ⊥
AreGrownLines by err_by (line ∷ lines) [] = ⊥
AreGrownLines by err_by (line ∷ lines) (sat ∷ sats) =
    IsGrownLine by err_by line sat × AreGrownLines by err_by lines sats

-- the lines of the satellites that aren't usable
abbrev pub skips_of : List SatLine → List SatEntry
skips_of [] = []
skips_of (Usable row ∷ lines) = skips_of lines
skips_of (Skipped sat skip ∷ lines) = entry.Skipped sat skip ∷ skips_of lines

-- ---- blocks

-- a root that isn't paved yet
abbrev pub bare_body : GridBox → Body
bare_body root = record { root = root; events = []; done = 0; bounds = [] }

-- A block without a body has the skip lines alone. Else it has all lines, whose rows are wider by W
-- at both ends, those of the ends of the error by G, and the root.
abbrev pub HasBody : Delays → GridBox → List SatLine → List SatEntry → Option Body → Type 0
HasBody delays root own sats None = sats ≡ skips_of own
HasBody delays root own sats (Some body) =
    AreGrownLines (pos (spare_of root)) (pos (err_spare_of root delays)) own sats
    × (body ≡ bare_body root)

-- by what a source says of satellites, where so many of them may be inconsistent
module _ (m : Meaning) (q : ℕ) where
  -- the block of a search, without a body where too few satellites are usable
  pub record IsGrownBlock (search : Search) (block : Block) : Type 0 where
    pub own : List SatLine
    pub are_own : AreLinesOf m search.root search.epoch own
    pub index : block.index ≡ search.epoch.index
    pub ps : block.ps ≡ search.epoch.tag
    pub n : block.n ≡ usable_in own
    pub few : is_few block ≡ nat_lt (usable_in own) (q + 4)
    pub body : HasBody m.delays search.root own block.sats block.body
