-- What is given for a search, to test its block by: own lines over the root and, as far as they
-- are formed, own rows over the box of each renewal.
use Rattle.std.specs.Prelude.{◌≡◌, ℕ, ◌+◌, ◌-◌, ◌≤◌, ℤ, List, [], ◌∷◌, length, min, Option, None}
use Rattle.std.specs.Prelude.{Some}
use Rattle.epoch_selection.specs.Searches.{Search}
use Rattle.grid_model.specs.Boxes.{GridBox}
use Rattle.rinex_obs.specs.declared.obs.SatObs.{SatObs}
use Rattle.sat_model.specs.Events.{Event, Made, Renewed, RowsOver, renewals_in, lines_of}
use Rattle.sat_model.specs.Logs.{Body, Block}
use Rattle.sat_model.specs.declared.rows.Row.{Row}
use Rattle.sat_rows.specs.Meanings.{Meaning}
use Rattle.sat_rows.specs.OwnRows.{IsOwnRow, AreLinesOf}
use Rattle.sat_rows.specs.declared.lines.SatLine.{SatLine}
use Rattle.sat_rows.specs.declared.lines.SatLine.TheVariants.{Usable, Skipped}

-- a list of rows for each renewal, each with one row for each usable satellite; any of these lists
-- may end early
pub record OwnLines : Type 0 where
  pub lines : List SatLine
  pub renewed : List (List Row)

-- the renewals of a block with this body
abbrev pub renewals_of : Option Body → List RowsOver
renewals_of None = []
renewals_of (Some body) = renewals_in body.events

-- the usable ones of these satellites, by their lines
abbrev pub usable_of : List SatObs → List SatLine → List SatObs
usable_of [] lines = []
usable_of (seen ∷ sats) [] = []
usable_of (seen ∷ sats) (Usable row ∷ lines) = seen ∷ usable_of sats lines
usable_of (seen ∷ sats) (Skipped sat skip ∷ lines) = usable_of sats lines

-- ---- whose rows they are, by what a source says of satellites

-- own rows over a box, of the first of these satellites
abbrev pub AreOwnRows : Meaning → GridBox → ℤ → List SatObs → List Row → Type 0
AreOwnRows m part tag sats [] = Unit {0}
AreOwnRows m part tag [] (row ∷ rows) = ⊥
AreOwnRows m part tag (seen ∷ sats) (row ∷ rows) =
    IsOwnRow m part tag seen row × AreOwnRows m part tag sats rows

-- ... over the boxes of the first of these renewals
abbrev pub AreRenewed : Meaning → ℤ → List SatObs → List RowsOver → List (List Row) → Type 0
AreRenewed m tag sats renewals [] = Unit {0}
AreRenewed m tag sats [] (rows ∷ more) = ⊥
AreRenewed m tag sats (new ∷ renewals) (rows ∷ more) =
    AreOwnRows m new.part tag sats rows × AreRenewed m tag sats renewals more

-- own lines of the search, and own rows of its usable satellites over the boxes of these renewals
pub record IsOwnOf (m : Meaning) (search : Search) (renewals : List RowsOver)
    (own : OwnLines) : Type 0 where
  pub lines : AreLinesOf m search.root search.epoch own.lines
  pub renewed : AreRenewed m search.epoch.tag (usable_of search.epoch.sats.items own.lines)
      renewals own.renewed

-- own lines of the first of these searches, each with its block where there is one
abbrev pub AreOwn : Meaning → List Search → List Block → List OwnLines → Type 0
AreOwn m searches blocks [] = Unit {0}
AreOwn m [] blocks (own ∷ owns) = ⊥
AreOwn m (search ∷ rest) [] (own ∷ owns) = IsOwnOf m search [] own × AreOwn m rest [] owns
AreOwn m (search ∷ rest) (block ∷ more) (own ∷ owns) =
    IsOwnOf m search (renewals_of block.body) own × AreOwn m rest more owns

-- ---- whether they are all given

-- a row for each line of each renewal
abbrev pub HaveEachRow : List RowsOver → List (List Row) → Type 0
HaveEachRow [] [] = Unit {0}
HaveEachRow [] (rows ∷ more) = ⊥
HaveEachRow (new ∷ renewals) [] = ⊥
HaveEachRow (new ∷ renewals) (rows ∷ more) =
    (length rows ≡ length new.rows) × HaveEachRow renewals more

-- ... of each block
abbrev pub AreWhole : List OwnLines → List Block → Type 0
AreWhole [] blocks = Unit {0}
AreWhole (own ∷ owns) [] = ⊥
AreWhole (own ∷ owns) (block ∷ more) =
    HaveEachRow (renewals_of block.body) own.renewed × AreWhole owns more

-- ---- whether they are given for each line before another

-- a row for each line of a renewal that stands before the line k lines behind the first of these
-- events: of a renewal there, that are the k - 1 lines behind its box at most
abbrev pub HaveRowsBefore : ℕ → List Event → List (List Row) → Type 0
HaveRowsBefore k [] renewed = Unit {0}
HaveRowsBefore k (Made step ∷ events) renewed =
    HaveRowsBefore (k - lines_of (Made step)) events renewed
HaveRowsBefore k (Renewed new ∷ events) [] = k ≤ 1
HaveRowsBefore k (Renewed new ∷ events) (rows ∷ more) = (min (k - 1) (length new.rows) ≤ length rows)
    × HaveRowsBefore (k - lines_of (Renewed new)) events more

-- how many lines the line of this number stands behind the first step or renewal of the block
abbrev pub behind_root : ℕ → Block → ℕ
behind_root line block = line - (block.line + 2 + length block.sats)

abbrev pub HasRowsBefore : ℕ → Option Body → List (List Row) → Type 0
HasRowsBefore k None renewed = Unit {0}
HasRowsBefore k (Some body) renewed = HaveRowsBefore k body.events renewed

-- a row for each line of a renewal of the block that stands before the line of this number
abbrev pub IsWholeBefore : ℕ → OwnLines → Block → Type 0
IsWholeBefore line own block = HasRowsBefore (behind_root line block) block.body own.renewed

-- ... of each block
abbrev pub AreWholeBefore : ℕ → List OwnLines → List Block → Type 0
AreWholeBefore line [] blocks = Unit {0}
AreWholeBefore line (own ∷ owns) [] = Unit {0}
AreWholeBefore line (own ∷ owns) (block ∷ more) =
    IsWholeBefore line own block × AreWholeBefore line owns more
