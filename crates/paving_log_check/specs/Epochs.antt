-- The tests of one block of a log against the lines that the files give for its epoch, but for
-- those of its place among the epochs (50 and 51).
use Rattle.std.specs.Prelude.{◌≡◌, ◌≢◌, ℕ, ◌+◌, ◌<◌, ◌≤◌, ◌⊎◌, List, length, Option, None, Some}
use Rattle.std.specs.List.{AllByRecursion}
use Rattle.grid_model.specs.Boxes.{GridBox}
use Rattle.sat_model.specs.Logs.{Body, Block, is_few}
use Rattle.sat_model.specs.Verdicts.{CountsRows, BodyPassesBy, BodyFailsBy}
use Rattle.sat_model.specs.declared.rows.Row.{Row}
use Rattle.sat_model.specs.declared.rules.Rules.{Rules}
use Rattle.gnss_model.specs.declared.delays.Delays.{Delays}
use Rattle.sat_rows.specs.OwnRows.{usable_in}
use Rattle.sat_rows.specs.declared.lines.SatLine.{SatLine}
use Rattle.paving_log_check.specs.Answers.{ShowsNoSpans}
use Rattle.paving_log_check.specs.Lines.{expected, SatsPass, SatsFail}
use Rattle.paving_log_check.specs.OwnLines.{OwnLines, renewals_of}
use Rattle.paving_log_check.specs.Renewed.{HoldsGiven, own_tests}
use Rattle.paving_log_check.specs.declared.verdict.Fault.{Fault}

-- N is the number of usable satellites and, in a paved epoch, of `sat` lines and of the rows of
-- each renewal. In a log that has a text the latter is never otherwise.
pub record Counts (own : List SatLine) (block : Block) : Type 0 where
  pub rows : CountsRows (is_few block) block.n block.sats
  pub renewed : AllByRecursion (λ new. length new.rows ≡ block.n) (renewals_of block.body)
  pub usable : block.n ≡ usable_in own

-- none of the expected lines is missing behind those of the block
abbrev pub IsWhole : List SatLine → Block → Type 0
IsWhole own block = length (expected (is_few block) own) ≤ length block.sats

-- ---- what fails in the first line, and at the root

pub record HeadDiffers (own : List SatLine) (block : Block) (fault : Fault) : Type 0 where
  pub differs : Counts own block → ⊥
  pub line : fault.line ≡ block.line
  pub number : fault.number ≡ 52
  pub no_spans : ShowsNoSpans fault

-- the root isn't the given one
pub record RootDiffers (root : GridBox) (block : Block) (body : Body)
    (fault : Fault) : Type 0 where
  pub differs : body.root ≢ root
  pub line : fault.line ≡ block.line + 1 + length block.sats
  pub number : fault.number ≡ 55
  pub no_spans : ShowsNoSpans fault

-- by the delays that are mapped
module _ (delays : Delays) where
  -- ---- what stands behind the satellites

  -- the root is the given one, and the steps and renewals pass, as far as own rows are given
  abbrev pub BodyPassesAt : Rules → GridBox → List (List Row) → Block → Option Body → Type 0
  BodyPassesAt rules root renewed block None = Unit {0}
  BodyPassesAt rules root renewed block (Some body) =
      (body.root ≡ root) × BodyPassesBy (HoldsGiven delays renewed) rules block body

  -- it is, and this is the first fault of the steps and renewals
  pub record EventDiffers (rules : Rules) (root : GridBox) (renewed : List (List Row))
      (block : Block) (body : Body) (fault : Fault) : Type 0 where
    pub same : body.root ≡ root
    pub k : ℕ
    pub fails : BodyFailsBy (own_tests delays renewed) rules block body k fault
    pub line : fault.line ≡ block.line + 2 + length block.sats + k

  abbrev pub BodyFailsAt : Rules → GridBox → List (List Row) → Block → Body → Fault → Type 0
  BodyFailsAt rules root renewed block body fault =
      RootDiffers root block body fault ⊎ EventDiffers rules root renewed block body fault

  -- ---- the whole block

  -- no test fails
  pub record EpochPasses (rules : Rules) (root : GridBox) (own : OwnLines)
      (block : Block) : Type 0 where
    pub counts : Counts own.lines block
    pub sats : SatsPass delays block.sats (expected (is_few block) own.lines)
    pub whole : IsWhole own.lines block
    pub body : BodyPassesAt rules root own.renewed block block.body

  -- ---- what fails, each part behind those that pass

  pub record LineDiffers (own : List SatLine) (block : Block) (fault : Fault) : Type 0 where
    pub counts : Counts own block
    pub k : ℕ
    pub fails : SatsFail delays block.sats (expected (is_few block) own) k fault
    pub line : fault.line ≡ block.line + 1 + k

  -- a line is missing: that is told at the line that stands in its place
  pub record LineMissing (own : List SatLine) (block : Block) (fault : Fault) : Type 0 where
    pub counts : Counts own block
    pub sats : SatsPass delays block.sats (expected (is_few block) own)
    pub missing : length block.sats < length (expected (is_few block) own)
    pub line : fault.line ≡ block.line + 1 + length block.sats
    pub number : fault.number ≡ 52
    pub no_spans : ShowsNoSpans fault

  pub record BodyDiffers (rules : Rules) (root : GridBox) (own : OwnLines) (block : Block)
      (fault : Fault) : Type 0 where
    pub counts : Counts own.lines block
    pub sats : SatsPass delays block.sats (expected (is_few block) own.lines)
    pub whole : IsWhole own.lines block
    pub body : Body
    pub is_body : block.body ≡ Some body
    pub fails : BodyFailsAt rules root own.renewed block body fault

  -- the first line that fails a test, and the least number of one on it
  abbrev pub EpochFails : Rules → GridBox → OwnLines → Block → Fault → Type 0
  EpochFails rules root own block fault =
      HeadDiffers own.lines block fault
      ⊎ (LineDiffers own.lines block fault
      ⊎ (LineMissing own.lines block fault ⊎ BodyDiffers rules root own block fault))
