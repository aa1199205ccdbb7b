-- A log against the files: what it has to be where own lines are given for the first of the
-- searches, and the first line that fails a test.
use Rattle.std.specs.Prelude.{◌≡◌, ℕ, ◌+◌, ◌⊎◌, List, [], ◌∷◌, length, Option, None, Some}
use Rattle.epoch_selection.specs.Searches.{Search}
use Rattle.rinex_obs.specs.declared.obs.ObsEpoch.{ObsEpoch}
use Rattle.sat_model.specs.Logs.{Block, LogValue, is_few, lines_in}
use Rattle.sat_model.specs.Verdicts.{IsLater, SuitsNumber}
use Rattle.sat_model.specs.declared.rules.Rules.{Rules}
use Rattle.gnss_model.specs.declared.delays.Delays.{Delays}
use Rattle.paving_log_check.specs.Answers.{ShowsNoSpans}
use Rattle.paving_log_check.specs.Epochs.{EpochPasses, EpochFails}
use Rattle.paving_log_check.specs.OwnLines.{OwnLines, AreWhole}
use Rattle.paving_log_check.specs.declared.verdict.Fault.{Fault}

-- ---- the rules

pub record AreSameRules (a b : Rules) : Type 0 where
  pub outliers : a.outliers ≡ b.outliers
  pub bisections : a.bisections ≡ b.bisections
  pub width : a.width ≡ b.width
  pub pairs : a.pairs ≡ b.pairs

-- ---- the place of a block among the epochs (51)

-- the block is that of this epoch, behind a block of the index before
pub record IsOf (rules : Rules) (before : Option ℕ) (seen : ObsEpoch) (block : Block) : Type 0 where
  pub later : IsLater before block.index
  pub suits : SuitsNumber (is_few block) rules.outliers block.n
  pub index : block.index ≡ seen.index
  pub tag : block.ps ≡ seen.tag

-- where searches are left the next block is that of the next one, and else there is none
abbrev pub IsDue : Rules → Option ℕ → List Search → List Block → Type 0
IsDue rules before [] [] = Unit {0}
IsDue rules before [] (block ∷ more) = ⊥
IsDue rules before (search ∷ rest) [] = ⊥
IsDue rules before (search ∷ rest) (block ∷ more) = IsOf rules before search.epoch block

-- this fails at the next line
pub record DueFails (rules : Rules) (next : ℕ) (before : Option ℕ) (searches : List Search)
    (blocks : List Block) (fault : Fault) : Type 0 where
  pub fails : IsDue rules before searches blocks → ⊥
  pub line : fault.line ≡ next
  pub number : fault.number ≡ 51
  pub no_spans : ShowsNoSpans fault

-- the rules differ (50)
pub record RulesDiffer (rules other : Rules) (fault : Fault) : Type 0 where
  pub differ : AreSameRules rules other → ⊥
  pub line : fault.line ≡ 2
  pub number : fault.number ≡ 50
  pub no_spans : ShowsNoSpans fault

-- by the delays that are mapped
module _ (delays : Delays) where
  -- ---- the blocks

  -- no test fails up to the last search of which own lines are given, and none of the place behind
  -- it
  abbrev pub AdmitsFrom : Rules → Option ℕ → List OwnLines → List Search → List Block → Type 0
  AdmitsFrom rules before [] searches blocks = IsDue rules before searches blocks
  AdmitsFrom rules before (own ∷ owns) [] blocks = ⊥
  AdmitsFrom rules before (own ∷ owns) (search ∷ rest) [] = ⊥
  AdmitsFrom rules before (own ∷ owns) (search ∷ rest) (block ∷ more) =
      IsOf rules before search.epoch block × EpochPasses delays rules search.root own block
      × AdmitsFrom rules (Some block.index) owns rest more

  -- the first fault of a block. Where a line is missing at its end, the place of the next block is
  -- tested before that is told.
  abbrev pub BlockFault : Rules → ℕ → OwnLines → Search → List Search → Block → List Block
      → Fault → Type 0
  BlockFault rules behind own search rest block more fault =
      (EpochFails delays rules search.root own block fault
      × (fault.line ≡ behind → IsDue rules (Some block.index) rest more))
      ⊎ (DueFails rules behind (Some block.index) rest more fault
      × ((other : Fault) × EpochFails delays rules search.root own block other
      × (other.line ≡ behind)))

  -- the first line that fails a test, the least number of one on it, and the spans that are shown
  abbrev pub FailsFrom : Rules → ℕ → Option ℕ → List OwnLines → List Search → List Block
      → Fault → Type 0
  FailsFrom rules next before [] searches blocks fault =
      DueFails rules next before searches blocks fault
  FailsFrom rules next before (own ∷ owns) [] blocks fault =
      DueFails rules next before [] blocks fault
  FailsFrom rules next before (own ∷ owns) (search ∷ rest) [] fault =
      DueFails rules next before (search ∷ rest) [] fault
  FailsFrom rules next before (own ∷ owns) (search ∷ rest) (block ∷ more) fault =
      DueFails rules next before (search ∷ rest) (block ∷ more) fault
      ⊎ ((IsOf rules before search.epoch block
      × BlockFault rules (next + lines_in block) own search rest block more fault)
      ⊎ (IsOf rules before search.epoch block × EpochPasses delays rules search.root own block
      × FailsFrom rules (next + lines_in block) (Some block.index) owns rest more fault))

  -- ---- the log

  -- no test fails, as far as own lines are given
  pub record Admits (searches : List Search) (owns : List OwnLines) (rules : Rules)
      (log : LogValue) : Type 0 where
    pub same_rules : AreSameRules rules log.rules
    pub blocks : AdmitsFrom rules None owns searches log.blocks

  -- and they are given for each search, with a row for each line of a renewal
  pub record Admissible (searches : List Search) (owns : List OwnLines) (rules : Rules)
      (log : LogValue) : Type 0 where
    pub each : length owns ≡ length searches
    pub whole : AreWhole owns log.blocks
    pub admits : Admits searches owns rules log

  -- the first fault, as far as own lines are given
  abbrev pub FailsFirst : List Search → List OwnLines → Rules → LogValue → Fault → Type 0
  FailsFirst searches owns rules log fault =
      RulesDiffer rules log.rules fault
      ⊎ (AreSameRules rules log.rules × FailsFrom rules 3 None owns searches log.blocks fault)
