-- What is said of a log that was checked against files.
use Rattle.std.specs.Prelude.{◌≡◌, ℕ, List}
use Rattle.epoch_selection.specs.Searches.{Search}
use Rattle.sat_model.specs.Cover.{kept_boxes}
use Rattle.sat_model.specs.Logs.{Block, LogValue}
use Rattle.sat_model.specs.Relaxed.{ends}
use Rattle.sat_model.specs.declared.rules.Rules.{Rules}
use Rattle.sat_rows.specs.Meanings.{Meaning}
use Rattle.paving_log_check.specs.Admissible.{Admits, Admissible, FailsFirst}
use Rattle.paving_log_check.specs.Epochs.{EpochPasses, EpochFails}
use Rattle.paving_log_check.specs.FileCover.{FileCover}
use Rattle.paving_log_check.specs.Narrow.{HasNarrowRow, HasNarrowBlock}
use Rattle.paving_log_check.specs.OwnLines.{OwnLines, renewals_of, IsOwnOf, AreOwn, HaveEachRow}
use Rattle.paving_log_check.specs.OwnLines.{IsWholeBefore, AreWholeBefore}
use Rattle.paving_log_check.specs.declared.verdict.Fault.{Fault}

-- the same line, number and spans
pub record AreSameFault (a b : Fault) : Type 0 where
  pub line : a.line ≡ b.line
  pub number : a.number ≡ b.number
  pub theirs : ends a.theirs ≡ ends b.theirs
  pub ours : ends a.ours ≡ ends b.ours

-- by what a source says of satellites
module _ (m : Meaning) where
  -- no test of the block fails against own lines of the search, which are all given
  pub record EpochAccepted (rules : Rules) (search : Search) (block : Block) : Type 0 where
    pub own : OwnLines
    pub are_own : IsOwnOf m search (renewals_of block.body) own
    pub whole : HaveEachRow (renewals_of block.body) own.renewed
    pub passes : EpochPasses m.delays rules search.root own block

  -- this is its first fault against them, for a row too narrow with both spans; before it they are
  -- all given
  pub record EpochRefused (rules : Rules) (search : Search) (block : Block)
      (fault : Fault) : Type 0 where
    pub own : OwnLines
    pub are_own : IsOwnOf m search (renewals_of block.body) own
    pub whole : IsWholeBefore fault.line own block
    pub fails : EpochFails m.delays rules search.root own block fault
    pub narrow : fault.number ≡ 53 → HasNarrowRow m search block fault

  -- the log is admissible for own lines of each search, and covers what fits, with so many boxes
  pub record IsAccepted (searches : List Search) (rules : Rules) (log : LogValue)
      (boxes : ℕ) : Type 0 where
    pub owns : List OwnLines
    pub are_own : AreOwn m searches log.blocks owns
    pub admissible : Admissible m.delays searches owns rules log
    pub cover : FileCover m rules.outliers searches log
    pub boxes_are : boxes ≡ kept_boxes log

  -- the log isn't admitted by own lines of the first searches, and for them this is its first
  -- fault, and the only one; own rows are given for each line of a renewal that stands before it
  pub record IsRefused (searches : List Search) (rules : Rules) (log : LogValue)
      (fault : Fault) : Type 0 where
    pub owns : List OwnLines
    pub are_own : AreOwn m searches log.blocks owns
    pub whole : AreWholeBefore fault.line owns log.blocks
    pub first : FailsFirst m.delays searches owns rules log fault
    pub refused : Admits m.delays searches owns rules log → ⊥
    pub only : (other : Fault) → FailsFirst m.delays searches owns rules log other
        → AreSameFault other fault
    pub narrow : fault.number ≡ 53 → HasNarrowBlock m searches log.blocks fault
