-- The blocks of a log that is solved: each paves the rows that were formed for its epoch.
use Rattle.std.specs.Prelude.{Bool, List, [], ◌∷◌, Option, Some}
use Rattle.bound_directions.specs.declared.directions.Directions.{Directions}
use Rattle.epoch_selection.specs.Searches.{Search}
use Rattle.log_writer.specs.Pavings.{Paves, Begins}
use Rattle.paving.specs.Renewing.{Maker}
use Rattle.sat_model.specs.Logs.{Block}
use Rattle.sat_model.specs.declared.rules.Rules.{Rules}
use Rattle.sat_rows.specs.Meanings.{Meaning}
use Rattle.epoch_rows.specs.Grown.{IsGrownBlock}
use Rattle.epoch_rows.specs.Renewed.{hand_of, maker_of}

-- by what a source says of satellites, where rows are renewed or aren't, and bounds are asked for in
-- these directions, if in any
module _ (m : Meaning) (renews : Bool) (directions : Option Directions) (rules : Rules) where
  -- made from the block of a search by the maker of its rows
  pub record IsMade (Makes : Maker → Rules → Block → Block → Type 0) (search : Search)
      (block : Block) : Type 0 where
    pub given : Block
    pub grown : IsGrownBlock m rules.outliers search given
    pub made : Makes (maker_of m renews (Some (hand_of search given))) rules given block

  -- it paves that block's root
  abbrev pub IsSolved : Search → Block → Type 0
  IsSolved = IsMade (Paves directions)

  -- it begins to pave it
  abbrev pub IsSolvedFirst : Search → Block → Type 0
  IsSolvedFirst = IsMade Begins

  -- one for each search, in order
  abbrev pub AreSolved : List Search → List Block → Type 0
  AreSolved [] [] = Unit {0}
  AreSolved [] (block ∷ blocks) = ⊥
  AreSolved (search ∷ searches) [] = ⊥
  AreSolved (search ∷ searches) (block ∷ blocks) =
      IsSolved search block × AreSolved searches blocks
