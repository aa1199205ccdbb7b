-- Who forms the rows of a block anew.
use Rattle.std.specs.Prelude.{◌≡◌, ℕ, Bool, true, Option, None, Some}
use Rattle.grid_model.specs.Boxes.{GridBox, grid_box}
use Rattle.sat_model.specs.Logs.{Block}
use Rattle.sat_rows.specs.Meanings.{Meaning}
use Rattle.epoch_rows.specs.EpochsLeft.{EpochsLeft, with_hand, IsEnded, GivesNext}
use Rattle.epoch_rows.specs.Renewed.{Hand, AreBasesIn}
use Rattle.epoch_rows.specs.declared.maker.RowMaker.{RowMaker}

-- it has the root of the block in hand, and a base for each of its rows
pub record IsMakerFor (m : Meaning) (hand : Hand) (maker : RowMaker) : Type 0 where
  pub root : grid_box maker.root ≡ hand.search.root
  pub delays : maker.delays ≡ m.delays
  pub bases : AreBasesIn m hand maker.bases.items

-- ---- the blocks of a file's epochs

-- by what a source says of satellites, where so many of them may be inconsistent, and where rows
-- are renewed or aren't
module _ (m : Meaning) (q : ℕ) (renews : Bool) where
  -- the next block, with the maker of its rows
  pub record GivesBlock (old : EpochsLeft) (hull : Option GridBox) (block : Block)
      (new : EpochsLeft) (maker : RowMaker) : Type 0 where
    pub hand : Hand
    pub next : GivesNext m q old hull block (with_hand (Some hand) new)
    pub is_maker : renews ≡ true → IsMakerFor m hand maker

  -- where there is one
  abbrev pub GivesAny : EpochsLeft → Option GridBox → Option Block → EpochsLeft → RowMaker → Type 0
  GivesAny old hull None new maker = IsEnded old hull new
  GivesAny old hull (Some block) new maker = GivesBlock old hull block new maker
