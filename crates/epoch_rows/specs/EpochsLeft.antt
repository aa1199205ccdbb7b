-- The epochs of a file as a source of blocks, each of which is formed when the one before is
-- finished, over the box in which a walk searches it then.
use Rattle.std.specs.Prelude.{◌≡◌, ℕ, ℤ, Bool, true, false, List, [], ◌∷◌, Option, None, Some}
use Rattle.bound_directions.specs.declared.directions.Directions.{Directions}
use Rattle.epoch_selection.specs.Searches.{Search, search_in}
use Rattle.epoch_selection.specs.Walks.{MakesNone}
use Rattle.log_writer.specs.Kept.{hull_kept}
use Rattle.log_writer.specs.Sources.{Gives, Source}
use Rattle.moving_tube.specs.Hulls.{HullLies}
use Rattle.rinex_obs.specs.declared.obs.ObsEpoch.{ObsEpoch}
use Rattle.grid_model.specs.Boxes.{GridBox, grid_box}
use Rattle.grid_model.specs.SearchBoxes.{IsSearchBox}
use Rattle.grid_model.specs.declared.boxes.Box3.{Box3}
use Rattle.sat_model.specs.Logs.{Block, is_few}
use Rattle.sat_rows.specs.Meanings.{Meaning}
use Rattle.epoch_rows.specs.Grown.{IsGrownBlock}
use Rattle.epoch_rows.specs.Renewed.{Hand, hand_of, maker_of}
use Rattle.epoch_rows.specs.declared.given.Given.{Given}

-- the block that was given last
pub record Last : Type 0 where
  pub index : ℕ
  pub root : GridBox
  pub few : Bool

-- The epochs that are left; the searches that are made of them, by the hull of the in and edge
-- boxes of the last block and the blocks that are written of them; that last block, what its rows
-- are renewed by, and the number of the last epoch, where it kept no box.
pub record EpochsLeft : Type 0 where
  pub epochs : List ObsEpoch
  pub searches : Option GridBox → List Block → List Search
  pub last : Option Last
  pub hand : Option Hand
  pub lost : Option ℕ

-- before the first block
abbrev pub left_in : List ObsEpoch → (List Block → List Search) → EpochsLeft
left_in epochs searches = record {
  epochs = epochs;
  searches = λ hull. searches;
  last = None;
  hand = None;
  lost = None;
}

abbrev pub with_hand : Option Hand → EpochsLeft → EpochsLeft
with_hand hand left = record left { hand = hand }

-- ---- what is told of the last block

-- where the receiver was in it, by the hull of its in and edge boxes
abbrev pub kept_told : Bool → GridBox → Option GridBox → Option GridBox
kept_told true root hull = Some root
kept_told false root hull = hull

-- which is a part of its root
abbrev pub IsKept : Option Last → Option GridBox → Type 0
IsKept None hull = Unit {0}
IsKept (Some l) hull = HullLies (kept_told l.few l.root hull) l.root

-- its number, where it has a root and no in or edge box
abbrev pub lost_with : ℕ → Bool → Option GridBox → Option ℕ
lost_with index true hull = None
lost_with index false None = Some index
lost_with index false (Some hull) = None

abbrev pub lost_of : Option Last → Option GridBox → Option ℕ
lost_of None hull = None
lost_of (Some l) hull = lost_with l.index l.few hull

-- ---- by what the code keeps of it

abbrev pub given_value : Option Given → Option Last
given_value None = None
given_value (Some g) =
    Some (record { index = g.epoch.now.index; root = grid_box g.root; few = g.few })

abbrev pub index_of : Option Given → Option ℕ
index_of None = None
index_of (Some g) = Some g.epoch.now.index

-- those of a walk, and those that it makes behind the last block
abbrev pub searches_behind : (List Block → List Search)
    → (ℤ → Option GridBox → List Block → List Search) → Option Given → Option GridBox
    → List Block → List Search
searches_behind searches behind None hull blocks = searches blocks
searches_behind searches behind (Some g) hull blocks =
    behind g.epoch.now.tag (kept_told g.few (grid_box g.root) hull) blocks

-- without what rows are renewed by
abbrev pub left_of : List ObsEpoch → (List Block → List Search)
    → (ℤ → Option GridBox → List Block → List Search) → Option Given → Option ℕ → EpochsLeft
left_of epochs searches behind given lost = record {
  epochs = epochs;
  searches = λ hull blocks. searches_behind searches behind given hull blocks;
  last = given_value given;
  hand = None;
  lost = lost;
}

-- ---- the source

-- This search comes first. Behind its block, which has few satellites or hasn't, come those that
-- its hull leaves; without a block there may be more.
pub record ComesFirst (searches : List Block → List Search) (search : Search) (few : Bool)
    (left : Option GridBox → List Block → List Search) : Type 0 where
  pub goes_on : (block : Block) (blocks : List Block) → is_few block ≡ few
      → searches (block ∷ blocks) ≡ search ∷ left (hull_kept block.body) blocks
  pub ends : (more : List Search) × (searches [] ≡ search ∷ more)

-- no block is given: no search is left
pub record IsEnded (old : EpochsLeft) (hull : Option GridBox) (new : EpochsLeft) : Type 0 where
  pub over : IsKept old.last hull → MakesNone (old.searches hull)
  pub lost : new.lost ≡ lost_of old.last hull

-- by what a source says of satellites, where so many of them may be inconsistent
module _ (m : Meaning) (q : ℕ) where
  -- The first epoch is taken, and the block is that of its rows over this root, in which it is
  -- searched where the hull of the block before lies in its root.
  pub record GivesNext (old : EpochsLeft) (hull : Option GridBox) (block : Block)
      (new : EpochsLeft) : Type 0 where
    pub epoch : ObsEpoch
    pub root : Box3
    pub first : old.epochs ≡ epoch ∷ new.epochs
    pub box : IsSearchBox (grid_box root)
    pub is_first : IsKept old.last hull → ComesFirst (old.searches hull)
        (search_in (grid_box root) epoch) (is_few block) new.searches
    pub grown : IsGrownBlock m q (search_in (grid_box root) epoch) block
    pub last : new.last ≡ Some (record {
      index = epoch.index;
      root = grid_box root;
      few = is_few block;
    })
    pub hand : new.hand ≡ Some (hand_of (search_in (grid_box root) epoch) block)

  -- the next block, where a search is left
  abbrev pub of_epochs : Gives EpochsLeft
  of_epochs old hull None new = IsEnded old hull new
  of_epochs old hull (Some block) new = GivesNext old hull block new

  -- its rows are renewed, or aren't, and bounds are asked for in these directions, if in any
  abbrev pub source_of : Bool → Option Directions → Source EpochsLeft
  source_of renews directions = record {
    gives = of_epochs;
    maker = λ (left : EpochsLeft). maker_of m renews left.hand;
    directions = directions;
  }
