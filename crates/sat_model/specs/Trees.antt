-- Trees of contractors (Chabert and Jaulin, 'Contractor programming', 2009) over satellites, as
-- plain values: which points of space, with which clock offsets, a tree allows.
use Rattle.std.specs.Prelude.{◌≡◌, ℕ, zero, suc, ◌+◌, ◌<◌, ◌≤◌, ◌⊎◌, ℤ, pos, ◌-ℤ◌, List, [], ◌∷◌}
use Rattle.std.specs.Prelude.{true, max}
use Rattle.grid_model.specs.declared.boxes.Pos.{Pos}
use Rattle.grid_model.specs.Boxes.{Side, GridBox, IsIn, box_holds}
use Rattle.grid_model.specs.Ranges.{range_to}
use Rattle.grid_model.specs.Sizes.{IsWithin, IsPlaceSize, IsErrorSize}

-- what one satellite says: spans of its place, of its corrected pseudorange and of the error, in um
pub record LeafValue : Type 0 where
  pub x : Side
  pub y : Side
  pub z : Side
  pub range : Side
  pub err : Side

-- what one satellite allows, what all kids do, what all kids but at most q do, what a kid does that
-- runs so many times, and the points of a box
mutual
  pub data TreeValue : Type 0 where
    Sat : LeafValue → TreeValue
    All : TreeList → TreeValue
    Relaxed : ℕ → TreeList → TreeValue
    Again : ℕ → TreeValue → TreeValue
    Within : GridBox → TreeValue

  pub data TreeList : Type 0 where
    no_trees : TreeList
    tree : TreeValue → TreeList → TreeList

abbrev pub trees_of : List TreeValue → TreeList
trees_of [] = no_trees
trees_of (t ∷ more) = tree t (trees_of more)

abbrev pub count_trees : TreeList → ℕ
count_trees no_trees = zero
count_trees (tree t more) = suc (count_trees more)

-- ---- what a tree allows

-- some place and some pseudorange of the spans leave an allowed error at point p and offset b
pub record LeafAllows (leaf : LeafValue) (p : Pos) (b : ℤ) : Type 0 where
  pub x : ℤ
  pub y : ℤ
  pub z : ℤ
  pub measured : ℤ
  pub x_in : IsIn leaf.x x
  pub y_in : IsIn leaf.y y
  pub z_in : IsIn leaf.z z
  pub measured_in : IsIn leaf.range measured
  pub allowed : IsIn leaf.err (measured -ℤ pos (range_to x y z p) -ℤ b)

-- `AllButAllow kids q`: all of the kids but at most q do
abbrev mutual
  pub Allows : TreeValue → Pos → ℤ → Type 0
  Allows (Sat leaf) p b = LeafAllows leaf p b
  Allows (All kids) p b = AllButAllow kids zero p b
  Allows (Relaxed q kids) p b = AllButAllow kids q p b
  Allows (Again rounds kid) p b = Allows kid p b
  Allows (Within box) p b = box_holds box p ≡ true

  pub AllButAllow : TreeList → ℕ → Pos → ℤ → Type 0
  AllButAllow no_trees q p b = Unit {0}
  AllButAllow (tree t more) zero p b = Allows t p b × AllButAllow more zero p b
  AllButAllow (tree t more) (suc q) p b =
      (Allows t p b × AllButAllow more (suc q) p b) ⊎ AllButAllow more q p b

-- ---- well formed

-- rounding a row's place outward leaves it within these sizes
pub record IsLeafSized (leaf : LeafValue) : Type 0 where
  pub x : IsWithin 70000000000000 leaf.x.lo × IsWithin 70000000000000 leaf.x.hi
  pub y : IsWithin 70000000000000 leaf.y.lo × IsWithin 70000000000000 leaf.y.hi
  pub z : IsWithin 70000000000000 leaf.z.lo × IsWithin 70000000000000 leaf.z.hi
  pub range : IsPlaceSize leaf.range.lo × IsPlaceSize leaf.range.hi
  pub err : IsErrorSize leaf.err.lo × IsErrorSize leaf.err.hi

-- 1 to 64 kids, q below their number, 1 to 8 rounds, and leaves of their sizes
abbrev mutual
  pub HasSoundNodes : TreeValue → Type 0
  HasSoundNodes (Sat leaf) = IsLeafSized leaf
  HasSoundNodes (All kids) = (1 ≤ count_trees kids) × (count_trees kids ≤ 64) × HaveSoundNodes kids
  HasSoundNodes (Relaxed q kids) =
      (q < count_trees kids) × (count_trees kids ≤ 64) × HaveSoundNodes kids
  HasSoundNodes (Again rounds kid) = (1 ≤ rounds) × (rounds ≤ 8) × HasSoundNodes kid
  HasSoundNodes (Within box) = Unit {0}

  pub HaveSoundNodes : TreeList → Type 0
  HaveSoundNodes no_trees = Unit {0}
  HaveSoundNodes (tree t more) = HasSoundNodes t × HaveSoundNodes more

-- how many trees stand above one another
abbrev mutual
  pub depth_of : TreeValue → ℕ
  depth_of (Sat leaf) = 1
  depth_of (All kids) = depth_of_all kids + 1
  depth_of (Relaxed q kids) = depth_of_all kids + 1
  depth_of (Again rounds kid) = depth_of kid + 1
  depth_of (Within box) = 1

  pub depth_of_all : TreeList → ℕ
  depth_of_all no_trees = 0
  depth_of_all (tree t more) = max (depth_of t) (depth_of_all more)

pub record IsWellFormed (t : TreeValue) : Type 0 where
  pub depth : depth_of t ≤ 8
  pub nodes : HasSoundNodes t
