-- Trajectories of a moving receiver, and the boxes in which it is found.
use Rattle.std.specs.Prelude.{◌≡◌, ℕ, ℤ, Bool, true, List, [], ◌∷◌, Option, None, Some}
use Rattle.grid_model.specs.Boxes.{GridBox, box_holds}
use Rattle.sat_model.specs.Cover.{SomeKeeps}
use Rattle.sat_model.specs.Events.{steps_in}
use Rattle.sat_model.specs.Fold.{pieces}
use Rattle.sat_model.specs.Logs.{Body, Block}
use Rattle.grid_model.specs.declared.boxes.Pos.{Pos}
use Rattle.moving_tube.specs.Hulls.{HullHolds}
use Rattle.moving_tube.specs.Reach.{reach_of, IsWithinReach}
use Rattle.moving_tube.specs.Roots.{Before, handed_on, kept_of, root_for}

-- ---- a trajectory

-- where a receiver is in an epoch, and its clock offset
pub record Stay : Type 0 where
  pub at : Pos
  pub offset : ℤ

-- where it was in the epoch before, and when
pub record Left : Type 0 where
  pub tag : ℤ
  pub at : Pos

abbrev pub IsReached : ℕ → Option Left → ℤ → Pos → Type 0
IsReached speed None tag p = Unit {0}
IsReached speed (Some left) tag p = IsWithinReach (reach_of speed left.tag tag) left.at p

-- the receiver was in what an epoch before kept, at its time; it comes from anywhere where nothing
-- was handed on
abbrev pub ComesFrom : Option Before → Option Left → Type 0
ComesFrom None left = Unit {0}
ComesFrom (Some before) None = ⊥
ComesFrom (Some before) (Some left) = (before.tag ≡ left.tag) × HullHolds before.kept left.at

-- From there on one stay in the search box for each of the first of these times, as many as there
-- are stays, each within reach of the one before.
abbrev pub GoesOn : ℕ → GridBox → Option Left → List ℤ → List Stay → Type 0
GoesOn speed search left [] [] = Unit {0}
GoesOn speed search left [] (stay ∷ path) = ⊥
GoesOn speed search left (tag ∷ tags) [] = Unit {0}
GoesOn speed search left (tag ∷ tags) (stay ∷ path) =
    (box_holds search stay.at ≡ true) × IsReached speed left tag stay.at
    × GoesOn speed search (Some (record { tag = tag; at = stay.at })) tags path

-- ---- the epochs of a track

-- the time of an epoch, the box in which it was searched, and what was written of it
pub record Visit : Type 0 where
  pub tag : ℤ
  pub root : GridBox
  pub block : Block

abbrev pub behind : (restart : Bool) → Visit → Option Before
behind restart v = handed_on restart v.tag (kept_of v.root v.block)

-- each is searched in the root that the one before leaves
abbrev pub AreRooted : ℕ → (restart : Bool) → GridBox → Option Before → List Visit → Type 0
AreRooted speed restart search before [] = Unit {0}
AreRooted speed restart search before (v ∷ more) =
    (root_for speed search before v.tag ≡ Some v.root)
    × AreRooted speed restart search (behind restart v) more

-- a block of few satellites has no root, and each other one that of its epoch
abbrev pub HasRoot : GridBox → Option Body → Type 0
HasRoot root None = Unit {0}
HasRoot root (Some body) = body.root ≡ root

-- who is in its root is kept there, where the epoch is paved
abbrev pub IsKeptWith : GridBox → Option Body → Stay → Type 0
IsKeptWith root None stay = Unit {0}
IsKeptWith root (Some body) stay = box_holds root stay.at ≡ true
    → SomeKeeps stay.at stay.offset (pieces root (steps_in body.events))

-- so it is in each of these epochs of which there is a stay
abbrev pub AreKept : List Visit → List Stay → Type 0
AreKept [] path = Unit {0}
AreKept (v ∷ more) [] = Unit {0}
AreKept (v ∷ more) (stay ∷ path) = IsKeptWith v.root v.block.body stay × AreKept more path

-- ---- where a receiver is found

-- in an in or edge box whose clock span has its offset; in a block of few satellites in the root
abbrev pub IsFoundWith : GridBox → Option Body → Stay → Type 0
IsFoundWith root None stay = box_holds root stay.at ≡ true
IsFoundWith root (Some body) stay =
    SomeKeeps stay.at stay.offset (pieces root (steps_in body.events))

-- in each of these epochs of which there is a stay, and maybe in more
abbrev pub AreFound : List Visit → List Stay → Type 0
AreFound [] path = Unit {0}
AreFound (v ∷ more) [] = Unit {0}
AreFound (v ∷ more) (stay ∷ path) = IsFoundWith v.root v.block.body stay × AreFound more path
