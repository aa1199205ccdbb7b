-- The plain tree of a tree that is one box.
use Rattle.std.proofs.Common.{◌≡◌, rules, Option}
use Rattle.std.specs.Prelude.{ℤ}
use Rattle.range_contractor.specs.declared.tree.Tree.{Within as CodeWithin, the_lemmas}
use Rattle.range_contractor.specs.Views.{tree_value}
use Rattle.grid_model.specs.Boxes.{Side, GridBox, grid_box}
use Rattle.sat_model.specs.Contractors.{IsMeet}
use Rattle.sat_model.specs.Proposals.{IsTied}
use Rattle.sat_model.specs.Trees.{TreeValue, Within}
use Rattle.grid_model.specs.declared.boxes.Box3.{Box3}

pub view_within : {I : Type 0} (A : Type 0) (low high : I → ℤ) (part : Box3)
    → tree_value {I = I} {A = A} low high (CodeWithin part) ≡ Within (grid_box part)
view_within A low high part = search (rules, the_lemmas)

-- an answer that is tied to it is the meet
pub tied_meet : (grain slack : ℤ) (t : TreeValue) (clock : Side) (box part : GridBox) (answer : Option GridBox)
    → t ≡ Within box → IsTied t grain slack clock part answer → IsMeet box part answer
tied_meet grain slack t clock box part answer e tied = rw e at tied
