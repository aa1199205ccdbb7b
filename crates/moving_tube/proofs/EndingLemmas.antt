-- What a log leaves, and what is left of a receiver that it keeps.
use Rattle.std.proofs.Common.{◌≡◌, ◌∙◌, zero, suc, Bool, true, List, [], ◌∷◌, sym, ap, subst, Option, None, Some}
use Rattle.std.specs.Prelude.{ℤ, ◌↔◌, IfSome, IsTrue}
use Rattle.std.specs.List.{AllByRecursion}
use Rattle.grid_model.specs.Boxes.{GridBox, IsInside, grid_box}
use Rattle.grid_model.specs.declared.boxes.Box3.{Box3}
use Rattle.paving_log.specs.CoverBoxes.{cover_of}
use Rattle.sat_model.specs.Contractors.{LiesIn}
use Rattle.sat_model.specs.Cover.{SomeKeeps}
use Rattle.sat_model.specs.Events.{steps_in}
use Rattle.sat_model.specs.Fold.{pieces}
use Rattle.sat_model.specs.Logs.{Block, Body, LogValue}
use Rattle.subpaving.specs.LiveValues.{box_option}
use Rattle.moving_tube.specs.Endings.{IsInsideOf, before_value, ending_of, last_paved, left_by, paved_behind, paved_or}
use Rattle.moving_tube.specs.Hulls.{HullHolds, HullLies, hull_of}
use Rattle.moving_tube.specs.declared.kept.Kept.{Kept}
use Rattle.moving_tube.specs.Roots.{handed_on}
use Rattle.moving_tube.specs.Tracks.{ComesFrom, Left}
use Rattle.moving_tube.proofs.HullLemmas.{kept_held}

-- ---- the last paved block

-- what holds of all blocks holds of it
module _ (P : Block → Type 0) where
  or_holds : (before : Option Block) (block : Block) (body : Option Body) → IfSome before P → P block
      → IfSome (paved_or before block body) P
  or_holds before block None h p = h
  or_holds before block (Some body) h p = p

  behind_holds : (before : Option Block) (blocks : List Block) → IfSome before P
      → AllByRecursion P blocks → IfSome (paved_behind before blocks) P
  behind_holds before [] h all = h
  behind_holds before (block ∷ more) h all =
      behind_holds (paved_or before block block.body) more (or_holds before block block.body h all.0) all.1

  pub last_holds : (blocks : List Block) (block : Block) → last_paved blocks ≡ Some block
      → AllByRecursion P blocks → P block
  last_holds blocks block is all =
      subst (λ (o : Option Block). IfSome o P) is (behind_holds None blocks tt all)

-- ---- what it leaves of a receiver

handed_holds : (ps : ℤ) (kept : Option GridBox) (left : Left) → HullHolds kept left.at
    → left.tag ≡ ps → ComesFrom (handed_on true ps kept) (Some left)
handed_holds ps None left held at = absurd held
handed_holds ps (Some kept) left held at = (sym at, held)

pub kept_left : (log : LogValue) (block : Block) (body : Body) (left : Left) (offset : ℤ)
    → last_paved log.blocks ≡ Some block → block.body ≡ Some body → left.tag ≡ block.ps
    → SomeKeeps left.at offset (pieces body.root (steps_in body.events))
    → ComesFrom (ending_of log.blocks) (Some left)
kept_left log block body left offset last paved at keeps =
    let held = kept_held None (pieces body.root (steps_in body.events)) left.at offset keeps in
    let there = subst (λ (o : Option Body). HullHolds (hull_of (cover_of o)) left.at) (sym paved) held in
    subst (λ (o : Option Block). ComesFrom (left_by o) (Some left)) (sym last)
    (handed_holds block.ps (hull_of (cover_of block.body)) left there at)

-- ---- a box in a box

pub inside_lies : (part : Box3) (whole : GridBox) → IsInside (grid_box part) whole
    → LiesIn (grid_box part) whole
inside_lies part whole is zero = record { low = is.0.0; ordered = part.x_ordered; high = is.0.1 }
inside_lies part whole is (suc zero) = record { low = is.1.0; ordered = part.y_ordered; high = is.1.1 }
inside_lies part whole is (suc (suc n)) = record { low = is.2.0; ordered = part.z_ordered; high = is.2.1 }

pub lies_inside : (part whole : GridBox) → LiesIn part whole → IsInside part whole
lies_inside part whole lies =
    (((lies 0).low, (lies 0).high), ((lies 1).low, (lies 1).high), ((lies 2).low, (lies 2).high))

part_inside : (search : Box3) (o : Option Box3) (part : Box3) (answer : Bool) → o ≡ Some part
    → (IsTrue answer ↔ IsInside (grid_box part) (grid_box search))
    → (IsTrue answer ↔ HullLies (box_option o) (grid_box search))
part_inside search None part answer is tests = cc
part_inside search (Some p) part answer is tests =
    let same : part ≡ p = cc in
    subst (λ (b : Box3). IsTrue answer ↔ LiesIn (grid_box b) (grid_box search)) same (
      λ yes. inside_lies part (grid_box search) (tests.0 yes),
      λ lies. tests.1 (lies_inside (grid_box part) (grid_box search) lies),
    )

pub left_inside : (search : Box3) (left : Option Kept) (kept : Kept) (part : Box3) (answer : Bool)
    → left ≡ Some kept → kept.part ≡ Some part
    → (IsTrue answer ↔ IsInside (grid_box part) (grid_box search))
    → (IsTrue answer ↔ IsInsideOf (grid_box search) (before_value left))
left_inside search None kept part answer is has tests = cc
left_inside search (Some k) kept part answer is has tests =
    let same : k ≡ kept = cc in
    part_inside search k.part part answer (ap (λ (x : Kept). x.part) same ∙ has) tests
