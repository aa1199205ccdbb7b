-- What the next search of a tube is says what its walk makes.
use Rattle.std.proofs.Common.{◌≡◌, Bool, true, false, [], ◌∷◌, refl, sym, ap, subst, ◌∙◌, Option, None, Some, Result, Ok, Err, option_map}
use Rattle.std.specs.Prelude.{ℤ, is_some, IfOk, MatchOption, IfSome}
use Rattle.epoch_selection.specs.Walks.{MakesNone, IsFirst}
use Rattle.grid_model.specs.Boxes.{GridBox, grid_box}
use Rattle.grid_model.specs.SearchBoxes.{IsSearchBox}
use Rattle.grid_model.specs.declared.boxes.Box3.{Box3}
use Rattle.grid_model.specs.declared.memory.NoMemory.{NoMemory}
use Rattle.moving_tube.specs.Endings.{IsInsideOf}
use Rattle.moving_tube.specs.Hulls.{hull_of, HullLies}
use Rattle.moving_tube.specs.Roots.{handed_on, kept_with, kept_of}
use Rattle.moving_tube.proofs.KeptLemmas.{few_kept}
use Rattle.moving_tube.proofs.RootLemmas.{hull_through}
use Rattle.paving_log.specs.CoverBoxes.{cover_of}
use Rattle.rinex_obs.specs.declared.obs.ObsEpoch.{ObsEpoch}
use Rattle.sat_model.specs.Contractors.{LiesIn}
use Rattle.sat_model.specs.Logs.{Body, Block}
use Rattle.subpaving.specs.LiveValues.{box_option}
use Rattle.tube_searches.specs.Tubes.{TubeValue, with_kept, tube_searches, IsInside, IsOver, IsTaken}
use Rattle.tube_searches.proofs.TubeLemmas.{over_searches, taken_searches, taken_last}

pub same_option : (o : Option Box3) → box_option o ≡ option_map grid_box o
same_option None = refl
same_option (Some part) = refl

-- what is handed on lies in the search box where what was kept does
pub handed_inside : (search : GridBox) (restart : Bool) (tag : ℤ) (kept : Option GridBox)
    → HullLies kept search → IsInsideOf search (handed_on restart tag kept)
handed_inside search restart tag (Some kept) lies = lies
handed_inside search true tag None lies = tt
handed_inside search false tag None lies = tt

module _ {X : Type 0} (seen : X → ObsEpoch) (root : X → GridBox) (old new : TubeValue) where
  abbrev Found : Option X → Type 0
  Found found = MatchOption found (IsInside old → IsOver old) (λ x. IsTaken old (seen x) (root x) new)

  pub walk_first : (found : Option X) → Found found
      → MatchOption found (IsInside old → MakesNone (tube_searches old))
      (λ x. IsInside old → IsFirst (tube_searches old) kept_of (λ (tag : ℤ) (kept : Option GridBox). tube_searches (with_kept new tag kept)) (seen x) (root x))
  walk_first None m = λ inside blocks. over_searches old blocks (m inside)
  walk_first (Some x) m = λ inside. record {
    goes_on = λ block blocks. taken_searches old (seen x) (root x) new block blocks inside m;
    few = λ block blocks none. ap (λ (kept : Option GridBox). tube_searches (with_kept new (seen x).tag kept) blocks) (few_kept (root x) block none);
    ends = ([], taken_last old (seen x) (root x) new inside m);
  }

  pub walk_epochs : (found : Option X) → Found found → IfSome found (λ x. old.epochs ≡ seen x ∷ new.epochs)
  walk_epochs None m = tt
  walk_epochs (Some x) m = m.first

  pub walk_root : (found : Option X) → Found found → IfSome found (λ x. LiesIn (root x) new.search)
  walk_root None m = tt
  walk_root (Some x) m = rw m.same_search m.lies

  -- of its root it may keep any part, and nothing
  pub walk_part : (found : Option X) → Found found
      → IfSome found (λ x. (part : GridBox) → LiesIn part (root x) → LiesIn part new.search)
  walk_part None m = tt
  walk_part (Some x) m = λ part lies. hull_through (Some part) (root x) new.search lies (rw m.same_search m.lies)

  pub walk_nothing : (found : Option X) → IfSome found (λ x. Unit {0})
  walk_nothing None = tt
  walk_nothing (Some x) = tt

  pub walk_sized : (found : Option X) → Found found → IfSome found (λ x. IsSearchBox (root x))
  walk_sized None m = tt
  walk_sized (Some x) m = m.box

-- of a block with a body it keeps the hull of its boxes
module _ (root : GridBox) (block : Block) where
  hull_with_body : (theirs : Option Body) → is_some theirs ≡ true
      → hull_of (cover_of theirs) ≡ kept_with root theirs
  hull_with_body None some = absurd cc
  hull_with_body (Some body) some = refl

  pub hull_kept : (r : Result (Option Box3) NoMemory) → is_some block.body ≡ true
      → IfOk r (λ hull. box_option hull ≡ hull_of (cover_of block.body))
      → IfOk r (λ kept. option_map grid_box kept ≡ kept_of root block)
  hull_kept (Ok hull) some h = sym (same_option hull) ∙ h ∙ hull_with_body block.body some
  hull_kept (Err e) some h = tt

-- what is kept lies in the search box where this does
pub keeps_inside : (search : GridBox) (this : Option GridBox) (r : Result (Option Box3) NoMemory)
    → IfOk r (λ kept. option_map grid_box kept ≡ this) → HullLies this search
    → IfOk r (λ kept. HullLies (option_map grid_box kept) search)
keeps_inside search this (Ok kept) is lies = subst (λ (o : Option GridBox). HullLies o search) (sym is) lies
keeps_inside search this (Err e) is lies = tt
