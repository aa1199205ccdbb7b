-- What an epoch keeps by its block.
use Rattle.std.proofs.Common.{◌≡◌, refl, sym, ap, subst, Option, None, Some}
use Rattle.grid_model.specs.Boxes.{GridBox}
use Rattle.moving_tube.specs.Hulls.{hull_of, HullLies}
use Rattle.moving_tube.specs.Roots.{kept_with, kept_of}
use Rattle.moving_tube.proofs.FoldLemmas.{steps_hull_lies}
use Rattle.moving_tube.proofs.RootLemmas.{hull_through}
use Rattle.paving_log.specs.CoverBoxes.{BodyFolds, cover_of}
use Rattle.range_contractor.proofs.TreeLemmas.{lies_itself}
use Rattle.sat_model.specs.Contractors.{LiesIn}
use Rattle.sat_model.specs.Events.{steps_in}
use Rattle.sat_model.specs.Logs.{Body, Block}

-- of a block of few satellites all of the root
pub few_kept : (root : GridBox) (block : Block) → block.body ≡ None → kept_of root block ≡ Some root
few_kept root block none = ap (kept_with root) none

module _ (root search : GridBox) (lies : LiesIn root search) where
  body_lies : (body : Body) → body.root ≡ root → BodyFolds (Some body)
      → HullLies (hull_of (cover_of (Some body))) root
  body_lies body same folds =
      subst (HullLies (hull_of (cover_of (Some body)))) same
      (steps_hull_lies body.root (steps_in body.events) (subst (λ (r : GridBox). LiesIn r r) (sym same) (lies_itself root search lies)) folds)

  kept_with_lies : (theirs : Option Body) → BodyFolds theirs
      → ((body : Body) → theirs ≡ Some body → body.root ≡ root)
      → HullLies (kept_with root theirs) search
  kept_with_lies None folds has = lies
  kept_with_lies (Some body) folds has = hull_through (hull_of (cover_of (Some body))) root search (body_lies body (has body refl) folds) lies

  -- where the root lies in the search box, so does what is kept of a block that is paved over it
  pub kept_lies : (block : Block) → BodyFolds block.body
      → ((body : Body) → block.body ≡ Some body → body.root ≡ root)
      → HullLies (kept_of root block) search
  kept_lies block folds has = kept_with_lies block.body folds has
