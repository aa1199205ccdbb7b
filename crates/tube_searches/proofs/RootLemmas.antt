-- The root of the next epoch.
use Rattle.std.proofs.Common.{◌≡◌, ℕ, arith, Option, None, Some}
use Rattle.std.specs.Prelude.{ℤ}
use Rattle.std.proofs.lemmas.Int.{ints}
use Rattle.subpaving.specs.LiveValues.{box_option}
use Rattle.log_tokens.specs.Fields.{IsTime}
use Rattle.moving_tube.specs.Hulls.{HullLies}
use Rattle.moving_tube.specs.Reach.{reach_of}
use Rattle.moving_tube.specs.Roots.{reached_box, root_after, root_for}
use Rattle.rinex_obs.specs.declared.obs.ObsEpoch.{ObsEpoch}
use Rattle.grid_model.specs.Boxes.{GridBox, grid_box}
use Rattle.sat_model.specs.Contractors.{LiesIn}
use Rattle.grid_model.specs.declared.boxes.Box3.{Box3}
use Rattle.moving_tube.specs.Endings.{before_value, IsInsideOf}
use Rattle.moving_tube.specs.declared.kept.Kept.{Kept}

pub epoch_time : (e : ObsEpoch) → IsTime e.tag
epoch_time e = (e.tag_from, omega (arith, ints, e.tag_under))

module _ (speed : ℕ) (search : GridBox) (tag : ℤ) (part : Box3) (answer : Option Box3) where
  abbrev Answers : ℤ → Type 0
  Answers from = LiesIn (grid_box part) search → box_option answer ≡ Some (reached_box (reach_of speed from tag) (grid_box part) search)

  part_root : (from : ℤ) (kept : Option Box3) → kept ≡ Some part → Answers from
      → HullLies (box_option kept) search
      → box_option answer ≡ root_after speed search from (box_option kept) tag
  part_root from None is root lies = absurd cc
  part_root from (Some k) is root lies =
      let same : k ≡ part = cc in
      rw same (root (rw same at lies))

  pub before_root : (o : Option Kept) (before : Kept) → o ≡ Some before → before.part ≡ Some part
      → Answers before.tag → IsInsideOf search (before_value o)
      → box_option answer ≡ root_for speed search (before_value o) tag
  before_root None before is was root inside = absurd cc
  before_root (Some b) before is was root inside =
      let same : before ≡ b = cc in
      part_root b.tag b.part (rw same at was) (rw same at root) inside
