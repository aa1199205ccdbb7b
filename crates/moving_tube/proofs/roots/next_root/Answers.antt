use Rattle.std.proofs.Common.{◌≡◌, ℤ, to_z, of_z, w64, arith, option_map, subst}
use Rattle.std.specs.Prelude.{pos, ◌≤ℤ◌}
use Rattle.std.proofs.lemmas.Int.{ints}
use Rattle.grid_model.specs.Boxes.{GridBox, grid_box}
use Rattle.sat_model.specs.Contractors.{IsMeet}
use Rattle.moving_tube.specs.Reach.{longest_reach}
use Rattle.moving_tube.proofs.RootLemmas.{grown_meet}
use Rattle.moving_tube.proofs.roots.next_root.Goals as goal

same : (x : ℤ) → (pos 0 ≤ℤ x) × (x ≤ℤ pos longest_reach) → to_z w64 (of_z w64 x) ≡ x
same x size = omega (arith, ints, size.0, size.1)

pub returns : goal.returns
returns c =
    let grown = rw (same c.args.reach c.requires) at c.widened.ensures in
    grown_meet c.args.reach (grid_box c.args.cover.now) c.args.search.now (option_map grid_box c.met.result)
    (subst (λ (w : GridBox). IsMeet w (grid_box c.args.search.now) (option_map grid_box c.met.result)) grown c.met.ensures)
