use Rattle.std.proofs.Common.{◌≡◌, sym, subst, arith, rules, to_z, of_z, w64}
use Rattle.std.proofs.lemmas.Int.{ints}
use Rattle.grid_model.specs.Boxes.{GridBox, grid_box}
use Rattle.sat_model.specs.BoxTests.{IsEmpty}
use Rattle.sat_model.specs.Fold.{slab_of_cut}
use Rattle.relaxed_meet.specs.TestValues.{test_value}
use Rattle.box_contraction.proofs.may_cut.may_cut.Goals as goal

pub returns-clause-may : goal.returns-clause-may
returns-clause-may c =
    let e : to_z w64 (of_z w64 c.args.bound) ≡ c.args.bound = omega (arith, ints) in
    let proper = rw e at (c.is_proper_cut.ensures.0 (search rules)) in
    let slab : grid_box c.slab_of.result ≡ slab_of_cut c.args.face c.args.bound (grid_box c.args.part.now) = rw e at c.slab_of.ensures in (
      λ t. (proper, subst (λ (b : GridBox). IsEmpty (test_value c.args.test.now) b) slab (c.is_slab_empty.ensures.empty.0 t)),
      λ may. c.is_slab_empty.ensures.empty.1 (subst (λ (b : GridBox). IsEmpty (test_value c.args.test.now) b) (sym slab) may.1),
    )
