use Rattle.std.proofs.Common.{◌≡◌, map, [], ◌∷◌, inl, inr, refl, sym, arith, to_z, of_z, w64}
use Rattle.std.proofs.lemmas.Int.{ints}
use Rattle.std.proofs.lemmas.List.{append-nil, map-append}
use Rattle.grid_model.specs.Boxes.{grid_box}
use Rattle.sat_model.specs.Fold.{slab_of_cut, left_by_cut}
use Rattle.relaxed_meet.specs.TestValues.{test_value}
use Rattle.box_contraction.specs.Cuts.{MayCut, cut_shown}
use Rattle.box_contraction.specs.Targets.{bounds_of}
use Rattle.box_contraction.specs.Adding.{step_value}
use Rattle.box_contraction.proofs.faces.cut_face.Goals as goal

pub returns-then-not-may_cut-clause-cut : goal.returns-then-not-may_cut-clause-cut
returns-then-not-may_cut-clause-cut c =
    let e : to_z w64 (of_z w64 c.bound-bound.result) ≡ c.bound-bound.result = omega (arith, ints) in
    let may = rw (e, c.bound-bound.ensures) at c.may_cut.ensures.may.1 in record {
      cuts = [];
      are = inr ((λ m. let t = may m in let f = c.if-not-may_cut.true in absurd cc), refl, refl);
      added = sym (append-nil (map step_value c.args.steps.now.items));
    }

pub returns-clause-cut : goal.returns-clause-cut
returns-clause-cut c =
    let test = test_value c.args.test.now in
    let part = grid_box c.args.part.now in
    let bound = bounds_of c.args.target.now c.args.face part in
    let e : to_z w64 (of_z w64 c.bound-bound.result) ≡ bound = omega (arith, ints, c.bound-bound.ensures) in
    let may : MayCut test c.args.face bound part = rw e at (c.may_cut.ensures.may.0 (c.if-not-may_cut.false)) in
    let slab : grid_box c.slab_of-slab.result ≡ slab_of_cut c.args.face bound part = rw e at c.slab_of-slab.ensures in
    let left : grid_box c.left_by.result ≡ left_by_cut c.args.face bound part = rw e at c.left_by.ensures in
    record {
      cuts = cut_shown c.args.id c.args.face bound part ∷ [];
      are = inl (may, refl, left);
      added = simp (c.push.ensures.items, map-append, e, slab) refl;
    }
