use Rattle.std.proofs.Common.{◌≡◌, ◌∙◌, ap, ◌*◌, ◌+◌, arith, rules, refl, FitsSigned, w64}
use Rattle.std.specs.Prelude.{ℤ, ◌+ℤ◌, ◌*ℤ◌}
use Rattle.std.specs.Int.{w128}
use Rattle.std.proofs.lemmas.Int.{ints, to_z-of_z}
use mir.Val.{to_z, of_z}
use Rattle.grid_model.specs.Sizes.{IsWithin}
use Rattle.row_pairs.specs.FormValues.{form_value}
use Rattle.sat_model.specs.HalfSpaces.{end_of}
use Rattle.row_sums.proofs.TotalLemmas.{sum_same, more_is, more_within, fits_sum64, fits_sum128}
use Rattle.row_sums.proofs.adding.added.Goals as goal

pub overflow_add-result-2 : goal.overflow_add-result-2
overflow_add-result-2 c = let w = c.args.sum.now.multipliers_within in omega (arith, ints, w.low, w.high, c.requires.room, c.requires.multiplier)

pub overflow_add-result-3 : goal.overflow_add-result-3
overflow_add-result-3 c = let w = c.args.sum.now.x_within in omega (arith, ints, w.low, w.high, c.requires.room, c.times_slope.ensures.bound)

pub overflow_add-result-4 : goal.overflow_add-result-4
overflow_add-result-4 c = let w = c.args.sum.now.y_within in omega (arith, ints, w.low, w.high, c.requires.room, c.times_slope-2.ensures.bound)

pub overflow_add-result-5 : goal.overflow_add-result-5
overflow_add-result-5 c = let w = c.args.sum.now.z_within in omega (arith, ints, w.low, w.high, c.requires.room, c.times_slope-3.ensures.bound)

pub overflow_add-result-6 : goal.overflow_add-result-6
overflow_add-result-6 c = let w = c.args.sum.now.most_within in omega (arith, ints, w.low, w.high, c.requires.room, c.times_bound.ensures.bound)

pub invariant_of-result-clause-count_low : goal.invariant_of-result-clause-count_low
invariant_of-result-clause-count_low c = omega (arith, c.requires.room)

pub invariant_of-result-clause-multipliers_within : goal.invariant_of-result-clause-multipliers_within
invariant_of-result-clause-multipliers_within c =
    let s : FitsSigned w64 c.args.sum.now.multipliers = search rules in
    let p : FitsSigned w64 c.args.multiplier = c.ranges.multiplier in
    let r : FitsSigned w64 (c.args.sum.now.multipliers +ℤ c.args.multiplier) = fits_sum64 c.args.sum.now.count 1048576 _ _ c.requires.room (omega arith) c.args.sum.now.multipliers_within c.requires.multiplier in
    let h : IsWithin ((c.args.sum.now.count + 1) * 1048576) (to_z w64 (of_z w64 (to_z w64 (of_z w64 c.args.sum.now.multipliers) +ℤ to_z w64 (of_z w64 c.args.multiplier)))) = simp to_z-of_z (more_within c.args.sum.now.count 1048576 _ _ c.args.sum.now.multipliers_within c.requires.multiplier) in
    h

pub invariant_of-result-clause-x_within : goal.invariant_of-result-clause-x_within
invariant_of-result-clause-x_within c =
    let s : FitsSigned w64 c.args.sum.now.x = search rules in
    let p : FitsSigned w64 c.times_slope.result = search rules in
    let r : FitsSigned w64 (c.args.sum.now.x +ℤ c.times_slope.result) = fits_sum64 c.args.sum.now.count 4398046511104 _ _ c.requires.room (omega arith) c.args.sum.now.x_within c.times_slope.ensures.bound in
    let h : IsWithin ((c.args.sum.now.count + 1) * 4398046511104) (to_z w64 (of_z w64 (to_z w64 (of_z w64 c.args.sum.now.x) +ℤ to_z w64 (of_z w64 c.times_slope.result)))) = simp to_z-of_z (more_within c.args.sum.now.count 4398046511104 _ _ c.args.sum.now.x_within c.times_slope.ensures.bound) in
    h

pub invariant_of-result-clause-y_within : goal.invariant_of-result-clause-y_within
invariant_of-result-clause-y_within c =
    let s : FitsSigned w64 c.args.sum.now.y = search rules in
    let p : FitsSigned w64 c.times_slope-2.result = search rules in
    let r : FitsSigned w64 (c.args.sum.now.y +ℤ c.times_slope-2.result) = fits_sum64 c.args.sum.now.count 4398046511104 _ _ c.requires.room (omega arith) c.args.sum.now.y_within c.times_slope-2.ensures.bound in
    let h : IsWithin ((c.args.sum.now.count + 1) * 4398046511104) (to_z w64 (of_z w64 (to_z w64 (of_z w64 c.args.sum.now.y) +ℤ to_z w64 (of_z w64 c.times_slope-2.result)))) = simp to_z-of_z (more_within c.args.sum.now.count 4398046511104 _ _ c.args.sum.now.y_within c.times_slope-2.ensures.bound) in
    h

pub invariant_of-result-clause-z_within : goal.invariant_of-result-clause-z_within
invariant_of-result-clause-z_within c =
    let s : FitsSigned w64 c.args.sum.now.z = search rules in
    let p : FitsSigned w64 c.times_slope-3.result = search rules in
    let r : FitsSigned w64 (c.args.sum.now.z +ℤ c.times_slope-3.result) = fits_sum64 c.args.sum.now.count 4398046511104 _ _ c.requires.room (omega arith) c.args.sum.now.z_within c.times_slope-3.ensures.bound in
    let h : IsWithin ((c.args.sum.now.count + 1) * 4398046511104) (to_z w64 (of_z w64 (to_z w64 (of_z w64 c.args.sum.now.z) +ℤ to_z w64 (of_z w64 c.times_slope-3.result)))) = simp to_z-of_z (more_within c.args.sum.now.count 4398046511104 _ _ c.args.sum.now.z_within c.times_slope-3.ensures.bound) in
    h

pub invariant_of-result-clause-most_within : goal.invariant_of-result-clause-most_within
invariant_of-result-clause-most_within c =
    let s : FitsSigned w128 c.args.sum.now.most = search rules in
    let p : FitsSigned w128 c.times_bound.result = search rules in
    let r : FitsSigned w128 (c.args.sum.now.most +ℤ c.times_bound.result) = fits_sum128 c.args.sum.now.count 1048576000000000000000000000000000000 _ _ c.requires.room (omega arith) c.args.sum.now.most_within c.times_bound.ensures.bound in
    let h : IsWithin ((c.args.sum.now.count + 1) * 1048576000000000000000000000000000000) (to_z w128 (of_z w128 (to_z w128 (of_z w128 c.args.sum.now.most) +ℤ to_z w128 (of_z w128 c.times_bound.result)))) = simp to_z-of_z (more_within c.args.sum.now.count 1048576000000000000000000000000000000 _ _ c.args.sum.now.most_within c.times_bound.ensures.bound) in
    h

pub returns-clause-value : goal.returns-clause-value
returns-clause-value c =
    let f = form_value c.args.form.now in
    let t : FitsSigned w64 c.args.multiplier = c.ranges.multiplier in
    let st : FitsSigned w64 c.args.sum.now.multipliers = search rules in
    let sx : FitsSigned w64 c.args.sum.now.x = search rules in
    let sy : FitsSigned w64 c.args.sum.now.y = search rules in
    let sz : FitsSigned w64 c.args.sum.now.z = search rules in
    let sm : FitsSigned w128 c.args.sum.now.most = search rules in
    let fx : FitsSigned w64 c.args.form.now.x = search rules in
    let fy : FitsSigned w64 c.args.form.now.y = search rules in
    let fz : FitsSigned w64 c.args.form.now.z = search rules in
    let px : FitsSigned w64 c.times_slope.result = search rules in
    let py : FitsSigned w64 c.times_slope-2.result = search rules in
    let pz : FitsSigned w64 c.times_slope-3.result = search rules in
    let pe : FitsSigned w128 c.end_of.result = search rules in
    let pm : FitsSigned w128 c.times_bound.result = search rules in
    let rt : FitsSigned w64 (c.args.sum.now.multipliers +ℤ c.args.multiplier) = fits_sum64 c.args.sum.now.count 1048576 _ _ c.requires.room (omega arith) c.args.sum.now.multipliers_within c.requires.multiplier in
    let rx : FitsSigned w64 (c.args.sum.now.x +ℤ c.times_slope.result) = fits_sum64 c.args.sum.now.count 4398046511104 _ _ c.requires.room (omega arith) c.args.sum.now.x_within c.times_slope.ensures.bound in
    let ry : FitsSigned w64 (c.args.sum.now.y +ℤ c.times_slope-2.result) = fits_sum64 c.args.sum.now.count 4398046511104 _ _ c.requires.room (omega arith) c.args.sum.now.y_within c.times_slope-2.ensures.bound in
    let rz : FitsSigned w64 (c.args.sum.now.z +ℤ c.times_slope-3.result) = fits_sum64 c.args.sum.now.count 4398046511104 _ _ c.requires.room (omega arith) c.args.sum.now.z_within c.times_slope-3.ensures.bound in
    let rm : FitsSigned w128 (c.args.sum.now.most +ℤ c.times_bound.result) = fits_sum128 c.args.sum.now.count 1048576000000000000000000000000000000 _ _ c.requires.room (omega arith) c.args.sum.now.most_within c.times_bound.ensures.bound in
    let ex : c.times_slope.result ≡ c.args.multiplier *ℤ f.x = simp to_z-of_z at c.times_slope.ensures.value in
    let ey : c.times_slope-2.result ≡ c.args.multiplier *ℤ f.y = simp to_z-of_z at c.times_slope-2.ensures.value in
    let ez : c.times_slope-3.result ≡ c.args.multiplier *ℤ f.z = simp to_z-of_z at c.times_slope-3.ensures.value in
    let ee : c.end_of.result ≡ end_of c.args.multiplier f = simp to_z-of_z at c.end_of.ensures.value in
    let ea : c.times_bound.result ≡ c.args.multiplier *ℤ c.end_of.result = simp to_z-of_z at c.times_bound.ensures.value in
    let em : c.times_bound.result ≡ c.args.multiplier *ℤ end_of c.args.multiplier f = ea ∙ ap (λ (z : ℤ). c.args.multiplier *ℤ z) ee in
    simp to_z-of_z (sum_same _ _ _ _ _ _ _ _ _ _ refl (more_is c.args.sum.now.x _ _ ex) (more_is c.args.sum.now.y _ _ ey) (more_is c.args.sum.now.z _ _ ez) (more_is c.args.sum.now.most _ _ em))
