use Rattle.std.proofs.Common.{arith, rules, FitsSigned}
use Rattle.std.specs.Prelude.{◌-ℤ◌, ◌≡◌, ◌<ℤ◌, ℤ, pos, true}
use lib.Signed.{le_z}
use Rattle.std.specs.Int.{w128}
use Rattle.std.proofs.lemmas.Int.{ints, to_z-of_z}
use Rattle.grid_model.specs.Boxes.{grid_box}
use Rattle.row_pairs.specs.FormValues.{form_value}
use Rattle.row_pairs.proofs.LeastLemmas.{below_from, below_to, below_at_middle, lt_from, lt_to}
use Rattle.row_pairs.proofs.conflicts.is_below.Goals as goal

not_less : (n : ℤ) → le_z (pos 0) n ≡ true → n <ℤ pos 0 → ⊥
not_less n t h = grind (arith, ints)

pub returns-then-end-ge0 : goal.returns-then-end-ge0
returns-then-end-ge0 c =
    let part = grid_box c.args.part.now in
    let f = form_value c.args.f.now in
    let g = form_value c.args.g.now in
    let u = c.args.f.now.upper_within in
    let l = c.args.g.now.lower_within in
    let i : FitsSigned w128 c.args.f.now.upper = omega (arith, ints, u.low, u.high) in
    let j : FitsSigned w128 c.args.g.now.lower = omega (arith, ints, l.low, l.high) in
    let k : FitsSigned w128 (c.args.f.now.upper -ℤ c.args.g.now.lower) = omega (arith, ints, u.low, u.high, l.low, l.high) in
    let t = simp to_z-of_z at c.if-end-ge0.true in (
      λ s. absurd cc,
      λ h. absurd (not_less _ t (below_at_middle part f g c.args.part.now.x_ordered c.args.part.now.y_ordered c.args.part.now.z_ordered h)),
    )

pub returns : goal.returns
returns c =
    let part = grid_box c.args.part.now in
    let f = form_value c.args.f.now in
    let g = form_value c.args.g.now in
    let u = c.args.f.now.upper_within in
    let l = c.args.g.now.lower_within in
    let i : FitsSigned w128 c.args.f.now.upper = omega (arith, ints, u.low, u.high) in
    let j : FitsSigned w128 c.args.g.now.lower = omega (arith, ints, l.low, l.high) in
    let k : FitsSigned w128 (c.args.f.now.upper -ℤ c.args.g.now.lower) = omega (arith, ints, u.low, u.high, l.low, l.high) in
    let m : FitsSigned w128 c.least_lead.result = search rules in
    simp to_z-of_z (
      λ t. below_from part f g c.least_lead.result c.least_lead.ensures.least (lt_from _ _ t),
      λ h. lt_to _ _ (below_to part f g c.least_lead.result c.least_lead.ensures.least h),
    )
