use Rattle.std.proofs.Common.{◌≡◌, arith, rules, refl, sym, subst, FitsSigned, w64}
use Rattle.std.specs.Prelude.{ℤ, pos, ◌+ℤ◌, ◌-ℤ◌}
use Rattle.std.specs.Int.{w128}
use Rattle.std.proofs.lemmas.Int.{ints, to_z-of_z}
use Rattle.grid_model.specs.Boxes.{grid_box}
use Rattle.grid_model.specs.Sizes.{IsWithin}
use Rattle.row_sums.proofs.AboveLemmas.{middle_way, slack_within, fits128}
use Rattle.row_sums.proofs.one_sum.middle_slack.Goals as goal

pub overflow_sub-result : goal.overflow_sub-result
overflow_sub-result c =
    let half = c.args.half.now in
    let h : FitsSigned w64 half.most = search rules in
    let most : c.from.result ≡ half.most = simp to_z-of_z at c.from.ensures in
    let within : IsWithin 9000000000000000000 c.from.result = subst (λ (z : ℤ). IsWithin 9000000000000000000 z) (sym most) half.most_within in
    let i : FitsSigned w128 c.from.result = fits128 _ _ within (omega arith) in
    let k : FitsSigned w128 c.middle_along.result = fits128 _ _ c.middle_along.ensures.bound (omega arith) in
    let n : FitsSigned w128 (c.from.result +ℤ pos 1) = omega (arith, ints, within.low, within.high) in
    let d : IsWithin 40000000000000000000 ((c.from.result +ℤ pos 1) -ℤ c.middle_along.result) = slack_within _ _ within c.middle_along.ensures.bound in
    let o : FitsSigned w128 ((c.from.result +ℤ pos 1) -ℤ c.middle_along.result) = fits128 _ _ d (omega arith) in
    simp to_z-of_z o

pub returns-clause-value : goal.returns-clause-value
returns-clause-value c =
    let half = c.args.half.now in
    let h : FitsSigned w64 half.most = search rules in
    let most : c.from.result ≡ half.most = simp to_z-of_z at c.from.ensures in
    let within : IsWithin 9000000000000000000 c.from.result = subst (λ (z : ℤ). IsWithin 9000000000000000000 z) (sym most) half.most_within in
    let i : FitsSigned w128 c.from.result = fits128 _ _ within (omega arith) in
    let k : FitsSigned w128 c.middle_along.result = fits128 _ _ c.middle_along.ensures.bound (omega arith) in
    let n : FitsSigned w128 (c.from.result +ℤ pos 1) = omega (arith, ints, within.low, within.high) in
    let d : IsWithin 40000000000000000000 ((c.from.result +ℤ pos 1) -ℤ c.middle_along.result) = slack_within _ _ within c.middle_along.ensures.bound in
    let o : FitsSigned w128 ((c.from.result +ℤ pos 1) -ℤ c.middle_along.result) = fits128 _ _ d (omega arith) in
    let hx : FitsSigned w64 half.x = search rules in
    let hy : FitsSigned w64 half.y = search rules in
    let hz : FitsSigned w64 half.z = search rules in
    let xl : FitsSigned w64 c.args.part.now.lo.x = search rules in
    let xh : FitsSigned w64 c.args.part.now.hi.x = search rules in
    let yl : FitsSigned w64 c.args.part.now.lo.y = search rules in
    let yh : FitsSigned w64 c.args.part.now.hi.y = search rules in
    let zl : FitsSigned w64 c.args.part.now.lo.z = search rules in
    let zh : FitsSigned w64 c.args.part.now.hi.z = search rules in
    let way : c.middle_along.result ≡ middle_way half (grid_box c.args.part.now) = c.middle_along.ensures.value in
    simp to_z-of_z (rw (most, way) refl)

pub returns-clause-bound : goal.returns-clause-bound
returns-clause-bound c =
    let half = c.args.half.now in
    let h : FitsSigned w64 half.most = search rules in
    let most : c.from.result ≡ half.most = simp to_z-of_z at c.from.ensures in
    let within : IsWithin 9000000000000000000 c.from.result = subst (λ (z : ℤ). IsWithin 9000000000000000000 z) (sym most) half.most_within in
    let i : FitsSigned w128 c.from.result = fits128 _ _ within (omega arith) in
    let k : FitsSigned w128 c.middle_along.result = fits128 _ _ c.middle_along.ensures.bound (omega arith) in
    let n : FitsSigned w128 (c.from.result +ℤ pos 1) = omega (arith, ints, within.low, within.high) in
    let d : IsWithin 40000000000000000000 ((c.from.result +ℤ pos 1) -ℤ c.middle_along.result) = slack_within _ _ within c.middle_along.ensures.bound in
    let o : FitsSigned w128 ((c.from.result +ℤ pos 1) -ℤ c.middle_along.result) = fits128 _ _ d (omega arith) in
    simp to_z-of_z d
