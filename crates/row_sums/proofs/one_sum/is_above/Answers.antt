use Rattle.std.proofs.Common.{◌≡◌, arith, rules, subst, sym, FitsSigned, w64}
use Rattle.std.specs.Prelude.{ℤ, pos, ◌+ℤ◌, ◌-ℤ◌, ◌*ℤ◌, ◌<ℤ◌}
use Rattle.std.specs.Int.{w128}
use Rattle.std.proofs.lemmas.Int.{to_z-of_z}
use Rattle.grid_model.specs.Boxes.{grid_box}
use Rattle.sat_model.proofs.PairAxisLemmas.{sum_within}
use Rattle.row_pairs.proofs.LeastLemmas.{lt_from, lt_to}
use Rattle.row_sums.specs.SumValues.{sum_value}
use Rattle.row_sums.proofs.AboveLemmas.{middle_way, above_from, above_to, fits128}
use Rattle.row_sums.proofs.one_sum.is_above.Goals as goal

pub overflow_add-result : goal.overflow_add-result
overflow_add-result c =
    let i : FitsSigned w128 c.least_lead.result = fits128 _ _ c.least_lead.ensures.bound (omega arith) in
    let j : FitsSigned w128 c.aimed_slack.result = fits128 _ _ c.aimed_slack.ensures.bound (omega arith) in
    simp to_z-of_z (fits128 _ _ (sum_within _ _ _ _ c.least_lead.ensures.bound c.aimed_slack.ensures.bound) (omega arith))

pub returns : goal.returns
returns c =
    let part = grid_box c.args.part.now in
    let s = sum_value c.args.sum.now in
    let i : FitsSigned w128 c.least_lead.result = fits128 _ _ c.least_lead.ensures.bound (omega arith) in
    let j : FitsSigned w128 c.aimed_slack.result = fits128 _ _ c.aimed_slack.ensures.bound (omega arith) in
    let k : FitsSigned w128 (c.least_lead.result +ℤ c.aimed_slack.result) = fits128 _ _ (sum_within _ _ _ _ c.least_lead.ensures.bound c.aimed_slack.ensures.bound) (omega arith) in
    let m : FitsSigned w128 c.args.sum.now.most = search rules in
    let h : FitsSigned w64 c.args.half.now.most = search rules in
    let v : c.aimed_slack.result ≡ pos c.args.aim *ℤ ((c.args.half.now.most +ℤ pos 1) -ℤ middle_way c.args.half.now part) = c.aimed_slack.ensures.value in
    simp to_z-of_z (
      λ t. above_from part c.args.half.now c.args.aim s c.least_lead.result c.least_lead.ensures.least (subst (λ (z : ℤ). s.most <ℤ (c.least_lead.result +ℤ z)) v (lt_from _ _ t)),
      λ a. lt_to _ _ (subst (λ (z : ℤ). s.most <ℤ (c.least_lead.result +ℤ z)) (sym v) (above_to part c.args.half.now c.args.aim s c.least_lead.result c.least_lead.ensures.least a)),
    )
