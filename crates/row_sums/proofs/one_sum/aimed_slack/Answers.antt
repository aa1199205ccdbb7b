use Rattle.std.proofs.Common.{◌≡◌, ◌*◌, arith, rules, refl, FitsSigned, w64}
use Rattle.std.specs.Prelude.{pos, ◌+ℤ◌, ◌-ℤ◌, ◌*ℤ◌}
use Rattle.std.specs.Int.{w128}
use Rattle.std.proofs.lemmas.Int.{to_z-of_z}
use Rattle.grid_model.specs.Boxes.{grid_box}
use Rattle.grid_model.specs.Sizes.{IsWithin}
use Rattle.grid_model.proofs.ProductLemmas.{product_within, larger}
use Rattle.row_sums.proofs.AboveLemmas.{middle_way, natural_within, fits128}
use Rattle.row_sums.proofs.one_sum.aimed_slack.Goals as goal

pub overflow_mul-result : goal.overflow_mul-result
overflow_mul-result c =
    let k : FitsSigned w128 c.middle_slack.result = fits128 _ _ c.middle_slack.ensures.bound (omega arith) in
    let i : FitsSigned w128 c.from.result = search rules in
    let w : IsWithin (17592186044416 * 40000000000000000000) (pos c.args.aim *ℤ c.middle_slack.result) = product_within _ _ _ _ (natural_within _ _ c.requires) c.middle_slack.ensures.bound in
    let p : FitsSigned w128 (c.from.result *ℤ c.middle_slack.result) = rw c.from.ensures (fits128 _ _ w (omega arith)) in
    simp to_z-of_z p

pub returns-clause-value : goal.returns-clause-value
returns-clause-value c =
    let h : FitsSigned w64 c.args.half.now.most = search rules in
    let k : FitsSigned w128 c.middle_slack.result = fits128 _ _ c.middle_slack.ensures.bound (omega arith) in
    let i : FitsSigned w128 c.from.result = search rules in
    let w : IsWithin (17592186044416 * 40000000000000000000) (pos c.args.aim *ℤ c.middle_slack.result) = product_within _ _ _ _ (natural_within _ _ c.requires) c.middle_slack.ensures.bound in
    let p : FitsSigned w128 (c.from.result *ℤ c.middle_slack.result) = rw c.from.ensures (fits128 _ _ w (omega arith)) in
    let hx : FitsSigned w64 c.args.half.now.x = search rules in
    let hy : FitsSigned w64 c.args.half.now.y = search rules in
    let hz : FitsSigned w64 c.args.half.now.z = search rules in
    let xl : FitsSigned w64 c.args.part.now.lo.x = search rules in
    let xh : FitsSigned w64 c.args.part.now.hi.x = search rules in
    let yl : FitsSigned w64 c.args.part.now.lo.y = search rules in
    let yh : FitsSigned w64 c.args.part.now.hi.y = search rules in
    let zl : FitsSigned w64 c.args.part.now.lo.z = search rules in
    let zh : FitsSigned w64 c.args.part.now.hi.z = search rules in
    let slack : c.middle_slack.result ≡ (c.args.half.now.most +ℤ pos 1) -ℤ middle_way c.args.half.now (grid_box c.args.part.now) = c.middle_slack.ensures.value in
    simp to_z-of_z (rw (c.from.ensures, slack) refl)

pub returns-clause-bound : goal.returns-clause-bound
returns-clause-bound c =
    let k : FitsSigned w128 c.middle_slack.result = fits128 _ _ c.middle_slack.ensures.bound (omega arith) in
    let i : FitsSigned w128 c.from.result = search rules in
    let w : IsWithin (17592186044416 * 40000000000000000000) (pos c.args.aim *ℤ c.middle_slack.result) = product_within _ _ _ _ (natural_within _ _ c.requires) c.middle_slack.ensures.bound in
    let p : FitsSigned w128 (c.from.result *ℤ c.middle_slack.result) = rw c.from.ensures (fits128 _ _ w (omega arith)) in
    simp to_z-of_z (rw c.from.ensures (larger _ _ _ (omega arith) w))
