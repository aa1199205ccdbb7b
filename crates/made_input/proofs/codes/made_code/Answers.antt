use Rattle.std.proofs.Common.{◌≡◌, ◌+◌, ◌*◌, ◌^◌, ◌<◌, ℕ, ◌∙◌, arith, sym, subst, to_z, of_z}
use Rattle.std.specs.Prelude.{ℤ, pos, ◌<ℤ◌}
use Rattle.std.specs.Int.{w64, w128}
use Rattle.std.proofs.lemmas.Int.{ints}
use Rattle.grid_model.specs.Sizes.{IsWithin}
use Rattle.grid_model.specs.declared.boxes.Pos.{Pos}
use Rattle.code_simulation.specs.SearchSizes.{IsNearPoint}
use Rattle.made_input.specs.MadeCodes.{goal_by, tag_of, place_of}
use Rattle.made_input.specs.MadeRecords.{mean_draw}
use Rattle.made_input.proofs.CodeLemmas.{made_code}
use Rattle.made_input.proofs.RangeBounds.{goal_near, place_is_near, box_size}
use Rattle.made_input.proofs.TimeLemmas.{tag_is, made_time, near_epoch}
use Rattle.made_input.proofs.codes.made_code.Goals as goal

time_cast : (t : ℤ) (j : ℕ) → j < 240 → t ≡ tag_of j → to_z w128 (of_z w128 t) ≡ tag_of j
time_cast t j few is =
    let e = is ∙ tag_is j in
    let cast : to_z w128 (of_z w128 t) ≡ pos (1388624400000000000000 + 30 * j * 10 ^ 12) = omega (arith, ints, e, few) in
    cast ∙ sym (tag_is j)

goal_cast : (g : ℤ) (draw j k : ℕ) → draw < 4001 → g ≡ goal_by draw j k
    → to_z w64 (of_z w64 g) ≡ goal_by draw j k
goal_cast g draw j k few is =
    let near = subst (λ (z : ℤ). IsWithin (503 * 10 ^ 6) z) (sym is) (goal_near draw j k few) in
    let cast : to_z w64 (of_z w64 g) ≡ g = omega (arith, ints, near.low, near.high) in
    cast ∙ is

wider : (z : ℤ) → IsWithin (503 * 10 ^ 6) z → IsWithin 1000000000 z
wider z h = record { low = omega (arith, ints, h.low); high = omega (arith, ints, h.high) }

small_time : (j : ℕ) → j < 240 → tag_of j <ℤ pos 4000000000000000000000
small_time j few = rw (tag_is j) (omega (arith, ints, few))

pub code_for-requires-clause-tag_under : goal.code_for-requires-clause-tag_under
code_for-requires-clause-tag_under c = rw (time_cast _ c.args.j c.requires.epoch c.tag.ensures) (small_time c.args.j c.requires.epoch)

pub code_for-requires-clause-near : goal.code_for-requires-clause-near
code_for-requires-clause-near c =
    let e = c.elements-el.ensures in
    rw (time_cast _ c.args.j c.requires.epoch c.tag.ensures)
    (near_epoch c.args.j c.elements-el.result c.requires.epoch (made_time c.args.k (mean_draw c.args.receiver.now.seed c.args.k) e.r c.elements-el.result e.numbers_are e.elements))

pub code_for-requires-clause-goal : goal.code_for-requires-clause-goal
code_for-requires-clause-goal c = rw (goal_cast _ c.args.draw c.args.j c.args.k c.requires.below c.goal.ensures) (wider _ (goal_near c.args.draw c.args.j c.args.k c.requires.below))

near : (seed : ℕ) (p : Pos) → p ≡ place_of seed → IsNearPoint p
near seed p is = subst IsNearPoint (sym is) (place_is_near seed)

pub code_for-requires-clause-point : goal.code_for-requires-clause-point
code_for-requires-clause-point c = near _ _ c.args.receiver.now.place_is

pub code_for-requires-clause-x_size : goal.code_for-requires-clause-x_size
code_for-requires-clause-x_size c = box_size _ (near _ _ c.args.receiver.now.place_is).x

pub code_for-requires-clause-y_size : goal.code_for-requires-clause-y_size
code_for-requires-clause-y_size c = box_size _ (near _ _ c.args.receiver.now.place_is).y

pub code_for-requires-clause-z_size : goal.code_for-requires-clause-z_size
code_for-requires-clause-z_size c = box_size _ (near _ _ c.args.receiver.now.place_is).z

pub returns : goal.returns
returns c =
    let time = time_cast _ c.args.j c.requires.epoch c.tag.ensures in
    let wanted = goal_cast _ c.args.draw c.args.j c.args.k c.requires.below c.goal.ensures in
    let least = rw (time, wanted, c.args.receiver.now.place_is) at c.code_for.ensures.low in
    let most = rw (time, wanted, c.args.receiver.now.place_is) at c.code_for.ensures.high in
    made_code c.args.receiver.now.seed c.args.j c.args.k c.code_for.result c.args.draw c.elements-el.result _ (omega (arith, ints, c.code_for.ensures.range)) c.code_for.ensures.range c.requires.draw c.elements-el.ensures least most
