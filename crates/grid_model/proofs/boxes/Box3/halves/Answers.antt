use Rattle.std.proofs.Common.{◌≡◌, arith, ap, ◌∙◌, to_z, of_z, w64}
use Rattle.std.specs.Prelude.{ℤ, pos, ◌+ℤ◌}
use Rattle.std.proofs.lemmas.Int.{ints}
use Rattle.grid_model.specs.Boxes.{grid_box, side_at, with_side, middle}
use Rattle.grid_model.proofs.AmountLemmas.{above_is}
use Rattle.grid_model.proofs.boxes.Box3.halves.Goals as goal

pub returns-clause-low : goal.returns-clause-low
returns-clause-low c =
    let at_middle : to_z w64 (of_z w64 c.middle_of-middle.result) ≡ middle (side_at c.args.axis (grid_box c.args.self.now)) =
    omega (arith, ints, above_is) in
    c.up_to.ensures ∙ ap (λ (h : ℤ). with_side c.args.axis (grid_box c.args.self.now) (record { lo = (side_at c.args.axis (grid_box c.args.self.now)).lo; hi = h })) at_middle

pub returns-clause-high : goal.returns-clause-high
returns-clause-high c =
    let past_middle : to_z w64 (of_z w64 (to_z w64 (of_z w64 c.middle_of-middle.result) +ℤ pos 1)) ≡ middle (side_at c.args.axis (grid_box c.args.self.now)) +ℤ pos 1 =
    omega (arith, ints, above_is) in
    c.from_on.ensures ∙ ap (λ (l : ℤ). with_side c.args.axis (grid_box c.args.self.now) (record { lo = l; hi = (side_at c.args.axis (grid_box c.args.self.now)).hi })) past_middle
