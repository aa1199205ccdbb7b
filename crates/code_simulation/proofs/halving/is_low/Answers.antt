use Rattle.std.proofs.Common.{FitsSigned, ◌≡◌, ◌^◌, to_z, of_z, arith, true, false, refl, sym, subst}
use Rattle.std.specs.Int.Signed.{le_z}
use Rattle.std.proofs.Math.Dec.{T}
use Rattle.std.specs.Prelude.{ℤ, ◌≤ℤ◌}
use Rattle.std.specs.Int.{w64, w128}
use Rattle.std.proofs.lemmas.Int.{ints, to_z-of_z}
use Rattle.grid_model.specs.Sizes.{IsWithin}
use Rattle.code_simulation.proofs.ResidualLemmas.{at_most, at_least}
use Rattle.code_simulation.proofs.halving.is_low.Goals as goal

uncast_64 : (x : ℤ) → IsWithin (10 ^ 9) x → to_z w64 (of_z w64 x) ≡ x
uncast_64 x k = omega (arith, ints, k.low, k.high)

uncast_128 : (x : ℤ) → IsWithin (10 ^ 15) x → to_z w128 (of_z w128 x) ≡ x
uncast_128 x k = omega (arith, ints, k.low, k.high)

below : (lo goal : ℤ) → IsWithin (10 ^ 15) lo → IsWithin (10 ^ 9) goal
    → le_z (to_z w128 (of_z w128 lo)) (to_z w128 (of_z w128 (to_z w64 (of_z w64 goal)))) ≡ true
    → lo ≤ℤ goal
below lo goal a b h = let passed : to_z w128 (of_z w128 lo) ≤ℤ to_z w128 (of_z w128 (to_z w64 (of_z w64 goal))) = record { le = subst T (sym h) tt } in omega (arith, ints, passed, a.low, a.high, b.low, b.high)

above : (lo goal : ℤ) → IsWithin (10 ^ 15) lo → IsWithin (10 ^ 9) goal
    → le_z (to_z w128 (of_z w128 lo)) (to_z w128 (of_z w128 (to_z w64 (of_z w64 goal)))) ≡ false
    → goal ≤ℤ lo
above lo goal a b h = omega (arith, ints, h, a.low, a.high, b.low, b.high)

pub returns-then-here-goal-clause-low : goal.returns-then-here-goal-clause-low
returns-then-here-goal-clause-low c = λ yes v k.
    let tag : FitsSigned w128 c.args.tag = c.ranges.tag in
    at_most _ _ v c.args.goal (c.over_codes-here.ensures.low v (simp to_z-of_z k)) (c.over_codes-here.ensures.one refl) (below _ c.args.goal c.over_codes-here.ensures.size c.requires.goal c.if-here-goal.true)

pub returns-clause-high : goal.returns-clause-high
returns-clause-high c = λ no v k.
    let tag : FitsSigned w128 c.args.tag = c.ranges.tag in
    at_least _ _ v c.args.goal (c.over_codes-here.ensures.low v (simp to_z-of_z k)) (above _ c.args.goal c.over_codes-here.ensures.size c.requires.goal c.if-here-goal.false)
