use Rattle.std.proofs.Common.{◌≡◌, arith, ◌^◌, ◌*◌, ◌-◌, ◌+◌, to_z, of_z}
use Rattle.std.specs.Prelude.{pos, ◌-ℤ◌, ◌*ℤ◌}
use mir.Syntax.{w128}
use Rattle.std.proofs.lemmas.Int.{ints}
use Rattle.grid_model.proofs.SpreadLemmas.{products_fit}
use Rattle.gnss_model.specs.Systems.{first_square, second_square, squares_apart}
use Rattle.pseudorange_prep.proofs.WidthLemmas.{times_one_number, code_ends, code_member, dual_width, near_times_one, apart_positive, apart_is, combined_amount, combined_small, combined_fits, combined_spreads}
use Rattle.pseudorange_prep.proofs.ranges.dual_of.Goals as goal
use Rattle.grid_model.proofs.IntervalLemmas.{one_number}

pub times_over-requires-clause-positive : goal.times_over-requires-clause-positive
times_over-requires-clause-positive c = let same : to_z w128 (of_z w128 c.squares_apart.result) ≡ pos (squares_apart c.args.system) = rw c.squares_apart.ensures (apart_is c.args.system) in
    rw same (apart_positive c.args.system)

pub times_over-requires-clause-sizes : goal.times_over-requires-clause-sizes
times_over-requires-clause-sizes c =
    let y = c.args.system in
    let e = code_ends y c.args.first.lo c.args.first.hi c.args.second.lo c.args.second.hi c.combination.result.lo c.combination.result.hi c.requires.first_code c.requires.second_code c.args.first.ordered c.args.second.ordered c.combination.ensures.low c.combination.ensures.high c.combination.result.ordered in
    products_fit _ (combined_amount y) (combined_amount y + combined_amount y) 1 0 _ _ _ _ (omega (arith, combined_small y)) e (one_number 1)

pub returns-clause-holds : goal.returns-clause-holds
returns-clause-holds c x (p1, p2, f, g, n) =
    let y = c.args.system in
    let same : to_z w128 (of_z w128 c.squares_apart.result) ≡ pos (squares_apart y) = rw c.squares_apart.ensures (apart_is y) in
    c.times_over.ensures.holds ((pos (first_square y) *ℤ p1) -ℤ (pos (second_square y) *ℤ p2)) (pos 1) x
    (code_member y c.args.first.lo c.args.first.hi c.args.second.lo c.args.second.hi p1 p2 c.combination.result.lo c.combination.result.hi f g c.combination.ensures.low c.combination.ensures.high)
    (record { from = omega (arith, ints); to = omega (arith, ints) })
    (rw same (near_times_one _ _ _ n))

pub returns-clause-width : goal.returns-clause-width
returns-clause-width c f g =
    let y = c.args.system in
    let same : to_z w128 (of_z w128 c.squares_apart.result) ≡ pos (squares_apart y) = rw c.squares_apart.ensures (apart_is y) in
    let e = code_ends y c.args.first.lo c.args.first.hi c.args.second.lo c.args.second.hi c.combination.result.lo c.combination.result.hi c.requires.first_code c.requires.second_code c.args.first.ordered c.args.second.ordered c.combination.ensures.low c.combination.ensures.high c.combination.result.ordered in
    let w = rw same at c.times_over.ensures.width in
    dual_width y _ _ _ _ _ _ _ _ f g e c.combination.ensures.low c.combination.ensures.high w

pub returns-clause-low_size : goal.returns-clause-low_size
returns-clause-low_size c =
    let y = c.args.system in
    let same : to_z w128 (of_z w128 c.squares_apart.result) ≡ pos (squares_apart y) = rw c.squares_apart.ensures (apart_is y) in
    let e = code_ends y c.args.first.lo c.args.first.hi c.args.second.lo c.args.second.hi c.combination.result.lo c.combination.result.hi c.requires.first_code c.requires.second_code c.args.first.ordered c.args.second.ordered c.combination.ensures.low c.combination.ensures.high c.combination.result.ordered in
    let t = rw same at c.times_over.ensures.tight in
    (times_one_number (combined_amount y) (combined_amount y + combined_amount y) 1 (2 * 10 ^ 14 - 2) (3 * 10 ^ 14) (squares_apart y) _ _ _ _ e (apart_positive y) (combined_fits y) (combined_spreads y) c.times_over.result.ordered t).low

pub returns-clause-high_size : goal.returns-clause-high_size
returns-clause-high_size c =
    let y = c.args.system in
    let same : to_z w128 (of_z w128 c.squares_apart.result) ≡ pos (squares_apart y) = rw c.squares_apart.ensures (apart_is y) in
    let e = code_ends y c.args.first.lo c.args.first.hi c.args.second.lo c.args.second.hi c.combination.result.lo c.combination.result.hi c.requires.first_code c.requires.second_code c.args.first.ordered c.args.second.ordered c.combination.ensures.low c.combination.ensures.high c.combination.result.ordered in
    let t = rw same at c.times_over.ensures.tight in
    (times_one_number (combined_amount y) (combined_amount y + combined_amount y) 1 (2 * 10 ^ 14 - 2) (3 * 10 ^ 14) (squares_apart y) _ _ _ _ e (apart_positive y) (combined_fits y) (combined_spreads y) c.times_over.result.ordered t).high
