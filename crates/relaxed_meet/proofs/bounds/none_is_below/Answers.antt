use Rattle.std.proofs.Common.{◌≡◌, ◌≤◌, arith, to_z, of_z, w64}
use Rattle.std.specs.Prelude.{pos, ◌-ℤ◌}
use Rattle.std.proofs.lemmas.Int.{ints, by_lt_z}
use Rattle.grid_model.specs.Boxes.{grid_box}
use Rattle.sat_model.specs.ClockSpans.{clock_spans}
use Rattle.relaxed_meet.specs.Separated.{lows_above}
use Rattle.relaxed_meet.proofs.SeparatedLemmas.{none_below}
use Rattle.relaxed_meet.proofs.bounds.none_is_below.Goals as goal

pub returns-then-above-wanted : goal.returns-then-above-wanted
returns-then-above-wanted c t b lies =
    let lo : to_z w64 (of_z w64 (to_z w64 (of_z w64 c.args.lo) -ℤ pos 1)) ≡ c.args.lo -ℤ pos 1 = omega (arith, ints, c.requires.bound.low, c.requires.bound.high) in
    let above : c.count_above-above.result ≤ lows_above (c.args.lo -ℤ pos 1) (clock_spans (grid_box c.args.part.now) c.args.rows.now) = rw lo at c.count_above-above.ensures in
    let less = none_below c.args.q (c.args.lo -ℤ pos 1) c.args.part.now c.args.rows.now (omega (arith, above, c.if-above-wanted.true, c.from-wanted.ensures)) b lies in
    omega (arith, ints, less)

pub returns : goal.returns
returns c shown b lies =
    let lo : to_z w64 (of_z w64 (to_z w64 (of_z w64 c.args.lo) -ℤ pos 1)) ≡ c.args.lo -ℤ pos 1 = omega (arith, ints, c.requires.bound.low, c.requires.bound.high) in
    let above : c.count_above-above.result ≤ lows_above (c.args.lo -ℤ pos 1) (clock_spans (grid_box c.args.part.now) c.args.rows.now) = rw lo at c.count_above-above.ensures in
    by_lt_z b c.args.lo
    (λ below. absurd (c.shows_none.ensures shown (b -ℤ pos 1) (c.args.lo -ℤ pos 1) b (omega arith) above (omega (arith, ints)) (omega (arith, ints, below)) lies))
    (λ not_below. not_below)
