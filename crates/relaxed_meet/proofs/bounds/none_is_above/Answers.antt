use Rattle.std.proofs.Common.{◌≡◌, ◌≤◌, arith, to_z, of_z, w64}
use Rattle.std.proofs.lemmas.Int.{ints, by_lt_z}
use Rattle.grid_model.specs.Boxes.{grid_box}
use Rattle.sat_model.specs.ClockSpans.{clock_spans}
use Rattle.relaxed_meet.specs.Separated.{highs_to}
use Rattle.relaxed_meet.proofs.SeparatedLemmas.{none_above}
use Rattle.relaxed_meet.proofs.bounds.none_is_above.Goals as goal

pub returns-then-below-wanted : goal.returns-then-below-wanted
returns-then-below-wanted c t b lies =
    let hi : to_z w64 (of_z w64 c.args.hi) ≡ c.args.hi = omega (arith, ints) in
    let below : c.count_up_to-below.result ≤ highs_to c.args.hi (clock_spans (grid_box c.args.part.now) c.args.rows.now) = rw hi at c.count_up_to-below.ensures in
    none_above c.args.q c.args.hi c.args.part.now c.args.rows.now (omega (arith, below, c.if-below-wanted.true, c.from-wanted.ensures)) b lies

pub returns : goal.returns
returns c shown b lies =
    let hi : to_z w64 (of_z w64 c.args.hi) ≡ c.args.hi = omega (arith, ints) in
    let below : c.count_up_to-below.result ≤ highs_to c.args.hi (clock_spans (grid_box c.args.part.now) c.args.rows.now) = rw hi at c.count_up_to-below.ensures in
    by_lt_z c.args.hi b
    (λ above. absurd (c.shows_none.ensures shown c.args.hi b b below (omega arith) above (omega (arith, ints)) lies))
    (λ not_above. not_above)
