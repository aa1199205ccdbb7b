use Rattle.std.proofs.Common.{rules, refl, arith, FitsSigned}
use Rattle.std.specs.Prelude.{◌+ℤ◌}
use Rattle.std.specs.Int.{w128}
use Rattle.std.proofs.lemmas.Int.{to_z-of_z, ints}
use Rattle.rinex_nav.specs.Weeks.{IsNearestWeek, IsEphemerisTime}
use Rattle.rinex_nav.proofs.WeekLemmas.{time_size}
use Rattle.rinex_nav.proofs.record.NavRecord.ephemeris_time.Goals as goal

pub returns-clause-time : goal.returns-clause-time
returns-clause-time c =
    let held = c.in_ok-toe.ensures.field in
    let f1 : FitsSigned w128 c.nearest_week.result = search rules in
    let f2 : FitsSigned w128 c.in_ok-toe.toe.lo = search rules in
    let f3 : FitsSigned w128 c.args.self.now.toc = search rules in
    let week = c.nearest_week.ensures in
    let nearest : IsNearestWeek c.args.self.now.toc c.in_ok-toe.toe.lo c.nearest_week.result = simp to_z-of_z at week in
    let size = (time_size _ _ _ nearest c.args.self.now.toc_from c.args.self.now.toc_under held.1.from (omega (arith, ints, held.1.to, c.in_ok-toe.toe.ordered))).1 in
    let f4 : FitsSigned w128 (c.nearest_week.result +ℤ c.in_ok-toe.toe.lo) = search rules in
    let is : IsEphemerisTime c.args.self.now (c.nearest_week.result +ℤ c.in_ok-toe.toe.lo) =
    record { inside = c.in_ok-toe.ensures.inside; toe = c.in_ok-toe.toe.lo; start = c.nearest_week.result; toe_is = held.0.floor; start_is = nearest; time_is = refl } in
    simp to_z-of_z is

pub returns-clause-size : goal.returns-clause-size
returns-clause-size c =
    let held = c.in_ok-toe.ensures.field in
    let f1 : FitsSigned w128 c.nearest_week.result = search rules in
    let f2 : FitsSigned w128 c.in_ok-toe.toe.lo = search rules in
    let f3 : FitsSigned w128 c.args.self.now.toc = search rules in
    let week = c.nearest_week.ensures in
    let nearest : IsNearestWeek c.args.self.now.toc c.in_ok-toe.toe.lo c.nearest_week.result = simp to_z-of_z at week in
    let size = (time_size _ _ _ nearest c.args.self.now.toc_from c.args.self.now.toc_under held.1.from (omega (arith, ints, held.1.to, c.in_ok-toe.toe.ordered))).1 in
    let f4 : FitsSigned w128 (c.nearest_week.result +ℤ c.in_ok-toe.toe.lo) = search rules in
    simp to_z-of_z size
