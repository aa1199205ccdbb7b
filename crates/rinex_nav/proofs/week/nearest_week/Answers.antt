use Rattle.std.proofs.Common.{rules, refl, arith, FitsSigned}
use Rattle.std.specs.Prelude.{pos, ◌+ℤ◌, ◌-ℤ◌, ◌*ℤ◌}
use Rattle.std.specs.Int.{w128}
use Rattle.std.proofs.lemmas.Int.{to_z-of_z, ints}
use Rattle.grid_model.specs.Rounding.{IsFloor}
use Rattle.grid_model.proofs.RoundingLemmas.{floor_is}
use Rattle.rinex_nav.proofs.WeekLemmas.{nearest_is, time_size}
use Rattle.rinex_nav.proofs.week.nearest_week.Goals as goal

pub returns : goal.returns
returns c =
    let h : FitsSigned w128 c.div_euclid.result = search rules in
    let f1 : FitsSigned w128 c.args.toc = search rules in
    let f2 : FitsSigned w128 c.args.toe = search rules in
    let f3 : FitsSigned w128 (c.args.toc -ℤ c.args.toe) = search rules in
    let f4 : FitsSigned w128 ((c.args.toc -ℤ c.args.toe) +ℤ pos 302400000000000000) = search rules in
    let e = simp to_z-of_z at c.div_euclid.ensures in
    let f : IsFloor ((c.args.toc -ℤ c.args.toe) +ℤ pos 302400000000000000) (pos 604800000000000000) c.div_euclid.result = simp e (floor_is _ _ (omega (arith, ints))) in
    let w = nearest_is c.args.toc c.args.toe c.div_euclid.result (c.div_euclid.result *ℤ pos 604800000000000000) f refl in
    let within = (time_size _ _ _ w c.requires.toc_from c.requires.toc_under c.requires.toe_from c.requires.toe_to).0 in
    let f5 : FitsSigned w128 (c.div_euclid.result *ℤ pos 604800000000000000) = search rules in
    simp to_z-of_z w
