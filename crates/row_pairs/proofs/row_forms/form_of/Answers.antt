use Rattle.std.proofs.Common.{◌≡◌, arith, rules, FitsSigned, w64}
use Rattle.std.specs.Prelude.{unsigned_abs}
use Rattle.std.specs.Int.{w128}
use Rattle.std.proofs.lemmas.Int.{to_z-of_z}
use Rattle.grid_model.specs.Boxes.{grid_box, span_side}
use Rattle.sat_model.specs.Pairs.{form_of, away, half, away_square, arm, play, spread}
use Rattle.row_pairs.proofs.SameLemmas.{slope_same, square_same, arm_same, play_same, spread_same, rounding_same, upper_same, lower_same, form_same, below_arm}
use Rattle.row_pairs.proofs.row_forms.form_of.Goals as goal

pub slope_of-requires-clause-arm : goal.slope_of-requires-clause-arm
slope_of-requires-clause-arm c =
    let f : FitsSigned w64 c.axis_of-x.result.away = search rules in
    simp to_z-of_z (below_arm (unsigned_abs c.axis_of-x.result.away) c.away_square-square.result c.arm_of-arm.result c.arm_of-arm.ensures.value (omega (arith, c.away_square-square.ensures.value)))

pub slope_of-requires-2-clause-arm : goal.slope_of-requires-2-clause-arm
slope_of-requires-2-clause-arm c =
    let f : FitsSigned w64 c.axis_of-y.result.away = search rules in
    simp to_z-of_z (below_arm (unsigned_abs c.axis_of-y.result.away) c.away_square-square.result c.arm_of-arm.result c.arm_of-arm.ensures.value (omega (arith, c.away_square-square.ensures.value)))

pub slope_of-requires-3-clause-arm : goal.slope_of-requires-3-clause-arm
slope_of-requires-3-clause-arm c =
    let f : FitsSigned w64 c.axis_of-z.result.away = search rules in
    simp to_z-of_z (below_arm (unsigned_abs c.axis_of-z.result.away) c.away_square-square.result c.arm_of-arm.result c.arm_of-arm.ensures.value (omega (arith, c.away_square-square.ensures.value)))

pub returns : goal.returns
unfolding form_of
returns c =
    let row = c.args.row.now in
    let part = grid_box c.args.part.now in
    let xl : FitsSigned w64 c.args.part.now.lo.x = search rules in
    let xh : FitsSigned w64 c.args.part.now.hi.x = search rules in
    let yl : FitsSigned w64 c.args.part.now.lo.y = search rules in
    let yh : FitsSigned w64 c.args.part.now.hi.y = search rules in
    let zl : FitsSigned w64 c.args.part.now.lo.z = search rules in
    let zh : FitsSigned w64 c.args.part.now.hi.z = search rules in
    let xa : FitsSigned w64 c.axis_of-x.result.away = search rules in
    let ya : FitsSigned w64 c.axis_of-y.result.away = search rules in
    let za : FitsSigned w64 c.axis_of-z.result.away = search rules in
    let me : FitsSigned w64 c.most_end.result = search rules in
    let le : FitsSigned w64 c.least_end.result = search rules in
    let sx : FitsSigned w64 c.slope_of.result = search rules in
    let sy : FitsSigned w64 c.slope_of-2.result = search rules in
    let sz : FitsSigned w64 c.slope_of-3.result = search rules in
    let up : FitsSigned w128 c.upper_of.result = search rules in
    let lo : FitsSigned w128 c.lower_of.result = search rules in
    let away_x : c.axis_of-x.result.away ≡ away row.x part.x = simp to_z-of_z at c.axis_of-x.ensures.away in
    let side_x : c.axis_of-x.result.side ≡ half part.x = simp to_z-of_z at c.axis_of-x.ensures.side in
    let place_x : c.axis_of-x.result.place ≡ half (span_side row.x) = c.axis_of-x.ensures.place in
    let away_y : c.axis_of-y.result.away ≡ away row.y part.y = simp to_z-of_z at c.axis_of-y.ensures.away in
    let side_y : c.axis_of-y.result.side ≡ half part.y = simp to_z-of_z at c.axis_of-y.ensures.side in
    let place_y : c.axis_of-y.result.place ≡ half (span_side row.y) = c.axis_of-y.ensures.place in
    let away_z : c.axis_of-z.result.away ≡ away row.z part.z = simp to_z-of_z at c.axis_of-z.ensures.away in
    let side_z : c.axis_of-z.result.side ≡ half part.z = simp to_z-of_z at c.axis_of-z.ensures.side in
    let place_z : c.axis_of-z.result.place ≡ half (span_side row.z) = c.axis_of-z.ensures.place in
    let square : c.away_square-square.result ≡ away_square row part = square_same row part _ c.axis_of-x.result.away c.axis_of-y.result.away c.axis_of-z.result.away c.away_square-square.ensures.value away_x away_y away_z in
    let long : c.arm_of-arm.result ≡ arm row part = arm_same row part _ c.away_square-square.result c.arm_of-arm.ensures.value square in
    let plays : c.play_of-play.result ≡ play row part = play_same row part _ c.axis_of-x.result.away c.axis_of-y.result.away c.axis_of-z.result.away c.axis_of-x.result.place c.axis_of-y.result.place c.axis_of-z.result.place c.play_of-play.ensures.value away_x away_y away_z place_x place_y place_z in
    let spreads : c.spread_of-spread.result ≡ spread row part = spread_same row part _ c.axis_of-x.result.side c.axis_of-y.result.side c.axis_of-z.result.side c.axis_of-x.result.place c.axis_of-y.result.place c.axis_of-z.result.place c.spread_of-spread.ensures.value side_x side_y side_z place_x place_y place_z in
    let rounds = rounding_same part c.axis_of-x.result.side c.axis_of-y.result.side c.axis_of-z.result.side side_x side_y side_z in
    simp to_z-of_z (form_same _ _ _ _ _ _ _ _ _ _
    (slope_same c.slope_of.result c.axis_of-x.result.away c.arm_of-arm.result _ row.x part.x (simp to_z-of_z at c.slope_of.ensures.value) away_x long)
    (slope_same c.slope_of-2.result c.axis_of-y.result.away c.arm_of-arm.result _ row.y part.y (simp to_z-of_z at c.slope_of-2.ensures.value) away_y long)
    (slope_same c.slope_of-3.result c.axis_of-z.result.away c.arm_of-arm.result _ row.z part.z (simp to_z-of_z at c.slope_of-3.ensures.value) away_z long)
    (upper_same row part c.upper_of.result c.most_end.result c.arm_of-arm.result c.away_square-square.result c.play_of-play.result _ (simp to_z-of_z at c.upper_of.ensures.value) long c.most_end.ensures.value square plays rounds)
    (lower_same row part c.lower_of.result c.least_end.result c.arm_of-arm.result c.away_square-square.result c.play_of-play.result c.spread_of-spread.result _ (simp to_z-of_z at c.lower_of.ensures.value) long c.least_end.ensures.value square plays spreads rounds))
