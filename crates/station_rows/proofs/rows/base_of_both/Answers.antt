use Rattle.std.proofs.Common.{rules, refl, FitsSigned}
use Rattle.std.specs.Int.{w128}
use Rattle.std.proofs.lemmas.Int.{to_z-of_z}
use Rattle.grid_model.specs.declared.boxes.Pos.{Pos}
use Rattle.sat_model.specs.Relaxed.{ends}
use Rattle.sat_rows.specs.Bases.{ComesFrom}
use Rattle.sat_rows.specs.ChainLemmas.{values_exist}
use Rattle.sat_rows.specs.Chains.{Chain, AreValues}
use Rattle.station_rows.specs.Differences.{less_residual, residual_of, with_corrected}
use Rattle.station_rows.specs.Observations.{observed_by, view_of}
use Rattle.station_rows.specs.Laws.{moved_bound}
use Rattle.station_rows.proofs.DifferenceLemmas.{plain, plain_bound}
use Rattle.station_rows.proofs.SizeLemmas.{difference_small}
use Rattle.station_rows.proofs.rows.base_of_both.Goals as goal

pub single_difference-requires-clause-receiver : goal.single_difference-requires-clause-receiver
single_difference-requires-clause-receiver c = record { narrow = c.base_of-receiver.ensures.narrow; corrected = c.base_of-receiver.ensures.range_width }

pub single_difference-requires-clause-station : goal.single_difference-requires-clause-station
single_difference-requires-clause-station c = record { narrow = c.base_of-station.ensures.narrow; corrected = c.base_of-station.ensures.range_width }

pub single_difference-requires-clause-small : goal.single_difference-requires-clause-small
single_difference-requires-clause-small c =
    let common = c.args.common.now in
    let el = c.args.el.now in
    let declared = ends c.args.declared in
    let at = common.place in
    let own_fits : FitsSigned w128 c.args.common.now.receiver.tag = search rules in
    let their_fits : FitsSigned w128 c.args.common.now.station.tag = search rules in
    let own_holds = c.base_of-receiver.ensures.holds plain in
    let own_comes : (p : Pos) (d : Chain) → AreValues plain declared (observed_by common.system common.receiver el) p d → ComesFrom plain c.base_of-receiver.result p d = simp to_z-of_z at own_holds in
    let their_holds = c.base_of-station.ensures.holds plain in
    let their_comes : (p : Pos) (d : Chain) → AreValues plain declared (observed_by common.system common.station el) p d → ComesFrom plain c.base_of-station.result p d = simp to_z-of_z at their_holds in
    let (x, y, z, corrected, range, value) = values_exist (observed_by common.system common.receiver el) at in
    let (tx, ty, tz, their_corrected, their_range, their_value) = values_exist (observed_by common.system common.station el) at in
    let own : Chain = record { x = x; y = y; z = z; corrected = corrected; range = range; lo = declared.0; hi = declared.1 } in
    let theirs : Chain = record { x = tx; y = ty; z = tz; corrected = their_corrected; range = their_range; lo = declared.0; hi = declared.1 } in
    record {
      delays = plain;
      p = at;
      values = own;
      comes = own_comes at own (value, plain_bound declared at x y z corrected range);
      station_delays = plain;
      station_values = theirs;
      station_comes = their_comes at theirs (their_value, plain_bound declared at tx ty tz their_corrected their_range);
      small = difference_small (view_of common el) at (less_residual own (residual_of theirs))
          (record { receiver = c.requires.receiver_codes; station = c.requires.station_codes })
          c.requires.nearby c.requires.ground
          (record {
            corrected = corrected;
            receiver = value;
            residual = residual_of theirs;
            station = record { x = tx; y = ty; z = tz; corrected = their_corrected; range = their_range; value = their_value; residual_is = refl };
            difference_is = refl;
          });
    }

pub returns-clause-holds : goal.returns-clause-holds
returns-clause-holds c delays p chain (s, bound) =
    let common = c.args.common.now in
    let el = c.args.el.now in
    let declared = ends c.args.declared in
    let own_fits : FitsSigned w128 c.args.common.now.receiver.tag = search rules in
    let their_fits : FitsSigned w128 c.args.common.now.station.tag = search rules in
    let t = s.station in
    let own : Chain = with_corrected chain s.corrected in
    let theirs : Chain = record { x = t.x; y = t.y; z = t.z; corrected = t.corrected; range = t.range; lo = declared.0; hi = declared.1 } in
    let own_holds = c.base_of-receiver.ensures.holds delays in
    let own_comes : (p : Pos) (d : Chain) → AreValues delays declared (observed_by common.system common.receiver el) p d → ComesFrom delays c.base_of-receiver.result p d = simp to_z-of_z at own_holds in
    let their_holds = c.base_of-station.ensures.holds plain in
    let their_comes : (p : Pos) (d : Chain) → AreValues plain declared (observed_by common.system common.station el) p d → ComesFrom plain c.base_of-station.result p d = simp to_z-of_z at their_holds in
    let receiver = own_comes p own (s.receiver, moved_bound delays declared p chain s.corrected bound) in
    let station = their_comes common.place theirs (t.value, plain_bound declared common.place t.x t.y t.z t.corrected t.range) in
    let f = c.single_difference.ensures.holds delays plain p own theirs receiver station in
    record {
      sent_x = f.sent_x;
      sent_y = f.sent_y;
      sent_in = f.sent_in;
      turn = f.turn;
      corrected = rw (s.difference_is, t.residual_is) f.corrected;
      bound = moved_bound delays (ends c.single_difference.result.err) p (less_residual own (residual_of theirs)) chain.corrected f.bound;
    }
