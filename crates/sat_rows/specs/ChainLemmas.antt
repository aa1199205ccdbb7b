-- Something is allowed of each satellite that was observed, as seen from each point of a search
-- box.
use Rattle.std.proofs.Common.{◌≡◌, ℕ, ◌^◌, true}
use Rattle.std.specs.Prelude.{ℤ, pos, ◌+ℤ◌, ◌-ℤ◌, ◌*ℤ◌, Option, None, Some}
use Rattle.grid_model.specs.Boxes.{GridBox, box_holds}
use Rattle.gnss_model.specs.ChainValues.{Observed, ChainValue}
use Rattle.gnss_model.specs.EarthModel.{light_speed}
use Rattle.gnss_model.specs.Pseudorange.{is_single, IsRangeWith}
use Rattle.grid_model.specs.SearchBoxes.{IsSearchBox}
use Rattle.gnss_model.specs.Systems.{first_square, second_square, squares_apart}
use Rattle.grid_model.specs.declared.boxes.Pos.{Pos}
use Rattle.gnss_model.specs.declared.delays.Delays.{Delays}
use Rattle.grid_model.specs.declared.spans.Wide.{Wide}
use Rattle.gnss_model.specs.declared.systems.System.{System}
use Rattle.pseudorange_prep.proofs.WidthLemmas.{apart_positive}
use Rattle.grid_model.proofs.IntervalLemmas.{low_member}
use Rattle.fix_interval.proofs.NearLemmas.{near_exists}
use Rattle.sat_clock.proofs.ClockExists.{system_clock_exists}
use Rattle.broadcast_orbit.proofs.ChainExists.{orbit_exists}
use Rattle.broadcast_orbit.proofs.FarPlaces.{chain_is_far, far_from_points}
use Rattle.earth_rotation.proofs.TurnExists.{turn_exists}
use Rattle.sat_rows.specs.BoundLemmas.{bound_exists}
use Rattle.sat_rows.specs.Chains.{Chain, AreValues}
use Rattle.usable_sats.specs.Usability.{IsHigh}

range_exists : (system : System) (first : Wide) (second : Option Wide)
    → (pr : ℤ) × IsRangeWith system first second pr
range_exists system first None = (first.lo, low_member _ _ first.ordered)
range_exists system first (Some second) =
    let free = near_exists
    ((pos (first_square system) *ℤ first.lo) -ℤ (pos (second_square system) *ℤ second.lo))
    (pos (squares_apart system))
    (apart_positive system) in (
      free.0,
      (first.lo, second.lo, low_member _ _ first.ordered, low_member _ _ second.ordered, free.1),
    )

pub values_exist : (seen : Observed) (p : Pos)
    → (x : ℤ) × (y : ℤ) × (z : ℤ) × (corrected : ℤ) × (range : ℕ)
    × ChainValue seen p x y z corrected range
values_exist seen p =
    let pr = range_exists seen.system seen.codes.first seen.codes.second in
    let tsv = near_exists ((seen.tag *ℤ pos light_speed) -ℤ (pr.0 *ℤ pos (10 ^ 6)))
    (pos light_speed) (record { lt = tt }) in
    let clock = system_clock_exists seen.system seen.el (is_single seen.codes) tsv.0 in
    let corrected = near_exists ((pr.0 *ℤ pos (10 ^ 10)) +ℤ (pos light_speed *ℤ clock.2))
    (pos (10 ^ 10)) (record { lt = tt }) in
    let orbit = orbit_exists seen.el clock.0 clock.3 in
    let turn = turn_exists p orbit.0 orbit.1 orbit.2 in (
      turn.0,
      turn.1,
      orbit.2,
      corrected.0,
      turn.2,
      record {
        pr = pr.0;
        pr_is = pr.1;
        tsv = tsv.0;
        tsv_is = tsv.1;
        n = clock.0;
        n_is = clock.1;
        dt = clock.2;
        t = clock.3;
        clock = clock.4;
        one_root = clock.5;
        corrected_is = corrected.1;
        sent_x = orbit.0;
        sent_y = orbit.1;
        orbit = orbit.3;
        turn = turn.3;
      },
    )

pub chain_exists : (seen : Observed) (p : Pos) (delays : Delays) (declared : ℤ × ℤ) (root : GridBox)
    → IsSearchBox root → box_holds root p ≡ true → IsHigh delays root
    → (c : Chain) × AreValues delays declared seen p c
chain_exists seen p delays declared root box inside high =
    let (x, y, z, corrected, range, value) = values_exist seen p in
    let chain_far = chain_is_far seen.el value.n value.t value.sent_x value.sent_y z p x y range
    value.orbit value.turn in
    let far = far_from_points x y z root p chain_far box inside in
    let bound = bound_exists delays declared root p x y z corrected range high inside far
    value.turn.range_is in (
      record {
        x = x;
        y = y;
        z = z;
        corrected = corrected;
        range = range;
        lo = bound.0;
        hi = bound.1;
      },
      (value, bound.2),
    )
