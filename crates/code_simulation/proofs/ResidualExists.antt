-- The equations leave something of every pseudorange at every point.
use Rattle.std.proofs.Common.{refl}
use Rattle.std.specs.Prelude.{◌^◌, ℤ, pos, ◌+ℤ◌, ◌-ℤ◌, ◌*ℤ◌, true}
use Rattle.gnss_model.specs.EarthModel.{light_speed}
use Rattle.grid_model.specs.declared.boxes.Pos.{Pos}
use Rattle.gnss_model.specs.declared.elements.Elements.{Elements}
use Rattle.fix_interval.proofs.NearLemmas.{near_exists}
use Rattle.sat_clock.proofs.ClockExists.{clock_exists}
use Rattle.broadcast_orbit.proofs.ChainExists.{orbit_exists}
use Rattle.earth_rotation.proofs.TurnExists.{turn_exists}
use Rattle.code_simulation.specs.Residuals.{Residual}

pub residual_exists : (el : Elements) (tag : ℤ) (p : Pos) (pr : ℤ)
    → (v : ℤ) × Residual el tag p pr v
residual_exists el tag p pr =
    let sent = near_exists ((tag *ℤ pos light_speed) -ℤ (pr *ℤ pos (10 ^ 6))) (pos light_speed) (record { lt = tt }) in
    let clock = clock_exists el true sent.0 in
    let corrected = near_exists ((pr *ℤ pos (10 ^ 10)) +ℤ (pos light_speed *ℤ clock.2)) (pos (10 ^ 10)) (record { lt = tt }) in
    let orbit = orbit_exists el clock.0 clock.3 in
    let turn = turn_exists p orbit.0 orbit.1 orbit.2 in (
      corrected.0 -ℤ pos turn.2,
      record {
        tsv = sent.0;
        tsv_is = sent.1;
        n = clock.0;
        n_is = clock.1;
        dt = clock.2;
        t = clock.3;
        clock = clock.4;
        one_root = clock.5;
        corrected = corrected.0;
        corrected_is = corrected.1;
        sent_x = orbit.0;
        sent_y = orbit.1;
        x = turn.0;
        y = turn.1;
        z = orbit.2;
        orbit = orbit.3;
        range = turn.2;
        turn = turn.3;
        residual_is = refl;
      },
    )
