-- Every place has a turned place.
use Rattle.std.proofs.Common.{ℕ, ◌*◌, ◌^◌, refl}
use Rattle.std.specs.Prelude.{ℤ, pos, ◌+ℤ◌, ◌-ℤ◌, ◌*ℤ◌}
use Rattle.grid_model.specs.Angles.{unit}
use Rattle.gnss_model.specs.EarthModel.{earth_rate, light_speed}
use Rattle.grid_model.specs.Ranges.{range_to}
use Rattle.gnss_model.specs.Turn.{Turn, IsTurnedOver}
use Rattle.grid_model.specs.declared.boxes.Pos.{Pos}
use Rattle.fix_interval.proofs.NearLemmas.{near_exists}
use Rattle.interval_trig.proofs.Existence.{sine_exists, cosine_exists}

turned_exists : (range : ℕ) (x y : ℤ)
    → (new_x : ℤ) × (new_y : ℤ) × IsTurnedOver range x y new_x new_y
turned_exists range x y =
    let a = near_exists (pos earth_rate *ℤ pos range) (pos (light_speed * 10 ^ 12)) (record { lt = tt }) in
    let c = cosine_exists a.0 in
    let s = sine_exists a.0 in
    let tx = near_exists ((x *ℤ c.0) +ℤ (y *ℤ s.0)) (pos unit) (record { lt = tt }) in
    let ty = near_exists ((y *ℤ c.0) -ℤ (x *ℤ s.0)) (pos unit) (record { lt = tt }) in (
      tx.0,
      ty.0,
      record {
        angle = a.0;
        angle_is = a.1;
        cos_angle = c.0;
        cos_angle_is = c.1;
        sin_angle = s.0;
        sin_angle_is = s.1;
        x_is = tx.1;
        y_is = ty.1;
      },
    )

pub turn_exists : (p : Pos) (x y z : ℤ) → (tx : ℤ) × (ty : ℤ) × (r : ℕ) × Turn p x y z tx ty r
turn_exists p x y z =
    let a = turned_exists (range_to x y z p) x y in
    let b = turned_exists (range_to a.0 a.1 z p) x y in
    (b.0, b.1, range_to b.0 b.1 z p, record { first_x = a.0; first_y = a.1; first_is = a.2; second_is = b.2; range_is = refl })
