use Rattle.std.proofs.Common.{◌≡◌, ◌*◌, ◌^◌}
use Rattle.grid_model.specs.Amounts.{square}
use Rattle.grid_model.specs.Squares.{sum_of_squares}
use Rattle.elevation_mapping.specs.Places.{least_sum}
use Rattle.elevation_mapping.proofs.Points.{ArePoints, true_le, le_true, through, place_holds, place_far}
use Rattle.elevation_mapping.proofs.far.is_far_from_origin.Goals as goal

pub returns : goal.returns
returns c =
    let e = c.place_of.ensures in
    let p : ArePoints c.args.part.now c.place_of.result = record { x_low = e.x_low; x_high = e.x_high; y_low = e.y_low; y_high = e.y_high; z_low = e.z_low; z_high = e.z_high } in
    let s = c.squares_of.ensures in
    let l : c.squares_of.result.lo ≡ least_sum c.place_of.result = s.low in (
      (λ h t i. through (square (6 * 10 ^ 12)) c.squares_of.result.lo (sum_of_squares t.x t.y t.z) (true_le (square (6 * 10 ^ 12)) c.squares_of.result.lo h) (s.from t.x t.y t.z (place_holds _ _ t p i))),
      (λ f. le_true (square (6 * 10 ^ 12)) c.squares_of.result.lo (rw l (place_far (6 * 10 ^ 12) _ _ p f))),
    )
