use Rattle.std.specs.Prelude.{length}
use Rattle.std.proofs.Common.{refl}
use Rattle.box_contraction.proofs.BoxLemmas.{grid_part}
use Rattle.epoch_selection.specs.Searches.{search_in}
use Rattle.grid_model.specs.Boxes.{grid_box}
use Rattle.sat_model.specs.BoxTests.{test_of}
use Rattle.sat_model.specs.Logs.{rows_of}
use Rattle.sharpness_laws.proofs.RunLemmas.{run_clear}
use Rattle.sharpness_laws.proofs.UsableLemmas.{first_over, renewed_over}
use Rattle.sharpness_laws.proofs.laws.runs_leave_nothing_clear.Goals as goal

pub returns : goal.returns
returns g c = λ source renews rules epoch root own sats events box distinct are grown run.
    let m = g.S.RowSource.meaning source in
    let search = search_in (grid_box root) epoch in
    let rows = first_over m search own sats are grown in
    run_clear m (g.met.S.RowSource.sound source) rules search box (grid_part root) _ (length (rows_of sats)) (renewed_over m search renews (rows_of sats) distinct rows)
    (test_of rules (rows_of sats)) refl refl rows refl (grid_box root) refl events run
