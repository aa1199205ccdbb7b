use Rattle.std.proofs.Common.{◌^◌, ◌*◌}
use Rattle.gnss_model.specs.EarthModel.{light_speed}
use Rattle.pseudorange_prep.proofs.WidthLemmas.{times_one_number, turned_factors}
use Rattle.pseudorange_prep.proofs.times.times_light.Goals as goal

pub returns-clause-ends : goal.returns-clause-ends
returns-clause-ends c m v k j e f g =
    times_one_number m v light_speed k j (10 ^ 10) _ _ _ _ e (record { lt = tt }) f (turned_factors v light_speed (j * 10 ^ 10) g) c.times_over.result.ordered c.times_over.ensures.tight
