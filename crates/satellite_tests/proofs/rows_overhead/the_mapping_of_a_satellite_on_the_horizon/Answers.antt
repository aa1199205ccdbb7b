use Rattle.std.proofs.Common.{lit≤}
use Rattle.grid_model.specs.Amounts.{above}
use Rattle.satellite_tests.proofs.rows_overhead.the_mapping_of_a_satellite_on_the_horizon.Goals as goal

pub mapped-found-requires-clause-short : goal.mapped-found-requires-clause-short
unfolding above
mapped-found-requires-clause-short g c = lit≤ tt
