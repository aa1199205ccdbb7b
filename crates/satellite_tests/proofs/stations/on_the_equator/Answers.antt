use Rattle.std.proofs.Common.{arith, lit≤}
use Rattle.std.proofs.lemmas.Option.{slice_get_within}
use Rattle.satellite_tests.proofs.stations.on_the_equator.Goals as goal

pub invariant_of-result : goal.invariant_of-result
invariant_of-result c = record {
  ground = record { le = tt };
  short_age = lit≤ tt;
  rising = record { later = λ i j e f first second less. absurd (omega (arith, less, c.requires, slice_get_within c.args.epochs.now j f second)) };
}
