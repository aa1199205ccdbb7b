use Rattle.std.proofs.Common.{arith, lit≤}
use Rattle.std.proofs.lemmas.Int.{ints}
use Rattle.grid_model.specs.Amounts.{above}
use Rattle.satellite_tests.proofs.rows_overhead.root.Goals as goal

pub returns : goal.returns
unfolding above
returns c = record {
  x = record { low = record { low = omega (arith, ints); high = omega (arith, ints) }; high = record { low = omega (arith, ints); high = omega (arith, ints) } };
  y = record { low = record { low = omega (arith, ints); high = omega (arith, ints) }; high = record { low = omega (arith, ints); high = omega (arith, ints) } };
  z = record { low = record { low = omega (arith, ints); high = omega (arith, ints) }; high = record { low = omega (arith, ints); high = omega (arith, ints) } };
  short = lit≤ tt;
}
