use Rattle.std.proofs.Common.{arith, rules}
use Rattle.std.specs.Prelude.{◌*ℤ◌}
use Rattle.std.proofs.lemmas.Int.{ints}
use Rattle.grid_model.specs.Sizes.{IsWithin}
use Rattle.grid_model.proofs.ProductLemmas.{product_within}
use Rattle.row_pairs.proofs.conflicts.times.Goals as goal

pub returns-clause-value : goal.returns-clause-value
returns-clause-value c = search rules

pub returns-clause-bound : goal.returns-clause-bound
returns-clause-bound c =
    let w : IsWithin 167772160000000000000 (c.args.slope *ℤ c.args.way) = product_within 8388608 20000000000000 c.args.slope c.args.way c.requires.slope c.requires.way in
    record { low = omega (arith, ints, w.low, w.high, returns-clause-value c); high = omega (arith, ints, w.low, w.high, returns-clause-value c) }
