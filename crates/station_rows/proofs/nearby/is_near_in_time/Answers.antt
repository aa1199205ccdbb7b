use Rattle.std.proofs.Common.{arith}
use Rattle.std.proofs.lemmas.Bool.{le-leb, leb-true}
use Rattle.std.proofs.lemmas.Int.{ints}
use Rattle.station_rows.proofs.nearby.is_near_in_time.Goals as goal

pub returns : goal.returns
returns c =
    let apart = c.abs_diff.ensures in (
      λ yes. let most = leb-true _ _ yes in record { low = omega (arith, ints, most, apart); high = omega (arith, ints, most, apart) },
      λ near. le-leb _ _ (omega (arith, ints, near.low, near.high, apart)),
    )
