use Rattle.std.proofs.Common.{arith}
use Rattle.std.proofs.lemmas.Int.{ints}
use Rattle.station_rows.proofs.nearby.has_near_record.Goals as goal

pub returns-then-el-le-MEDIUM_ROOT_A : goal.returns-then-el-le-MEDIUM_ROOT_A
returns-then-el-le-MEDIUM_ROOT_A c = λ system. (
  λ yes. record { orbit = omega (arith, ints, c.if-el-le-MEDIUM_ROOT_A.true); clock_time = c.is_near_in_time.ensures.0 yes },
  λ near. c.is_near_in_time.ensures.1 near.clock_time,
)
