use Rattle.std.proofs.Common.{arith}
use Rattle.std.specs.Prelude.{pos, ◌-ℤ◌}
use Rattle.std.proofs.lemmas.Int.{ints}
use Rattle.relaxed_meet.proofs.separation.Separation.shows_empty.Goals as goal

pub returns : goal.returns
returns c shown b lies = c.shows_none.ensures shown (b -ℤ pos 1) b b (omega arith) (omega arith) (omega (arith, ints)) (omega (arith, ints)) lies
