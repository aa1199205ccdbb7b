use Rattle.std.proofs.Common.{w64}
use Rattle.std.proofs.lemmas.Int.{to_z-of_z}
use Rattle.relaxed_meet.proofs.box_test.BoxTest.is_inner.Goals as goal

pub returns : goal.returns
returns c = rw (to_z-of_z w64 c.args.clock c.ranges.clock) at c.is_shown_inner.ensures
