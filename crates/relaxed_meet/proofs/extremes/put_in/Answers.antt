use Rattle.std.proofs.Common.{arith}
use Rattle.std.proofs.lemmas.Int.{ints}
use Rattle.relaxed_meet.proofs.FallingLemmas.{refill-same, above_kept}
use Rattle.relaxed_meet.proofs.extremes.put_in.Goals as goal

pub returns-else-len-most-clause-same_above : goal.returns-else-len-most-clause-same_above
returns-else-len-most-clause-same_above c = λ b.
    let passed = rw c.deref_mut.ensures.value at c.carry_past-least.ensures in
    let whole = refill-same c.args.kept.now.items c.carry_past-least.new.kept passed.count in
    let count = rw whole at c.len.ensures.value in
    rw whole
    (above_kept c.carry_past-least.new.kept c.args.kept.now.items _ _ c.args.number c.args.most b passed
    (omega (arith, c.if-len-most.false, count, passed.count, c.requires.room)) (omega (arith, ints)))
