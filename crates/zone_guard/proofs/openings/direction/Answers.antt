use Rattle.std.proofs.Common.{arith, lit<}
use Rattle.std.proofs.lemmas.Int.{ints}
use Rattle.log_tokens.proofs.NumberLemmas.{one_place}
use Rattle.zone_guard.proofs.openings.direction.Goals as goal

pub returns-in_err-vector-clause-none : goal.returns-in_err-vector-clause-none
returns-in_err-vector-clause-none c = rw c.from_residual.ensures (λ a after fits line. c.in_err-vector.ensures a after fits.within line)

pub returns-then-vector-eq0-3-clause-none : goal.returns-then-vector-eq0-3-clause-none
returns-then-vector-eq0-3-clause-none c = λ a after fits line.
    let same = one_place 1048576 _ _ after c.in_ok-vector.vector a (lit< tt) c.in_ok-vector.ensures.0 fits.within c.in_ok-vector.ensures.1 line in
    fits.some (omega (arith, ints, same.0, c.if-vector-eq0.true)) (omega (arith, ints, same.1, c.if-vector-eq0-2.true)) (omega (arith, ints, same.2, c.if-vector-eq0-3.true))
