use Rattle.std.proofs.Common.{arith, refl, to_z, of_z, w64}
use Rattle.std.proofs.lemmas.Int.{ints}
use Rattle.relaxed_meet.proofs.HeldLemmas.{held_above, none_held}
use Rattle.relaxed_meet.proofs.inner.fits_everywhere.Goals as goal

pub returns-then-span-clock : goal.returns-then-span-clock
returns-then-span-clock c =
    held_above _ c.args.clock c.in-Some.span.lo c.in-Some.span.hi (to_z w64 (of_z w64 c.args.clock)) (to_z w64 (of_z w64 c.in-Some.span.hi)) c.in-Some.ensures.some
    (omega (arith, ints)) (omega (arith, ints)) (omega (arith, ints))

pub returns-in-None : goal.returns-in-None
returns-in-None c = none_held _ c.args.clock (c.in-None.ensures.none refl)
