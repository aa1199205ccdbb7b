use Rattle.std.proofs.Common.{arith, to_z, of_z, w64}
use Rattle.std.specs.Prelude.{pos, ◌+ℤ◌, ◌-ℤ◌}
use Rattle.std.proofs.lemmas.Int.{ints}
use Rattle.grid_model.specs.Boxes.{grid_box}
use Rattle.subpaving.proofs.CutLemmas.{proper_low, proper_high, slab_low, slab_high}
use Rattle.subpaving.proofs.cuts.slab_of.Goals as goal

pub overflow_sub-bound : goal.overflow_sub-bound
overflow_sub-bound c = omega (arith, ints, proper_low c.args.face c.args.bound c.args.part.now c.if-face-eq0.true c.requires)

pub up_to-requires-clause-high : goal.up_to-requires-clause-high
up_to-requires-clause-high c = omega (arith, ints, proper_low c.args.face c.args.bound c.args.part.now c.if-face-eq0.true c.requires)

pub overflow_add-bound : goal.overflow_add-bound
overflow_add-bound c = omega (arith, ints, proper_high c.args.face c.args.bound c.args.part.now c.if-face-eq0.false c.requires)

pub from_on-requires-clause-low : goal.from_on-requires-clause-low
from_on-requires-clause-low c = omega (arith, ints, proper_high c.args.face c.args.bound c.args.part.now c.if-face-eq0.false c.requires)

pub returns-then-face-eq0 : goal.returns-then-face-eq0
returns-then-face-eq0 c =
    slab_low c.args.face c.args.bound (to_z w64 (of_z w64 (to_z w64 (of_z w64 c.args.bound) -ℤ pos 1))) (grid_box c.args.part.now) _ c.if-face-eq0.true
    (omega (arith, ints, proper_low c.args.face c.args.bound c.args.part.now c.if-face-eq0.true c.requires)) c.up_to.ensures

pub returns-else-face-eq0 : goal.returns-else-face-eq0
returns-else-face-eq0 c =
    slab_high c.args.face c.args.bound (to_z w64 (of_z w64 (to_z w64 (of_z w64 c.args.bound) +ℤ pos 1))) (grid_box c.args.part.now) _ c.if-face-eq0.false
    (omega (arith, ints, proper_high c.args.face c.args.bound c.args.part.now c.if-face-eq0.false c.requires)) c.from_on.ensures
