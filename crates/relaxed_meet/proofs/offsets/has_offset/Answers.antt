use Rattle.std.proofs.Common.{◌≡◌, arith, to_z, of_z, w64}
use Rattle.std.proofs.lemmas.Int.{ints}
use Rattle.relaxed_meet.proofs.OffsetLemmas.{not_held_below, held_from}
use Rattle.relaxed_meet.proofs.offsets.has_offset.Goals as goal

pub returns-then-not-is_above : goal.returns-then-not-is_above
returns-then-not-is_above c =
    let e : to_z w64 (of_z w64 c.args.offset) ≡ c.args.offset = omega (arith, ints) in
    held_from c.is_above.result c.is_up_to.result _ _ c.args.offset c.if-not-is_above.true (rw e at c.is_above.ensures)
    (λ t. let to = c.is_up_to.ensures.0 t in omega (arith, ints, to), λ h. c.is_up_to.ensures.1 (omega (arith, ints, h)))

pub returns-else-not-is_above : goal.returns-else-not-is_above
returns-else-not-is_above c =
    let e : to_z w64 (of_z w64 c.args.offset) ≡ c.args.offset = omega (arith, ints) in
    not_held_below c.is_above.result _ _ c.args.offset c.if-not-is_above.false (rw e at c.is_above.ensures)
