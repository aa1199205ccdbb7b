use Rattle.std.proofs.Common.{◌+◌, vec_len, arith, ◌∙◌, subst, sym}
use Rattle.std.proofs.lemmas.Grind.{common_steps}
use Rattle.std.proofs.KnownBytes.{Consumes-trans}
use Rattle.std.specs.Io.KnownBytes.{Consumes}
use Rattle.outer_io.specs.Told.{left_of, MovedBy}
use Rattle.outer_io.proofs.Moving.{moved-more}
use Rattle.outer_io.proofs.reading.read_all.Goals as goal

pub returns-in_err-extend_from_slice-clause-at_most : goal.returns-in_err-extend_from_slice-clause-at_most
returns-in_err-extend_from_slice-clause-at_most g c = (
  vec_len c.reading.all + c.in_ok-count.count,
  (grind (arith, common_steps, c.in_ok-count.ensures.bound, c.room_for-room.ensures.one_more)),
  moved-more _ _ _ _ _ _ c.reading.invariant.moved c.in_ok-count.ensures.moves,
)

pub reading-preserved : goal.reading-preserved
reading-preserved g c = record {
  within = grind (arith, common_steps);
  bytes = subst (Consumes (left_of c.args.slot (g.H.Shelf.state c.args.shelf.now)) (left_of c.args.slot (g.H.Shelf.state c.read.new.self)))
      (sym c.in_ok-extend_from_slice.ensures.items) (Consumes-trans _ _ _ _ _ c.reading.invariant.bytes c.in_ok-count.ensures.bytes.0);
  moved = subst (MovedBy (g.H.Shelf.state c.args.shelf.now) (g.H.Shelf.state c.read.new.self) c.args.slot)
      (sym (grind (arith, common_steps, c.in_ok-extend_from_slice.ensures.len, c.in_ok-count.ensures.bound))) (moved-more _ _ _ _ _ _ c.reading.invariant.moved c.in_ok-count.ensures.moves);
  later = grind (arith, common_steps, c.in_ok-count.ensures.cause.later);
  other = c.read.ensures.other ∙ c.reading.invariant.other;
  reliable = λ log after.
      let here = c.in_ok-count.ensures.reliable log after in
      let before = c.reading.invariant.reliable log here.0 in
      (before.0, here.2 ∙ before.1);
  openings = c.read.ensures.openings ∙ c.reading.invariant.openings;
}
