use Rattle.std.proofs.Common.{arith, ◌∙◌}
use Rattle.std.proofs.lemmas.Grind.{common_steps}
use Rattle.outer_io.proofs.Appending.{appended-more}
use Rattle.outer_io.proofs.writing.write_shelf.Goals as goal

pub loop-done-preserved : goal.loop-done-preserved
loop-done-preserved g c = record {
  within = grind (arith, common_steps, c.in_ok-done.ensures);
  appended = appended-more _ _ _ _ c.args.bytes.now c.loop-done.done c.in_ok-done.field-0 c.loop-done.invariant.appended c.in_ok-done.ensures.appended;
  later = grind (arith, common_steps, c.in_ok-done.ensures.cause.later);
  other = c.write.ensures.other ∙ c.loop-done.invariant.other;
  reliable = λ log after.
      let here = c.in_ok-done.ensures.reliable log after in
      let before = c.loop-done.invariant.reliable log here.0 in
      (before.0, λ writes. (here.1 writes).1 ∙ before.1 writes);
  openings = c.write.ensures.openings ∙ c.loop-done.invariant.openings;
}
