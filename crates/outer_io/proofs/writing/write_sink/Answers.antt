use Rattle.std.proofs.Common.{arith, ◌∙◌}
use Rattle.std.proofs.lemmas.Grind.{common_steps}
use Rattle.outer_io.proofs.Appending.{taken-more}
use Rattle.outer_io.proofs.writing.write_sink.Goals as goal

pub loop-done-preserved : goal.loop-done-preserved
loop-done-preserved g c = record {
  within = grind (arith, common_steps, c.in_ok-done.ensures);
  taken = taken-more _ _ _ c.args.bytes.now c.loop-done.done c.in_ok-done.field-0 c.loop-done.invariant.taken c.in_ok-done.ensures.appended;
  later = grind (arith, common_steps, c.in_ok-done.ensures.cause.later);
  reliable = λ after.
      let here = c.in_ok-done.ensures.reliable after in
      let before = c.loop-done.invariant.reliable here.0 in
      (before.0, here.2 ∙ before.1);
}
