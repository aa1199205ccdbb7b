use Rattle.std.proofs.Common.{◌∙◌, arith}
use Rattle.made_input.proofs.EpochLemmas.{epochs_push, one_more_epoch}
use Rattle.made_input.proofs.epochs.made_epochs.Goals as goal

pub loop-j-preserved : goal.loop-j-preserved
loop-j-preserved c =
    let i = c.loop-j.invariant in
    record {
      seed = c.made_epoch.ensures.seed ∙ i.seed;
      taken = omega (arith, c.in_ok-made_epoch.ensures.taken);
      count = one_more_epoch c.loop-j.epochs.items _ _ c.loop-j.j i.count c.in_ok-push.ensures.items;
      epochs = epochs_push c.args.receiver.now.seed 0 c.loop-j.j c.loop-j.epochs.items _ _ i.epochs (omega (arith, i.count)) c.in_ok-made_epoch.ensures.epoch c.in_ok-push.ensures.items;
    }
