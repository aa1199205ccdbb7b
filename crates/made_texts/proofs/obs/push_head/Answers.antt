use Rattle.std.proofs.Common.{length}
use Rattle.made_texts.proofs.ObsWriting.{head_placed}
use Rattle.made_texts.proofs.obs.push_head.Goals as goal

pub returns : goal.returns
returns c =
    rw (c.in_ok-push.ensures.items, c.in_ok-push_right.ensures, c.as_slice.ensures.value, c.in_ok-push_decimal.ensures, c.new-word.ensures.items, c.as_slice-sats.ensures.value, c.in_ok-push_seconds.ensures, c.in_ok-push_time.ensures)
    (head_placed c.args.text.now.items c.args.epoch.now.hour c.args.epoch.now.minute c.args.epoch.now.second (length c.args.epoch.now.sats.items))
