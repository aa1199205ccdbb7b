use Rattle.std.proofs.Common.{arith}
use Rattle.made_texts.proofs.ObsWriting.{satellites_next, satellites_end}
use Rattle.made_texts.proofs.obs.push_satellites.Goals as goal

pub sats-preserved : goal.sats-preserved
sats-preserved c = satellites_next c.sats.text.items _ _ c.args.sats.now c.sats.seen-index _ (omega arith) c.sats.invariant c.in_ok-push_satellite.ensures

pub returns : goal.returns
returns c = satellites_end _ _ c.args.sats.now c.sats.seen-index (grind arith) c.sats.invariant
