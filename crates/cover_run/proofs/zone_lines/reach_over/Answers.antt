use Rattle.std.proofs.Common.{◌∙◌, sym}
use Rattle.cover_run.proofs.ZoneLineLemmas.{reach_all, reach_more}
use Rattle.cover_run.proofs.zone_lines.reach_over.Goals as goal

pub loop-epoch-preserved : goal.loop-epoch-preserved
loop-epoch-preserved c =
    let more = reach_more c.args.place c.args.epochs.now c.loop-epoch.epoch-index c.epoch-item.result
    c.loop-epoch-test.true c.epoch-item.is in
    rw (more, sym c.loop-epoch.invariant, sym c.reach_in.ensures) c.joined-reach.ensures.value

pub returns : goal.returns
returns c = c.loop-epoch.invariant
    ∙ reach_all c.args.place c.args.epochs.now c.loop-epoch.epoch-index c.loop-epoch-test.false
