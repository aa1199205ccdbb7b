use Rattle.zone_guard.proofs.EachLemmas.{boxes_more, boxes_all}
use Rattle.zone_guard.proofs.ReachLemmas.{reach_more}
use Rattle.zone_guard.proofs.reaches.reach_along.Goals as goal

pub loop-part-preserved : goal.loop-part-preserved
loop-part-preserved c =
    rw (c.with_box.ensures, boxes_more c.args.boxes.now c.loop-part.part-index c.part-item.result c.loop-part-test.true c.part-item.is)
    (reach_more c.args.along.now.vector _ c.part-item.result c.loop-part.found c.loop-part.invariant)

pub returns : goal.returns
returns c = rw (boxes_all c.args.boxes.now c.loop-part.part-index c.loop-part-test.false) at c.loop-part.invariant
