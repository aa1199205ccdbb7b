use Rattle.std.proofs.Common.{map}
use Rattle.grid_model.specs.Boxes.{grid_box}
use Rattle.zone_guard.specs.Planes.{plane_values}
use Rattle.zone_guard.proofs.FoundLemmas.{findings_more, findings_all}
use Rattle.zone_guard.proofs.epochs.findings_in.Goals as goal

pub loop-watch-preserved : goal.loop-watch-preserved
loop-watch-preserved c = findings_more (plane_values c.args.bounds.now) (map grid_box c.args.boxes.now) c.args.watches.now c.loop-watch.watch-index c.watch-item.result c.loop-watch.found.items c.push.new.self.items c.found_in.result
    c.loop-watch-test.true c.watch-item.is c.loop-watch.invariant c.found_in.ensures c.in_ok-push.ensures.items

pub returns : goal.returns
returns c = findings_all (plane_values c.args.bounds.now) (map grid_box c.args.boxes.now) c.args.watches.now c.loop-watch.watch-index c.loop-watch.found.items c.loop-watch-test.false c.loop-watch.invariant
