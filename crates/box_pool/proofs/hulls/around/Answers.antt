use Rattle.std.proofs.Common.{Option, subst}
use Rattle.grid_model.specs.declared.boxes.Box3.{Box3}
use Rattle.box_pool.specs.Hulls.{IsHullOf}
use Rattle.grid_model.specs.Boxes.{grid_box}
use Rattle.box_pool.proofs.HullLemmas.{hull_one, hull_more}
use Rattle.box_pool.proofs.hulls.around.Goals as goal

pub returns-in-None : goal.returns-in-None
returns-in-None c = λ items none. hull_one items c.args.item.now (subst (λ (o : Option Box3). IsHullOf items o) c.in-None.is none)

pub returns-in-Some : goal.returns-in-Some
returns-in-Some c = λ items known. hull_more items c.args.item.now (grid_box c.in-Some.so_far) (grid_box c.hull.result) (subst (λ (o : Option Box3). IsHullOf items o) c.in-Some.is known) c.hull.ensures.first c.hull.ensures.second c.hull.ensures.least
