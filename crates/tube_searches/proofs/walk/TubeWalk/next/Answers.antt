use Rattle.grid_model.specs.Boxes.{grid_box}
use Rattle.tube_searches.specs.Tubes.{tube_value}
use Rattle.tube_searches.proofs.WalkLemmas.{walk_first, walk_epochs, walk_root, walk_part, walk_nothing, walk_sized}
use Rattle.tube_searches.proofs.walk.TubeWalk.next.Goals as goal

pub returns-clause-first : goal.returns-clause-first
returns-clause-first c = walk_first (λ found. found.0.now) (λ found. grid_box found.1) (tube_value c.args.self.now) (tube_value c.next.new.self) c.next.result c.next.ensures

pub returns-clause-root : goal.returns-clause-root
returns-clause-root c = walk_root (λ found. found.0.now) (λ found. grid_box found.1) (tube_value c.args.self.now) (tube_value c.next.new.self) c.next.result c.next.ensures

pub returns-clause-sized : goal.returns-clause-sized
returns-clause-sized c = walk_sized (λ found. found.0.now) (λ found. grid_box found.1) (tube_value c.args.self.now) (tube_value c.next.new.self) c.next.result c.next.ensures

pub returns-clause-all : goal.returns-clause-all
returns-clause-all c = walk_root (λ found. found.0.now) (λ found. grid_box found.1) (tube_value c.args.self.now) (tube_value c.next.new.self) c.next.result c.next.ensures

pub returns-clause-epochs : goal.returns-clause-epochs
returns-clause-epochs c = walk_epochs (λ found. found.0.now) (λ found. grid_box found.1) (tube_value c.args.self.now) (tube_value c.next.new.self) c.next.result c.next.ensures

pub returns-clause-part : goal.returns-clause-part
returns-clause-part c = walk_part (λ found. found.0.now) (λ found. grid_box found.1) (tube_value c.args.self.now) (tube_value c.next.new.self) c.next.result c.next.ensures

pub returns-clause-nothing : goal.returns-clause-nothing
returns-clause-nothing c = walk_nothing (λ found. found.0.now) (λ found. grid_box found.1) (tube_value c.args.self.now) (tube_value c.next.new.self) c.next.result
