use Rattle.std.proofs.Common.{arith}
use Rattle.std.proofs.lemmas.Int.{ints}
use Rattle.grid_model.specs.Boxes.{grid_box, side_at}
use Rattle.grid_model.proofs.AmountLemmas.{above_is}
use Rattle.grid_model.proofs.boxes.Box3.length_on.Goals as goal

pub returns-clause-value : goal.returns-clause-value
returns-clause-value c =
    omega (arith, ints, above_is (side_at c.args.axis (grid_box c.args.self.now)).hi (side_at c.args.axis (grid_box c.args.self.now)).lo)
