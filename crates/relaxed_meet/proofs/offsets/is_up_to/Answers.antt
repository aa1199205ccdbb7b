use Rattle.std.proofs.Common.{◌≡◌, ◌*◌, ◌≤◌, arith}
use Rattle.std.proofs.lemmas.Int.{ints}
use Rattle.std.proofs.lemmas.Bool.{leb-true, le-leb}
use Rattle.grid_model.specs.Roots.{root}
use Rattle.grid_model.specs.Boxes.{grid_box}
use Rattle.sat_model.specs.ClockSpans.{near_square, near_of}
use Rattle.relaxed_meet.proofs.SquareLemmas.{square_up_to}
use Rattle.relaxed_meet.proofs.offsets.is_up_to.Goals as goal
use Rattle.grid_model.proofs.RootLemmas.{root_least as root_from}

pub returns : goal.returns
unfolding near_of
returns c =
    let near = near_square c.args.row.now (grid_box c.args.part.now) in
    let reach = c.from-reach.result in
    let same : c.near_square.result ≡ near = c.near_square.ensures.value in (
      λ t. let most : reach * reach ≤ c.near_square.result = leb-true _ _ t in let from : reach ≤ root near = root_from near reach (omega (arith, most, same)) in omega (arith, ints, from, c.from-reach.ensures),
      λ h. let to : reach * reach ≤ near = square_up_to near reach (omega (arith, ints, h, c.from-reach.ensures)) in le-leb _ _ (omega (arith, to, same)),
    )
