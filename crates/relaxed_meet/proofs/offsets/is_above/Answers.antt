use Rattle.std.proofs.Common.{◌≡◌, ◌*◌, ◌<◌, arith}
use Rattle.std.proofs.lemmas.Int.{ints}
use Rattle.std.proofs.lemmas.Bool.{ltb-true, lt-ltb}
use Rattle.grid_model.specs.Roots.{root}
use Rattle.grid_model.specs.Boxes.{grid_box}
use Rattle.sat_model.specs.ClockSpans.{far_square, far_of}
use Rattle.relaxed_meet.proofs.SquareLemmas.{root_below, square_above}
use Rattle.relaxed_meet.proofs.offsets.is_above.Goals as goal

pub returns : goal.returns
unfolding far_of
returns c =
    let far = far_square c.args.row.now (grid_box c.args.part.now) in
    let reach = c.from-reach.result in
    let same : c.far_square.result ≡ far = c.far_square.ensures.value in (
      λ t. let less : c.far_square.result < reach * reach = ltb-true _ _ t in let below : root far < reach = root_below far reach (omega (arith, less, same)) in omega (arith, ints, below, c.from-reach.ensures),
      λ h. let above : far < reach * reach = square_above far reach (omega (arith, ints, h, c.from-reach.ensures)) in lt-ltb _ _ (omega (arith, above, same)),
    )
