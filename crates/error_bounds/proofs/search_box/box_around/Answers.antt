use Rattle.std.proofs.Common.{arith}
use Rattle.std.proofs.lemmas.Int.{ints}
use Rattle.error_bounds.proofs.SettingsLemmas.{same_box, box_searched}
use Rattle.error_bounds.proofs.search_box.box_around.Goals as goal

pub returns-clause-value : goal.returns-clause-value
returns-clause-value c = same_box _ _ _ _ _ _ _ _ _ _ _ _
    (omega (arith, ints, c.side_around-x.ensures.lo)) (omega (arith, ints, c.side_around-x.ensures.hi))
    (omega (arith, ints, c.side_around-y.ensures.lo)) (omega (arith, ints, c.side_around-y.ensures.hi))
    (omega (arith, ints, c.side_around-z.ensures.lo)) (omega (arith, ints, c.side_around-z.ensures.hi))

pub returns-clause-search_box : goal.returns-clause-search_box
returns-clause-search_box c = rw (returns-clause-value c) (box_searched c.args.centre c.args.half c.requires.near c.requires.half_within)
