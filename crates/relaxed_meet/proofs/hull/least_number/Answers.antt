use Rattle.std.proofs.Common.{arith}
use Rattle.relaxed_meet.proofs.BetweenLemmas.{least_in_relaxed, too_few}
use Rattle.relaxed_meet.proofs.hull.least_number.Goals as goal

pub returns-then-spans-need : goal.returns-then-spans-need
returns-then-spans-need c = too_few c.args.spans.now c.args.need c.if-spans-need.true

pub returns : goal.returns
returns c =
    least_in_relaxed c.args.spans.now c.args.need _ _ _ (record {
      some = omega (arith, c.requires);
      enough = c.if-spans-need.false;
      keeps_lows = c.extremes.ensures.lows;
      keeps_highs = c.extremes.ensures.highs;
    }) (rw (c.deref.ensures.0, c.deref-2.ensures.0) at c.least_between.ensures)
