use Rattle.relaxed_meet.proofs.BetweenLemmas.{AreExtremes, none_or_some, tested_none}
use Rattle.relaxed_meet.proofs.deciding.Deciding.test.Goals as goal

pub returns : goal.returns
returns c =
    let e : AreExtremes c.args.spans.now c.args.need c.extremes.new.lows.items c.extremes.new.highs.items = record {
      some = c.requires.0;
      enough = c.requires.1;
      keeps_lows = c.extremes.ensures.lows;
      keeps_highs = c.extremes.ensures.highs;
    } in
    let found = none_or_some c.args.spans.now c.args.need _ _ c.least_between.result e (rw (c.deref.ensures.0, c.deref-2.ensures.0) at c.least_between.ensures) in
    tested_none c.least_between.result c.is_none-is_empty.result c.is_none-is_empty.ensures found
