use Rattle.std.proofs.Common.{◌≡◌, arith, refl, Bool, true, false, Option, None, Some, is_some, ◌+◌, length, take}
use Rattle.std.proofs.lemmas.Int.{ints}
use Rattle.std.proofs.lemmas.List.{length-map}
use Rattle.std.proofs.lemmas.Grind.{common_steps}
use Rattle.grid_model.specs.Boxes.{grid_box}
use Rattle.sat_model.specs.ClockSpans.{clock_ends, clock_spans}
use Rattle.relaxed_meet.proofs.SomeLemmas.{none_of_some, pass_item, take_item, empty_by_some}
use Rattle.relaxed_meet.proofs.deciding.Deciding.some_show_empty.Goals.{then-left-eq1, else-left-eq1}
use Rattle.relaxed_meet.proofs.deciding.Deciding.some_show_empty.Goals as goal

pub loop-row-init : goal.loop-row-init
loop-row-init c = record {
  most = omega (arith, c.from-most.ensures);
  read = rw (c.new-lows.ensures, c.new-highs.ensures) (none_of_some (c.from-most.result + 1));
}

pub loop-row-preserved : goal.loop-row-preserved
loop-row-preserved c = record {
  most = c.loop-row.invariant.most;
  read = elim c.if-left-eq1.branch [
    | then-left-eq1 w ↦ rw (w.lows-is, w.highs-is)
        (take_item (clock_ends (grid_box c.args.part.now)) c.args.rows.now _ _ w.clock_span-span.result _ _ _ _ _ _ _ c.loop-row-test.true c.row-item.is w.clock_span-span.ensures
        (omega (arith, ints)) (omega (arith, ints)) c.loop-row.invariant.read
        w.keep.ensures.falling w.keep.ensures.count w.keep.ensures.same_above
        w.keep-then-left-eq1.ensures.falling w.keep-then-left-eq1.ensures.count w.keep-then-left-eq1.ensures.same_above)
    | else-left-eq1 w ↦ rw (w.lows-is, w.highs-is)
        (pass_item (clock_ends (grid_box c.args.part.now)) c.args.rows.now _ c.row-item.result _ _ _ c.loop-row-test.true c.loop-row.invariant.read)
  ];
}

some_not : {X : Type 0} (r : Option X) (b : Bool) → b ≡ is_some r → b ≡ false → r ≡ None
some_not None b e t = refl
some_not (Some x) true e t = absurd (let no = t in cc)
some_not (Some x) false e t = absurd (let no = e in cc)

pub returns : goal.returns
returns c t =
    let rows = c.args.rows.now in
    let all : take c.loop-row.row-index rows ≡ rows = grind (arith, common_steps, c.loop-row-test.false) in
    let most = c.loop-row.invariant.most in
    let read = rw (all, most) at c.loop-row.invariant.read in
    let none = some_not c.least_between.result c.is_some.result c.is_some.ensures c.if-is_some.false in
    let least = rw (c.deref.ensures.0, c.deref-2.ensures.0, none) at c.least_between.ensures in
    let full : length c.loop-row.lows.items ≡ c.args.q + 1 = omega (arith, c.if-len-most.false, c.len.ensures.value, most) in
    let same : length (clock_spans (grid_box c.args.part.now) rows) ≡ length rows = length-map rows (clock_ends (grid_box c.args.part.now)) in
    rw same at (empty_by_some (clock_spans (grid_box c.args.part.now) rows) c.args.q _ _ full read least)
