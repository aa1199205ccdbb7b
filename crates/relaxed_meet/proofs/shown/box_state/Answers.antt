use Rattle.std.proofs.Common.{◌≡◌, ◌++◌, ◌∷◌, [], arith, ap, map, length, refl, to_z, of_z, w64}
use Rattle.std.proofs.lemmas.Int.{ints}
use Rattle.std.specs.Prelude.{ℤ}
use Rattle.grid_model.specs.Boxes.{grid_box}
use Rattle.sat_model.specs.ClockSpans.{clock_ends, clock_spans, inner_ends, inner_spans}
use Rattle.sat_model.specs.Relaxed.{ends}
use Rattle.relaxed_meet.proofs.InnerLemmas.{held, held_pushed, held_skipped, held_all, none_inner, least_inner}
use Rattle.relaxed_meet.proofs.SpanLemmas.{pushed_ends, all_ends}
use Rattle.relaxed_meet.proofs.shown.box_state.Goals as goal
use Rattle.relaxed_meet.proofs.shown.box_state.Goals.{in-Some, in-None}

pub loop-row-preserved : goal.loop-row-preserved
loop-row-preserved c =
    let spans = pushed_ends (clock_ends (grid_box c.args.part.now)) c.args.rows.now _ _ _ _ _ c.loop-row-test.true c.row-item.is
    c.loop-row.invariant.spans c.push.ensures.items c.clock_spans-everywhere.ensures.clock in
    elim c.match-everywhere.branch [
      | in-Some w ↦
          let now : c.match-everywhere.inner.items ≡ c.loop-row.inner.items ++ w.in-Some.span ∷ [] = cc in record {
            spans = spans;
            count = omega (arith, c.push.ensures.len);
            held = λ b. held_pushed (inner_ends (grid_box c.args.part.now)) c.args.rows.now _ _ c.loop-row.inner.items _ _ b c.loop-row-test.true c.row-item.is
                (c.loop-row.invariant.held b) now (rw w.in-Some.is at c.clock_spans-everywhere.ensures.some);
            inner_count = omega (arith, w.push-in-Some.ensures.len, ap (λ v. length v.items) w.inner-is);
          }
      | in-None w ↦ record {
        spans = spans;
        count = omega (arith, c.push.ensures.len);
        held = λ b. held_skipped (inner_ends (grid_box c.args.part.now)) c.args.rows.now _ _ c.loop-row.inner.items _ b c.loop-row-test.true c.row-item.is
            (c.loop-row.invariant.held b) (ap (λ v. v.items) w.inner-is) (c.clock_spans-everywhere.ensures.none (rw w.in-None.is refl));
        inner_count = omega (arith, ap (λ v. length v.items) w.inner-is);
      }
    ]

pub returns-in_default : goal.returns-in_default
returns-in_default c =
    let all : map ends c.deref.result.now ≡ clock_spans (grid_box c.args.part.now) c.args.rows.now =
    rw c.deref.ensures.0 (all_ends (clock_ends (grid_box c.args.part.now)) _ _ _ c.loop-row-test.false c.loop-row.invariant.spans) in
    rw all at (c.relaxed_with_middle-hull.ensures.none.0 (rw c.in_default.is refl))

pub returns-in-Some-least_number : goal.returns-in-Some-least_number
returns-in-Some-least_number c =
    let all : map ends c.deref.result.now ≡ clock_spans (grid_box c.args.part.now) c.args.rows.now =
    rw c.deref.ensures.0 (all_ends (clock_ends (grid_box c.args.part.now)) _ _ _ c.loop-row-test.false c.loop-row.invariant.spans) in
    let inside : (b : ℤ) → held b (map ends c.deref-2.result.now) ≡ held b (inner_spans (grid_box c.args.part.now) c.args.rows.now) =
    rw c.deref-2.ensures.0 (held_all (inner_ends (grid_box c.args.part.now)) c.args.rows.now c.loop-row.row-index c.loop-row.inner.items c.loop-row-test.false c.loop-row.invariant.held) in
    let same : to_z w64 (of_z w64 c.in-Some-least_number.clock) ≡ c.in-Some-least_number.clock = omega (arith, ints) in
    let hull = rw (all, c.in-Some-hull.is) at c.relaxed_with_middle-hull.ensures in
    let least = least_inner c.args.rows.now (grid_box c.args.part.now) c.args.q _ c.deref-2.result.now c.least_number.result (omega (arith, c.from.ensures)) inside c.least_number.ensures in
    (λ e. let no = hull.none.1 e in absurd cc, rw same (rw c.in-Some-least_number.is at least), hull.some)

pub returns-in-None-least_number : goal.returns-in-None-least_number
returns-in-None-least_number c =
    let all : map ends c.deref.result.now ≡ clock_spans (grid_box c.args.part.now) c.args.rows.now =
    rw c.deref.ensures.0 (all_ends (clock_ends (grid_box c.args.part.now)) _ _ _ c.loop-row-test.false c.loop-row.invariant.spans) in
    let inside : (b : ℤ) → held b (map ends c.deref-2.result.now) ≡ held b (inner_spans (grid_box c.args.part.now) c.args.rows.now) =
    rw c.deref-2.ensures.0 (held_all (inner_ends (grid_box c.args.part.now)) c.args.rows.now c.loop-row.row-index c.loop-row.inner.items c.loop-row-test.false c.loop-row.invariant.held) in
    let hull = rw (all, c.in-Some-hull.is) at c.relaxed_with_middle-hull.ensures in (
      λ e. let no = hull.none.1 e in absurd cc,
      none_inner c.args.rows.now (grid_box c.args.part.now) c.args.q _ c.deref-2.result.now c.least_number.result (omega (arith, c.from.ensures)) inside c.least_number.ensures
          (rw c.in-None-least_number.is refl),
      hull.some,
    )
