use Rattle.std.proofs.Common.{◌≡◌, ◌++◌, ◌∷◌, [], arith, ap, map, length, refl}
use Rattle.std.specs.Prelude.{ℤ}
use Rattle.grid_model.specs.Boxes.{grid_box}
use Rattle.sat_model.specs.ClockSpans.{inner_ends, inner_spans}
use Rattle.sat_model.specs.Relaxed.{ends}
use Rattle.relaxed_meet.proofs.InnerLemmas.{held, held_pushed, held_skipped, held_all, none_inner, least_inner}
use Rattle.relaxed_meet.proofs.shown.shown_inner.Goals as goal
use Rattle.relaxed_meet.proofs.shown.shown_inner.Goals.{in-Some, in-None}

pub loop-row-preserved : goal.loop-row-preserved
loop-row-preserved c = elim c.match-inner_span.branch [
  | in-Some w ↦
      let now : c.match-inner_span.spans.items ≡ c.loop-row.spans.items ++ w.in-Some.span ∷ [] = cc in record {
        held = λ b. held_pushed (inner_ends (grid_box c.args.part.now)) c.args.rows.now _ _ c.loop-row.spans.items _ _ b c.loop-row-test.true c.row-item.is
            (c.loop-row.invariant.held b) now w.in-Some.ensures.some;
        count = omega (arith, w.push.ensures.len, ap (λ v. length v.items) w.spans-is);
      }
  | in-None w ↦ record {
    held = λ b. held_skipped (inner_ends (grid_box c.args.part.now)) c.args.rows.now _ _ c.loop-row.spans.items _ b c.loop-row-test.true c.row-item.is
        (c.loop-row.invariant.held b) (ap (λ v. v.items) w.spans-is) (w.in-None.ensures.none refl);
    count = omega (arith, ap (λ v. length v.items) w.spans-is);
  }
]

pub returns-clause-none : goal.returns-clause-none
returns-clause-none c = λ e.
    let all : (b : ℤ) → held b (map ends c.deref.result.now) ≡ held b (inner_spans (grid_box c.args.part.now) c.args.rows.now) =
    rw c.deref.ensures.0 (held_all (inner_ends (grid_box c.args.part.now)) c.args.rows.now c.loop-row.row-index c.loop-row.spans.items c.loop-row-test.false c.loop-row.invariant.held) in
    none_inner c.args.rows.now (grid_box c.args.part.now) c.args.q _ c.deref.result.now c.least_number.result (omega (arith, c.from.ensures)) all
    c.least_number.ensures e

pub returns-clause-some : goal.returns-clause-some
returns-clause-some c =
    let all : (b : ℤ) → held b (map ends c.deref.result.now) ≡ held b (inner_spans (grid_box c.args.part.now) c.args.rows.now) =
    rw c.deref.ensures.0 (held_all (inner_ends (grid_box c.args.part.now)) c.args.rows.now c.loop-row.row-index c.loop-row.spans.items c.loop-row-test.false c.loop-row.invariant.held) in
    least_inner c.args.rows.now (grid_box c.args.part.now) c.args.q _ c.deref.result.now c.least_number.result (omega (arith, c.from.ensures)) all c.least_number.ensures
