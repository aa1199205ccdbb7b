use Rattle.std.proofs.Common.{rules, ◌≡◌, List, Some, length, arith, ap, sym, subst, ◌∙◌}
use Rattle.std.specs.Prelude.{slice_get}
use Rattle.std.proofs.lemmas.List.{length-map}
use Rattle.std.proofs.lemmas.Result.{err_from_is_err_and}
use Rattle.grid_model.specs.Boxes.{grid_box}
use Rattle.gnss_model.specs.declared.satellites.Sat.{Sat}
use Rattle.sat_model.specs.declared.rows.Row.{Row}
use Rattle.paving.specs.Standing.{turn_value, Turned}
use Rattle.paving.specs.Turns.{Turn, shown_steps, joined_turns}
use Rattle.paving.proofs.RunEnds.{whole_run, splits_within, broke_in_turn}
use Rattle.paving.proofs.TurnsUnderway.{none_yet, more_turns, room_left}
use Rattle.paving.proofs.run.pave.Goals as goal

pub loop-renewed-init : goal.loop-renewed-init
loop-renewed-init g c =
    let inside : c.default-counts.result.inside ≡ 0 = search rules in
    let edge : c.default-counts.result.edge ≡ 0 = search rules in
    let outside : c.default-counts.result.outside ≡ 0 = search rules in
    let splits : c.default-counts.result.bisections ≡ 0 = search rules in
    let b = c.begin-paving.ensures in
    record {
      underway = none_yet g.L.Steps.took g.L.Steps.took_rows (g.M.Renewals.maker c.args.maker.now) c.args.plan.test c.args.plan.rules (grid_box c.args.plan.root)
          c.args.log.now c.begin-paving.result c.default-counts.result inside edge outside splits b.stands b.rules (ap grid_box b.root) (ap grid_box b.part) b.left;
      faults = omega arith;
    }

pub turn-requires-clause-stands : goal.turn-requires-clause-stands
turn-requires-clause-stands g c = let u = c.loop-renewed.invariant.underway in (u.paving, u.stands)

pub turn-requires-clause-root : goal.turn-requires-clause-root
turn-requires-clause-root g c active = c.requires.root active ∙ sym c.loop-renewed.invariant.underway.root_same

pub turn-requires-clause-sats : goal.turn-requires-clause-sats
turn-requires-clause-sats g c active =
    ap length (c.requires.sats active) ∙ length-map c.args.plan.test.rows (λ (row : Row). row.sat) ∙ sym c.loop-renewed.invariant.underway.rows_same

pub put_turn-requires : goal.put_turn-requires
put_turn-requires g c =
    let u = c.loop-renewed.invariant.underway in
    let t = subst (λ (turn : Turn). Turned (g.M.Renewals.maker c.args.maker.now) c.loop-renewed.paving u.paving turn c.turn.new.self) (sym c.given.ensures) (c.in-Some.ensures.turn u.paving u.stands) in
    let room = room_left g.L.Steps.took g.L.Steps.took_rows (g.M.Renewals.maker c.args.maker.now) c.args.plan.test c.args.plan.rules (grid_box c.args.plan.root)
    c.args.log.now c.loop-renewed.log c.loop-renewed.paving c.turn.new.self c.loop-renewed.counts (turn_value c.given.result) u t c.args.plan.rules.few_bisections in
    record { room = (shown_steps (joined_turns u.turns), u.counted, room) }

pub returns-in_err-put_turn-clause-broken : goal.returns-in_err-put_turn-clause-broken
returns-in_err-put_turn-clause-broken g c =
    let p = err_from_is_err_and c.from_residual.result c.from_residual.ensures.1 in
    let u = c.loop-renewed.invariant.underway in
    let t = subst (λ (turn : Turn). Turned (g.M.Renewals.maker c.args.maker.now) c.loop-renewed.paving u.paving turn c.turn.new.self) (sym c.given.ensures) (c.in-Some.ensures.turn u.paving u.stands) in
    rw (p.1, p.2)
    (broke_in_turn g.L.Steps.took g.L.Steps.broke g.L.Steps.took_rows g.L.Steps.broke_rows g.L.Steps.room c.in_err-put_turn.field-0.0 (g.M.Renewals.maker c.args.maker.now) c.args.plan.test c.args.plan.rules (grid_box c.args.plan.root)
    c.args.log.now c.loop-renewed.log c.put_turn.new.log c.loop-renewed.paving c.turn.new.self c.loop-renewed.counts (turn_value c.given.result) u t c.in_err-put_turn.ensures.broken)

pub loop-renewed-smaller : goal.loop-renewed-smaller
loop-renewed-smaller g c =
    let u = c.loop-renewed.invariant.underway in
    (c.in-Some.ensures.turn u.paving u.stands).fewer

pub loop-renewed-preserved : goal.loop-renewed-preserved
loop-renewed-preserved g c =
    let u = c.loop-renewed.invariant.underway in
    let t = subst (λ (turn : Turn). Turned (g.M.Renewals.maker c.args.maker.now) c.loop-renewed.paving u.paving turn c.turn.new.self) (sym c.given.ensures) (c.in-Some.ensures.turn u.paving u.stands) in
    record {
      underway = more_turns g.L.Steps.took g.L.Steps.took_rows (g.M.Renewals.maker c.args.maker.now) c.args.plan.test c.args.plan.rules (grid_box c.args.plan.root)
          c.args.log.now c.loop-renewed.log c.loop-renewed.paving c.turn.new.self c.loop-renewed.counts (turn_value c.given.result) u t
          c.put_turn.new.log c.put_turn.new.counts c.in_ok-put_turn.ensures.took
          (c.in_ok-put_turn.ensures.counts (shown_steps (joined_turns u.turns)) u.counted);
      faults = omega (arith, c.loop-renewed.invariant.faults, c.in_ok-put_turn.ensures.counted);
    }

pub returns-clause-run : goal.returns-clause-run
returns-clause-run g c =
    let u = c.loop-renewed.invariant.underway in
    whole_run g.L.Steps.took g.L.Steps.took_rows (g.M.Renewals.maker c.args.maker.now) c.args.plan.test c.args.plan.rules (grid_box c.args.plan.root)
    c.args.log.now c.loop-renewed.log c.loop-renewed.paving c.loop-renewed.counts
    (λ active i part row gives. subst (λ (l : List Sat). slice_get l i ≡ Some row.sat) (c.requires.sats active) (g.met.M.Renewals.of_sat c.args.maker.now i part row gives))
    u (c.in_default.ensures.turn u.paving u.stands)

pub returns-clause-budget : goal.returns-clause-budget
returns-clause-budget g c =
    splits_within g.L.Steps.took g.L.Steps.took_rows (g.M.Renewals.maker c.args.maker.now) c.args.plan.test c.args.plan.rules (grid_box c.args.plan.root)
    c.args.log.now c.loop-renewed.log c.loop-renewed.paving c.loop-renewed.counts c.loop-renewed.invariant.underway
