use Rattle.std.proofs.Common.{List, map, subst}
use Rattle.grid_model.specs.Boxes.{grid_box}
use Rattle.sat_model.specs.Events.{rows_over}
use Rattle.sat_model.specs.declared.rows.Row.{Row}
use Rattle.box_contraction.specs.Adding.{step_value}
use Rattle.paving.specs.InUse.{used_of}
use Rattle.paving.proofs.TakingLemmas.{took_plain, took_renewed}
use Rattle.paving.proofs.put_turn.put_turn.Goals as goal

pub returns-in_ok-renew-clause-took : goal.returns-in_ok-renew-clause-took
returns-in_ok-renew-clause-took g c =
    let in_use = c.in-Some.in_use.now in
    let rows : g.L.Steps.took_rows c.put_steps.new.log (used_of in_use) c.renew.new.self
    = subst (λ (l : List Row). g.L.Steps.took_rows c.put_steps.new.log (rows_over (grid_box in_use.part) l) c.renew.new.self) c.deref.ensures.value c.in_ok-renew.ensures.took in
    rw c.in-Some.is (took_renewed g.L.Steps.took g.L.Steps.took_rows (map step_value c.args.turn.now.steps.now) (used_of in_use) c.args.log.now c.put_steps.new.log c.renew.new.self c.in_ok-put_steps.ensures.took rows)

pub returns-in_default-clause-took : goal.returns-in_default-clause-took
returns-in_default-clause-took g c =
    rw c.in_default.is (took_plain g.L.Steps.took g.L.Steps.took_rows (map step_value c.args.turn.now.steps.now) c.args.log.now c.put_steps.new.log c.in_ok-put_steps.ensures.took)
