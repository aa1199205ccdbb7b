use Rattle.std.proofs.Common.{ap, arith, count_by, List}
use Rattle.std.proofs.lemmas.List.Sums.{count_by-le-length}
use Rattle.step_lines.specs.Steps.{steps_of}
use Rattle.paving_log.proofs.EventLemmas.{lines_of_events, steps_in_events, steps_le_lines}
use Rattle.paving_log.specs.Renewing.{events_from}
use Rattle.paving_log.specs.Values.{block_of, body_value}
use Rattle.sat_model.specs.declared.steps.Step.{Step}
use Rattle.cover_run.proofs.TotalLemmas.{count_is}
use Rattle.cover_run.specs.Making.{is_of}
use Rattle.cover_run.proofs.totals.counted_in.Goals as goal

pub returns-in-Some-clause-value : goal.returns-in-Some-clause-value
returns-in-Some-clause-value c rules h =
    let epoch = block_of c.args.epoch.now in
    let body = c.in-Some.body in
    let passes = rw c.in-Some.is at h in
    let same = ap (λ (steps : List Step). count_by (is_of c.args.kind) steps)
    (steps_in_events 0 (steps_of body.steps) body.renewals.items) in
    rw c.in-Some.is (omega (
      arith,
      c.counted_steps.ensures,
      same,
      count_is c.args.kind rules epoch (body_value body) passes,
    ))

pub returns-in-Some-clause-bound : goal.returns-in-Some-clause-bound
returns-in-Some-clause-bound c =
    let body = c.in-Some.body in
    let steps = steps_of body.steps in
    rw c.in-Some.is (omega (
      arith,
      c.counted_steps.ensures,
      count_by-le-length (is_of c.args.kind) steps,
      steps_le_lines steps body.renewals.items,
      lines_of_events (events_from 0 steps body.renewals.items),
    ))
