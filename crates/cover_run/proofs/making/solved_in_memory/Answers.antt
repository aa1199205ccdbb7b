use Rattle.std.proofs.Common.{◌∙◌, [], ap, arith, inr, length, refl, subst, sym}
use Rattle.outer_io.specs.Store.{listed}
use Rattle.log_lines.specs.Text.{IsLogText}
use Rattle.cover_run.proofs.MakingLemmas.{file_is, file_there, holds_log, is_full, solved_as}
use Rattle.cover_run.proofs.making.solved_in_memory.Goals as goal

pub returns-in-LogFull-clause-cut_off : goal.returns-in-LogFull-clause-cut_off
returns-in-LogFull-clause-cut_off c =
    inr (
      refl,
      is_full c.args.limits.now.log _ c.args.inputs.now _ _ _
          (rw c.all-all.ensures at (rw c.in-LogFull.is at c.write_solution.ensures)),
    )

pub read_faultless-requires-clause-short : goal.read_faultless-requires-clause-short
read_faultless-requires-clause-short c =
    let h = holds_log c.args.limits.now.log _ c.args.inputs.now _ _ _ (listed []) c.in-Ok.ensures
    (rw c.all-all.ensures at (rw c.in-Done.is at c.write_solution.ensures)) in
    let same = file_is _ _ _ _ h c.in-Some.bytes.now (rw c.in-Some.is at c.file.ensures)
    ∙ sym c.in-Ok-from_slice.ensures.items in
    omega (arith, ap length same, h.solved.whole.fits, c.args.limits.now.log_within)

pub read_faultless-requires-clause-faultless : goal.read_faultless-requires-clause-faultless
read_faultless-requires-clause-faultless c =
    let h = holds_log c.args.limits.now.log _ c.args.inputs.now _ _ _ (listed []) c.in-Ok.ensures
    (rw c.all-all.ensures at (rw c.in-Done.is at c.write_solution.ensures)) in
    let same = file_is _ _ _ _ h c.in-Some.bytes.now (rw c.in-Some.is at c.file.ensures)
    ∙ sym c.in-Ok-from_slice.ensures.items in
    (h.solved.whole.log, subst (IsLogText h.solved.whole.log) same h.solved.whole.text)

pub unreachable-requires : goal.unreachable-requires
unreachable-requires c =
    let h = holds_log c.args.limits.now.log _ c.args.inputs.now _ _ _ (listed []) c.in-Ok.ensures
    (rw c.all-all.ensures at (rw c.in-Done.is at c.write_solution.ensures)) in
    file_there _ _ _ _ h (rw c.in_default-file.is at c.file.ensures)

pub returns-clause-log : goal.returns-clause-log
returns-clause-log c =
    let h = holds_log c.args.limits.now.log _ c.args.inputs.now _ _ _ (listed []) c.in-Ok.ensures
    (rw c.all-all.ensures at (rw c.in-Done.is at c.write_solution.ensures)) in
    let same = file_is _ _ _ _ h c.in-Some.bytes.now (rw c.in-Some.is at c.file.ensures)
    ∙ sym c.in-Ok-from_slice.ensures.items in
    solved_as _ _ _ _ h c.read_faultless.result (c.read_faultless.ensures.value h.solved.whole.log
    (subst (IsLogText h.solved.whole.log) same h.solved.whole.text))
