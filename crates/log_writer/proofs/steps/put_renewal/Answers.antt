use Rattle.std.proofs.Common.{◌≡◌, ◌+◌, [], ◌∷◌, ◌∙◌, map, arith}
use Rattle.std.proofs.lemmas.Result.{err_from_is_err_and, on_ok_weaker, IfErr-weaker}
use Rattle.grid_model.specs.Boxes.{grid_box}
use Rattle.log_lines.specs.declared.line.LogLine.TheVariants as line
use Rattle.log_lines.specs.Lines.{text_of}
use Rattle.log_lines.specs.Rows.{corners_of}
use Rattle.log_lines.specs.Text.{row_line}
use Rattle.log_writer.specs.Pieces.{piece, alone}
use Rattle.log_writer.proofs.LinesPut.{first_broke, later_broke}
use Rattle.log_writer.proofs.WritingLemmas.{went_twice, written_behind}
use Rattle.log_writer.proofs.steps.put_renewal.Goals as goal

pub returns-in_err-put-clause-broke : goal.returns-in_err-put-clause-broke
returns-in_err-put-clause-broke g c =
    let p = err_from_is_err_and c.from_residual.result c.from_residual.ensures.1 in
    let e = c.in_err-put.ensures in
    rw (p.1, p.2) (
      0,
      omega arith,
      λ fit. first_broke _ _ (line.Renew (corners_of (grid_box c.args.part.now))) (map row_line c.args.rows.now) _ c.as_bytes.result.now
          (c.as_bytes.ensures.value ∙ c.deref.ensures.0 ∙ c.renew_line-first.ensures) e.written e.full,
    )

pub returns-in_err-put-clause-some : goal.returns-in_err-put-clause-some
returns-in_err-put-clause-some g c =
    let p = err_from_is_err_and c.from_residual.result c.from_residual.ensures.1 in
    rw (p.1, p.2) (piece c.as_bytes.result.now [] ∷ [], c.in_err-put.ensures.written)

pub returns-clause-went : goal.returns-clause-went
returns-clause-went g c =
    let first = line.Renew (corners_of (grid_box c.args.part.now)) in
    let bytes : c.as_bytes.result.now ≡ text_of (first ∷ []) = c.as_bytes.ensures.value ∙ c.deref.ensures.0 ∙ c.renew_line-first.ensures in
    on_ok_weaker c.put_rows.result (λ went fit. went_twice _ _ _ (alone first ∷ []) (map alone (map row_line c.args.rows.now)) (rw bytes at c.in_ok-put.ensures.written) (went fit)) c.put_rows.ensures.went

pub returns-clause-broke : goal.returns-clause-broke
returns-clause-broke g c =
    let first = line.Renew (corners_of (grid_box c.args.part.now)) in
    let bytes : c.as_bytes.result.now ≡ text_of (first ∷ []) = c.as_bytes.ensures.value ∙ c.deref.ensures.0 ∙ c.renew_line-first.ensures in
    IfErr-weaker c.put_rows.result _ _
    (λ fault broke. (broke.0 + 1, omega (arith, broke.1), λ fit. later_broke _ _ _ first (map row_line c.args.rows.now) broke.0 fault (rw bytes at c.in_ok-put.ensures.written) (broke.2 fit)))
    c.put_rows.ensures.broke

pub returns-clause-some : goal.returns-clause-some
returns-clause-some g c =
    let some = c.put_rows.ensures.some in
    (_, written_behind _ _ _ (piece c.as_bytes.result.now [] ∷ []) some.0 c.put_rows.result c.in_ok-put.ensures.written some.1)
