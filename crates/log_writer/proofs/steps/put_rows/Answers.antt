use Rattle.std.proofs.Common.{◌≡◌, [], ◌∷◌, ◌∙◌, map, subst, List}
use Rattle.std.proofs.lemmas.Result.{err_from_is_err_and}
use Rattle.log_lines.specs.declared.line.LogLine.{LogLine}
use Rattle.log_lines.specs.Lines.{text_of}
use Rattle.log_lines.specs.Text.{row_line}
use Rattle.log_writer.specs.Pieces.{piece, alone}
use Rattle.log_writer.specs.Writing.{Went}
use Rattle.log_writer.proofs.FaultLemmas.{trusts_none, trusts_more}
use Rattle.log_writer.proofs.LinesPut.{map_at, all_taken, line_broke}
use Rattle.log_writer.proofs.SatLemmas.{IsItemAt, row_ascii, items_more}
use Rattle.log_writer.proofs.WritingLemmas.{went_none, went_twice, ended_behind}
use Rattle.log_writer.proofs.steps.put_rows.Goals as goal

pub loop-row-init : goal.loop-row-init
loop-row-init g c = record {
  went = λ fit. went_none _;
  some = ([], went_none _);
  trust = trusts_none _ _;
}

pub returns-in_err-put-clause-broke : goal.returns-in_err-put-clause-broke
returns-in_err-put-clause-broke g c =
    let p = err_from_is_err_and c.from_residual.result c.from_residual.ensures.1 in
    let e = c.in_err-put.ensures in
    let at : IsItemAt c.args.rows.now c.loop-row.row-index c.row-item.result = record { within = c.loop-row-test.true; is = c.row-item.is } in
    rw (p.1, p.2) (
      c.loop-row.row-index,
      c.loop-row-test.true,
      λ fit. line_broke _ _ _ (map row_line c.args.rows.now) c.loop-row.row-index (row_line c.row-item.result) _ c.as_bytes.result.now (map_at row_line _ _ _ at) (c.loop-row.invariant.went fit)
          (c.as_bytes.ensures.value ∙ c.deref.ensures.0 ∙ c.sat_line-line.ensures (row_ascii _ _ _ at fit)) e.written e.full,
    )

pub returns-in_err-put-clause-some : goal.returns-in_err-put-clause-some
returns-in_err-put-clause-some g c =
    let p = err_from_is_err_and c.from_residual.result c.from_residual.ensures.1 in
    let some = c.loop-row.invariant.some in
    rw (p.1, p.2) (_, ended_behind _ _ _ some.0 (piece c.as_bytes.result.now [] ∷ []) _ some.1 c.in_err-put.ensures.written)

pub returns-in_err-put-clause-trust : goal.returns-in_err-put-clause-trust
returns-in_err-put-clause-trust g c =
    let p = err_from_is_err_and c.from_residual.result c.from_residual.ensures.1 in
    rw (p.1, p.2) (trusts_more _ _ _ _ _ c.loop-row.invariant.trust c.in_err-put.ensures.trust)

pub loop-row-preserved : goal.loop-row-preserved
loop-row-preserved g c =
    let h = c.in_ok-put.ensures in
    let i = c.loop-row.invariant in
    let at : IsItemAt c.args.rows.now c.loop-row.row-index c.row-item.result = record { within = c.loop-row-test.true; is = c.row-item.is } in
    record {
      went = λ fit. (
          let bytes : c.as_bytes.result.now ≡ text_of (row_line c.row-item.result ∷ [])
          = c.as_bytes.ensures.value ∙ c.deref.ensures.0 ∙ c.sat_line-line.ensures (row_ascii _ _ _ at fit) in
          items_more alone _ _ _ (map row_line c.args.rows.now) c.loop-row.row-index (row_line c.row-item.result) (map_at row_line _ _ _ at) (i.went fit) (rw bytes at h.written)
          );
      some = (_, went_twice _ _ _ i.some.0 (piece c.as_bytes.result.now [] ∷ []) i.some.1 h.written);
      trust = trusts_more _ _ _ _ _ i.trust h.trust;
    }

pub returns-clause-went : goal.returns-clause-went
returns-clause-went g c = λ fit.
    subst (λ (ls : List LogLine). Went (g.P.Pen.seen c.args.pen.now) (map alone ls) (g.P.Pen.seen c.loop-row.pen)) (all_taken row_line c.args.rows.now c.loop-row.row-index c.loop-row-test.false) (c.loop-row.invariant.went fit)
