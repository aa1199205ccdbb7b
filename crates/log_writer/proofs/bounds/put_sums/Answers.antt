use Rattle.std.proofs.Common.{◌≡◌, [], ◌∷◌, ◌∙◌, map, subst, List}
use Rattle.std.proofs.lemmas.Result.{err_from_is_err_and}
use Rattle.log_lines.specs.declared.line.LogLine.{LogLine}
use Rattle.log_lines.specs.declared.line.LogLine.TheVariants as line
use Rattle.log_lines.specs.Lines.{text_of}
use Rattle.log_writer.specs.Pieces.{alone}
use Rattle.log_writer.specs.Writing.{Went}
use Rattle.log_writer.proofs.FaultLemmas.{trusts_none, trusts_more}
use Rattle.log_writer.proofs.LinesPut.{map_at, all_taken}
use Rattle.log_writer.proofs.SatLemmas.{IsItemAt, items_ended, items_more}
use Rattle.log_writer.proofs.WritingLemmas.{went_none}
use Rattle.log_writer.proofs.bounds.put_sums.Goals as goal

pub loop-sum-init : goal.loop-sum-init
loop-sum-init g c = record { went = went_none _; trust = trusts_none _ _ }

pub returns-in_err-put-clause-written : goal.returns-in_err-put-clause-written
returns-in_err-put-clause-written g c =
    let p = err_from_is_err_and c.from_residual.result c.from_residual.ensures.1 in
    let at : IsItemAt c.args.sums.now c.loop-sum.sum-index c.sum-item.result = record { within = c.loop-sum-test.true; is = c.sum-item.is } in
    let bytes : c.as_bytes.result.now ≡ text_of (line.By c.sum-item.result ∷ []) = c.as_bytes.ensures.value ∙ c.deref.ensures.0 ∙ c.sum_line-line.ensures in
    rw (p.1, p.2) (items_ended alone _ _ _ (map line.By c.args.sums.now) c.loop-sum.sum-index (line.By c.sum-item.result) _ (map_at line.By _ _ _ at) c.loop-sum.invariant.went (rw bytes at c.in_err-put.ensures.written))

pub returns-in_err-put-clause-trust : goal.returns-in_err-put-clause-trust
returns-in_err-put-clause-trust g c =
    let p = err_from_is_err_and c.from_residual.result c.from_residual.ensures.1 in
    rw (p.1, p.2) (trusts_more _ _ _ _ _ c.loop-sum.invariant.trust c.in_err-put.ensures.trust)

pub loop-sum-preserved : goal.loop-sum-preserved
loop-sum-preserved g c =
    let h = c.in_ok-put.ensures in
    let i = c.loop-sum.invariant in
    let at : IsItemAt c.args.sums.now c.loop-sum.sum-index c.sum-item.result = record { within = c.loop-sum-test.true; is = c.sum-item.is } in
    let bytes : c.as_bytes.result.now ≡ text_of (line.By c.sum-item.result ∷ []) = c.as_bytes.ensures.value ∙ c.deref.ensures.0 ∙ c.sum_line-line.ensures in
    record {
      went = items_more alone _ _ _ (map line.By c.args.sums.now) c.loop-sum.sum-index (line.By c.sum-item.result) (map_at line.By _ _ _ at) i.went (rw bytes at h.written);
      trust = trusts_more _ _ _ _ _ i.trust h.trust;
    }

pub returns-clause-written : goal.returns-clause-written
returns-clause-written g c =
    subst (λ (ls : List LogLine). Went (g.P.Pen.seen c.args.pen.now) (map alone ls) (g.P.Pen.seen c.loop-sum.pen)) (all_taken line.By c.args.sums.now c.loop-sum.sum-index c.loop-sum-test.false) c.loop-sum.invariant.went
