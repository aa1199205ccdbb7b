use Rattle.std.proofs.Common.{◌≡◌, ℕ, [], ◌∷◌, ◌∙◌, ap, length, map}
use Rattle.std.proofs.lemmas.Result.{err_from_is_err_and}
use Rattle.log_lines.specs.declared.line.LogLine.TheVariants as line
use Rattle.log_lines.specs.Lines.{text_of}
use Rattle.log_writer.specs.Pieces.{alone}
use Rattle.log_writer.proofs.WritingLemmas.{ended_before, written_behind}
use Rattle.log_writer.proofs.bounds.put_bound.Goals as goal

pub returns-in_err-put-clause-written : goal.returns-in_err-put-clause-written
returns-in_err-put-clause-written g c =
    let p = err_from_is_err_and c.from_residual.result c.from_residual.ensures.1 in
    let bound = c.args.bound.now in
    let first = line.Bound bound.half (length bound.sums.items) in
    let bytes : c.as_bytes.result.now ≡ text_of (first ∷ []) = c.as_bytes.ensures.value ∙ c.deref.ensures.0 ∙ c.bound_line-first.ensures ∙ ap (λ (n : ℕ). text_of (line.Bound bound.half n ∷ [])) c.len.ensures.value in
    rw (p.1, p.2) (ended_before _ _ (alone first ∷ []) (map alone (map line.By bound.sums.items)) _ (rw bytes at c.in_err-put.ensures.written))

pub returns-clause-written : goal.returns-clause-written
returns-clause-written g c =
    let bound = c.args.bound.now in
    let first = line.Bound bound.half (length bound.sums.items) in
    let bytes : c.as_bytes.result.now ≡ text_of (first ∷ []) = c.as_bytes.ensures.value ∙ c.deref.ensures.0 ∙ c.bound_line-first.ensures ∙ ap (λ (n : ℕ). text_of (line.Bound bound.half n ∷ [])) c.len.ensures.value in
    written_behind _ _ _ (alone first ∷ []) (map alone (map line.By bound.sums.items)) c.put_sums.result (rw bytes at c.in_ok-put.ensures.written) (rw c.deref-2.ensures.0 at c.put_sums.ensures.written)
