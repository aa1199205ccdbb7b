use Rattle.std.proofs.Common.{◌≡◌, [], ◌∷◌, ◌∙◌}
use Rattle.log_lines.specs.declared.line.LogLine.TheVariants as line
use Rattle.log_lines.specs.Lines.{text_of}
use Rattle.epoch_report.specs.ReportLines.{total_text_of}
use Rattle.log_writer.proofs.closing.put_done.Goals as goal

pub returns-clause-written : goal.returns-clause-written
returns-clause-written g c =
    let last : c.as_bytes.result.now ≡ text_of (line.Done c.args.counts.now.bisections ∷ []) = c.as_bytes.ensures.value ∙ c.deref.ensures.0 ∙ c.done_line-last.ensures in
    let total : c.as_bytes-2.result.now ≡ total_text_of c.args.counts.now = c.as_bytes-2.ensures.value ∙ c.deref-2.ensures.0 ∙ c.total_text-total.ensures in
    rw (last, total) at c.put.ensures.written
