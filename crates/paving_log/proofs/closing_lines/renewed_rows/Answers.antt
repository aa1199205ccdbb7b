use Rattle.std.proofs.Common.{◌≡◌, suc, ◌-◌, length, length-append, [], ◌∷◌, ap, ◌∙◌, arith}
use Rattle.sat_model.specs.declared.rows.SatEntry.TheVariants as entry
use Rattle.log_lines.specs.declared.line.LogLine.TheVariants as line
use Rattle.paving_log.proofs.BlockLemmas.{row_taken}
use Rattle.paving_log.proofs.closing_lines.renewed_rows.Goals as goal

pub rows-preserved : goal.rows-preserved
rows-preserved c =
    let row = c.in-Row.row in
    let left = c.rows.left in
    let rows = c.rows.rows.items in
    let less : left ≡ suc (left - 1) = omega (arith, c.rows-test.true) in
    let is : c.in_ok-line.line ≡ line.Sat (entry.Row row) = c.in-Sat.is ∙ ap line.Sat c.in-Row.is in
    let pushed = c.in_ok-push-in-Row.ensures.items in (
      row_taken c.args.may c.args.n left (left - 1) c.args.lines c.rows.behind c.in_ok-line.after rows c.push.new.self.items row c.in_ok-line.line c.in_ok-line.field-0-1
          c.rows.invariant.0 is c.in_ok-line.ensures.taken pushed less,
      omega (arith, ap length pushed, length-append rows (row ∷ []), c.rows.invariant.1, less),
    )
