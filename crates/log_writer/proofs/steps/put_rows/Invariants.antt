use Rattle.std.proofs.Common.{List, map, take}
use Rattle.std.specs.List.{AllByRecursion}
use Rattle.log_writer.specs.Pieces.{Piece, alone}
use Rattle.log_writer.specs.Writing.{Went, Trusts, done}
use Rattle.log_lines.specs.Rows.{RowFits}
use Rattle.log_lines.specs.Text.{row_line}
use Rattle.log_writer.proofs.steps.put_rows.Given as goal

abbrev pub invariant-loop-row : goal.invariant-loop-row
invariant-loop-row g l = record {
  went : AllByRecursion RowFits l.rows
      → Went (g.P.Pen.seen l.fn.pen) (map alone (take l.row-index (map row_line l.rows))) (g.P.Pen.seen l.pen);
  some : (pieces : List Piece) × Went (g.P.Pen.seen l.fn.pen) pieces (g.P.Pen.seen l.pen);
  trust : Trusts (g.P.Pen.trust l.fn.pen) done (g.P.Pen.trust l.pen);
}
