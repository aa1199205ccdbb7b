use Rattle.std.proofs.Common.{map, take}
use Rattle.log_lines.specs.declared.line.LogLine.TheVariants as line
use Rattle.log_writer.specs.Pieces.{alone}
use Rattle.log_writer.specs.Writing.{Went, Trusts, done}
use Rattle.log_writer.proofs.bounds.put_sums.Given as goal

abbrev pub invariant-loop-sum : goal.invariant-loop-sum
invariant-loop-sum g l = record {
  went : Went (g.P.Pen.seen l.fn.pen) (map alone (take l.sum-index (map line.By l.sums))) (g.P.Pen.seen l.pen);
  trust : Trusts (g.P.Pen.trust l.fn.pen) done (g.P.Pen.trust l.pen);
}
