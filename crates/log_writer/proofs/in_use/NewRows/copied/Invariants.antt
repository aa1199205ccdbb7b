use Rattle.std.proofs.Common.{◌≡◌, length, take}
use Rattle.log_writer.proofs.in_use.NewRows.copied.Given as goal

abbrev pub invariant-loop-i : goal.invariant-loop-i
invariant-loop-i l = record {
  room : length l.own ≡ 64;
  same : take l.i l.own ≡ take l.i l.rows;
}
