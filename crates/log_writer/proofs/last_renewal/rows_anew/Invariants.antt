use Rattle.std.proofs.Common.{◌≡◌, length, take}
use Rattle.grid_model.specs.Boxes.{grid_box}
use Rattle.paving.specs.Renewing.{GivesFrom}
use Rattle.log_writer.proofs.last_renewal.rows_anew.Given as goal

abbrev pub invariant-loop-i : goal.invariant-loop-i
invariant-loop-i g l = record {
  room : length l.rows ≡ 64;
  gives : GivesFrom (g.M.Renewals.maker l.maker) 0 (grid_box l.part) (take l.i l.rows);
}
