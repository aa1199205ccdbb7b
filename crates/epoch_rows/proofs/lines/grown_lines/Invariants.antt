use Rattle.std.proofs.Common.{drop}
use Rattle.std.specs.Prelude.{pos}
use Rattle.grid_model.specs.Boxes.{grid_box}
use Rattle.grid_model.specs.Lengths.{spare_of}
use Rattle.gnss_model.specs.Delays.{err_spare_of}
use Rattle.sat_rows.specs.OwnRows.{AreSmall}
use Rattle.epoch_rows.proofs.LineLemmas.{GrowOn}
use Rattle.epoch_rows.proofs.lines.grown_lines.Given as goal

abbrev pub invariant-loop-line : goal.invariant-loop-line
invariant-loop-line l = record {
  grown : GrowOn (pos (spare_of (grid_box l.root))) (pos (err_spare_of (grid_box l.root) l.delays)) l.lines l.line-index l.sats.items;
  small : AreSmall (drop l.line-index l.lines);
}
