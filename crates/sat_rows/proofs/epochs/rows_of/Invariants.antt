use Rattle.std.proofs.Common.{◌≡◌, ◌≤◌, drop}
use Rattle.grid_model.specs.Boxes.{grid_box}
use Rattle.sat_rows.specs.OwnRows.{AreSmall, usable_in}
use Rattle.sat_rows.proofs.RowLemmas.{AreSoFar, BasesSoFar}
use Rattle.sat_rows.proofs.epochs.rows_of.Given as goal

abbrev pub invariant-loop-seen : goal.invariant-loop-seen
invariant-loop-seen g l = record {
  lines : AreSoFar (g.S.SatBases.meaning l.source) (grid_box l.root) l.epoch.tag l.epoch.sats.items
      (drop l.seen-index l.seen-items) l.lines.items;
  bases : BasesSoFar (g.S.SatBases.meaning l.source) (grid_box l.root) l.epoch.tag l.epoch.sats.items
      (drop l.seen-index l.seen-items) l.lines.items l.bases.items;
  small : AreSmall l.lines.items;
  usable : l.usable ≡ usable_in l.lines.items;
  few : l.usable ≤ l.seen-index;
}
