use Rattle.std.proofs.Common.{◌<◌, arith, length}
use Rattle.std.proofs.lemmas.List.{length-map}
use Rattle.sat_rows.specs.declared.bases.Base.{Base}
use Rattle.grid_model.specs.Boxes.{grid_box}
use Rattle.sat_rows.proofs.PartLemmas.{part_search, part_high}
use Rattle.paving_log_check.proofs.RenewalLemmas.{lies_in_root}
use Rattle.epoch_rows.proofs.BaseLemmas.{base_at}
use Rattle.epoch_rows.proofs.PlaceLemmas.{each_at}
use Rattle.epoch_rows.proofs.maker.RowMakerRenewals.row.Goals as goal

pub renewed-own-requires-clause-part : goal.renewed-own-requires-clause-part
renewed-own-requires-clause-part c =
    let rows = c.args.self.now in
    part_search (grid_box c.args.part.now) (grid_box rows.root) (lies_in_root c.args.part.now (grid_box rows.root) c.requires.inside) rows.search

pub renewed-own-requires-clause-high : goal.renewed-own-requires-clause-high
renewed-own-requires-clause-high c =
    let rows = c.args.self.now in
    let less : c.args.i < length rows.bases.items = omega (arith, c.if-i-len.false, c.len.ensures) in
    let at = base_at rows.bases.items c.args.i c.index.result.now (omega (arith, less, length-map rows.bases.items (λ (b : Base). b.sat))) c.index.ensures in
    let can = each_at _ rows.bases.items c.args.i c.index.result.now rows.ready at in
    part_high rows.delays (grid_box c.args.part.now) (grid_box rows.root) (lies_in_root c.args.part.now (grid_box rows.root) c.requires.inside) can.high

pub returns-clause-gives : goal.returns-clause-gives
returns-clause-gives c =
    let rows = c.args.self.now in
    let e = c.renewed-own.ensures in
    let less : c.args.i < length rows.bases.items = omega (arith, c.if-i-len.false, c.len.ensures) in
    record {
      base = c.index.result.now;
      is_base = base_at rows.bases.items c.args.i c.index.result.now (omega (arith, less, length-map rows.bases.items (λ (b : Base). b.sat))) c.index.ensures;
      lies = lies_in_root c.args.part.now (grid_box rows.root) c.requires.inside;
      own = c.renewed-own.result;
      sat = e.sat;
      of_base = record { holds = e.holds; x = e.x_tight; y = e.y_tight; z = e.z_tight; range = e.range_tight; bounds = e.bounds_tight; plain = e.plain };
      grown = c.grown_row.ensures;
    }
