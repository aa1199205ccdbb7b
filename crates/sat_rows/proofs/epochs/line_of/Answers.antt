use Rattle.std.proofs.Common.{◌∙◌}
use Rattle.grid_model.specs.Boxes.{grid_box}
use Rattle.sat_rows.proofs.PartLemmas.{own_of_points}
use Rattle.sat_rows.proofs.epochs.line_of.Goals as goal

pub renewed-requires-clause-high : goal.renewed-requires-clause-high
renewed-requires-clause-high g c = rw c.delays.ensures.value c.in-Ok.ensures.base.high

pub returns-in-Ok-clause-own : goal.returns-in-Ok-clause-own
returns-in-Ok-clause-own g c =
    let m = g.S.SatBases.meaning c.args.source.now in
    let base = c.in-Ok.ensures.base in
    let e = c.renewed.ensures in
    let delays = c.delays.ensures.value in
    let root = grid_box c.args.root.now in (
      e.sat ∙ base.sat,
      base.usable,
      own_of_points m root c.args.epoch.now.tag c.args.seen.now c.in-Ok.base root c.renewed.result base (λ p inside. inside)
          (record { holds = rw delays at e.holds; x = e.x_tight; y = e.y_tight; z = e.z_tight; range = e.range_tight; bounds = rw delays at e.bounds_tight; plain = rw delays at e.plain }),
    )
