use Rattle.std.proofs.Common.{sym, ap, ◌∙◌, below_more}
use Rattle.std.proofs.lemmas.List.{get_or-map}
use Rattle.sat_model.specs.Logs.{sat_of}
use Rattle.log_lines.proofs.SatelliteLemmas.{other_satellite}
use Rattle.paving_log.proofs.own_tests.names.Goals as goal

pub loop-entry-preserved : goal.loop-entry-preserved
loop-entry-preserved c = below_more _ _ c.loop-entry.invariant (λ same.
    other_satellite c.satellite.result c.args.sat (sym c.if-eq.false ∙ c.eq.ensures)
    (c.satellite.ensures ∙ ap sat_of c.entry-item.is
    ∙ sym (get_or-map sat_of c.args.sats.now c.loop-entry.entry-index c.entry-item.result c.args.sat c.loop-entry-test.true) ∙ same))
