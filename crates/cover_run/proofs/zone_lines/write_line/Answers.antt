use Rattle.cover_run.proofs.ZoneLineLemmas.{writes_line}
use Rattle.cover_run.proofs.zone_lines.write_line.Goals as goal

pub returns : goal.returns
returns g c =
    let wrote = c.write_sink.ensures in
    writes_line _ _ _ _ c.args.line.now c.write_sink.result wrote.all wrote.prefix wrote.cause
    wrote.reliable
