use Rattle.std.proofs.Common.{ap, sym}
use Rattle.cover_run.proofs.ZoneLineLemmas.{no_item}
use Rattle.cover_run.specs.ZoneTexts.{reach_of}
use Rattle.cover_run.proofs.zone_lines.reach_at.Goals as goal

pub returns : goal.returns
returns c = ap reach_of (sym (no_item c.args.place c.args.found.now c.if-place-found.false))
