use Rattle.std.proofs.lemmas.Result.{err_from_is_err_and}
use Rattle.log_lines.specs.declared.line.Place.TheVariants as place
use Rattle.paving_log.proofs.LineLemmas.{refuses_here}
use Rattle.paving_log.proofs.read.version.Goals as goal

pub returns-in_err-line-clause-refused : goal.returns-in_err-line-clause-refused
returns-in_err-line-clause-refused c =
    let p = err_from_is_err_and c.from_residual.result c.from_residual.ensures.1 in
    rw (p.1, p.2) (refuses_here (place.First c.args.kind) c.args.lines _ c.in_err-line.ensures.fails)
