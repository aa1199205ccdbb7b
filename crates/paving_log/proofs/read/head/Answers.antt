use Rattle.std.proofs.Common.{[], ◌∷◌}
use Rattle.std.proofs.lemmas.Result.{err_from_is_err_and}
use Rattle.log_lines.specs.Order.{form_of}
use Rattle.log_lines.specs.declared.line.Place.TheVariants as place
use Rattle.log_lines.specs.declared.line.LogLine.TheVariants as line
use Rattle.paving_log.proofs.LineLemmas.{refuses_here, refuses_behind}
use Rattle.paving_log.proofs.read.head.Goals as goal

pub returns-in_err-line-clause-refused : goal.returns-in_err-line-clause-refused
returns-in_err-line-clause-refused c =
    let p = err_from_is_err_and c.from_residual-in_err-line.result c.from_residual-in_err-line.ensures.1 in
    let second = place.Second (form_of c.args.kind c.in_ok-version.version) in
    let fails = rw c.form_of.ensures at c.in_err-line.ensures.fails in
    rw (p.1, p.2) (refuses_behind (place.First c.args.kind) second c.args.lines c.in_ok-version.lines (line.Version c.in_ok-version.version ∷ []) _ c.in_ok-version.ensures.taken (refuses_here second c.in_ok-version.lines _ fails))
