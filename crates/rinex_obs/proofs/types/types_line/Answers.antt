use Rattle.rinex_obs.proofs.TypesLemmas.{line_first, line_more}
use Rattle.rinex_obs.proofs.types.types_line.Goals as goal

pub returns-in-Ok : goal.returns-in-Ok
returns-in-Ok c = λ types m. line_first c.args.letter c.args.signal.now c.args.text.now types c.args.known c.in-Ok.first c.in_default.is m (c.is_of.ensures.0 c.if-not-is_of.false) c.in-Ok.ensures

pub returns-in-Ok-more_codes : goal.returns-in-Ok-more_codes
returns-in-Ok-more_codes c = λ types m.
    line_more c.args.letter c.args.signal.now c.args.text.now types c.args.known c.in-Some.found c.in-Ok-more_codes.more c.in-Some.is m c.if-found.true (c.goes_on.ensures.0 c.if-not-goes_on.false) c.in-Ok-more_codes.ensures
