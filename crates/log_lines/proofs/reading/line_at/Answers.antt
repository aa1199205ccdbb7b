use Rattle.std.proofs.Common.{sym, ◌∙◌}
use Rattle.log_tokens.specs.Words.{words_left}
use Rattle.log_lines.proofs.FittingLemmas.{none_behind}
use Rattle.log_lines.proofs.reading.line_at.Goals as goal

pub returns-in-None-clause-misfit : goal.returns-in-None-clause-misfit
returns-in-None-clause-misfit c =
    let read = c.in-Some-fields_of.ensures in
    none_behind c.args.place c.args.here.now c.in-Some.word.now (words_left c.in-Some.rest) c.in-Some-name_from.name c.in-Some-fields_of.line c.in-Some.ensures.found c.in-Some-name_from.ensures.found
    (sym c.may_come.ensures ∙ c.if-not-may_come.false) read.0.0 read.0.1 read.1 (sym c.place_behind.ensures ∙ c.in-None.is)
