use Rattle.std.proofs.Common.{sym, subst}
use Rattle.rinex_nav.specs.Reading.{records_of}
use Rattle.input_files.proofs.GrammarLemmas.{SettlesErr, file_settles, nav_gives, no_nav_fault}
use Rattle.input_files.proofs.GrammarLemmas.{read_settles}
use Rattle.input_files.specs.Inputs.{nav_text}
use Rattle.input_files.specs.declared.input_fault.InputFault.TheVariants as input
use Rattle.input_files.proofs.input_grammars.NavTextGrammarNav.read.Goals as goal

pub returns-in-Ok-clause-same : goal.returns-in-Ok-clause-same
returns-in-Ok-clause-same c =
    rw (sym c.deref.ensures.value) (read_settles (nav_text c.args.self.now.galileo) c.deref.result.now (records_of c.in-Ok.nav) c.in-Ok.ensures.exact
    (no_nav_fault c.args.self.now.galileo c.deref.result.now c.in-Ok.ensures.first))

pub returns-clause-gives : goal.returns-clause-gives
returns-clause-gives c =
    rw (sym c.deref.ensures.value) (rw c.of_nav.ensures (nav_gives c.args.self.now.galileo c.deref.result.now c.in-Err.error c.in-Err.ensures.fault))

pub returns-clause-same : goal.returns-clause-same
returns-clause-same c =
    rw (sym c.deref.ensures.value) (subst (SettlesErr (nav_text c.args.self.now.galileo) c.deref.result.now) (sym c.of_nav.ensures)
    (file_settles (nav_text c.args.self.now.galileo) c.deref.result.now (λ r. input.Nav r) c.in-Err.error
    c.in-Err.ensures.exact))
