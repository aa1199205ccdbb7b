use Rattle.std.proofs.Common.{sym, subst}
use Rattle.input_files.proofs.GrammarLemmas.{SettlesErr}
use Rattle.input_files.proofs.SuitLemmas.{read_gives, read_same, refused_gives, refused_same}
use Rattle.input_files.specs.Inputs.{settings_text}
use Rattle.input_files.proofs.input_grammars.SettingsTextGrammarSettings.read.Goals as goal

pub returns-in-Ok-clause-gives : goal.returns-in-Ok-clause-gives
returns-in-Ok-clause-gives c =
    let e = c.in-Ok.ensures in
    let w = c.suited.ensures in
    rw (sym c.deref.ensures.value) (read_gives c.args.self.now.moving c.args.self.now.stationed c.deref.result.now c.in-Ok.settings e.settings e.exact e.first
    c.suited.result w.same w.suits w.misfit)

pub returns-in-Ok-clause-same : goal.returns-in-Ok-clause-same
returns-in-Ok-clause-same c =
    let e = c.in-Ok.ensures in
    let w = c.suited.ensures in
    rw (sym c.deref.ensures.value) (read_same c.args.self.now.moving c.args.self.now.stationed c.deref.result.now c.in-Ok.settings e.settings e.exact e.first
    c.suited.result w.same w.suits w.misfit)

pub returns-clause-gives : goal.returns-clause-gives
returns-clause-gives c =
    rw (sym c.deref.ensures.value) (rw c.of_settings.ensures (refused_gives c.args.self.now.moving c.args.self.now.stationed c.deref.result.now c.in-Err.error
    c.in-Err.ensures.fault))

pub returns-clause-same : goal.returns-clause-same
returns-clause-same c =
    rw (sym c.deref.ensures.value) (subst (SettlesErr (settings_text c.args.self.now.moving c.args.self.now.stationed) c.deref.result.now) (sym c.of_settings.ensures)
    (refused_same c.args.self.now.moving c.args.self.now.stationed c.deref.result.now c.in-Err.error c.in-Err.ensures.exact))
