use Rattle.error_bounds.proofs.OnlyLemmas.{gives_settings, gives_fault}
use Rattle.error_bounds.proofs.read.read_settings.Goals as goal

pub returns-clause-exact : goal.returns-clause-exact
returns-clause-exact c = λ v. gives_settings c.args.bytes.now v c.read_text.result c.read_text.ensures.settings c.read_text.ensures.fault

pub returns-clause-first : goal.returns-clause-first
returns-clause-first c = λ found. gives_fault c.args.bytes.now found c.read_text.result c.read_text.ensures.settings c.read_text.ensures.fault
