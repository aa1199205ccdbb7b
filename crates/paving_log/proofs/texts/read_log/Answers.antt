use Rattle.paving_log.proofs.LogLemmas.{value_given, gives_log, gives_fault, first_unrenewed}
use Rattle.paving_log.proofs.texts.read_log.Goals as goal

pub returns-clause-value : goal.returns-clause-value
returns-clause-value c = value_given c.read_text.result c.args.text.now.value.items c.read_text.ensures.value

pub returns-clause-exact : goal.returns-clause-exact
returns-clause-exact c = gives_log c.read_text.result c.args.text.now.value.items c.read_text.ensures.value c.read_text.ensures.fault

pub returns-clause-first : goal.returns-clause-first
returns-clause-first c = gives_fault c.read_text.result c.args.text.now.value.items c.read_text.ensures.value c.read_text.ensures.fault

pub returns-clause-steps_alone : goal.returns-clause-steps_alone
returns-clause-steps_alone c = first_unrenewed c.read_text.result c.args.text.now.value.items c.read_text.ensures.value
