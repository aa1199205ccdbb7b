use Rattle.paving_log.proofs.RowsLemmas.{gives_rows, gives_rows_fault, gives_pavable}
use Rattle.paving_log.proofs.texts.read_rows.Goals as goal

pub returns-clause-exact : goal.returns-clause-exact
returns-clause-exact c = gives_rows c.tested_rows.result c.args.text.now.value.items c.tested_rows.ensures.value c.tested_rows.ensures.fault

pub returns-clause-first : goal.returns-clause-first
returns-clause-first c = gives_rows_fault c.tested_rows.result c.args.text.now.value.items c.tested_rows.ensures.value c.tested_rows.ensures.fault

pub returns-clause-pavable : goal.returns-clause-pavable
returns-clause-pavable c = gives_pavable c.tested_rows.result c.args.text.now.value.items c.tested_rows.ensures.value
