use Rattle.std.proofs.Common.{sym}
use Rattle.paving_log.specs.RowsText.{FirstRowsFault, IsRowsText}
use Rattle.paving_log.specs.Values.{log_value}
use Rattle.input_files.proofs.GrammarLemmas.{no_first, read_settles}
use Rattle.input_files.specs.declared.role.Role.TheVariants as role
use Rattle.input_files.specs.Logs.{rows_text}
use Rattle.input_files.proofs.log_grammars.RowsTextGrammarLog.read.Goals as goal

pub returns-in-Ok-read_rows-clause-same : goal.returns-in-Ok-read_rows-clause-same
returns-in-Ok-read_rows-clause-same c =
    let bytes = c.in-Ok.text.value.items in
    let read = log_value c.in-Ok-read_rows.rows in
    let e = c.in-Ok-read_rows.ensures in
    rw (sym c.in-Ok.ensures.ok) (read_settles rows_text bytes read e.exact
    (no_first role.Rows IsRowsText FirstRowsFault bytes read e.value))
