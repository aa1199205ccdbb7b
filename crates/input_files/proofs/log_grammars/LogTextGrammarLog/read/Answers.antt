use Rattle.std.proofs.Common.{sym}
use Rattle.paving_log.specs.Faults.{FirstFault}
use Rattle.log_lines.specs.Text.{IsLogText}
use Rattle.paving_log.specs.Values.{log_value}
use Rattle.input_files.proofs.GrammarLemmas.{no_first, read_settles}
use Rattle.input_files.specs.declared.role.Role.TheVariants as role
use Rattle.input_files.specs.Logs.{log_text}
use Rattle.input_files.proofs.log_grammars.LogTextGrammarLog.read.Goals as goal

pub returns-in-Ok-read_log-clause-same : goal.returns-in-Ok-read_log-clause-same
returns-in-Ok-read_log-clause-same c =
    let bytes = c.in-Ok.text.value.items in
    let read = log_value c.in-Ok-read_log.log in
    let e = c.in-Ok-read_log.ensures in
    rw (sym c.in-Ok.ensures.ok) (read_settles log_text bytes read e.exact
    (no_first role.Log IsLogText FirstFault bytes read e.value))
