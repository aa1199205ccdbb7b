use Rattle.std.proofs.Common.{sym}
use Rattle.grid_model.specs.Boxes.{grid_box}
use Rattle.paving_log.specs.Values.{log_value}
use Rattle.input_files.proofs.EarlierLemmas.{left_gives, left_settles}
use Rattle.input_files.proofs.earlier.EarlierTextGrammarOptionKept.read.Goals as goal

pub returns-in-Ok-read_log-clause-gives : goal.returns-in-Ok-read_log-clause-gives
returns-in-Ok-read_log-clause-gives c =
    let bytes = c.in-Ok.text.value.items in
    let log = log_value c.in-Ok-read_log.log in
    rw (sym c.in-Ok.ensures.ok) (left_gives (grid_box c.args.self.now.search) bytes log c.in-Ok-read_log.ensures.value
    c.judged_left.result c.judged_left.ensures.left c.judged_left.ensures.unfit)

pub returns-in-Ok-read_log-clause-same : goal.returns-in-Ok-read_log-clause-same
returns-in-Ok-read_log-clause-same c =
    let bytes = c.in-Ok.text.value.items in
    let log = log_value c.in-Ok-read_log.log in
    rw (sym c.in-Ok.ensures.ok) (left_settles (grid_box c.args.self.now.search) bytes log c.in-Ok-read_log.ensures.value
    c.in-Ok-read_log.ensures.exact c.judged_left.result c.judged_left.ensures.left c.judged_left.ensures.unfit)
