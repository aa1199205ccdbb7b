use Rattle.paving_log.specs.Values.{log_value}
use Rattle.input_files.proofs.EarlierLemmas.{judged_fold}
use Rattle.input_files.proofs.earlier.left_by.Goals as goal

pub ending-requires-clause-folds : goal.ending-requires-clause-folds
ending-requires-clause-folds c = judged_fold (log_value c.args.log.now) c.requires.judged
