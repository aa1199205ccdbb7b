use Rattle.cover_run.proofs.MakingLemmas.{fills_made, solves_made}
use Rattle.cover_run.proofs.making.made_log.Goals as goal

pub returns-clause-log : goal.returns-clause-log
returns-clause-log c =
    solves_made c.args.limits.now.log c.args.seed c.args.epochs c.in_ok-inputs.inputs
    c.in_ok-inputs.ensures.made c.solved_in_memory.result c.solved_in_memory.ensures.log

pub returns-clause-cut_off : goal.returns-clause-cut_off
returns-clause-cut_off c =
    fills_made c.args.limits.now.log c.args.seed c.args.epochs c.in_ok-inputs.inputs
    c.in_ok-inputs.ensures.made c.solved_in_memory.result c.solved_in_memory.ensures.cut_off
