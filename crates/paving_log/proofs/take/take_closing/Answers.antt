use Rattle.paving_log.proofs.BlockLemmas.{one_step, one_renew, one_done}
use Rattle.paving_log.proofs.take.take_closing.Goals as goal

pub returns-in-Step-clause-taken : goal.returns-in-Step-clause-taken
returns-in-Step-clause-taken c = one_step c.args.may c.args.n c.args.lines c.in_ok-line.left c.in-Step.step c.in_ok-line.line c.in_ok-line.field-0-1 c.in-Step.is c.in_ok-line.ensures.taken

pub returns-in-Renew-clause-taken : goal.returns-in-Renew-clause-taken
returns-in-Renew-clause-taken c = one_renew c.args.may c.args.n c.args.lines c.in_ok-line.left c.in-Renew.corners c.in_ok-line.line c.in_ok-line.field-0-1 c.in-Renew.is c.in_ok-line.ensures.taken

pub returns-in-Done-clause-taken : goal.returns-in-Done-clause-taken
returns-in-Done-clause-taken c = one_done c.args.may c.args.n c.args.lines c.in_ok-line.left c.in-Done.bisections c.in_ok-line.line c.in_ok-line.field-0-1 c.in-Done.is c.in_ok-line.ensures.taken
