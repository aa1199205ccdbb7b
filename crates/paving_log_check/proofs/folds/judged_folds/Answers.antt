use Rattle.std.proofs.Common.{Option, None, Some}
use Rattle.sat_model.specs.declared.rules.Rules.{Rules}
use Rattle.sat_model.specs.BoxTests.{test_in}
use Rattle.sat_model.specs.Logs.{Body, Block, first_rows}
use Rattle.sat_model.specs.Renewals.{AnyLine}
use Rattle.sat_model.specs.Stages.{first_stage}
use Rattle.sat_model.specs.Verdicts.{BodyPasses}
use Rattle.subpaving.proofs.FoldingLemmas.{steps_fold}
use Rattle.paving_log.specs.CoverBoxes.{BodyFolds}
use Rattle.paving_log.specs.Values.{block_of}
use Rattle.paving_log_check.proofs.folds.judged_folds.Goals as goal

body_folds : (rules : Rules) (block : Block) (body : Option Body) → BodyPasses rules block body
    → BodyFolds body
body_folds rules block None h = tt
body_folds rules block (Some body) h = steps_fold AnyLine (first_rows block body) rules body.done 0 (first_stage (test_in rules block) body.root) body.events h.events

pub returns : goal.returns
returns c before passes = body_folds c.args.rules.now (block_of c.args.epoch.now) (block_of c.args.epoch.now).body passes.body
