use Rattle.std.proofs.Common.{◌≡◌, Some, rules}
use Rattle.log_tokens.specs.Fields.{IsTime}
use Rattle.paving_log.specs.CoverBoxes.{BodyFolds}
use Rattle.paving_log.specs.Values.{block_of, log_value}
use Rattle.sat_model.specs.Logs.{Block}
use Rattle.moving_tube.specs.Endings.{last_paved}
use Rattle.moving_tube.proofs.EndingLemmas.{last_holds}
use Rattle.moving_tube.proofs.endings.ending.Goals as goal

pub cover_hull-requires : goal.cover_hull-requires
cover_hull-requires c =
    let log = log_value c.args.log.now in
    let is : last_paved log.blocks ≡ Some (block_of c.in-Some.epoch.now) = search rules in
    last_holds (λ (block : Block). BodyFolds block.body) log.blocks (block_of c.in-Some.epoch.now) is c.requires.folds

pub left_with-requires : goal.left_with-requires
left_with-requires c =
    let log = log_value c.args.log.now in
    let is : last_paved log.blocks ≡ Some (block_of c.in-Some.epoch.now) = search rules in
    last_holds (λ (block : Block). IsTime block.ps) log.blocks (block_of c.in-Some.epoch.now) is c.requires.times
