use Rattle.std.proofs.Common.{rules, None}
use Rattle.paving_log_check.proofs.PlaceLemmas.{block_left}
use Rattle.log_tests.proofs.logs.judged_cover.Goals as goal

pub cover_boxes-requires : goal.cover_boxes-requires
cover_boxes-requires c =
    let judged = rw c.in-Yes.is at c.in_ok-judge.ensures.judged in
    let first = block_left c.args.log.now.epochs.items 0 c.index-epoch.result.now (search rules) c.index-epoch.ensures in
    c.judged_folds.ensures None (rw first at judged).0
