use Rattle.epoch_selection.specs.Searches.{search_in}
use Rattle.grid_model.specs.Boxes.{grid_box}
use Rattle.paving_log.specs.Values.{block_of}
use Rattle.paving_log_check.proofs.AnswerLemmas.{ready_by, epoch_answered}
use Rattle.paving_log_check.proofs.epochs.check_epoch.Goals as goal

pub epoch_fault-requires-clause-ready : goal.epoch_fault-requires-clause-ready
epoch_fault-requires-clause-ready g c = ready_by (g.S.RowSource.meaning c.args.source.now) (grid_box c.args.root.now) c.args.seen.now.tag
    c.delays.result c.args.seen.now.sats.items c.in_ok-own.own.lines.items c.in_ok-own.own.bases.items
    c.delays.ensures.value c.delays.ensures.within c.in_ok-own.ensures.bases

pub returns : goal.returns
returns g c = epoch_answered (g.S.RowSource.meaning c.args.source.now) c.args.rules.now
    (search_in (grid_box c.args.root.now) c.args.seen.now) c.in_ok-own.own.lines.items c.in_ok-own.own.bases.items
    (block_of c.args.epoch.now) c.in_ok-own.ensures.lines c.in_ok-own.ensures.bases c.epoch_fault.result (rw c.delays.ensures.value at c.epoch_fault.ensures)
