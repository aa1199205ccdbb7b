use Rattle.epoch_rows.proofs.HullLemmas.{tube_told}
use Rattle.epoch_rows.proofs.walks.TubeHullWalk.search.Goals as goal

pub returns-clause-told : goal.returns-clause-told
returns-clause-told c = tube_told
