use Rattle.std.proofs.Common.{List, None, rules, subst, sym}
use Rattle.epoch_rows.proofs.ReadyLemmas.{selected_writable}
use Rattle.epoch_rows.specs.Ready.{AreWritable}
use Rattle.epoch_selection.specs.Selections.{selected}
use Rattle.rinex_obs.specs.Reading.{observations_of}
use Rattle.rinex_obs.specs.declared.obs.ObsEpoch.{ObsEpoch}
use Rattle.rinex_obs.proofs.KeptLemmas.{numbered_rise}
use Rattle.log_tests.proofs.rows.blocks_of.Goals as goal

pub of_walk-left-requires : goal.of_walk-left-requires
of_walk-left-requires c =
    let read = c.in-Ok.ensures in
    let writable = subst (λ (epochs : List ObsEpoch). AreWritable None (selected c.args.selection epochs)) (sym c.deref.ensures.value)
    (selected_writable c.args.selection c.in-Ok.obs.epochs.items (numbered_rise (observations_of c.in-Ok.obs).epochs read.numbered) read.distinct read.named) in
    search rules
