use Rattle.std.specs.Option.{option_map}
use Rattle.std.specs.Prelude.{is_some}
use Rattle.std.proofs.Common.{[], List, None, length, ap, rules, subst, sym, ◌∙◌}
use Rattle.sharpness_laws.proofs.LogLemmas.{writable_distinct}
use Rattle.sharpness_laws.specs.UsableRows.{AllDistinctIf}
use Rattle.epoch_rows.proofs.KeptLemmas.{text_of_epochs}
use Rattle.epoch_rows.proofs.ReadyLemmas.{selected_writable}
use Rattle.epoch_rows.specs.EpochsLeft.{EpochsLeft, index_of, left_in, left_of}
use Rattle.epoch_rows.specs.Ready.{AreWritable}
use Rattle.epoch_selection.specs.Searches.{epochs_left, searches_in, searches_left}
use Rattle.epoch_selection.specs.Selections.{selected}
use Rattle.grid_model.specs.Boxes.{grid_box}
use Rattle.log_writer.specs.Sizes.{most_bytes}
use Rattle.rinex_obs.specs.declared.obs.ObsEpoch.{ObsEpoch}
use Rattle.station_epochs.specs.Stations.{station_of}
use Rattle.station_rows.specs.Stations.{rows_meaning}
use Rattle.station_rows.specs.declared.sources.FileRows.{FileRows}
use Rattle.cover_run.proofs.SolvingLemmas.{rows_mean, rows_skips, solution_of, text_known}
use Rattle.cover_run.proofs.WritingLemmas.{writes_as}
use Rattle.cover_run.specs.Solving.{IsSolution, meaning_of}
use Rattle.cover_run.proofs.solving.write_solution.Goals as goal

pub of_walk-blocks-requires : goal.of_walk-blocks-requires
of_walk-blocks-requires g c =
    let usual = c.requires.usual in
    let writable = subst (λ (epochs : List ObsEpoch). AreWritable None
    (selected c.args.chosen epochs)) (sym c.deref.ensures.value)
    (selected_writable c.args.chosen c.args.inputs.now.obs.epochs.items usual.rising usual.distinct
    usual.named) in
    let rows = c.rows_of-source.result in
    let skips = rows_skips rows.nav.now rows.settings.now (option_map station_of rows.station) in
    search rules

pub returns : goal.returns
returns g c =
    let i = c.args.inputs.now in
    let rules = i.settings.rules in
    let limit = c.args.limits.now.log in
    let made = c.of_walk-blocks.ensures in
    let b = c.of_walk-blocks.result in
    let chosen = c.args.chosen in
    let root = grid_box c.root.result in
    let last = c.write_named.new.blocks in
    let meaning = λ (s : FileRows). rows_meaning s.nav.now s.settings.now (option_map station_of s.station) in
    let renews = i.settings.renew in
    let directions = i.settings.directions in
    let wanted = c.wanted_by-wanted.ensures in
    let here = made.left ∙ ap (λ (epochs : List ObsEpoch). left_in (selected chosen epochs)
    (λ blocks. searches_in root (selected chosen epochs))) c.deref.ensures.value in
    let distinct = subst (λ (epochs : List ObsEpoch). AllDistinctIf renews epochs)
    (ap (λ (left : EpochsLeft). left.epochs) here)
    (writable_distinct renews (index_of b.given) (epochs_left b.walk) made.can.epochs_are) in
    let behind = left_of (epochs_left last.walk) (λ blocks. searches_left last.walk)
    (λ tag kept blocks. searches_left last.walk) last.given last.lost in
    writes_as [] _ _ _ _ limit _ _ _ (IsSolution chosen i limit)
    (λ answer bytes said text. solution_of chosen i root behind limit answer bytes said
    c.root.ensures.value distinct
    (text_known (meaning_of i) (meaning b.source.now) b.rules rules b.maker.renews renews directions _ _ behind
    limit answer bytes said (ap meaning made.source ∙ rows_mean i c.rows_of-source.result
    c.rows_of-source.ensures.nav c.rows_of-source.ensures.settings c.rows_of-source.ensures.station) made.rules made.renews here
    (text_of_epochs (λ x. x.source.now) (λ x. x.rules)
    (λ x. left_of (epochs_left x.walk) (λ blocks. searches_left x.walk)
    (λ tag kept blocks. searches_left x.walk) x.given x.lost)
    (λ x. x.maker) meaning directions b last rules limit answer bytes said text)))
    (ap (λ (left : EpochsLeft). most_bytes (is_some directions) (length left.epochs) rules.bisections) here)
    c.write_named.result (rw (wanted.rules, wanted.directions) at c.write_named.ensures.log)
