use Rattle.std.specs.Option.{option_map}
use Rattle.std.proofs.Common.{◌≡◌, ◌≢◌, [], List, ap, length, refl, rules, subst, sym, ◌∙◌}
use Rattle.sharpness_laws.proofs.LogLemmas.{writable_distinct}
use Rattle.sharpness_laws.specs.UsableRows.{AllDistinctIf}
use Rattle.epoch_rows.proofs.KeptLemmas.{text_of_epochs}
use Rattle.epoch_rows.proofs.ReadyLemmas.{selected_writable}
use Rattle.epoch_rows.specs.EpochsLeft.{EpochsLeft, index_of, left_in, left_of}
use Rattle.epoch_rows.specs.Ready.{AreWritable}
use Rattle.epoch_selection.specs.Searches.{epochs_left}
use Rattle.grid_model.specs.Boxes.{grid_box}
use Rattle.input_files.specs.declared.status.Status.TheVariants as status
use Rattle.log_writer.specs.Sizes.{most_bytes}
use Rattle.station_epochs.specs.Stations.{station_of}
use Rattle.station_rows.specs.Stations.{rows_meaning}
use Rattle.station_rows.specs.declared.sources.FileRows.{FileRows}
use Rattle.rinex_obs.specs.declared.obs.ObsEpoch.{ObsEpoch}
use Rattle.std.specs.Prelude.{None, is_some}
use Rattle.tube_searches.specs.Tubes.{TubeValue, IsInside, tube_searches, tube_value, with_kept}
use Rattle.cover_run.proofs.SolvingLemmas.{rows_mean, rows_skips, text_known}
use Rattle.cover_run.proofs.TrackingLemmas.{broken_off, told_lost, track_of}
use Rattle.cover_run.proofs.WritingLemmas.{writes_as}
use Rattle.cover_run.specs.Solving.{meaning_of}
use Rattle.cover_run.specs.Tracking.{IsTrack, moving}
use Rattle.cover_run.proofs.tracking.write_track.Goals as goal

pub of_walk-blocks-requires : goal.of_walk-blocks-requires
of_walk-blocks-requires g c =
    let usual = c.requires.enough.usual in
    let is = sym c.declared_tube-tube.ensures.value in
    let writable = subst (λ (t : TubeValue). AreWritable None t.epochs) is
    (selected_writable c.args.chosen c.args.inputs.now.obs.epochs.items usual.rising usual.distinct
    usual.named) in
    let inside = subst (λ (t : TubeValue). IsInside t) is
    (c.requires.enough.inside _ c.declared_tube-tube.ensures.declared.search) in
    let rows = c.rows_of-source.result in
    let skips = rows_skips rows.nav.now rows.settings.now (option_map station_of rows.station) in
    search rules

pub returns-then-eq : goal.returns-then-eq
returns-then-eq g c =
    let i = c.args.inputs.now in
    let given = i.settings.rules in
    let renews = i.settings.renew in
    let directions = i.settings.directions in
    let wanted = c.wanted_by-wanted.ensures in
    let limit = c.args.limits.now.log in
    let chosen = c.args.chosen in
    let made = c.of_walk-blocks.ensures in
    let b = c.of_walk-blocks.result in
    let last = c.write_named-status.new.blocks in
    let tube = c.declared_tube-tube.result in
    let box = grid_box tube.searches.root in
    let is_tube = c.declared_tube-tube.ensures.declared in
    let here = made.left ∙ ap (λ (t : TubeValue). left_in t.epochs (λ blocks. tube_searches t blocks))
    c.declared_tube-tube.ensures.value in
    let behind = left_of (epochs_left last.walk.searches)
    (λ blocks. tube_searches (tube_value last.walk) blocks)
    (λ tag kept blocks. tube_searches (with_kept (tube_value last.walk) tag kept) blocks) last.given
    last.lost in
    let meaning = λ (s : FileRows). rows_meaning s.nav.now s.settings.now (option_map station_of s.station) in
    let distinct = subst (λ (epochs : List ObsEpoch). AllDistinctIf renews epochs)
    (ap (λ (left : EpochsLeft). left.epochs) here)
    (writable_distinct renews (index_of b.given) (epochs_left b.walk.searches) made.can.epochs_are) in
    let most = ap (λ (l : EpochsLeft). most_bytes (is_some directions) (length l.epochs) given.bisections) here in
    let wrote = writes_as [] _ _ _ _ limit _ _ _ _
    (λ answer bytes said text. text_known (meaning_of i) (meaning b.source.now) b.rules given
    b.maker.renews renews directions _ _ behind limit answer bytes said (ap meaning made.source ∙ rows_mean i c.rows_of-source.result
    c.rows_of-source.ensures.nav c.rows_of-source.ensures.settings c.rows_of-source.ensures.station) made.rules
    made.renews here
    (text_of_epochs (λ x. x.source.now) (λ x. x.rules)
    (λ x. left_of (epochs_left x.walk.searches) (λ blocks. tube_searches (tube_value x.walk) blocks)
    (λ tag kept blocks. tube_searches (with_kept (tube_value x.walk) tag kept) blocks) x.given x.lost)
    (λ x. x.maker) meaning directions b last given limit answer bytes said text)) most
    c.write_named-status.result (rw (wanted.rules, wanted.directions) at c.write_named-status.ensures.log) in
    let is : c.write_named-status.result ≡ status.Done = search rules in
    let told = told_lost (meaning_of i) given.outliers renews directions i (moving chosen i box tube.speed) behind
    refl limit _ _ _ _ _ c.write_named-status.ensures.later _ _ _ _ _ is wrote
    (rw c.lost.ensures at c.tell_lost.ensures) in
    writes_as [] _ _ _ _ limit _ _ _ (IsTrack chosen i limit)
    (λ answer bytes said text. track_of chosen i box tube.speed behind limit answer bytes said is_tube
    distinct text) refl c.tell_lost.result told

pub returns : goal.returns
returns g c =
    let i = c.args.inputs.now in
    let given = i.settings.rules in
    let renews = i.settings.renew in
    let directions = i.settings.directions in
    let wanted = c.wanted_by-wanted.ensures in
    let limit = c.args.limits.now.log in
    let chosen = c.args.chosen in
    let made = c.of_walk-blocks.ensures in
    let b = c.of_walk-blocks.result in
    let last = c.write_named-status.new.blocks in
    let tube = c.declared_tube-tube.result in
    let box = grid_box tube.searches.root in
    let is_tube = c.declared_tube-tube.ensures.declared in
    let here = made.left ∙ ap (λ (t : TubeValue). left_in t.epochs (λ blocks. tube_searches t blocks))
    c.declared_tube-tube.ensures.value in
    let behind = left_of (epochs_left last.walk.searches)
    (λ blocks. tube_searches (tube_value last.walk) blocks)
    (λ tag kept blocks. tube_searches (with_kept (tube_value last.walk) tag kept) blocks) last.given
    last.lost in
    let meaning = λ (s : FileRows). rows_meaning s.nav.now s.settings.now (option_map station_of s.station) in
    let distinct = subst (λ (epochs : List ObsEpoch). AllDistinctIf renews epochs)
    (ap (λ (left : EpochsLeft). left.epochs) here)
    (writable_distinct renews (index_of b.given) (epochs_left b.walk.searches) made.can.epochs_are) in
    let most = ap (λ (l : EpochsLeft). most_bytes (is_some directions) (length l.epochs) given.bisections) here in
    let wrote = writes_as [] _ _ _ _ limit _ _ _ _
    (λ answer bytes said text. text_known (meaning_of i) (meaning b.source.now) b.rules given
    b.maker.renews renews directions _ _ behind limit answer bytes said (ap meaning made.source ∙ rows_mean i c.rows_of-source.result
    c.rows_of-source.ensures.nav c.rows_of-source.ensures.settings c.rows_of-source.ensures.station) made.rules
    made.renews here
    (text_of_epochs (λ x. x.source.now) (λ x. x.rules)
    (λ x. left_of (epochs_left x.walk.searches) (λ blocks. tube_searches (tube_value x.walk) blocks)
    (λ tag kept blocks. tube_searches (with_kept (tube_value x.walk) tag kept) blocks) x.given x.lost)
    (λ x. x.maker) meaning directions b last given limit answer bytes said text)) most
    c.write_named-status.result (rw (wanted.rules, wanted.directions) at c.write_named-status.ensures.log) in
    let other : c.write_named-status.result ≢ status.Done = search rules in
    let told = broken_off (meaning_of i) given.outliers renews directions i (moving chosen i box tube.speed) behind
    refl limit _ _ _ _ _ c.write_named-status.result other wrote in
    writes_as [] _ _ _ _ limit _ _ _ (IsTrack chosen i limit)
    (λ answer bytes said text. track_of chosen i box tube.speed behind limit answer bytes said is_tube
    distinct text) refl c.write_named-status.result told
