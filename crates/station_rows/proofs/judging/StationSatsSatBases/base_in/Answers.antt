use Rattle.std.proofs.Common.{ap, subst, sym, ◌∙◌}
use Rattle.std.specs.Prelude.{ℤ}
use Rattle.error_bounds.specs.Reading.{bound_for, value_of_settings}
use Rattle.grid_model.specs.declared.spans.Span.{Span}
use Rattle.sat_model.specs.Relaxed.{ends}
use Rattle.sat_rows.proofs.RowLemmas.{error_small}
use Rattle.station_epochs.specs.Stations.{station_of}
use Rattle.station_rows.specs.Differences.{CommonView, AreDifferences}
use Rattle.station_rows.specs.Judgements.{sighting_of}
use Rattle.station_rows.specs.Nearby.{AreNearby}
use Rattle.station_rows.specs.Observations.{view_of}
use Rattle.station_rows.proofs.KnownLemmas.{receiver_from, receiver_under, station_from, station_under, receiver_plausible, station_plausible, receiver_narrow, station_narrow, receiver_near, station_near, known_ground, view_one}
use Rattle.station_rows.proofs.judging.StationSatsSatBases.base_in.Goals as goal

pub base_of_both-requires-clause-receiver_from : goal.base_of_both-requires-clause-receiver_from
base_of_both-requires-clause-receiver_from c = receiver_from _ _ _ _ _ c.in_ok-common.ensures.known c.args.epoch.now.tag_from

pub base_of_both-requires-clause-receiver_under : goal.base_of_both-requires-clause-receiver_under
base_of_both-requires-clause-receiver_under c = receiver_under _ _ _ _ _ c.in_ok-common.ensures.known c.args.epoch.now.tag_under

pub base_of_both-requires-clause-receiver_codes : goal.base_of_both-requires-clause-receiver_codes
base_of_both-requires-clause-receiver_codes c = receiver_plausible _ _ _ _ _ c.in_ok-common.ensures.known

pub base_of_both-requires-clause-receiver_narrow : goal.base_of_both-requires-clause-receiver_narrow
base_of_both-requires-clause-receiver_narrow c = receiver_narrow _ _ _ _ _ c.in_ok-common.ensures.known

pub base_of_both-requires-clause-receiver_near : goal.base_of_both-requires-clause-receiver_near
base_of_both-requires-clause-receiver_near c = receiver_near _ _ _ _ _ c.in_ok-common.ensures.known c.args.self.now.settings.now.short_age

pub base_of_both-requires-clause-station_from : goal.base_of_both-requires-clause-station_from
base_of_both-requires-clause-station_from c = station_from _ _ _ _ _ c.in_ok-common.ensures.known

pub base_of_both-requires-clause-station_under : goal.base_of_both-requires-clause-station_under
base_of_both-requires-clause-station_under c = station_under _ _ _ _ _ c.in_ok-common.ensures.known

pub base_of_both-requires-clause-station_codes : goal.base_of_both-requires-clause-station_codes
base_of_both-requires-clause-station_codes c = station_plausible _ _ _ _ _ c.in_ok-common.ensures.known

pub base_of_both-requires-clause-station_narrow : goal.base_of_both-requires-clause-station_narrow
base_of_both-requires-clause-station_narrow c = station_narrow _ _ _ _ _ c.in_ok-common.ensures.known

pub base_of_both-requires-clause-station_near : goal.base_of_both-requires-clause-station_near
base_of_both-requires-clause-station_near c = station_near _ _ _ _ _ c.in_ok-common.ensures.known c.args.self.now.short_ages

pub base_of_both-requires-clause-ground : goal.base_of_both-requires-clause-ground
base_of_both-requires-clause-ground c = known_ground _ _ _ _ _ c.in_ok-common.ensures.known c.args.self.now.station.ground

pub base_of_both-requires-clause-nearby : goal.base_of_both-requires-clause-nearby
base_of_both-requires-clause-nearby c = c.in_ok-common.ensures.known.nearby

pub base_of_both-requires-clause-small : goal.base_of_both-requires-clause-small
base_of_both-requires-clause-small c = error_small c.args.self.now.settings.now c.args.seen.now.sat c.bound_of-declared.result c.bound_of-declared.ensures

pub returns-clause-base : goal.returns-clause-base
returns-clause-base c =
    let settings = c.args.self.now.settings.now in
    let station = station_of c.args.self.now.station in
    let a = sighting_of c.args.self.now c.args.epoch.now.tag c.args.seen.now in
    let known = c.in_ok-common.ensures.known in
    let common = c.in_ok-common.common in
    let view = view_of common.sat common.elements in
    let e = c.base_of_both.ensures in
    record {
      sat = e.sat ∙ c.in_ok-common.ensures.sat;
      usable = (known.usable, known.high, known.seen, subst AreNearby (sym known.view_is) known.nearby);
      comes = λ p chain inside allowed.
          let same = view_one station a allowed.usable known.usable allowed.seen known.seen ∙ known.view_is in
          let are = subst (λ (v : CommonView). AreDifferences settings.delays (bound_for c.args.seen.now.sat (value_of_settings settings)) v p chain) same allowed.are in
          e.holds settings.delays p chain (subst (λ (d : ℤ × ℤ). AreDifferences settings.delays d view p chain) (sym c.bound_of-declared.ensures) are);
      declared = ap (λ (s : Span). ends s) e.err ∙ c.bound_of-declared.ensures;
      narrow = e.narrow;
      search = c.requires.root;
      high = known.high;
    }
