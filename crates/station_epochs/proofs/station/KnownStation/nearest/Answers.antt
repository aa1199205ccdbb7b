use Rattle.std.proofs.Common.{sym, subst, None, Some}
use Rattle.std.proofs.lemmas.Option.{get_or_from_slice_get, slice_get_within}
use Rattle.rinex_obs.specs.declared.obs.ObsEpoch.{ObsEpoch}
use Rattle.station_epochs.specs.Stations.{IsStationEpoch, station_of}
use Rattle.station_epochs.proofs.NearestLemmas.{nearest_is}
use Rattle.station_epochs.proofs.station.KnownStation.nearest.Goals as goal

pub bounds-self-near : goal.bounds-self-near
bounds-self-near c =
    let (e, is, at) = nearest_is (station_of c.args.self.now) c.args.epoch.now.tag c.count_until-count.result c.args.self.now.rising c.count_until-count.ensures c.last_of-early.result c.near_at-late.result (Some c.in-Some.near) c.last_of-early.ensures c.near_at-late.ensures c.in-Some.ensures in
    slice_get_within c.args.self.now.epochs.now c.in-Some.near.place e at

pub returns-in-Some : goal.returns-in-Some
returns-in-Some c =
    let (e, is, at) = nearest_is (station_of c.args.self.now) c.args.epoch.now.tag c.count_until-count.result c.args.self.now.rising c.count_until-count.ensures c.last_of-early.result c.near_at-late.result (Some c.in-Some.near) c.last_of-early.ensures c.near_at-late.ensures c.in-Some.ensures in
    subst (λ (x : ObsEpoch). IsStationEpoch (station_of c.args.self.now) c.args.epoch.now.tag x)
    (sym (get_or_from_slice_get c.args.self.now.epochs.now c.in-Some.near.place e _ at)) is

pub returns-in-None : goal.returns-in-None
returns-in-None c = nearest_is (station_of c.args.self.now) c.args.epoch.now.tag c.count_until-count.result c.args.self.now.rising c.count_until-count.ensures c.last_of-early.result c.near_at-late.result None c.last_of-early.ensures c.near_at-late.ensures c.in-None.ensures
