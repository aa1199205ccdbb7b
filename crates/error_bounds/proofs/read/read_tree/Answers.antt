use Rattle.std.proofs.lemmas.Result.{err_from_is_err_and}
use Rattle.toml.specs.View.{table_view}
use Rattle.error_bounds.proofs.TreeLemmas.{all_none, from_search, from_directions, from_signal, from_bounds, from_galileo, from_motion, from_station, from_satellites, from_names}
use Rattle.error_bounds.proofs.read.read_tree.Goals as goal

pub returns-clause-settings : goal.returns-clause-settings
returns-clause-settings c = record {
  faultless = all_none (table_view c.args.tree.now) c.in_ok-search.ensures.none c.in_ok-directions.ensures.none c.in_ok-mode.ensures.none c.in_ok-bounds.ensures.none c.in_ok-galileo.ensures.none c.in_ok-speed.ensures.none c.in_ok-station.ensures.none c.in_ok-extra.ensures.none;
  known = c.in_ok-check_names.ensures.known;
  value = record {
    centre = c.in_ok-search.ensures.value.centre;
    half = c.in_ok-search.ensures.value.half;
    outliers = c.in_ok-search.ensures.value.outliers;
    bisections = c.in_ok-search.ensures.value.bisections;
    width = c.in_ok-search.ensures.value.width;
    max_age = c.in_ok-search.ensures.value.max_age;
    renew = c.in_ok-search.ensures.value.renew;
    pairs = c.in_ok-search.ensures.value.pairs;
    directions = c.in_ok-directions.ensures.value;
    signal = c.in_ok-mode.ensures.value;
    receiver = c.in_ok-bounds.ensures.common.receiver;
    is_receiver = c.in_ok-bounds.ensures.common.is_receiver;
    orbit_clock = c.in_ok-bounds.ensures.common.orbit_clock;
    is_orbit_clock = c.in_ok-bounds.ensures.common.is_orbit_clock;
    ionosphere = c.in_ok-bounds.ensures.common.ionosphere;
    is_ionosphere = c.in_ok-bounds.ensures.common.is_ionosphere;
    troposphere = c.in_ok-bounds.ensures.common.troposphere;
    is_troposphere = c.in_ok-bounds.ensures.common.is_troposphere;
    common = c.in_ok-bounds.ensures.common.sum;
    extra = c.in_ok-extra.ensures.extra;
    zenith = c.in_ok-bounds.ensures.zenith;
    vertical = c.in_ok-bounds.ensures.vertical;
    galileo = c.in_ok-galileo.ensures.value;
    speed = c.in_ok-speed.ensures.speed;
    restart = c.in_ok-speed.ensures.restart;
    station = c.in_ok-station.ensures.value;
  };
}

pub returns-in_err-search-clause-fault : goal.returns-in_err-search-clause-fault
returns-in_err-search-clause-fault c =
    let p = err_from_is_err_and c.from_residual.result c.from_residual.ensures.1 in
    rw (p.1, p.2) (from_search (table_view c.args.tree.now) c.in_err-search.field-0.0 c.in_err-search.ensures.fault)

pub returns-in_err-directions-clause-fault : goal.returns-in_err-directions-clause-fault
returns-in_err-directions-clause-fault c =
    let p = err_from_is_err_and c.from_residual-in_err-directions.result c.from_residual-in_err-directions.ensures.1 in
    rw (p.1, p.2) (from_directions (table_view c.args.tree.now) c.in_ok-search.ensures.none c.in_err-directions.field-0.0 c.in_err-directions.ensures.fault)

pub returns-in_err-mode-clause-fault : goal.returns-in_err-mode-clause-fault
returns-in_err-mode-clause-fault c =
    let p = err_from_is_err_and c.from_residual-in_err-mode.result c.from_residual-in_err-mode.ensures.1 in
    rw (p.1, p.2) (from_signal (table_view c.args.tree.now) c.in_ok-search.ensures.none c.in_ok-directions.ensures.none c.in_err-mode.field-0.0 c.in_err-mode.ensures.fault)

pub returns-in_err-bounds-clause-fault : goal.returns-in_err-bounds-clause-fault
returns-in_err-bounds-clause-fault c =
    let p = err_from_is_err_and c.from_residual-in_err-bounds.result c.from_residual-in_err-bounds.ensures.1 in
    rw (p.1, p.2) (from_bounds (table_view c.args.tree.now) c.in_ok-search.ensures.none c.in_ok-directions.ensures.none c.in_ok-mode.ensures.none c.in_err-bounds.field-0.0 c.in_err-bounds.ensures.fault)

pub returns-in_err-galileo-clause-fault : goal.returns-in_err-galileo-clause-fault
returns-in_err-galileo-clause-fault c =
    let p = err_from_is_err_and c.from_residual-in_err-galileo.result c.from_residual-in_err-galileo.ensures.1 in
    rw (p.1, p.2) (from_galileo (table_view c.args.tree.now) c.in_ok-search.ensures.none c.in_ok-directions.ensures.none c.in_ok-mode.ensures.none c.in_ok-bounds.ensures.none c.in_err-galileo.field-0.0 c.in_err-galileo.ensures.fault)

pub returns-in_err-speed-clause-fault : goal.returns-in_err-speed-clause-fault
returns-in_err-speed-clause-fault c =
    let p = err_from_is_err_and c.from_residual-in_err-speed.result c.from_residual-in_err-speed.ensures.1 in
    rw (p.1, p.2) (from_motion (table_view c.args.tree.now) c.in_ok-search.ensures.none c.in_ok-directions.ensures.none c.in_ok-mode.ensures.none c.in_ok-bounds.ensures.none c.in_ok-galileo.ensures.none c.in_err-speed.field-0.0 c.in_err-speed.ensures.fault)

pub returns-in_err-station-clause-fault : goal.returns-in_err-station-clause-fault
returns-in_err-station-clause-fault c =
    let p = err_from_is_err_and c.from_residual-in_err-station.result c.from_residual-in_err-station.ensures.1 in
    rw (p.1, p.2) (from_station (table_view c.args.tree.now) c.in_ok-search.ensures.none c.in_ok-directions.ensures.none c.in_ok-mode.ensures.none c.in_ok-bounds.ensures.none c.in_ok-galileo.ensures.none c.in_ok-speed.ensures.none c.in_err-station.field-0.0 c.in_err-station.ensures.fault)

pub returns-in_err-extra-clause-fault : goal.returns-in_err-extra-clause-fault
returns-in_err-extra-clause-fault c =
    let p = err_from_is_err_and c.from_residual-in_err-extra.result c.from_residual-in_err-extra.ensures.1 in
    rw (p.1, p.2) (from_satellites (table_view c.args.tree.now) c.in_ok-search.ensures.none c.in_ok-directions.ensures.none c.in_ok-mode.ensures.none c.in_ok-bounds.ensures.none c.in_ok-galileo.ensures.none c.in_ok-speed.ensures.none c.in_ok-station.ensures.none c.in_err-extra.field-0.0 c.in_err-extra.ensures.fault)

pub returns-in_err-check_names-clause-fault : goal.returns-in_err-check_names-clause-fault
returns-in_err-check_names-clause-fault c =
    let p = err_from_is_err_and c.from_residual-in_err-check_names.result c.from_residual-in_err-check_names.ensures.1 in
    rw (p.1, p.2) (from_names (table_view c.args.tree.now) c.in_err-check_names.field-0.0
    (all_none (table_view c.args.tree.now) c.in_ok-search.ensures.none c.in_ok-directions.ensures.none c.in_ok-mode.ensures.none c.in_ok-bounds.ensures.none c.in_ok-galileo.ensures.none c.in_ok-speed.ensures.none c.in_ok-station.ensures.none c.in_ok-extra.ensures.none) c.in_err-check_names.ensures.fault)
