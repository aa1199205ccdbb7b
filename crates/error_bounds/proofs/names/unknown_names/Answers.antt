use Rattle.std.proofs.Common.{codes}
use Rattle.toml.specs.View.{table_view}
use Rattle.error_bounds.specs.Keys.{has_galileo, signal_tests, bounds_tests, motion_tests, station_keys}
use Rattle.error_bounds.specs.Names.{search_names, galileo_names, strangers, strangers_among, strangers_at, is_table, is_satellite}
use Rattle.error_bounds.proofs.NameLemmas.{all_added}
use Rattle.error_bounds.proofs.names.unknown_names.Goals as goal

pub returns : goal.returns
returns c =
    let tree = table_view c.args.tree.now in
    all_added
    (strangers is_table (λ name. name) tree)
    (strangers_among (codes "search") (search_names tree) tree)
    (strangers_among (codes "signal") (signal_tests tree) tree)
    (strangers_among (codes "bounds") (bounds_tests tree) tree)
    (strangers_among (codes "galileo") (galileo_names tree) tree)
    (strangers_among (codes "motion") (motion_tests tree) tree)
    (strangers_among (codes "station") (station_keys 0 tree) tree)
    (strangers_at (codes "satellite") (is_satellite (has_galileo tree)) tree)
    _ _ _ _ _ _ _ _
    (rw c.new-names.ensures.items at c.in_ok-add_unknown.ensures)
    c.in_ok-add_unknown_in.ensures
    c.in_ok-add_unknown_in-2.ensures
    c.in_ok-add_unknown_in-3.ensures
    c.in_ok-add_unknown_in-4.ensures
    c.in_ok-add_unknown_in-5.ensures
    c.in_ok-add_unknown_in-6.ensures
    (rw c.has_galileo.ensures at c.in_ok-add_unknown_in-7.ensures)
