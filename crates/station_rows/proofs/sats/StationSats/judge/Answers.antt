use Rattle.std.proofs.Common.{◌≡◌, refl, ap, inr, rules, FitsSigned, to_z, of_z, to_z-of_z}
use mir.Syntax.{w128}
use Rattle.gnss_model.specs.declared.satellites.Signal.{Signal}
use Rattle.gnss_model.specs.declared.systems.System.{System}
use Rattle.grid_model.specs.Boxes.{grid_box}
use Rattle.sat_rows.proofs.RowLemmas.{known_plausible}
use Rattle.station_epochs.specs.Stations.{station_of}
use Rattle.station_rows.specs.Judgements.{sighting_of}
use Rattle.station_rows.proofs.KnownLemmas.{their_codes, known_by_both, far_off}
use Rattle.usable_sats.specs.Measured.{codes_of}
use Rattle.station_rows.proofs.sats.StationSats.judge.Goals as goal

pub are_nearby-requires-clause-receiver_codes : goal.are_nearby-requires-clause-receiver_codes
are_nearby-requires-clause-receiver_codes c =
    let system = ap (λ (u : System × Signal). u.0) c.use_of-system.ensures in
    rw system (known_plausible _ _ _ c.in-Usable.ensures.0)

pub are_nearby-requires-clause-station_codes : goal.are_nearby-requires-clause-station_codes
are_nearby-requires-clause-station_codes c =
    let a = sighting_of c.args.self.now c.args.epoch.now.tag c.args.seen.now in
    let system = ap (λ (u : System × Signal). u.0) c.use_of-system.ensures in
    their_codes (station_of c.args.self.now.station) a (codes_of c.in-Usable.codes) c.in-Usable.elements c.in-Usable.ensures.0 c.in-Some.station c.in-Some.ensures _ system _ refl

pub returns-then-are_nearby-clause-known : goal.returns-then-are_nearby-clause-known
returns-then-are_nearby-clause-known c =
    let fits : FitsSigned w128 c.args.epoch.now.tag = search rules in
    let same : to_z w128 (of_z w128 c.args.epoch.now.tag) ≡ c.args.epoch.now.tag = simp to_z-of_z refl in
    let a = sighting_of c.args.self.now c.args.epoch.now.tag c.args.seen.now in
    let system = ap (λ (u : System × Signal). u.0) c.use_of-system.ensures in
    known_by_both (station_of c.args.self.now.station) a (codes_of c.in-Usable.codes) c.in-Usable.elements c.in-Usable.ensures.0 c.in-Some.station c.in-Some.ensures _ system _ same
    c.args.self.now.settings.now.delays (grid_box c.args.root.now) c.in-Usable.ensures.1 (c.are_nearby.ensures.0 c.if-are_nearby.true)

pub returns-else-are_nearby-clause-skip : goal.returns-else-are_nearby-clause-skip
returns-else-are_nearby-clause-skip c =
    let fits : FitsSigned w128 c.args.epoch.now.tag = search rules in
    let same : to_z w128 (of_z w128 c.args.epoch.now.tag) ≡ c.args.epoch.now.tag = simp to_z-of_z refl in
    let a = sighting_of c.args.self.now c.args.epoch.now.tag c.args.seen.now in
    let system = ap (λ (u : System × Signal). u.0) c.use_of-system.ensures in
    rw c.skipped-else-are_nearby.ensures
    (inr (inr (far_off (station_of c.args.self.now.station) a (codes_of c.in-Usable.codes) c.in-Usable.elements c.in-Usable.ensures.0 c.in-Some.station c.in-Some.ensures _ system _ same
    c.args.self.now.settings.now.delays (grid_box c.args.root.now) c.in-Usable.ensures.1 (λ near. let e = c.are_nearby.ensures.1 near in let f = c.if-are_nearby.false in cc))))
