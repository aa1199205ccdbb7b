use Rattle.std.proofs.Common.{ap, rules, subst, FitsSigned, ◌∙◌}
use Rattle.std.specs.Int.{w128}
use Rattle.std.specs.Prelude.{ℤ}
use Rattle.std.proofs.lemmas.Int.{to_z-of_z}
use Rattle.error_bounds.specs.Reading.{bound_for, value_of_settings}
use Rattle.sat_model.specs.Relaxed.{ends}
use Rattle.grid_model.specs.declared.boxes.Pos.{Pos}
use Rattle.grid_model.specs.declared.spans.Span.{Span}
use Rattle.gnss_model.specs.declared.satellites.Signal.{Signal}
use Rattle.gnss_model.specs.declared.systems.System.{System}
use Rattle.sat_rows.specs.Bases.{ComesFrom}
use Rattle.sat_rows.specs.Chains.{Chain, AreValues}
use Rattle.usable_sats.specs.Measured.{codes_of}
use Rattle.usable_sats.specs.Usability.{sighting_by, use_of}
use Rattle.sat_rows.proofs.RowLemmas.{known_plausible, known_narrow, known_near, known_comes, error_small}
use Rattle.sat_rows.proofs.receivers.ReceiverSatsSatBases.base_in.Goals as goal

pub base_of-requires-clause-plausible : goal.base_of-requires-clause-plausible
base_of-requires-clause-plausible c = let y = ap (λ (u : System × Signal). u.0) c.use_of-system.ensures in rw y (known_plausible _ _ _ c.in-Usable.ensures.0)

pub base_of-requires-clause-narrow : goal.base_of-requires-clause-narrow
base_of-requires-clause-narrow c = known_narrow _ _ _ c.in-Usable.ensures.0

pub base_of-requires-clause-near : goal.base_of-requires-clause-near
base_of-requires-clause-near c =
    let f : FitsSigned w128 c.args.epoch.now.tag = search rules in
    let near = known_near (sighting_by c.args.self.now.galileo c.args.self.now.nav.now c.args.self.now.settings.now c.args.epoch.now.tag c.args.seen.now) (codes_of c.in-Usable.codes) c.in-Usable.elements c.in-Usable.ensures.0 c.args.self.now.settings.now.short_age in
    simp to_z-of_z near

pub base_of-requires-clause-small : goal.base_of-requires-clause-small
base_of-requires-clause-small c = error_small c.args.self.now.settings.now c.args.seen.now.sat c.bound_of-declared.result c.bound_of-declared.ensures

pub returns-in-Usable-clause-base : goal.returns-in-Usable-clause-base
returns-in-Usable-clause-base c =
    let f : FitsSigned w128 c.args.epoch.now.tag = search rules in
    let delays = c.args.self.now.settings.now.delays in
    let system = (use_of c.args.self.now.settings.now.signal c.args.self.now.galileo c.args.seen.now.sat).0 in
    let y = ap (λ (u : System × Signal). u.0) c.use_of-system.ensures in
    let e = c.base_of.ensures in
    let holds = e.holds delays in
    let base = c.base_of.result in
    let by_system : (p : Pos) (chain : Chain) → AreValues delays (ends c.bound_of-declared.result) (record { system = c.use_of-system.result.0; tag = c.args.epoch.now.tag; codes = codes_of c.in-Usable.codes; el = c.in-Usable.elements }) p chain → ComesFrom delays base p chain = simp to_z-of_z at holds in
    let by_use : (p : Pos) (chain : Chain) → AreValues delays (ends c.bound_of-declared.result) (record { system = system; tag = c.args.epoch.now.tag; codes = codes_of c.in-Usable.codes; el = c.in-Usable.elements }) p chain → ComesFrom delays base p chain
    = subst (λ (s : System). (p : Pos) (chain : Chain) → AreValues delays (ends c.bound_of-declared.result) (record { system = s; tag = c.args.epoch.now.tag; codes = codes_of c.in-Usable.codes; el = c.in-Usable.elements }) p chain → ComesFrom delays base p chain) y by_system in
    let comes = subst (λ (d : ℤ × ℤ). (p : Pos) (chain : Chain) → AreValues delays d (record { system = system; tag = c.args.epoch.now.tag; codes = codes_of c.in-Usable.codes; el = c.in-Usable.elements }) p chain → ComesFrom delays base p chain) c.bound_of-declared.ensures by_use in
    record {
      sat = e.sat;
      usable = (c.in-Usable.ensures.0.usable, c.in-Usable.ensures.1);
      comes = λ p chain inside allowed. known_comes (sighting_by c.args.self.now.galileo c.args.self.now.nav.now c.args.self.now.settings.now c.args.epoch.now.tag c.args.seen.now) (codes_of c.in-Usable.codes) c.in-Usable.elements c.in-Usable.ensures.0 delays (bound_for c.args.seen.now.sat (value_of_settings c.args.self.now.settings.now)) base comes p chain allowed;
      declared = ap (λ (s : Span). ends s) e.err ∙ c.bound_of-declared.ensures;
      narrow = e.narrow;
      search = c.requires.root;
      high = c.in-Usable.ensures.1;
    }
