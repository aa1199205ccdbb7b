use Rattle.std.proofs.Common.{true, sym, subst, ◌∙◌}
use Rattle.rinex_obs.specs.Reading.{observations_of}
use Rattle.input_files.proofs.GrammarLemmas.{SettlesErr, file_settles}
use Rattle.input_files.proofs.PositionLemmas.{known}
use Rattle.input_files.proofs.StationLemmas.{placed_gives, placed_same, station_gives}
use Rattle.input_files.specs.Inputs.{station_text}
use Rattle.input_files.specs.declared.input_fault.InputFault.TheVariants as input
use Rattle.input_files.proofs.input_grammars.StationTextGrammarStationFile.read.Goals as goal

pub placed-requires-clause-known : goal.placed-requires-clause-known
placed-requires-clause-known c =
    let t = c.args.self.now in
    λ wanted. known true t.sought.now c.wants_position-position.result c.deref.result.now (observations_of c.in-Ok.obs)
    c.in-Ok.ensures.records (c.wants_position-position.ensures ∙ wanted)

pub returns-in-Ok-clause-gives : goal.returns-in-Ok-clause-gives
returns-in-Ok-clause-gives c =
    let t = c.args.self.now in
    let e = c.in-Ok.ensures in
    let w = c.wants_position-position.ensures in
    rw (sym c.deref.ensures.value) (placed_gives t.sought.now t.declared c.deref.result.now c.in-Ok.obs
    (rw w at e.records) (rw w at e.exact) (rw w at e.first) c.placed.result c.placed.ensures.placed c.placed.ensures.far)

pub returns-in-Ok-clause-same : goal.returns-in-Ok-clause-same
returns-in-Ok-clause-same c =
    let t = c.args.self.now in
    let e = c.in-Ok.ensures in
    let w = c.wants_position-position.ensures in
    rw (sym c.deref.ensures.value) (placed_same t.sought.now t.declared c.deref.result.now c.in-Ok.obs
    (rw w at e.records) (rw w at e.exact) (rw w at e.first) c.placed.result c.placed.ensures.placed c.placed.ensures.far)

pub returns-clause-gives : goal.returns-clause-gives
returns-clause-gives c =
    let t = c.args.self.now in
    rw (sym c.deref.ensures.value) (rw c.of_station.ensures (station_gives t.sought.now t.declared c.deref.result.now c.in-Err.error
    (rw c.wants_position-position.ensures at c.in-Err.ensures.fault)))

pub returns-clause-same : goal.returns-clause-same
returns-clause-same c =
    let t = c.args.self.now in
    let text = station_text t.sought.now t.declared.place t.declared.age in
    rw (sym c.deref.ensures.value) (subst (SettlesErr text c.deref.result.now) (sym c.of_station.ensures)
    (file_settles text c.deref.result.now (λ r. input.Station r) c.in-Err.error
    (λ v spells. c.in-Err.ensures.exact spells.0 (rw (sym c.wants_position-position.ensures) at spells.2.file))))
