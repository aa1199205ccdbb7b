use Rattle.std.proofs.Common.{◌≡◌, refl, sym, subst, rules, FitsSigned, to_z, of_z, to_z-of_z}
use mir.Syntax.{w128}
use Rattle.gnss_model.specs.Pseudorange.{Codes}
use Rattle.gnss_model.specs.declared.satellites.Signal.{Signal}
use Rattle.gnss_model.specs.declared.systems.System.{System}
use Rattle.station_epochs.specs.Stations.{station_of}
use Rattle.station_rows.specs.Judgements.{sighting_of}
use Rattle.station_rows.proofs.KnownLemmas.{lacks_sat, lacks_codes}
use Rattle.usable_sats.specs.Measured.{codes_of}
use Rattle.usable_sats.specs.Usability.{HaveValue, ArePlausible}
use Rattle.station_rows.proofs.sats.StationSats.observed_by_station.Goals as goal

pub returns-in_err-nearest : goal.returns-in_err-nearest
returns-in_err-nearest c = rw c.from_residual.ensures (λ s. c.in_err-nearest.ensures s.epoch s.epoch_is)

pub returns-in_err-theirs : goal.returns-in_err-theirs
returns-in_err-theirs c =
    let a = sighting_of c.args.self.now c.args.epoch.now.tag c.args.seen.now in
    rw c.from_residual-in_err-theirs.ensures (lacks_sat (station_of c.args.self.now.station) a c.in_ok-nearest.nearest.now c.in_ok-nearest.ensures c.in_err-theirs.ensures)

pub returns-in_err-codes : goal.returns-in_err-codes
returns-in_err-codes c =
    let a = sighting_of c.args.self.now c.args.epoch.now.tag c.args.seen.now in
    let none = subst (λ (u : System × Signal). (codes : Codes) → HaveValue u.1 c.in_ok-theirs.theirs.now codes → ArePlausible u.0 codes → ⊥) c.use_of-system.ensures c.in_err-codes.ensures.none in
    rw c.from_residual-in_err-codes.ensures (lacks_codes (station_of c.args.self.now.station) a c.in_ok-nearest.nearest.now c.in_ok-theirs.theirs.now c.in_ok-nearest.ensures c.in_ok-theirs.ensures none)

pub returns : goal.returns
returns c =
    let fits : FitsSigned w128 c.in_ok-nearest.nearest.now.tag = search rules in
    let same : to_z w128 (of_z w128 c.in_ok-nearest.nearest.now.tag) ≡ c.in_ok-nearest.nearest.now.tag = simp to_z-of_z refl in
    let codes = codes_of c.in_ok-codes.codes in
    record {
      seen = record {
        epoch = c.in_ok-nearest.nearest.now;
        epoch_is = c.in_ok-nearest.ensures;
        seen = c.in_ok-theirs.theirs.now;
        seen_is = c.in_ok-theirs.ensures;
        measured = record {
          codes = codes;
          values = subst (λ (u : System × Signal). HaveValue u.1 c.in_ok-theirs.theirs.now codes) c.use_of-system.ensures c.in_ok-codes.ensures.values;
          plausible = subst (λ (u : System × Signal). ArePlausible u.0 codes) c.use_of-system.ensures c.in_ok-codes.ensures.plausible;
        };
      };
      tag_is = sym same;
      codes_are = refl;
    }
