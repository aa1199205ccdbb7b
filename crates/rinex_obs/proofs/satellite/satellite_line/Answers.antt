use Rattle.std.proofs.Common.{◌<◌, length, refl, sym, ◌∙◌, arith}
use Rattle.rinex_text.specs.Reading.{plain_line}
use Rattle.rinex_obs.specs.Reading.{code_places, wanted_of}
use Rattle.rinex_obs.proofs.FieldLemmas.{not_other}
use Rattle.rinex_obs.proofs.SatelliteLemmas.{same_both, no_system, no_number, no_first, no_second, one_more}
use Rattle.rinex_obs.proofs.satellite.satellite_line.Goals as goal

pub returns-in_default-clause-line : goal.returns-in_default-clause-line
returns-in_default-clause-line c =
    no_system (wanted_of c.args.places.now) c.args.sats.now (plain_line c.args.line) c.column-system.result c.column-system.ensures (c.is_short.ensures.0 c.if-not-is_short.false)
    (not_other _ _ _ _ _ c.is_other_system.ensures refl (c.is_some.ensures ∙ same_both c.args.places.now.galileo) c.if-is_other_system.false)
    (sym c.is_printable_text.ensures ∙ c.if-not-is_printable_text.false) c.in_default.ensures.none

pub returns-in_default-satellite_number-clause-line : goal.returns-in_default-satellite_number-clause-line
returns-in_default-satellite_number-clause-line c =
    no_number (wanted_of c.args.places.now) c.args.sats.now (plain_line c.args.line) c.column-system.result c.column-system.ensures (c.is_short.ensures.0 c.if-not-is_short.false)
    (not_other _ _ _ _ _ c.is_other_system.ensures refl (c.is_some.ensures ∙ same_both c.args.places.now.galileo) c.if-is_other_system.false)
    (sym c.is_printable_text.ensures ∙ c.if-not-is_printable_text.false) (code_places c.in-Some.own) c.in-Some.ensures.places c.in_default-satellite_number.ensures.none

pub returns-in_default-observed-clause-line : goal.returns-in_default-observed-clause-line
returns-in_default-observed-clause-line c =
    let few : length c.args.sats.now < 64 = omega (arith, c.if-sats-ge-MOST_SATELLITES.false) in
    no_first (wanted_of c.args.places.now) c.args.sats.now (plain_line c.args.line) c.column-system.result c.column-system.ensures (c.is_short.ensures.0 c.if-not-is_short.false)
    (not_other _ _ _ _ _ c.is_other_system.ensures refl (c.is_some.ensures ∙ same_both c.args.places.now.galileo) c.if-is_other_system.false)
    (sym c.is_printable_text.ensures ∙ c.if-not-is_printable_text.false) (code_places c.in-Some.own) c.in-Some.ensures.places c.in-Some-satellite_number.number c.in-Some-satellite_number.ensures.number
    (sym c.have_sat.ensures ∙ c.if-have_sat.false) few c.in_default-observed.ensures.none

pub returns-in_default-second_observed-clause-line : goal.returns-in_default-second_observed-clause-line
returns-in_default-second_observed-clause-line c =
    let few : length c.args.sats.now < 64 = omega (arith, c.if-sats-ge-MOST_SATELLITES.false) in
    no_second (wanted_of c.args.places.now) c.args.sats.now (plain_line c.args.line) c.column-system.result c.column-system.ensures (c.is_short.ensures.0 c.if-not-is_short.false)
    (not_other _ _ _ _ _ c.is_other_system.ensures refl (c.is_some.ensures ∙ same_both c.args.places.now.galileo) c.if-is_other_system.false)
    (sym c.is_printable_text.ensures ∙ c.if-not-is_printable_text.false) (code_places c.in-Some.own) c.in-Some.ensures.places c.in-Some-satellite_number.number c.in-Some-satellite_number.ensures.number
    (sym c.have_sat.ensures ∙ c.if-have_sat.false) few c.in-Some-observed.first c.in-Some-observed.ensures.value c.in_default-second_observed.ensures.none

pub returns-clause-line : goal.returns-clause-line
returns-clause-line c =
    let few : length c.args.sats.now < 64 = omega (arith, c.if-sats-ge-MOST_SATELLITES.false) in
    one_more (wanted_of c.args.places.now) c.args.sats.now (plain_line c.args.line) c.column-system.result c.column-system.ensures (c.is_short.ensures.0 c.if-not-is_short.false)
    (not_other _ _ _ _ _ c.is_other_system.ensures refl (c.is_some.ensures ∙ same_both c.args.places.now.galileo) c.if-is_other_system.false)
    (sym c.is_printable_text.ensures ∙ c.if-not-is_printable_text.false) (code_places c.in-Some.own) c.in-Some.ensures.places c.in-Some-satellite_number.number c.in-Some-satellite_number.ensures.number
    (sym c.have_sat.ensures ∙ c.if-have_sat.false) few c.in-Some-observed.first c.in-Some-observed.ensures.value c.in-Some-second_observed.second c.in-Some-second_observed.ensures.value
