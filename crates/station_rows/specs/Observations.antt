-- What the code keeps of a satellite in common view, as the definitions have it.
use Rattle.gnss_model.specs.ChainValues.{Observed}
use Rattle.gnss_model.specs.declared.elements.Elements.{Elements}
use Rattle.gnss_model.specs.declared.systems.System.{System}
use Rattle.station_rows.specs.Differences.{CommonView}
use Rattle.station_rows.specs.declared.observations.CommonSat.{CommonSat}
use Rattle.station_rows.specs.declared.observations.Observation.{Observation}
use Rattle.usable_sats.specs.Measured.{codes_of}

-- what one of the two observed, by a record
abbrev pub observed_by : System → Observation → Elements → Observed
observed_by system seen el =
    record { system = system; tag = seen.tag; codes = codes_of seen.codes; el = el }

-- by one record for both
abbrev pub view_of : CommonSat → Elements → CommonView
view_of sat el = record {
  receiver = observed_by sat.system sat.receiver el;
  station = observed_by sat.system sat.station el;
  place = sat.place;
}
