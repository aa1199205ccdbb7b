use Rattle.station_rows.specs.Laws.{station_sound}
use Rattle.station_rows.proofs.stations.station_meaning_is_sound.Goals as goal

pub returns : goal.returns
returns c galileo records settings station = station_sound galileo records settings station
