-- What a reader of logs answers.
use Rattle.std.specs.Prelude.{◌≡◌, ◌⊎◌, Result, Ok, Err}
use Rattle.sat_model.specs.Logs.{LogValue}
use Rattle.paving_log.specs.declared.log.Log.{Log}
use Rattle.paving_log.specs.declared.log.LogError.{LogError}
use Rattle.paving_log.specs.declared.log.LogError.TheVariants.{NoMemory}
use Rattle.paving_log.specs.Values.{log_value}

-- this log was read, unless memory ran out
abbrev pub GivesLog : LogValue → Result Log LogError → Type 0
GivesLog log (Ok read) = log_value read ≡ log
GivesLog log (Err e) = e ≡ NoMemory

-- the text was refused with this fault, unless memory ran out
abbrev pub GivesFault : LogError → Result Log LogError → Type 0
GivesFault fault (Ok read) = ⊥
GivesFault fault (Err e) = (e ≡ fault) ⊎ (e ≡ NoMemory)
