-- What is said of a receiver's file that is refused.
use Rattle.std.specs.Prelude.{ℕ, ◌++◌, List, [], map, codes, decimal, nat_eq, encode_utf8_all}
use Rattle.std.specs.Prelude.{if◌then◌else◌}
use Rattle.std.specs.Char.{is_control}
use Rattle.std.specs.Str.{chars}
use Rattle.error_bounds.specs.declared.fault.SettingsFault.{SettingsFault}
use Rattle.rinex_text.specs.declared.fault.Refusal.{Refusal}
use Rattle.input_files.specs.declared.input_fault.InputFault.{InputFault}
use Rattle.input_files.specs.declared.input_fault.InputFault.TheVariants as fault

-- the name of a fault of an observation or navigation file, by its number
abbrev pub header_fault_name : ℕ → List ℕ
header_fault_name number =
    if nat_eq number 10 then codes "NotRinex"
    else if nat_eq number 11 then codes "Version"
    else if nat_eq number 12 then codes "Kind"
    else if nat_eq number 13 then codes "System"
    else if nat_eq number 14 then codes "NoEndOfHeader"
    else if nat_eq number 15 then codes "LongLine"
    else if nat_eq number 16 then codes "CodeAbsent"
    else if nat_eq number 17 then codes "TimeSystem"
    else if nat_eq number 18 then codes "ScaleFactor"
    else if nat_eq number 28 then codes "NoPosition"
    else []

abbrev pub file_fault_name : ℕ → List ℕ
file_fault_name number =
    if nat_eq number 19 then codes "BadEpoch"
    else if nat_eq number 20 then codes "BadCount"
    else if nat_eq number 21 then codes "BadSatellite"
    else if nat_eq number 22 then codes "RepeatSatellite"
    else if nat_eq number 23 then codes "BadNumber"
    else if nat_eq number 24 then codes "Truncated"
    else if nat_eq number 25 then codes "HeaderChange"
    else if nat_eq number 26 then codes "NotAscii"
    else if nat_eq number 27 then codes "TooMany"
    else if nat_eq number 43 then codes "NotRising"
    else header_fault_name number

-- the name of a fault of the settings
abbrev pub settings_fault_name : ℕ → List ℕ
settings_fault_name number =
    if nat_eq number 30 then codes "NotToml"
    else if nat_eq number 31 then codes "Missing"
    else if nat_eq number 32 then codes "WrongKind"
    else if nat_eq number 33 then codes "Outside"
    else if nat_eq number 34 then codes "Unknown"
    else []

-- a text on one line: each control character is shown as `?`
abbrev pub shown_char : ℕ → ℕ
shown_char c = if is_control c then 63 else c

abbrev pub shown_chars : List ℕ → List ℕ
shown_chars characters = encode_utf8_all (map shown_char characters)

abbrev pub shown : List ℕ → List ℕ
shown text = shown_chars (chars text)

-- the first fault of a file with lines
abbrev pub file_fault_text : List ℕ → Refusal → List ℕ
file_fault_text role refusal =
    role ++ codes " " ++ decimal refusal.number ++ codes " " ++ file_fault_name refusal.number
    ++ codes " line " ++ decimal refusal.line ++ codes "\n"

-- the first fault of settings: a text that is no TOML has no key
abbrev pub settings_fault_text : SettingsFault → List ℕ
settings_fault_text fault =
    if nat_eq fault.number 30 then codes "settings 30 NotToml\n"
    else codes "settings " ++ decimal fault.number ++ codes " " ++ settings_fault_name fault.number
    ++ codes " " ++ shown fault.key.bytes ++ codes "\n"

abbrev pub input_fault_text : InputFault → List ℕ
input_fault_text (fault.Obs refusal) = file_fault_text (codes "obs") refusal
input_fault_text (fault.Nav refusal) = file_fault_text (codes "nav") refusal
input_fault_text (fault.Station refusal) = file_fault_text (codes "station") refusal
input_fault_text (fault.Settings refusal) = settings_fault_text refusal
