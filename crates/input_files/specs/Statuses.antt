-- How a run ends that gives a notice, and the notices of the calls below.
use Rattle.error_bounds.specs.declared.fault.SettingsError.{SettingsError}
use Rattle.error_bounds.specs.declared.fault.SettingsError.TheVariants as settings
use Rattle.outer_io.specs.declared.reading.ReadAll.{ReadAll}
use Rattle.outer_io.specs.declared.reading.ReadAll.TheVariants as read
use Rattle.paving_log.specs.declared.log.LogError.{LogError}
use Rattle.paving_log.specs.declared.log.LogError.TheVariants as log
use Rattle.rinex_text.specs.declared.fault.ReadError.{ReadError}
use Rattle.rinex_text.specs.declared.fault.ReadError.TheVariants as rinex
use Rattle.rinex_text.specs.declared.fault.Refusal.{Refusal}
use Rattle.zone_guard.specs.declared.zone.ZoneError.{ZoneError}
use Rattle.zone_guard.specs.declared.zone.ZoneError.TheVariants as zones
use Rattle.input_files.specs.declared.input_fault.InputFault.{InputFault}
use Rattle.input_files.specs.declared.input_fault.InputFault.TheVariants as input
use Rattle.input_files.specs.declared.notice.Notice.{Notice}
use Rattle.input_files.specs.declared.notice.Notice.TheVariants as notice
use Rattle.input_files.specs.declared.role.Role.{Role}
use Rattle.input_files.specs.declared.status.Status.{Status}
use Rattle.input_files.specs.declared.status.Status.TheVariants as status

abbrev pub status_of : Notice → Status
status_of notice.Usage = status.Usage
status_of (notice.TooLong role limit) = status.Refused
status_of (notice.BadLog role line kind) = status.Refused
status_of (notice.BadZones line) = status.Refused
status_of (notice.BadAfter line) = status.Refused
status_of notice.AfterOutside = status.Refused
status_of (notice.BadInput fault) = status.Refused
status_of (notice.ReadFault role) = status.ReadFault
status_of notice.LogFault = status.WriteFault
status_of notice.OutFault = status.WriteFault
status_of notice.NoMemory = status.NoMemory
status_of (notice.LogFull limit) = status.LogFull

abbrev pub notice_of_read : Role → ReadAll → Notice
notice_of_read role read.ReadFault = notice.ReadFault role
notice_of_read role (read.TooLong limit) = notice.TooLong role limit
notice_of_read role read.NoMemory = notice.NoMemory

abbrev pub notice_of_log : Role → LogError → Notice
notice_of_log role (log.BadLog line kind) = notice.BadLog role line kind
notice_of_log role log.NoMemory = notice.NoMemory

abbrev pub notice_of_zones : ZoneError → Notice
notice_of_zones (zones.BadZones line) = notice.BadZones line
notice_of_zones zones.NoMemory = notice.NoMemory

abbrev pub notice_of_settings : SettingsError → Notice
notice_of_settings (settings.Refused fault) = notice.BadInput (input.Settings fault)
notice_of_settings settings.NoMemory = notice.NoMemory

-- of an observation or navigation file
abbrev pub notice_of_file : (Refusal → InputFault) → ReadError → Notice
notice_of_file input_of (rinex.Refused refusal) = notice.BadInput (input_of refusal)
notice_of_file input_of rinex.NoMemory = notice.NoMemory
