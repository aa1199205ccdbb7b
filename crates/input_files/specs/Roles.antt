-- What a file is read or written for, and the slot that it is opened in.
use Rattle.outer_io.specs.declared.slots.Slot.{Slot}
use Rattle.outer_io.specs.declared.slots.Slot.TheVariants as slot
use Rattle.input_files.specs.declared.role.Role.{Role}
use Rattle.input_files.specs.declared.role.Role.TheVariants as role

-- zones are never read beside rows, and an earlier log before the log
abbrev pub slot_of : Role → Slot
slot_of role.Settings = slot.Settings
slot_of role.Nav = slot.Nav
slot_of role.Obs = slot.Obs
slot_of role.Station = slot.Station
slot_of role.Rows = slot.Rows
slot_of role.Zones = slot.Rows
slot_of role.Log = slot.Log
slot_of role.After = slot.Log
