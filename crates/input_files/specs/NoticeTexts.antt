-- The line on standard error for a run that doesn't do its job to the end.
use Rattle.std.specs.Prelude.{ℕ, ◌++◌, List, codes, decimal}
use Rattle.input_files.specs.InputTexts.{input_fault_text}
use Rattle.input_files.specs.declared.notice.Notice.{Notice}
use Rattle.input_files.specs.declared.notice.Notice.TheVariants as notice
use Rattle.input_files.specs.declared.role.Role.{Role}
use Rattle.input_files.specs.declared.role.Role.TheVariants as role

-- what a file is read or written for
abbrev pub role_text : Role → List ℕ
role_text role.Settings = codes "settings"
role_text role.Nav = codes "nav"
role_text role.Obs = codes "obs"
role_text role.Station = codes "station"
role_text role.Rows = codes "rows"
role_text role.Zones = codes "zones"
role_text role.Log = codes "log"
role_text role.After = codes "after"

abbrev pub notice_text : Notice → List ℕ
notice_text notice.Usage = codes "usage: gpscover judge LOG, pave ROWS LOG, "
    ++ codes "solve or check OBS NAV SETTINGS LOG, make SEED EPOCHS, "
    ++ codes "track or retrack OBS NAV SETTINGS LOG, "
    ++ codes "guard OBS NAV SETTINGS ZONES LOG\n"
notice_text (notice.TooLong role limit) =
    role_text role ++ codes " 29 TooLong " ++ decimal limit ++ codes "\n"
notice_text (notice.BadLog role line kind) = role_text role ++ codes " 40 BadLog line "
    ++ decimal line ++ codes " kind " ++ decimal kind ++ codes "\n"
notice_text (notice.BadZones line) =
    codes "zones 42 BadZones line " ++ decimal line ++ codes "\n"
notice_text (notice.BadAfter line) =
    codes "after 44 BadAfter line " ++ decimal line ++ codes "\n"
notice_text notice.AfterOutside = codes "after 45 OutsideBox\n"
notice_text (notice.BadInput fault) = input_fault_text fault
notice_text (notice.ReadFault role) = role_text role ++ codes " fault\n"
notice_text notice.LogFault = codes "log fault\n"
notice_text notice.OutFault = codes "out fault\n"
notice_text notice.NoMemory = codes "no memory\n"
notice_text (notice.LogFull limit) = codes "log full " ++ decimal limit ++ codes "\n"
