-- The lines of a verdict.
use Rattle.std.specs.Prelude.{ℕ, ◌++◌, List, [], codes, decimal, nat_eq, if◌then◌else◌}

-- a log is right, and has so many in and edge boxes
abbrev pub yes_text : ℕ → List ℕ
yes_text boxes = codes "yes " ++ decimal boxes ++ codes "\n"

-- the name of a test of a log's lines; no other number has one
abbrev pub test_name : ℕ → List ℕ
test_name number =
    if nat_eq number 50 then codes "RulesDiffer"
    else if nat_eq number 51 then codes "EpochDiffers"
    else if nat_eq number 52 then codes "SatelliteDiffers"
    else if nat_eq number 53 then codes "RowNarrow"
    else if nat_eq number 54 then codes "BoundDiffers"
    else if nat_eq number 55 then codes "RootDiffers"
    else if nat_eq number 56 then codes "NotLive"
    else if nat_eq number 57 then codes "CutNotShown"
    else if nat_eq number 58 then codes "OutNotShown"
    else if nat_eq number 59 then codes "InNotShown"
    else if nat_eq number 60 then codes "ClockNarrow"
    else if nat_eq number 61 then codes "BadSplit"
    else if nat_eq number 62 then codes "OverBudget"
    else if nat_eq number 63 then codes "NotClosed"
    else if nat_eq number 64 then codes "CountDiffers"
    else if nat_eq number 65 then codes "BadRenew"
    else if nat_eq number 66 then codes "BoundNotShown"
    else []

-- a line of a log is the first that fails a test, of which this is the least number
abbrev pub no_text : ℕ → ℕ → List ℕ
no_text number line = codes "no " ++ decimal number ++ codes " " ++ test_name number
    ++ codes " line " ++ decimal line ++ codes "\n"
