-- The epochs of an observation file (RINEX 3.05, table A3): epoch lines with their satellite lines,
-- and events with the lines that belong to them.
use Rattle.std.specs.Prelude.{ℕ, zero, suc, ◌≡◌, ◌⊎◌, ◌+◌, ◌-◌, ◌*◌, ◌^◌, ◌≤◌, ◌<◌, ◌<ℤ◌, ℤ, pos}
use Rattle.std.specs.Prelude.{neg_ℤ, Bool, true, false, cond, ◌==◌, ◌&&◌, nat_le, List, [], ◌∷◌, ◌++◌}
use Rattle.std.specs.Prelude.{length, Option, None, Some, Result, Ok, codes}
use Rattle.std.specs.List.{list_all, list_any}
use Rattle.exact_decimal.specs.Counts.{IsCount}
use Rattle.exact_decimal.specs.NumberFields.{is_blank, AreBlanks, IsFixed}
use Rattle.exact_decimal.specs.declared.decimal.Decimal.{Decimal}
use Rattle.rinex_text.specs.Bodies.{is_printable, needs}
use Rattle.rinex_text.specs.Columns.{column_of, columns_of}
use Rattle.rinex_text.specs.Counts.{IsNumber}
use Rattle.rinex_text.specs.Dates.{IsGpsTime, gps_time}
use Rattle.rinex_text.specs.Faults.{test, where_holds, read, then, gives, line_gives}
use Rattle.rinex_text.specs.Headers.{Behind, IsShort}
use Rattle.rinex_text.specs.Lines.{TextLine}
use Rattle.rinex_text.specs.declared.fault.Fault.{Fault}
use Rattle.rinex_text.specs.declared.fault.Fault.TheVariants as fault
use Rattle.rinex_text.specs.declared.fault.Refusal.{Refusal}
use Rattle.rinex_obs.specs.Types.{IsRead, IsOfRead}
use Rattle.rinex_obs.specs.Header.{CodePlaces, Wanted, have_both, IsLabelled}
use Rattle.rinex_obs.specs.declared.head.Head.{Head}
use Rattle.rinex_obs.specs.declared.head.Head.TheVariants.{Epoch, Event}
use Rattle.rinex_obs.specs.declared.obs.SatObs.{SatObs}
use Rattle.gnss_model.specs.declared.satellites.Sat.{Sat}

-- ---- the first line of an epoch or an event

-- seconds under 60 with at most 7 decimals, in 10^-7 s
pub record IsSeconds (field : List ℕ) (tenths : ℕ) : Type 0 where
  pub digits : ℕ
  pub decimals : ℕ
  pub number : IsFixed field (pos digits) (neg_ℤ (pos decimals))
  pub few : decimals ≤ 7
  pub value : tenths ≡ digits * 10 ^ (7 - decimals)
  pub under : tenths < 600000000

-- the time of an epoch, from its year, month, day, hour, minute and seconds
pub record IsTag (text : List ℕ) (tag : ℤ) : Type 0 where
  pub year : ℕ
  pub month : ℕ
  pub day : ℕ
  pub hour : ℕ
  pub minute : ℕ
  pub tenths : ℕ
  pub year_is : IsCount (columns_of text 3 6) year
  pub month_is : IsCount (columns_of text 8 9) month
  pub day_is : IsCount (columns_of text 11 12) day
  pub hour_is : IsCount (columns_of text 14 15) hour
  pub minute_is : IsCount (columns_of text 17 18) minute
  pub seconds_are : IsSeconds (columns_of text 19 29) tenths
  pub time : IsGpsTime year month day hour minute tenths
  pub value : tag ≡ pos (gps_time year month day hour minute tenths)

-- the digit of the flag in column 32, `0` where it is blank
abbrev pub flag_of : List ℕ → ℕ
flag_of text = cond (is_blank (column_of text 32)) 48 (column_of text 32)

-- a digit from `0` to `6`
abbrev pub IsFlag : ℕ → Type 0
IsFlag byte = (48 ≤ byte) × (byte ≤ 54)

-- the number of lines, which is zero where it is blank
abbrev pub IsLineCount : List ℕ → ℕ → Type 0
IsLineCount field lines = ((list_all is_blank field ≡ true) × (lines ≡ 0))
    ⊎ ((list_all is_blank field ≡ true → ⊥) × IsCount field lines)

-- an epoch, whose time is later than the one before where one is told
abbrev pub in_order : Option ℤ → ℤ → ℕ → Result Head Fault → Type 0
in_order None tag lines = gives (Epoch tag lines)
in_order (Some before) tag lines =
    test (before <ℤ tag) fault.NotRising (gives (Epoch tag lines))

-- Behind so many epochs. Flags 0 and 1 begin an epoch, 2 to 6 an event, and the labels of the lines
-- of an event are looked at unless its flag is 6.
abbrev pub head_line : ℕ → Option ℤ → TextLine → Result Head Fault → Type 0
head_line count before line =
    test (IsShort line) fault.LongLine
    (test (list_all is_printable line.text ≡ true) fault.NotAscii
    (test (column_of line.text 1 ≡ 62) fault.BadEpoch
    (test (IsFlag (flag_of line.text)) fault.BadEpoch
    (read (IsLineCount (columns_of line.text 33 35)) fault.BadCount (λ lines.
    where_holds (flag_of line.text ≤ 49)
    (read (IsTag line.text) fault.BadEpoch (λ tag.
    test (count < 200000) fault.TooMany
    (in_order before tag lines)))
    (gives (Event (nat_le (flag_of line.text) 53) lines)))))))

-- ---- the satellites of an epoch

-- the value of a field: none where it is blank or zero
abbrev pub IsObserved : List ℕ → Option Decimal → Type 0
IsObserved field None = AreBlanks field ⊎ ((ten : ℤ) × IsFixed field (pos 0) ten)
IsObserved field (Some number) =
    IsFixed field number.digits number.ten × (number.digits ≡ pos 0 → ⊥)

-- the field of the type at a place: columns 4 to 17, 20 to 33, and so on
abbrev pub field_at : List ℕ → ℕ → List ℕ
field_at text place = columns_of text (4 + 16 * place) (17 + 16 * place)

-- the field of the second wanted code, where there are two
abbrev pub IsSecond : List ℕ → Option ℕ → Option Decimal → Type 0
IsSecond text None None = Unit {0}
IsSecond text None (Some number) = ⊥
IsSecond text (Some place) value = IsObserved (field_at text place) value

-- a capital letter that isn't one of a system that is read
abbrev pub IsOtherSystem : Bool → ℕ → Type 0
IsOtherSystem both byte = (65 ≤ byte) × (byte ≤ 90) × (IsRead both byte → ⊥)

-- the places of the wanted codes of the system with this letter
abbrev pub ArePlacesOf : Wanted → ℕ → CodePlaces → Type 0
ArePlacesOf wanted letter places =
    ((letter ≡ 71) × (places ≡ wanted.gps)) ⊎ ((letter ≡ 69) × (wanted.galileo ≡ Some places))

abbrev pub has_sat : Sat → SatObs → Bool
has_sat sat obs = obs.sat.number == sat.number && obs.sat.system == sat.system

-- with the letter of the line
abbrev pub sat_on : TextLine → ℕ → Sat
sat_on line number = record { system = column_of line.text 1; number = number }

-- a satellite line, and the satellites that are read with that of the line behind those before
abbrev pub satellite_line : Wanted → List SatObs → TextLine → Result (List SatObs) Fault → Type 0
satellite_line wanted sats line =
    test (IsShort line) fault.LongLine
    (where_holds (IsOtherSystem (have_both wanted) (column_of line.text 1)) (gives sats)
    (test (list_all is_printable line.text ≡ true) fault.NotAscii
    (read (ArePlacesOf wanted (column_of line.text 1)) fault.BadSatellite (λ places.
    read (IsNumber line.text) fault.BadSatellite (λ number.
    test (list_any (has_sat (sat_on line number)) sats ≡ false) fault.RepeatSatellite
    (test (length sats < 64) fault.TooMany
    (read (IsObserved (field_at line.text places.first)) fault.BadNumber (λ first.
    read (IsSecond line.text places.second) fault.BadNumber (λ second.
    gives
    (sats ++ record { sat = sat_on line number; first = first; second = second } ∷ []))))))))))

-- so many more satellite lines of an epoch that has `sats` so far
abbrev pub satellites_from : Wanted → ℕ → List SatObs → Behind → Result (List SatObs) Refusal →
    Type 0
satellites_from wanted zero sats from answer = answer ≡ Ok sats
satellites_from wanted (suc left) sats from answer = needs (satellite_line wanted sats) from
    (λ more next. satellites_from wanted left more next) answer

-- ---- the lines of an event

abbrev pub event_line : Bool → Bool → TextLine → Result (Unit {0}) Fault → Type 0
event_line both labelled line =
    test (IsShort line) fault.LongLine
    (where_holds (labelled ≡ true)
    (test
    (IsLabelled (codes "SYS / SCALE FACTOR") line × IsOfRead both line.text → ⊥) fault.ScaleFactor
    (test (IsLabelled (codes "SYS / # / OBS TYPES") line → ⊥) fault.HeaderChange
    (gives tt)))
    (gives tt))

-- so many of them
abbrev pub event_from : Bool → Bool → ℕ → Behind → Result (Unit {0}) Refusal → Type 0
event_from both labelled zero from answer = answer ≡ Ok tt
event_from both labelled (suc left) from answer =
    needs (event_line both labelled) from (λ none next. event_from both labelled left next) answer

-- ---- epochs and events one behind another

-- an epoch as it stands in a file
pub record Observed : Type 0 where
  pub index : ℕ
  pub tag : ℤ
  pub sats : List SatObs

-- an epoch or none, and the number of lines behind the first
pub record Block : Type 0 where
  pub epochs : List Observed
  pub lines : ℕ

-- what stands behind its first line, and behind so many epochs
abbrev pub block_from : Wanted → ℕ → Head → Behind → Result Block Refusal → Type 0
block_from wanted count (Epoch tag lines) from =
    then (satellites_from wanted lines [] from) (λ sats.
    gives (record {
      epochs = record { index = count + 1; tag = tag; sats = sats } ∷ [];
      lines = lines;
    }))
block_from wanted count (Event labelled lines) from =
    then (event_from (have_both wanted) labelled lines from) (λ none.
    gives (record { epochs = []; lines = lines }))

-- the time of the last of these epochs, and that before where there are none
abbrev pub last_time : Option ℤ → List Observed → Option ℤ
last_time before [] = before
last_time before (epoch ∷ more) = last_time (Some epoch.tag) more

-- what the time of the next epoch has to be later than, where times have to rise
abbrev pub time_before : Bool → List Observed → Option ℤ
time_before false epochs = None
time_before true epochs = last_time None epochs

-- The epochs in the lines of a body, behind those before, from a line number on. So many of the
-- first lines belong to what was read. The times of the epochs have to rise or needn't.
abbrev pub epochs_from : Bool → Wanted → List Observed → ℕ → ℕ → List TextLine →
    Result (List Observed) Refusal → Type 0
epochs_from rising wanted epochs number read [] answer = answer ≡ Ok epochs
epochs_from rising wanted epochs number (suc read) (line ∷ more) answer =
    epochs_from rising wanted epochs (number + 1) read more answer
epochs_from rising wanted epochs number zero (line ∷ more) answer =
    line_gives (head_line (length epochs) (time_before rising epochs) line) number (λ head.
    then (block_from wanted (length epochs) head (record { number = number + 1; lines = more }))
    (λ block.
    epochs_from rising wanted (epochs ++ block.epochs) (number + 1) block.lines more))
    answer
