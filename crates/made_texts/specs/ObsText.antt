-- The text of an observation file, and the epochs that it has.
use Rattle.std.specs.Prelude.{ℕ, zero, suc, ◌+◌, ◌-◌, ◌*◌, ◌/◌, ◌%◌, ◌^◌, ◌≤◌, ◌<◌, ℤ, pos, negsuc}
use Rattle.std.specs.Prelude.{neg_ℤ, nat_abs, nat_lt, cond, List, [], ◌∷◌, ◌++◌, length, map}
use Rattle.std.specs.Prelude.{replicate, Option, None, Some, codes}
use Rattle.std.specs.Fmt.{decimal}
use Rattle.std.specs.List.{AllByRecursion}
use Rattle.exact_decimal.specs.declared.decimal.Decimal.{Decimal}
use Rattle.rinex_text.specs.Dates.{gps_time}
use Rattle.rinex_obs.specs.Epochs.{Observed}
use Rattle.rinex_obs.specs.declared.obs.SatObs.{SatObs}
use Rattle.decimal_digits.specs.Digits.{last_digits}
use Rattle.made_texts.specs.TextLines.{text_of}
use Rattle.made_texts.specs.declared.sat_codes.SatCode.{SatCode}
use Rattle.made_texts.specs.declared.sat_codes.EpochCodes.{EpochCodes}

-- ---- fields

-- blanks in front, up to so many columns
unfoldable pub right : ℕ → List ℕ → List ℕ
right width text = replicate (width - length text) 32 ++ text

-- a length in mm, as metres with three decimals
unfoldable pub metres_text : ℤ → List ℕ
metres_text (pos n) = decimal (n / 1000) ++ 46 ∷ last_digits 3 n
metres_text (negsuc n) = 45 ∷ (decimal (suc n / 1000) ++ 46 ∷ last_digits 3 (suc n))

-- two columns, without a zero in front
abbrev pub two_wide : ℕ → List ℕ → List ℕ
two_wide n more = cond (nat_lt n 10) 32 (48 + n / 10) ∷ (48 + n % 10) ∷ more

-- ---- lines

unfoldable pub satellite_text : SatCode → List ℕ
satellite_text seen = 71 ∷ (last_digits 2 seen.number ++ right 14 (metres_text seen.code))

unfoldable pub head_text : ℕ → ℕ → ℕ → ℕ → List ℕ
head_text hour minute second count =
    codes "> 2024 01 07 " ++ (last_digits 2 hour ++ 32 ∷ (last_digits 2 minute ++ 32
    ∷ two_wide second (codes ".0000000  0" ++ right 3 (decimal count))))

-- those of an epoch before others
abbrev pub satellite_lines : List SatCode → List (List ℕ) → List (List ℕ)
satellite_lines [] more = more
satellite_lines (seen ∷ sats) more = satellite_text seen ∷ satellite_lines sats more

abbrev pub epoch_lines : List EpochCodes → List (List ℕ)
epoch_lines [] = []
epoch_lines (epoch ∷ epochs) =
    head_text epoch.hour epoch.minute epoch.second (length epoch.sats.items)
    ∷ satellite_lines epoch.sats.items (epoch_lines epochs)

-- the text of an epoch's lines
unfoldable pub satellites_text : List SatCode → List ℕ
satellites_text sats = text_of (satellite_lines sats [])

unfoldable pub epoch_text : EpochCodes → List ℕ
epoch_text epoch = head_text epoch.hour epoch.minute epoch.second (length epoch.sats.items)
    ++ 10 ∷ satellites_text epoch.sats.items

abbrev pub obs_lines : List EpochCodes → List (List ℕ)
obs_lines epochs =
    codes "     3.05           OBSERVATION DATA    G                   RINEX VERSION / TYPE"
    ∷ codes "G    1 C1C                                                  SYS / # / OBS TYPES"
    ∷ codes "  2024     1     7     1     0    0.0000000     GPS         TIME OF FIRST OBS"
    ∷ codes "                                                            END OF HEADER"
    ∷ epoch_lines epochs

abbrev pub code_c1c : List ℕ
code_c1c = codes "C1C"

-- ---- what is read

-- a code of 0 reads as none
abbrev pub observed_of : ℤ → Option Decimal
observed_of (pos zero) = None
observed_of (pos (suc n)) = Some (record { digits = pos (suc n); ten = neg_ℤ (pos 3) })
observed_of (negsuc n) = Some (record { digits = negsuc n; ten = neg_ℤ (pos 3) })

abbrev pub sat_of : SatCode → SatObs
sat_of seen = record {
  sat = record { system = 71; number = seen.number };
  first = observed_of seen.code;
  second = None;
}

-- the epochs, the first with this number
abbrev pub observed_from : ℕ → List EpochCodes → List Observed
observed_from index [] = []
observed_from index (epoch ∷ epochs) =
    record {
      index = index;
      tag = pos (gps_time 2024 1 7 epoch.hour epoch.minute (epoch.second * 10000000));
      sats = map sat_of epoch.sats.items;
    }
    ∷ observed_from (index + 1) epochs

-- ---- what can be written

-- satellites with rising numbers up to 99, and codes under 10^8 m
abbrev pub AreSeenFrom : ℕ → List SatCode → Type 0
AreSeenFrom least [] = Unit {0}
AreSeenFrom least (seen ∷ sats) =
    (least ≤ seen.number) × (seen.number ≤ 99) × (nat_abs seen.code < 10 ^ 11)
    × AreSeenFrom (seen.number + 1) sats

pub record IsEpoch (epoch : EpochCodes) : Type 0 where
  pub hour : epoch.hour ≤ 23
  pub minute : epoch.minute ≤ 59
  pub second : epoch.second ≤ 59
  pub few : length epoch.sats.items ≤ 64
  pub sats : AreSeenFrom 1 epoch.sats.items

abbrev pub AreEpochs : List EpochCodes → Type 0
AreEpochs epochs = AllByRecursion IsEpoch epochs
