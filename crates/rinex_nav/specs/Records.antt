-- The eight lines of a navigation record.
use Rattle.std.specs.Prelude.{ℕ, ◌≡◌, ◌⊎◌, ◌<◌, ◌==◌, ◌&&◌, ◌||◌, ℤ, Bool, true, List, [], ◌∷◌}
use Rattle.std.specs.Prelude.{Option, None, Some, Result, is_some}
use Rattle.std.specs.List.{list_all}
use Rattle.exact_decimal.specs.NumberFields.{is_blank}
use Rattle.exact_decimal.specs.declared.decimal.Decimal.{Decimal}
use Rattle.rinex_text.specs.Bodies.{is_printable, needs}
use Rattle.rinex_text.specs.Columns.{column_of}
use Rattle.rinex_text.specs.Counts.{IsNumber}
use Rattle.rinex_text.specs.Faults.{gives, test, read, where_holds, then}
use Rattle.rinex_text.specs.Headers.{IsShort, Behind}
use Rattle.rinex_text.specs.Lines.{TextLine}
use Rattle.rinex_text.specs.declared.fault.Fault.{Fault}
use Rattle.rinex_text.specs.declared.fault.Fault.TheVariants as fault
use Rattle.rinex_text.specs.declared.fault.Refusal.{Refusal}
use Rattle.gnss_model.specs.declared.satellites.Sat.{Sat}
use Rattle.gnss_model.specs.declared.systems.Message.{Message}
use Rattle.rinex_nav.specs.Fields.{Three, Four, Health, SourceFields, HealthFields, LastFields}
use Rattle.rinex_nav.specs.Fields.{AllFields, IsClockTime}
use Rattle.rinex_nav.specs.Sources.{IsKept, is_inav}

-- ---- its lines

-- `G`, or one of `G` and `E` where the records of both systems are read: then `galileo` is the
-- message whose records of `E` are kept
abbrev pub is_read : Option Message → ℕ → Bool
is_read galileo byte = byte == 71 || (is_some galileo && byte == 69)

-- what the first line gives: the satellite, the clock time, and af0, af1 and af2
abbrev pub Clock : Type 0
Clock = Sat × ℤ × Three

-- the first line, behind so many records
abbrev pub clock_line : ℕ → TextLine → Result Clock Fault → Type 0
clock_line count line =
    test (IsShort line) fault.LongLine
    (test (list_all is_printable line.text ≡ true) fault.NotAscii
    (read (IsNumber line.text) fault.BadSatellite (λ number.
    test (count < 200000) fault.TooMany
    (read (IsClockTime line.text) fault.BadEpoch (λ toc.
    read (LastFields line.text) fault.BadNumber (λ clock.
    gives (record { system = column_of line.text 1; number = number }, toc, clock)))))))

abbrev pub MayFollow : Option Message → ℕ → Type 0
MayFollow galileo byte = (is_blank byte ≡ true) ⊎ (is_read galileo byte ≡ true)

-- A further line has a blank first column. What begins another record is a fault; where that is one
-- that is read, its bytes are tested before.
abbrev pub further_text : Option Message → TextLine → Result (Unit {0}) Fault → Type 0
further_text galileo line =
    test (IsShort line) fault.LongLine
    (test (MayFollow galileo (column_of line.text 1)) fault.Truncated
    (test (list_all is_printable line.text ≡ true) fault.NotAscii
    (test (is_blank (column_of line.text 1) ≡ true) fault.Truncated
    (gives tt))))

-- its fields
abbrev pub further_line : {V : Type 0} → Option Message → (List ℕ → V → Type 0) → TextLine →
    Result V Fault → Type 0
further_line galileo AreFields line =
    then (further_text galileo line) (λ passed.
    read (AreFields line.text) fault.BadNumber gives)

-- ---- the lines one behind another

-- a record as it stands in a file
pub record Broadcast : Type 0 where
  pub sat : Sat
  pub toc : ℤ
  pub healthy : Bool
  pub fields : List Decimal

-- a record from what its lines give
abbrev pub broadcast : Clock → Three → Four → Four → Four → Decimal → Health → Broadcast
broadcast clock a b c d idot health = record {
  sat = clock.0;
  toc = clock.1;
  healthy = health.0;
  fields =
      clock.2.0 ∷ clock.2.1 ∷ clock.2.2 ∷ a.0 ∷ a.1 ∷ a.2 ∷ b.0 ∷ b.1 ∷ b.2 ∷ b.3 ∷ c.0 ∷ c.1 ∷ c.2
      ∷ c.3 ∷ d.0 ∷ d.1 ∷ d.2 ∷ d.3 ∷ idot ∷ health.1 ∷ [];
}

-- A record behind so many others: none where it isn't kept.
abbrev pub record_from : Option Message → ℕ → Behind → Result (Option Broadcast) Refusal → Type 0
record_from galileo count from =
    needs (clock_line count) from (λ clock l1.
    needs (further_line galileo LastFields) l1 (λ a l2.
    needs (further_line galileo AllFields) l2 (λ b l3.
    needs (further_line galileo AllFields) l3 (λ c l4.
    needs (further_line galileo AllFields) l4 (λ d l5.
    needs (further_line galileo (SourceFields clock.0.system)) l5 (λ source l6.
    needs (further_line galileo (HealthFields (is_inav galileo clock.0.system))) l6 (λ health l7.
    needs (further_text galileo) l7 (λ none l8.
    where_holds (IsKept galileo clock.0 source.1)
    (gives (Some (broadcast clock a b c d source.0 health)))
    (gives None)))))))))
