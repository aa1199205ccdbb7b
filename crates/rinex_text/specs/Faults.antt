-- The numbers of the faults of a file, and tests that name the first of them.
use Rattle.std.specs.Prelude.{ℕ, ◌≡◌, ◌⊎◌, Result, Ok, Err}
use Rattle.rinex_text.specs.declared.fault.Fault.{Fault}
use Rattle.rinex_text.specs.declared.fault.Fault.TheVariants as fault
use Rattle.rinex_text.specs.declared.fault.Refusal.{Refusal}

abbrev pub number_of : Fault → ℕ
number_of fault.NotRinex = 10
number_of fault.Version = 11
number_of fault.Kind = 12
number_of fault.System = 13
number_of fault.NoEndOfHeader = 14
number_of fault.LongLine = 15
number_of fault.CodeAbsent = 16
number_of fault.TimeSystem = 17
number_of fault.ScaleFactor = 18
number_of fault.BadEpoch = 19
number_of fault.BadCount = 20
number_of fault.BadSatellite = 21
number_of fault.RepeatSatellite = 22
number_of fault.BadNumber = 23
number_of fault.Truncated = 24
number_of fault.HeaderChange = 25
number_of fault.NotAscii = 26
number_of fault.TooMany = 27
number_of fault.NoPosition = 28
number_of fault.NotRising = 43

abbrev pub refusal : Fault → ℕ → Refusal
refusal f line = record { number = number_of f; line = line }

-- What is read: a value, or the first fault. A reader is what holds of that answer.

-- the value, and no fault
abbrev pub gives : {X E : Type 0} → X → Result X E → Type 0
gives value answer = answer ≡ Ok value

-- a test, and where it is passed what comes later; else its fault
abbrev pub test : {X E : Type 0} → Type 0 → E → (Result X E → Type 0) → Result X E → Type 0
test passed fault later answer = (passed × later answer) ⊎ ((passed → ⊥) × (answer ≡ Err fault))

-- where this holds, the first; else the second
abbrev pub where_holds : {X E : Type 0} → Type 0 → (Result X E → Type 0) → (Result X E → Type 0) →
    Result X E → Type 0
where_holds this first second answer = (this × first answer) ⊎ ((this → ⊥) × second answer)

-- some value of this kind, and with it what comes later; where there is none its fault
abbrev pub read : {V X E : Type 0} → (V → Type 0) → E → (V → Result X E → Type 0) → Result X E →
    Type 0
read {V} IsValue fault later answer =
    ((v : V) × IsValue v × later v answer) ⊎ (((v : V) → IsValue v → ⊥) × (answer ≡ Err fault))

-- what one reader gives, and with it what comes later; or the reader's fault
abbrev pub then : {V X E : Type 0} → (Result V E → Type 0) → (V → Result X E → Type 0) →
    Result X E → Type 0
then {V} {X} {E} reader later answer =
    ((v : V) × reader (Ok v) × later v answer) ⊎ ((e : E) × reader (Err e) × (answer ≡ Err e))

-- what a line gives, and what comes later; or the refusal of its first fault
abbrev pub line_gives : {V X : Type 0} → (Result V Fault → Type 0) → ℕ →
    (V → Result X Refusal → Type 0) → Result X Refusal → Type 0
line_gives {V} line number later answer =
    ((v : V) × line (Ok v) × later v answer)
    ⊎ ((f : Fault) × line (Err f) × (answer ≡ Err (refusal f number)))
