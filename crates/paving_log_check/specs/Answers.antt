-- What is said of a verdict.
use Rattle.std.specs.Prelude.{◌≡◌, ℕ, pos}
use Rattle.sat_model.specs.Logs.{LogValue}
use Rattle.sat_model.specs.Relaxed.{ends}
use Rattle.sat_model.specs.Verdicts.{FirstFault}
use Rattle.paving_log_check.specs.declared.verdict.Fault.{Fault}
use Rattle.paving_log_check.specs.declared.verdict.Verdict.{Verdict}
use Rattle.paving_log_check.specs.declared.verdict.Verdict.TheVariants.{Yes, No}

-- where the verdict is yes, the fact holds of its number of boxes
abbrev pub IfYes : Verdict → (ℕ → Type 0) → Type 0
IfYes (Yes boxes) Holds = Holds boxes
IfYes (No fault) Holds = Unit {0}

-- where it is no, the fact holds of the fault
abbrev pub IfNo : Verdict → (Fault → Type 0) → Type 0
IfNo (Yes boxes) Holds = Unit {0}
IfNo (No fault) Holds = Holds fault

-- no other line, and no other number, is the first that fails
abbrev pub IsOnlyFault : LogValue → Fault → Type 0
IsOnlyFault log fault =
    (line number : ℕ) → FirstFault log line number → (line ≡ fault.line) × (number ≡ fault.number)

-- both spans are [0, 0]
abbrev pub ShowsNoSpans : Fault → Type 0
ShowsNoSpans fault = (ends fault.theirs ≡ (pos 0, pos 0)) × (ends fault.ours ≡ (pos 0, pos 0))
