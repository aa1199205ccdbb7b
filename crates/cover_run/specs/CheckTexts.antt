-- What is printed of a log that differs from what the files give.
use Rattle.std.specs.Prelude.{ℕ, ◌++◌, List, [], codes, decimal, nat_eq, if◌then◌else◌}
use Rattle.std.specs.Fmt.{signed_decimal}
use Rattle.paving_log_check.specs.declared.verdict.Fault.{Fault}
use Rattle.grid_model.specs.declared.spans.Span.{Span}
use Rattle.cover_run.specs.Texts.{test_name}

-- both ends of a span
abbrev pub span_text : Span → List ℕ
span_text span = signed_decimal span.lo ++ codes " " ++ signed_decimal span.hi

-- of a row that is too narrow, its span and the one that it doesn't hold
abbrev pub spans_text : Fault → List ℕ
spans_text fault =
    if nat_eq fault.number 53
    then codes " theirs " ++ span_text fault.theirs ++ codes " ours " ++ span_text fault.ours
    else []

-- a line is the first that fails a test, of which this is the least number
abbrev pub fault_text : Fault → List ℕ
fault_text fault =
    codes "no " ++ decimal fault.number ++ codes " " ++ test_name fault.number
    ++ codes " line " ++ decimal fault.line ++ spans_text fault ++ codes "\n"
