-- What `judge` says of a log.
use Rattle.std.specs.Prelude.{◌≡◌, ◌⊎◌, ℕ, List}
use Rattle.input_files.specs.declared.status.Status.{Status}
use Rattle.input_files.specs.declared.status.Status.TheVariants as status
use Rattle.sat_model.specs.Cover.{RowCover, kept_boxes}
use Rattle.sat_model.specs.Logs.{LogValue}
use Rattle.sat_model.specs.Verdicts as verdicts
use Rattle.cover_run.specs.Texts.{yes_text, no_text}

-- the log is right, with the cover that it claims, and this line says so
abbrev pub SaysJudged : LogValue → List ℕ → Type 0
SaysJudged log line = verdicts.Judged log × RowCover log × (line ≡ yes_text (kept_boxes log))

-- it has a fault, and this line names the first
abbrev pub SaysFault : LogValue → List ℕ → Type 0
SaysFault log line = (verdicts.Judged log → ⊥)
    × ((at number : ℕ) × verdicts.FirstFault log at number × (line ≡ no_text number at))

-- the status of its verdict
abbrev pub IsJudgedAs : LogValue → Status → Type 0
IsJudgedAs log s = ((s ≡ status.Done) × verdicts.Judged log)
    ⊎ ((s ≡ status.No) × (verdicts.Judged log → ⊥))
