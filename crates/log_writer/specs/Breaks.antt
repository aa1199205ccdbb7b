-- How far a text went out before a fault.
use Rattle.std.specs.Prelude.{◌≡◌, ℕ, ◌+◌, ◌<◌, ◌≤◌, List, [], ◌∷◌, ◌++◌, length, take}
use Rattle.log_writer.specs.declared.fault.WriteFault.{WriteFault}
use Rattle.log_writer.specs.declared.fault.WriteFault.TheVariants as why
use Rattle.log_writer.specs.Pieces.{Piece, log_bytes, report_bytes}

-- the first bytes of the others, some or none or all of them
abbrev pub IsFrontOf : List ℕ → List ℕ → Type 0
IsFrontOf front bytes = (kept : ℕ) × (front ≡ take kept bytes)

-- The log's file failed. It has the first bytes of the text, and the report has the lines of some
-- first pieces, whose lines are all in the log.
pub record LogBreaks (text : List Piece) (log report : List ℕ) : Type 0 where
  pub earlier : List Piece
  pub later : List Piece
  pub all : text ≡ earlier ++ later
  pub rest : List ℕ
  pub front : IsFrontOf rest (log_bytes later)
  pub log_is : log ≡ log_bytes earlier ++ rest
  pub report_is : report ≡ report_bytes earlier

-- the next line is longer than the room that the text has left of the limit
abbrev pub IsLonger : ℕ → List Piece → List Piece → Type 0
IsLonger limit text [] = ⊥
IsLonger limit text (next ∷ more) = limit < length (log_bytes text) + length next.line

-- What both files hold of a text after a fault, before which more would have followed. Log: first
-- bytes of the log, and lines of the report that it has whole. Out: all of the log, first bytes of
-- the report. Full and NoMemory: all of both.
abbrev pub Leaves : ℕ → (text more : List Piece) → WriteFault → (log report : List ℕ) → Type 0
Leaves limit text more why.Log log report = LogBreaks text log report
Leaves limit text more why.Out log report =
    (log ≡ log_bytes text) × IsFrontOf report (report_bytes text)
Leaves limit text more why.Full log report =
    (log ≡ log_bytes text) × (report ≡ report_bytes text) × IsLonger limit text more
Leaves limit text more why.NoMemory log report =
    (log ≡ log_bytes text) × (report ≡ report_bytes text)

-- The first of the pieces were made, and fit the limit. The fault came at the next one, or behind
-- them.
pub record BrokeOff (limit : ℕ) (pieces : List Piece) (fault : WriteFault)
    (log report : List ℕ) : Type 0 where
  pub text : List Piece
  pub more : List Piece
  pub all : pieces ≡ text ++ more
  pub fits : length (log_bytes text) ≤ limit
  pub leaves : Leaves limit text more fault log report
