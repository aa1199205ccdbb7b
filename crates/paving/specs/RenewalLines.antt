-- The lines of renewed rows, and where taking them broke off.
use Rattle.std.specs.Prelude.{◌≡◌, ℕ, ◌+◌, ◌<◌, ◌≤◌, ◌↔◌, List, ◌∷◌, length, map, take}
use Rattle.std.specs.List.{AllByRecursion}
use Rattle.sat_model.specs.declared.rows.SatEntry.TheVariants as entry
use Rattle.sat_model.specs.Events.{RowsOver}
use Rattle.log_lines.specs.declared.line.LogLine.{LogLine}
use Rattle.log_lines.specs.declared.line.LogLine.TheVariants as line
use Rattle.log_lines.specs.Lines.{text_of}
use Rattle.log_lines.specs.Rows.{RowFits, corners_of}
use Rattle.paving.specs.declared.steps.StepFault.{StepFault}
use Rattle.paving.specs.declared.steps.StepFault.TheVariants.{Full}

-- the line of the box, and one for each row
abbrev pub renewal_lines : RowsOver → List LogLine
renewal_lines new =
    line.Renew (corners_of new.part) ∷ map (λ row. line.Sat (entry.Row row)) new.rows

-- So many of the lines were taken, and the next one broke: with this fault, which is that of want
-- of room exactly where that line is longer than the bytes that the lines before it left. A line is
-- as long as its spelling where its satellite has a name.
pub record BrokeRows {L : Type 0} (broke_rows : L → RowsOver → ℕ → L → Type 0)
    (room : L → ℕ) (fault : StepFault) (first : L) (new : RowsOver) (last : L) : Type 0 where
  pub lines : ℕ
  pub some_left : lines ≤ length new.rows
  pub broken : broke_rows first new lines last
  pub full : AllByRecursion RowFits new.rows → (fault ≡ Full)
      ↔ (room first < length (text_of (take (lines + 1) (renewal_lines new))))
