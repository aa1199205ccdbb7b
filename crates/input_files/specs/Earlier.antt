-- What the text of an earlier log stands for, behind which a track goes on: what it leaves.
use Rattle.std.specs.Prelude.{◌≡◌, ◌⊎◌, ℕ, List, Option}
use Rattle.grid_model.specs.Boxes.{GridBox}
use Rattle.log_lines.specs.Text.{IsLogText}
use Rattle.moving_tube.specs.Endings.{IsInsideOf, before_value, ending_of}
use Rattle.moving_tube.specs.Roots.{Before}
use Rattle.moving_tube.specs.declared.kept.Kept.{Kept}
use Rattle.paving_log.specs.Faults.{FirstFault}
use Rattle.sat_model.specs.Logs.{LogValue}
use Rattle.sat_model.specs.Verdicts as verdicts
use Rattle.input_files.specs.Logs.{NamesFirst}
use Rattle.input_files.specs.Reading.{Text}
use Rattle.input_files.specs.declared.notice.Notice.{Notice}
use Rattle.input_files.specs.declared.notice.Notice.TheVariants as notice
use Rattle.input_files.specs.declared.role.Role.TheVariants as role

module _ (search : GridBox) where
  -- the log is right, and leaves this, which lies in the search box
  pub record IsLeft (log : LogValue) (left : Option Before) : Type 0 where
    pub judged : verdicts.Judged log
    pub left_is : left ≡ ending_of log.blocks
    pub inside : IsInsideOf search left

  abbrev pub SpellsEarlier : List ℕ → Option Before → Type 0
  SpellsEarlier bytes left = (log : LogValue) × IsLogText log bytes × IsLeft log left

  -- the log has its first fault in this line, or it is right, and what it leaves doesn't lie there
  abbrev pub IsUnfit : LogValue → Notice → Type 0
  IsUnfit log (notice.BadAfter line) =
      (verdicts.Judged log → ⊥) × ((number : ℕ) × verdicts.FirstFault log line number)
  IsUnfit log notice.AfterOutside =
      verdicts.Judged log × (IsInsideOf search (ending_of log.blocks) → ⊥)
  IsUnfit log _ = ⊥

  -- the text is none of a log, or one of such a log
  abbrev pub NamesEarlier : List ℕ → Notice → Type 0
  NamesEarlier bytes n = NamesFirst role.After IsLogText FirstFault bytes n
      ⊎ ((log : LogValue) × IsLogText log bytes × IsUnfit log n)

  abbrev pub earlier_text : Text (Option Kept)
  earlier_text = record {
    role = role.After;
    Value = Option Before;
    value = before_value;
    Spells = SpellsEarlier;
    Names = NamesEarlier;
    Usual = λ left. IsInsideOf search (before_value left);
  }

  -- memory ran out, or the log is no such one
  abbrev pub NamesUnfit : LogValue → Notice → Type 0
  NamesUnfit log n = (n ≡ notice.NoMemory) ⊎ IsUnfit log n
