-- What `pave` reads and does.
use Rattle.std.specs.Prelude.{ℕ, false, List, [], ◌∷◌, length}
use Rattle.input_files.specs.declared.status.Status.{Status}
use Rattle.log_writer.specs.RowsFrom.{of_rows}
use Rattle.log_writer.specs.Sizes.{most_bytes}
use Rattle.log_writer.specs.Texts.{IsText}
use Rattle.log_writer.specs.Writing.{Trust}
use Rattle.outer_io.specs.declared.slots.Slot.TheVariants as slot
use Rattle.sat_model.specs.Logs.{Block, LogValue}
use Rattle.cover_run.specs.Worlds.{World}
use Rattle.cover_run.specs.Writing.{Answer, Writes}

-- the text and report of a log that paves all rows, or first ones of it
abbrev pub IsPaved : LogValue → ℕ → Answer → (bytes said : List ℕ) → Type 0
IsPaved rows limit answer bytes said =
    (last : List Block) × IsText of_rows rows.rules rows.blocks last limit answer bytes said

-- the log of the rows in this file was written, and its report printed, or it couldn't be created
abbrev pub Paves : ℕ → (from log : List ℕ) → LogValue → World → World → Trust → Status → Type 0
Paves limit from log rows before after trust =
    Writes log before after trust ((slot.Rows, from) ∷ []) limit
    (most_bytes false (length rows.blocks) rows.rules.bisections) (IsPaved rows limit)
