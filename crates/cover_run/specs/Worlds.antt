-- What is seen of a run, and what a part of a run may do: a line said, a file written again.
use Rattle.std.specs.Prelude.{◌≡◌, ◌⊎◌, ℕ, ◌+◌, List, length}
use Rattle.std.specs.Option.{option_map}
use Rattle.std.specs.FinMap as map
use Rattle.input_files.specs.NoticeTexts.{notice_text}
use Rattle.input_files.specs.declared.notice.Notice.{Notice}
use Rattle.outer_io.specs.Causes.{Rose}
use Rattle.outer_io.specs.Taken.{SinkState, TakenBy, TakenPrefix}
use Rattle.outer_io.specs.Told.{ShelfState, files_of, written_of, terms_of}

-- the shelf and both sinks
pub record World : Type 0 where
  pub shelf : ShelfState
  pub out : SinkState
  pub err : SinkState

abbrev pub world : ShelfState → SinkState → SinkState → World
world shelf out err = record { shelf = shelf; out = out; err = err }

-- the sink got the line, or it failed and got its first bytes
abbrev pub Gets : SinkState → SinkState → List ℕ → Type 0
Gets old new line = TakenBy old new line ⊎ (TakenPrefix old new line × Rose old.faults new.faults)

-- it got the notice
abbrev pub Says : SinkState → SinkState → Notice → Type 0
Says old new n = Gets old new (notice_text n)

-- The named file has these bytes now, and no other file has changed. No more than they were
-- written.
pub record Rewrites (before after : ShelfState) (name bytes : List ℕ) : Type 0 where
  pub files : files_of after ≡ option_map (λ files. map.insert files name bytes) (files_of before)
  pub written : written_of after ≡ option_map (λ count. count + length bytes) (written_of before)
  pub terms : terms_of after ≡ terms_of before
