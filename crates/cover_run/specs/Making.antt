-- What `make` does: the files of a known receiver are made, read and solved, and two lines printed.
use Rattle.std.specs.Prelude.{◌≡◌, ◌<◌, ◌⊎◌, ℕ, ◌+◌, ◌++◌, Bool, List, [], ◌∷◌, length, codes}
use Rattle.std.specs.Prelude.{Option, None, Some, decimal}
use Rattle.epoch_report.specs.Reports.{counts_of}
use Rattle.epoch_report.specs.declared.counts.Counts4.{Counts4}
use Rattle.epoch_selection.specs.Selections.{all_epochs}
use Rattle.error_bounds.specs.Reading.{value_of_settings}
use Rattle.error_bounds.specs.Texts.{IsSettings}
use Rattle.input_files.specs.Inputs.{wants_position}
use Rattle.input_files.specs.declared.inputs.Inputs.{Inputs}
use Rattle.input_files.specs.declared.notice.Notice.{Notice}
use Rattle.input_files.specs.declared.notice.Notice.TheVariants as notice
use Rattle.input_files.specs.declared.status.Status.{Status}
use Rattle.input_files.specs.declared.status.Status.TheVariants as status
use Rattle.log_writer.specs.declared.fault.WriteFault.TheVariants as why
use Rattle.made_input.specs.MadeInput.{IsMade}
use Rattle.made_input.specs.declared.made.Made.{Made}
use Rattle.rinex_nav.specs.Files.{IsNavFile}
use Rattle.rinex_nav.specs.Reading.{records_of}
use Rattle.rinex_obs.specs.Files.{IsObsFile}
use Rattle.rinex_obs.specs.Reading.{observations_of}
use Rattle.sat_model.specs.Events.{steps_in}
use Rattle.sat_model.specs.Logs.{Body, Block, LogValue}
use Rattle.sat_model.specs.StepKinds.{is_inside, is_edge, is_outside, is_split}
use Rattle.sat_model.specs.declared.steps.Step.{Step}
use Rattle.cover_run.specs.Solving.{IsSolved, IsSolvedTo, most_of}
use Rattle.cover_run.specs.Telling.{Sinks, Breaks, Prints}
use Rattle.cover_run.specs.Worlds.{Says}
use Rattle.cover_run.specs.declared.totals.Kind.{Kind}
use Rattle.cover_run.specs.declared.totals.Kind.TheVariants.{Inside, Edge, Outside, Splits}

-- ---- what the totals of a report add up to

abbrev pub count_of : Kind → Counts4 → ℕ
count_of Inside counts = counts.inside
count_of Edge counts = counts.edge
count_of Outside counts = counts.outside
count_of Splits counts = counts.bisections

-- one of the numbers of a block's total
abbrev pub counted_with : Kind → Option Body → ℕ
counted_with kind None = 0
counted_with kind (Some body) = count_of kind (counts_of body.root (steps_in body.events))

abbrev pub counted_in : Kind → Block → ℕ
counted_in kind block = counted_with kind block.body

-- how many usable satellites it has
abbrev pub usable_in : Block → ℕ
usable_in block = block.n

-- over the epochs
abbrev pub summed : (Block → ℕ) → List Block → ℕ
summed number [] = 0
summed number (block ∷ more) = number block + summed number more

-- steps of one kind
abbrev pub is_of : Kind → Step → Bool
is_of Inside step = is_inside step
is_of Edge step = is_edge step
is_of Outside step = is_outside step
is_of Splits step = is_split step

-- the two lines
abbrev pub made_text : (seed count : ℕ) → LogValue → List ℕ
made_text seed count log =
    codes "made seed " ++ decimal seed ++ codes " epochs " ++ decimal count
    ++ codes " satellites " ++ decimal (summed usable_in log.blocks)
    ++ codes "\nboxes in " ++ decimal (summed (counted_in Inside) log.blocks)
    ++ codes " edge " ++ decimal (summed (counted_in Edge) log.blocks)
    ++ codes " out " ++ decimal (summed (counted_in Outside) log.blocks)
    ++ codes " bisections " ++ decimal (summed (counted_in Splits) log.blocks) ++ codes "\n"

-- ---- what is solved

-- this is what the texts are read as that are made of a seed, for so many epochs
pub record AreMade (seed count : ℕ) (i : Inputs) : Type 0 where
  pub made : Made
  pub is_made : IsMade seed count made
  pub settings : IsSettings made.settings.items (value_of_settings i.settings)
  pub nav : IsNavFile made.nav.items (records_of i.nav)
  pub alone : i.station ≡ None
  pub obs : IsObsFile i.settings.signal (wants_position i.settings.centre) made.obs.items
      (observations_of i.obs)

module _ (limit : ℕ) (i : Inputs) where
  -- a whole log of all epochs within the limit, as `solve` writes it
  pub record IsSolvedAs (log : LogValue) : Type 0 where
    pub bytes : List ℕ
    pub said : List ℕ
    pub solved : IsSolved all_epochs i limit bytes said
    pub log_is : solved.whole.log ≡ log

  -- the first lines of a log of the first epochs, up to the one in hand, whose next line would
  -- bring it past the limit, which is less than a log of all epochs can need
  pub record IsFull : Type 0 where
    pub bytes : List ℕ
    pub said : List ℕ
    pub begun : IsSolvedTo all_epochs i why.Full limit bytes said
    pub room : limit < most_of all_epochs i

-- memory ran out, or the log was full
abbrev pub IsCutOff : ℕ → Type 0 → Notice → Type 0
IsCutOff limit Full n = (n ≡ notice.NoMemory) ⊎ ((n ≡ notice.LogFull limit) × Full)

-- the made files were solved
module _ (limit seed count : ℕ) where
  pub record SolvesMade (log : LogValue) : Type 0 where
    pub inputs : Inputs
    pub are_made : AreMade seed count inputs
    pub solved : IsSolvedAs limit inputs log

  pub record FillsMade : Type 0 where
    pub inputs : Inputs
    pub are_made : AreMade seed count inputs
    pub full : IsFull limit inputs

  module _ (before after : Sinks) (reliable : Type 0) where
    -- All work was done, and the two lines were printed, as far as `out` took them; or the log was
    -- full, or memory ran out, and nothing was printed.
    abbrev pub Makes : Status → Type 0
    Makes status.Done =
        (log : LogValue) × SolvesMade log × Prints before after (made_text seed count log)
    Makes status.WriteFault =
        (log : LogValue) × SolvesMade log × Breaks before after reliable (made_text seed count log)
    Makes status.LogFull =
        FillsMade × Says before.err after.err (notice.LogFull limit) × (after.out ≡ before.out)
    Makes status.NoMemory =
        Says before.err after.err notice.NoMemory × (after.out ≡ before.out)
    Makes status.No = ⊥
    Makes status.Usage = ⊥
    Makes status.Refused = ⊥
    Makes status.ReadFault = ⊥
