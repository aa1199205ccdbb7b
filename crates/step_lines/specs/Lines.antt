-- The line of a step: its words, and which steps fit in it.
use Rattle.std.specs.Prelude.{ℕ, ◌≤ℤ◌, List, [], ◌∷◌, codes}
use Rattle.std.specs.Fmt.{decimal, signed_decimal}
use Rattle.grid_model.specs.Sizes.{IsBoxSize, IsClockSize}
use Rattle.sat_model.specs.declared.steps.Step.{Step}
use Rattle.sat_model.specs.declared.steps.Step.TheVariants.{Cut, Split, Outside, Inside, Edge}
use Rattle.log_tokens.specs.Words.{joined}
use Rattle.log_tokens.specs.Fields.{IsCountFromTo}
use Rattle.step_lines.specs.declared.names.StepName.{StepName}
use Rattle.step_lines.specs.declared.names.StepName.TheVariants as name

-- the words behind the first
abbrev pub step_words : Step → List (List ℕ)
step_words (Cut id face bound) = decimal id ∷ decimal face ∷ signed_decimal bound ∷ []
step_words (Split id axis) = decimal id ∷ decimal axis ∷ []
step_words (Outside id) = decimal id ∷ []
step_words (Inside id clock lo hi) =
    decimal id ∷ signed_decimal clock ∷ signed_decimal lo ∷ signed_decimal hi ∷ []
step_words (Edge id lo hi) = decimal id ∷ signed_decimal lo ∷ signed_decimal hi ∷ []

-- the number of a box
abbrev pub IsId : ℕ → Type 0
IsId id = IsCountFromTo 0 400000 id

abbrev pub StepFits : Step → Type 0
StepFits (Cut id face bound) = IsId id × IsCountFromTo 0 5 face × IsBoxSize bound
StepFits (Split id axis) = IsId id × IsCountFromTo 0 2 axis
StepFits (Outside id) = IsId id
StepFits (Inside id clock lo hi) =
    IsId id × IsClockSize clock × IsClockSize lo × IsClockSize hi × (lo ≤ℤ hi)
StepFits (Edge id lo hi) = IsId id × IsClockSize lo × IsClockSize hi × (lo ≤ℤ hi)

abbrev pub name_word : StepName → List ℕ
name_word name.Cut = codes "cut"
name_word name.Split = codes "split"
name_word name.Out = codes "out"
name_word name.In = codes "in"
name_word name.Edge = codes "edge"

abbrev pub step_name : Step → StepName
step_name (Cut id face bound) = name.Cut
step_name (Split id axis) = name.Split
step_name (Outside id) = name.Out
step_name (Inside id clock lo hi) = name.In
step_name (Edge id lo hi) = name.Edge

abbrev pub line_words : Step → List (List ℕ)
line_words s = name_word (step_name s) ∷ step_words s

-- the one spelling of its line, without the LF
abbrev pub step_text : Step → List ℕ
step_text s = joined (line_words s)
