-- The lines of a report, each with its LF.
use Rattle.std.specs.Prelude.{ℕ, ℤ, Bool, true, false, List, [], ◌∷◌, ◌++◌, codes}
use Rattle.std.specs.Fmt.{decimal}
use Rattle.sat_model.specs.declared.steps.Step.{Step}
use Rattle.sat_model.specs.declared.steps.Step.TheVariants.{Cut, Split, Outside, Inside, Edge}
use Rattle.grid_model.specs.Boxes.{GridBox, Side}
use Rattle.log_tokens.specs.Words.{joined}
use Rattle.epoch_report.specs.declared.counts.Counts4.{Counts4}
use Rattle.epoch_report.specs.Metres.{metres_text, seconds_text}

-- the line of these words, which single blanks divide
abbrev pub line_of : List (List ℕ) → List ℕ
line_of words = joined words ++ 10 ∷ []

-- ---- the first line of an epoch

-- what its last number counts: satellites, which are too few for a paving in an epoch of few
abbrev pub counted_name : Bool → List ℕ
counted_name true = codes "few"
counted_name false = codes "satellites"

-- its index, its time in ps, and its number of satellites
abbrev pub epoch_text_of : Bool → ℕ → ℤ → ℕ → List ℕ
epoch_text_of few index ps n = line_of (codes "epoch" ∷ decimal index ∷ codes "gps"
    ∷ seconds_text ps ∷ counted_name few ∷ decimal n ∷ [])

-- ---- the line of a step

abbrev pub side_words : Side → List (List ℕ)
side_words s = metres_text s.lo ∷ metres_text s.hi ∷ []

-- the low and the high end of x, of y and of z
abbrev pub box_words : GridBox → List (List ℕ)
box_words c = side_words c.x ++ (side_words c.y ++ side_words c.z)

abbrev pub in_words : GridBox → ℤ → List (List ℕ)
in_words part clock = codes "in" ∷ (box_words part ++ codes "clock" ∷ metres_text clock ∷ [])

abbrev pub edge_words : GridBox → ℤ → ℤ → List (List ℕ)
edge_words part lo hi =
    codes "edge" ∷ (box_words part ++ codes "clock" ∷ metres_text lo ∷ metres_text hi ∷ [])

abbrev pub out_words : GridBox → List (List ℕ)
out_words part = codes "out" ∷ box_words part

-- A step has a line for the box that it closes, or for the slab that it cuts off, and a split has
-- none.
abbrev pub step_text_of : Step → GridBox → List ℕ
step_text_of (Cut id face bound) slab = line_of (out_words slab)
step_text_of (Split id axis) part = []
step_text_of (Outside id) part = line_of (out_words part)
step_text_of (Inside id clock lo hi) part = line_of (in_words part clock)
step_text_of (Edge id lo hi) part = line_of (edge_words part lo hi)

-- ---- the last line of a paved epoch

-- its lines `in`, `edge` and `out`, and its splits
abbrev pub total_text_of : Counts4 → List ℕ
total_text_of counts = line_of (codes "total" ∷ codes "in" ∷ decimal counts.inside ∷ codes "edge"
    ∷ decimal counts.edge ∷ codes "out" ∷ decimal counts.outside ∷ codes "bisections"
    ∷ decimal counts.bisections ∷ [])
