-- The report of a whole log. It says nothing of renewed rows.
use Rattle.std.specs.Prelude.{ℕ, List, [], ◌++◌, Option, None, Some, count_by}
use Rattle.std.specs.List.{flat_map}
use Rattle.sat_model.specs.declared.steps.Step.{Step}
use Rattle.grid_model.specs.Boxes.{GridBox}
use Rattle.sat_model.specs.Events.{steps_in}
use Rattle.sat_model.specs.Fold.{ShownStep, pieces}
use Rattle.sat_model.specs.Logs.{Body, Block, LogValue, is_few}
use Rattle.sat_model.specs.StepKinds.{is_inside, is_edge, is_outside, is_split}
use Rattle.epoch_report.specs.declared.counts.Counts4.{Counts4}
use Rattle.epoch_report.specs.ReportLines.{epoch_text_of, step_text_of, total_text_of}

-- ---- what the total counts

-- of these steps from this root: the lines of its slabs and closed boxes by kind, and its splits
abbrev pub counts_of : GridBox → List Step → Counts4
counts_of root steps = record {
  inside = count_by (λ piece. is_inside piece.step) (pieces root steps);
  edge = count_by (λ piece. is_edge piece.step) (pieces root steps);
  outside = count_by (λ piece. is_outside piece.step) (pieces root steps);
  bisections = count_by is_split steps;
}

-- ---- the report

abbrev pub piece_text : ShownStep → List ℕ
piece_text piece = step_text_of piece.step piece.part

-- behind an epoch's first line: where it has a body, a line for each slab and closed box, and the
-- total
abbrev pub paved_text : Option Body → List ℕ
paved_text None = []
paved_text (Some body) = flat_map piece_text (pieces body.root (steps_in body.events))
    ++ total_text_of (counts_of body.root (steps_in body.events))

abbrev pub block_text : Block → List ℕ
block_text block = epoch_text_of (is_few block) block.index block.ps block.n
    ++ paved_text block.body

-- the report of a log: epoch by epoch
abbrev pub report_text : LogValue → List ℕ
report_text log = flat_map block_text log.blocks
