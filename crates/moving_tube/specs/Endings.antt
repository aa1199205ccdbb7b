-- What a log leaves for a track that goes on behind it.
use Rattle.std.specs.Prelude.{true, List, [], ◌∷◌, Option, None, Some}
use Rattle.grid_model.specs.Boxes.{GridBox}
use Rattle.paving_log.specs.CoverBoxes.{cover_of}
use Rattle.sat_model.specs.Logs.{Body, Block}
use Rattle.subpaving.specs.LiveValues.{box_option}
use Rattle.moving_tube.specs.Hulls.{HullLies, hull_of}
use Rattle.moving_tube.specs.Roots.{Before, handed_on}
use Rattle.moving_tube.specs.declared.kept.Kept.{Kept}

abbrev pub before_value : Option Kept → Option Before
before_value None = None
before_value (Some kept) = Some (record { tag = kept.tag; kept = box_option kept.part })

-- ---- what is left

-- a block with this body, where it is paved, and else the one before
abbrev pub paved_or : Option Block → Block → Option Body → Option Block
paved_or before block None = before
paved_or before block (Some body) = Some block

abbrev pub paved_behind : Option Block → List Block → Option Block
paved_behind before [] = before
paved_behind before (block ∷ more) = paved_behind (paved_or before block block.body) more

-- the last of the blocks that is paved
abbrev pub last_paved : List Block → Option Block
last_paved blocks = paved_behind None blocks

-- its time, and the hull of the boxes that it keeps; nothing where it keeps none
abbrev pub left_by : Option Block → Option Before
left_by None = None
left_by (Some block) = handed_on true block.ps (hull_of (cover_of block.body))

-- by the last paved one; blocks of few satellites behind it leave nothing of their own
abbrev pub ending_of : List Block → Option Before
ending_of blocks = left_by (last_paved blocks)

-- ---- where it lies

-- what is left lies in the search box
abbrev pub IsInsideOf : GridBox → Option Before → Type 0
IsInsideOf search None = Unit {0}
IsInsideOf search (Some before) = HullLies before.kept search
