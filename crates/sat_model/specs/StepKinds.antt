-- The kinds of steps.
use Rattle.std.specs.Prelude.{Bool, true, false}
use Rattle.sat_model.specs.declared.steps.Step.{Step}
use Rattle.sat_model.specs.declared.steps.Step.TheVariants.{Cut, Split, Outside, Inside, Edge}

-- the step closes a box as inside
abbrev pub is_inside : Step → Bool
is_inside (Cut id face bound) = false
is_inside (Split id axis) = false
is_inside (Outside id) = false
is_inside (Inside id clock lo hi) = true
is_inside (Edge id lo hi) = false

-- the step closes a box as undecided
abbrev pub is_edge : Step → Bool
is_edge (Cut id face bound) = false
is_edge (Split id axis) = false
is_edge (Outside id) = false
is_edge (Inside id clock lo hi) = false
is_edge (Edge id lo hi) = true

-- a box or a slab is given as outside
abbrev pub is_outside : Step → Bool
is_outside (Cut id face bound) = true
is_outside (Split id axis) = false
is_outside (Outside id) = true
is_outside (Inside id clock lo hi) = false
is_outside (Edge id lo hi) = false

-- the step splits a box
abbrev pub is_split : Step → Bool
is_split (Cut id face bound) = false
is_split (Split id axis) = true
is_split (Outside id) = false
is_split (Inside id clock lo hi) = false
is_split (Edge id lo hi) = false

-- the step closes a box inside or at the edge
abbrev pub is_kept_step : Step → Bool
is_kept_step (Cut id face bound) = false
is_kept_step (Split id axis) = false
is_kept_step (Outside id) = false
is_kept_step (Inside id clock lo hi) = true
is_kept_step (Edge id lo hi) = true
