-- How a paving that is underway stands, and what a turn of it is. No public clause cites it.
use Rattle.std.specs.Prelude.{◌≡◌, ℕ, ◌+◌, ◌*◌, ◌-◌, ◌<◌, ◌≤◌, Bool, true, false, [], ◌∷◌, length, map, Option, None, Some}
use Rattle.std.specs.Option.{option_map}
use Rattle.grid_model.specs.Boxes.{grid_box}
use Rattle.sat_model.specs.BoxTests.{test_of}
use Rattle.sat_model.specs.Events.{RowsOver}
use Rattle.sat_model.specs.Waiting.{Paving}
use Rattle.box_contraction.specs.Adding.{step_value}
use Rattle.paving.specs.InUse.{used_of}
use Rattle.paving.specs.Queues.{IsQueued}
use Rattle.paving.specs.Renewing.{Maker, AllInside}
use Rattle.paving.specs.Trees.{AreTreesFor}
use Rattle.paving.specs.Turns.{Turn, used_after, PavesTurns}
use Rattle.paving.specs.declared.turn.Pavement.{Pavement}
use Rattle.paving.specs.declared.turn.Turn as code

-- the rows in use behind a turn, where they were renewed
abbrev pub renewed_by : Bool → RowsOver → Option RowsOver
renewed_by false used = None
renewed_by true used = Some used

-- the turn that the paving had last: its steps, and the rows in use where they are new
abbrev pub turn_of : Bool → Pavement → Turn
turn_of renewed now = record {
  steps = map step_value now.steps.items;
  renewed = renewed_by renewed (used_of now.in_use);
}

-- the turn that a view shows
abbrev pub turn_value : code.Turn → Turn
turn_value turn = record {
  steps = map step_value turn.steps.now;
  renewed = option_map (λ in_use. used_of in_use.now) turn.renewed;
}

-- the boxes that wait are these, and they are tested by the rows in use
pub record Stands (now : Pavement) (paving : Paving) : Type 0 where
  pub queued : IsQueued paving.waiting now.queues.lists
  pub tested : paving.test ≡ test_of now.rules now.in_use.rows.items
  pub splits_is : paving.splits ≡ now.splits
  pub spared : now.queues.spare + length paving.waiting ≡ now.rules.bisections + 1
  pub few : length paving.waiting ≤ now.splits + 1
  pub within : now.splits ≤ now.rules.bisections
  pub inside : AllInside paving.waiting (grid_box now.root)
  pub trees : AreTreesFor (test_of now.rules now.in_use.rows.items) now.in_use.trees
  pub enough : now.rules.outliers < length now.in_use.rows.items
  pub at_most : length now.in_use.rows.items ≤ 64

-- how many turns may come
abbrev pub turns_left : Pavement → ℕ
turns_left now = 3 * now.rules.bisections + 1 - (2 * now.splits + now.queues.spare)

-- the same rules, root and number of rows
pub record IsSame (old new : Pavement) : Type 0 where
  pub rules : new.rules ≡ old.rules
  pub root : new.root ≡ old.root
  pub rows : length new.in_use.rows.items ≡ length old.in_use.rows.items

-- the next box got its turn: the run goes on by it, and the paving stands as it does behind it
pub record Turned (maker : Maker) (old : Pavement) (paving : Paving) (turn : Turn) (new : Pavement)
    : Type 0 where
  pub last : Paving
  pub paves : PavesTurns maker old.rules (grid_box old.in_use.part) paving (turn ∷ []) last
  pub used : grid_box new.in_use.part ≡ used_after (grid_box old.in_use.part) turn.renewed
  pub stands : Stands new last
  pub same : IsSame old new
  pub fewer : turns_left new < turns_left old
  pub few_steps : length turn.steps ≤ 1015

-- no box waits, or the next one got its turn
abbrev pub IsTurn : Maker → Pavement → Paving → Option Bool → Pavement → Type 0
IsTurn maker old paving None new = paving.waiting ≡ []
IsTurn maker old paving (Some renewed) new = Turned maker old paving (turn_of renewed new) new
