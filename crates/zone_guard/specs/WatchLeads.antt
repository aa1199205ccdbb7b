-- Lines of the second form one behind another. No public clause cites it.
use Rattle.std.specs.Prelude.{ℕ, List, [], ◌++◌, map, length}
use Rattle.zone_guard.specs.Watched.{WatchLine, Side, Kind, Corners, Sides, Pieces, Along, FormValue}
use Rattle.zone_guard.specs.Watched.{BoxValue, PrismValue, GroupValue, ReachValue}
use Rattle.zone_guard.specs.WatchText.{AreWatchLines, FailsAt}

-- lines lead from one state of the reading to another
pub record Leads (names : List (List ℕ)) (owed number : ℕ) (text : List (List ℕ))
    (ls : List WatchLine) (names_after : List (List ℕ)) (owed_after number_after : ℕ) (left : List
    (List ℕ)) : Type 0 where
  pub on : (rest : List WatchLine) → AreWatchLines names_after owed_after left rest
      → AreWatchLines names owed text (ls ++ rest)
  pub fails : (line : ℕ) → FailsAt names_after owed_after number_after left line
      → FailsAt names owed number text line

-- the lines behind the first of what has a name
abbrev pub later_lines : FormValue → List WatchLine
later_lines (BoxValue lo hi) = []
later_lines (PrismValue sides) = map Side sides
later_lines (GroupValue count each sides) = map Side sides
later_lines (ReachValue a) = []

abbrev pub form_kind : FormValue → Kind
form_kind (BoxValue lo hi) = Corners lo hi
form_kind (PrismValue sides) = Sides (length sides)
form_kind (GroupValue count each sides) = Pieces count each
form_kind (ReachValue a) = Along a
