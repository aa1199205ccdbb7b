-- What was written of a paving: all of it, or what went out before a fault.
use Rattle.std.specs.Prelude.{◌≡◌, ℕ, ◌*◌, ◌≤◌, ◌⊎◌, Bool, false, List, [], ◌∷◌, ◌++◌, length, map}
use Rattle.std.specs.Prelude.{Option, None, Some, option_to_list, Result, Ok, Err}
use Rattle.std.specs.List.{flat_map, AllByRecursion}
use Rattle.bound_directions.specs.declared.directions.Directions.{Directions}
use Rattle.grid_model.specs.Boxes.{GridBox}
use Rattle.grid_model.specs.declared.boxes.Box3.{Box3}
use Rattle.sat_model.specs.declared.rules.Rules.{Rules}
use Rattle.sat_model.specs.BoxTests.{BoxTest}
use Rattle.sat_model.specs.Bounds.{BoundValue}
use Rattle.sat_model.specs.Events.{Event, RowsOver, rows_over, steps_in}
use Rattle.sat_model.specs.Fold.{first_boxes, pieces}
use Rattle.sat_model.specs.KeptHulls.{kept_hull}
use Rattle.sat_model.specs.Logs.{Body, Block}
use Rattle.sat_model.specs.ShownBounds.{rows_behind}
use Rattle.sat_model.specs.Verdicts.{BlocksPass}
use Rattle.paving.specs.Renewing.{Maker}
use Rattle.paving.specs.Runs.{TurnsBegun}
use Rattle.paving.specs.Turns.{ShownEvent, events_of, PavedTurns}
use Rattle.log_lines.specs.declared.line.Form.TheVariants as form
use Rattle.log_lines.specs.declared.line.LogLine.TheVariants as line
use Rattle.log_lines.specs.Order.{log_form}
use Rattle.log_lines.specs.Text.{bound_lines, BlockFits}
use Rattle.subpaving.specs.LiveValues.{box_option}
use Rattle.epoch_report.specs.declared.counts.Counts4.{Counts4}
use Rattle.epoch_report.specs.ReportLines.{total_text_of}
use Rattle.epoch_report.specs.Reports.{counts_of}
use Rattle.log_writer.specs.declared.outcome.Outcome.{Outcome}
use Rattle.log_writer.specs.declared.fault.WriteFault.{WriteFault}
use Rattle.log_writer.specs.declared.wanted.Wanted.{Wanted}
use Rattle.log_writer.specs.Bounding.{AreBoundsFor}
use Rattle.log_writer.specs.InUse.{rows_option, used_last}
use Rattle.log_writer.specs.Kept.{hull_kept, hull_of_last}
use Rattle.log_writer.specs.LastRenewals.{RenewsLast, last_events}
use Rattle.log_writer.specs.Pavings.{Paves, Begins}
use Rattle.log_writer.specs.Pieces.{Piece, with_report, alone, log_bytes, row_pieces, event_pieces}
use Rattle.log_writer.specs.Pieces.{run_pieces, done_pieces, begun_pieces, block_pieces, log_pieces}
use Rattle.log_writer.specs.Pieces.{pieces_with}
use Rattle.log_writer.specs.Sizes.{longest_line, most_lines, most_bytes, HasRoom}
use Rattle.log_writer.specs.Sources.{Source, is_bounded, version_from, Came, IsInHand}
use Rattle.log_writer.specs.Texts.{IsText}
use Rattle.log_writer.specs.Writing.{Sent, Counts, Seen, Put, Went, Ended, Written}

-- the body of a run from this root
abbrev pub body_of : GridBox → List Event → ℕ → List BoundValue → Body
body_of root events done bounds = record {
  root = root;
  events = events;
  done = done;
  bounds = bounds;
}

-- its lines, with the number of splits and the bounds
abbrev pub paved_pieces : Body → List Piece
paved_pieces body = run_pieces (Some body) ++ done_pieces (Some body)

-- ---- the events

-- the hull of what is kept and the rows that were renewed last, behind these events
pub record IsBehind (first : RowsOver) (events : List Event) (done : Outcome) : Type 0 where
  pub kept : box_option done.kept ≡ kept_hull (pieces first.part (steps_in events))
  pub in_use : used_last first (rows_option done.renewed) ≡ rows_behind first events

-- those of a whole run, and what came of them is its own
pub record StepsWent (maker : Maker) (test : BoxTest) (rules : Rules) (root : GridBox)
    (before : Seen) (done : Outcome) (after : Seen) : Type 0 where
  pub shown : List ShownEvent
  pub run : PavedTurns maker test rules root shown
  pub went : Went before (event_pieces (first_boxes root) (events_of shown)) after
  pub counts : done.counts ≡ counts_of root (steps_in (events_of shown))
  pub splits : done.counts.bisections ≡ run.last.splits
  pub behind : IsBehind (rows_over root test.rows) (events_of shown) done

-- the first ones of a run, which broke off
pub record StepsEnded (maker : Maker) (test : BoxTest) (rules : Rules) (root : GridBox)
    (before : Seen) (fault : WriteFault) (after : Seen) : Type 0 where
  pub shown : List ShownEvent
  pub begun : TurnsBegun maker test rules root shown
  pub ended : Ended before (event_pieces (first_boxes root) (events_of shown)) fault after

abbrev pub WroteSteps : Maker → BoxTest → Rules → GridBox → Seen → Result Outcome WriteFault → Seen
    → Type 0
WroteSteps maker test rules root before (Ok done) after =
    StepsWent maker test rules root before done after
WroteSteps maker test rules root before (Err fault) after =
    StepsEnded maker test rules root before fault after

-- ---- what stands behind the events of a whole run

-- the lines of rows that are renewed once more, where they are
abbrev pub last_pieces : Option RowsOver → List Piece
last_pieces None = []
last_pieces (Some new) = row_pieces new

-- these, the number of splits with the total, and the bounds
abbrev pub closing_pieces : Option RowsOver → Counts4 → List BoundValue → List Piece
closing_pieces last counts bounds = last_pieces last
    ++ with_report (line.Done counts.bisections) (total_text_of counts)
    ∷ map alone (flat_map bound_lines bounds)

-- They were written, or broke off: with the bounds that were found so far, the last of them the one
-- that broke, if one did.
pub record WroteClosing {T : Type 0} (wanted : Wanted) (maker : Maker) (first : RowsOver)
    (events : List Event) (counts : Counts4) (before : Seen) (result : Result T WriteFault)
    (after : Seen) : Type 0 where
  pub last : Option RowsOver
  pub renews : RenewsLast wanted.directions maker first events last
  pub bounds : List BoundValue
  pub bounded : AreBoundsFor wanted.directions wanted.rules.outliers first
      (events ++ last_events last) bounds
  pub written : Written before (closing_pieces last counts bounds) result after

-- ---- the root before them, and all of it

-- a whole run from this root, with what stands behind it
pub record WholeRun (directions : Option Directions) (maker : Maker) (test : BoxTest)
    (rules : Rules) (root : GridBox) : Type 0 where
  pub shown : List ShownEvent
  pub run : PavedTurns maker test rules root shown
  pub last : Option RowsOver
  pub renews : RenewsLast directions maker (rows_over root test.rows) (events_of shown) last
  pub bounds : List BoundValue
  pub bounded : AreBoundsFor directions rules.outliers (rows_over root test.rows)
      (events_of shown ++ last_events last) bounds

abbrev pub whole_body : {directions : Option Directions} → {maker : Maker} → {test : BoxTest}
    → {rules : Rules} → (root : GridBox) → WholeRun directions maker test rules root → Body
whole_body root whole = body_of root (events_of whole.shown ++ last_events whole.last)
    whole.run.last.splits whole.bounds

pub record RunWent (directions : Option Directions) (maker : Maker) (test : BoxTest)
    (rules : Rules) (root : GridBox) (before : Seen) (hull : Option Box3) (after : Seen)
    : Type 0 where
  pub whole : WholeRun directions maker test rules root
  pub went : Went before (paved_pieces (whole_body root whole)) after
  pub kept : box_option hull ≡ hull_kept (Some (whole_body root whole))

-- the run is whole, and what stands behind it broke
pub record EndBroke (directions : Option Directions) (maker : Maker) (test : BoxTest)
    (rules : Rules) (root : GridBox) (before : Seen) (fault : WriteFault) (after : Seen)
    : Type 0 where
  pub whole : WholeRun directions maker test rules root
  pub ended : Ended before (paved_pieces (whole_body root whole)) fault after

-- the run broke off
pub record RunBroke (maker : Maker) (test : BoxTest) (rules : Rules) (root : GridBox)
    (before : Seen) (fault : WriteFault) (after : Seen) : Type 0 where
  pub shown : List ShownEvent
  pub begun : TurnsBegun maker test rules root shown
  pub ended : Ended before (run_pieces (Some (body_of root (events_of shown) 0 []))) fault after

abbrev pub WroteRun : Option Directions → Maker → BoxTest → Rules → GridBox → Seen
    → Result (Option Box3) WriteFault → Seen → Type 0
WroteRun directions maker test rules root before (Ok kept) after =
    RunWent directions maker test rules root before kept after
WroteRun directions maker test rules root before (Err fault) after =
    EndBroke directions maker test rules root before fault after
    ⊎ RunBroke maker test rules root before fault after

-- ---- a block

-- it has no more bytes than one may have
abbrev pub IsSmall : (bounded : Bool) → Rules → Block → Type 0
IsSmall bounded rules block = length (log_bytes (block_pieces block))
    ≤ longest_line * most_lines bounded rules.bisections

-- one that paves the given one
pub record BlockWent (directions : Option Directions) (maker : Maker) (rules : Rules)
    (given : Block) (before : Seen) (hull : Option Box3) (after : Seen) : Type 0 where
  pub block : Block
  pub paves : Paves directions maker rules given block
  pub went : Went before (block_pieces block) after
  pub kept : box_option hull ≡ hull_kept block.body

-- a line behind its run broke
pub record LastBroke (directions : Option Directions) (maker : Maker) (rules : Rules)
    (given : Block) (before : Seen) (fault : WriteFault) (after : Seen) : Type 0 where
  pub block : Block
  pub paves : Paves directions maker rules given block
  pub ended : Ended before (block_pieces block) fault after

-- one that begins to pave it broke off
pub record BlockBroke (maker : Maker) (rules : Rules) (given : Block) (before : Seen)
    (fault : WriteFault) (after : Seen) : Type 0 where
  pub block : Block
  pub begins : Begins maker rules given block
  pub small : IsSmall false rules block
  pub ended : Ended before (begun_pieces block) fault after

abbrev pub WroteBlock : Option Directions → Maker → Rules → Block → Seen
    → Result (Option Box3) WriteFault → Seen → Type 0
WroteBlock directions maker rules given before (Ok kept) after =
    BlockWent directions maker rules given before kept after
WroteBlock directions maker rules given before (Err fault) after =
    LastBroke directions maker rules given before fault after
    ⊎ BlockBroke maker rules given before fault after

-- ---- the log

-- finished blocks of a source, which fit in a log of this version, pass all tests and are small
pub record Gave {B : Type 0} (source : Source B) (rules : Rules) (version : ℕ) (first : B)
    (blocks : List Block) (behind : B) : Type 0 where
  pub came : Came source rules first None blocks behind
  pub fit : AllByRecursion (BlockFits (form.Log (log_form version))) blocks
  pub pass : BlocksPass rules None blocks
  pub small : AllByRecursion (IsSmall (is_bounded source) rules) blocks

-- the head and the blocks, and then the source had no more
pub record LogWent {B : Type 0} (source : Source B) (rules : Rules) (first last : B)
    (before after : Seen) : Type 0 where
  pub blocks : List Block
  pub behind : B
  pub gave : Gave source rules (version_from source rules first) first blocks behind
  pub went : Went before (log_pieces (record {
    version = version_from source rules first;
    rules = rules;
    blocks = blocks;
  })) after
  pub no_more : source.gives behind (hull_of_last None blocks) None last

-- the head, blocks whose runs are whole, and the one in hand, so many of them at most
pub record LogEnded {B : Type 0} (source : Source B) (rules : Rules) (first : B) (most : ℕ)
    (before : Seen) (fault : WriteFault) (after : Seen) : Type 0 where
  pub blocks : List Block
  pub behind : B
  pub gave : Gave source rules (version_from source rules first) first blocks behind
  pub hand : Option Block
  pub in_hand : IsInHand source rules behind (hull_of_last None blocks) hand
  pub small : AllByRecursion (IsSmall (is_bounded source) rules) (option_to_list hand)
  pub at_most : length (blocks ++ option_to_list hand) ≤ most
  pub ended : Ended before (pieces_with (record {
    version = version_from source rules first;
    rules = rules;
    blocks = blocks;
  }) hand) fault after

abbrev pub WroteLog : {B T : Type 0} → Source B → Rules → (first last : B) → ℕ → Seen
    → Result T WriteFault → Seen → Type 0
WroteLog source rules first last most before (Ok done) after =
    LogWent source rules first last before after
WroteLog source rules first last most before (Err fault) after =
    LogEnded source rules first most before fault after

-- what went to the devices, where nothing waited before
pub record Finishes {B T : Type 0} (source : Source B) (rules : Rules) (first last : B) (most : ℕ)
    (before : Seen) (result : Result T WriteFault) (after : Seen) : Type 0 where
  pub bytes : List ℕ
  pub said : List ℕ
  pub sent : Sent before.at bytes said after.at
  pub same_shelf : after.shelf ≡ before.shelf
  pub same_out : after.out ≡ before.out
  pub is_text : IsText source rules first last before.left result bytes said
  pub counts : Counts before.at result after.at
  pub room : HasRoom before.left (most_bytes (is_bounded source) most rules.bisections) result

abbrev pub Finished : {B T : Type 0}
    → Source B → Rules → (first last : B) → ℕ → Seen → Result T WriteFault → Seen → Type 0
Finished source rules first last most before result after =
    Put before [] before → Finishes source rules first last most before result after
