-- Lines that were taken from the front of a text.
use Rattle.std.specs.Prelude.{ℕ, ◌≡◌, ◌+◌, Bool, true, false, List, [], ◌∷◌, ◌++◌, length, Option}
use Rattle.std.specs.Prelude.{None, Some}
use Rattle.sat_model.specs.Logs.{Block, is_few}
use Rattle.step_lines.specs.Texts.{AreCounted}
use Rattle.log_lines.specs.declared.line.ClosingLine.{ClosingLine}
use Rattle.log_lines.specs.declared.line.ClosingLine.TheVariants as closing
use Rattle.log_lines.specs.declared.line.Form.{Form}
use Rattle.log_lines.specs.declared.line.Form.TheVariants as form
use Rattle.log_lines.specs.declared.line.Header.{Header}
use Rattle.log_lines.specs.declared.line.LogForm.{LogForm}
use Rattle.log_lines.specs.declared.line.LogLine.{LogLine}
use Rattle.log_lines.specs.declared.line.LogLine.TheVariants as line
use Rattle.log_lines.specs.declared.line.Place.{Place}
use Rattle.log_lines.specs.declared.line.Place.TheVariants as place
use Rattle.paving_log.specs.declared.lines.Lines.{Lines}
use Rattle.paving_log.specs.declared.lines.Opening.{Opening}
use Rattle.paving_log.specs.declared.log.LogError.{LogError}
use Rattle.paving_log.specs.declared.log.LogError.TheVariants as error
use Rattle.log_lines.specs.Lines.{text_of}
use Rattle.log_lines.specs.Order.{place_behind_done, may_end, Leads}
use Rattle.log_lines.specs.Text.{first_line, header_of, event_lines, bound_lines, block_lines}
use Rattle.log_lines.specs.Text.{EventFits, BoundsFit, BlockFits}
use Rattle.log_tokens.specs.Fields.{IsCountFromTo}
use Rattle.sat_model.specs.Bounds.{BoundValue}
use Rattle.sat_model.specs.Events.{Event}
use Rattle.std.specs.List.{flat_map, AllByRecursion}
use Rattle.paving_log.specs.Faults.{FaultFrom}

-- the error is that of the first fault, unless memory ran out
abbrev pub Refuses : Place → Lines → LogError → Type 0
Refuses at lines error.NoMemory = Unit {0}
Refuses at lines e = FaultFrom at lines.rest.now lines.number e

-- these lines were taken from the front of what was left
pub record Takes (at : Place) (old : Lines) (lines : List LogLine) (to : Place)
    (new : Lines) : Type 0 where
  pub leads : Leads at lines to
  pub parts : old.rest.now ≡ text_of lines ++ new.rest.now
  pub number : new.number ≡ old.number + length lines

-- the bytes are the last ones of the text
pub record IsEndOf (rest text : List ℕ) : Type 0 where
  pub front : List ℕ
  pub parts : text ≡ front ++ rest

-- between what was left of a text before and what is left now stand the lines of so many steps, of
-- which so many close a box inside or at the edge, and of renewals
pub record HasBetween (before now : List ℕ) (count kept : ℕ) : Type 0 where
  pub part : List ℕ
  pub parts : before ≡ part ++ now
  pub counted : AreCounted part count kept

-- a line behind the root of a log, and the place behind it
abbrev pub closing_line : ClosingLine → LogLine
closing_line (closing.Step s) = line.Step s
closing_line (closing.Renew c) = line.Renew c
closing_line (closing.Done splits) = line.Done splits

abbrev pub behind_closing : LogForm → ℕ → ClosingLine → Place
behind_closing may n (closing.Step s) = place.Steps may n 0
behind_closing may n (closing.Renew c) = place.Steps may n n
behind_closing may n (closing.Done splits) = place_behind_done may

-- ---- what stands behind a root, in two parts: up to the number of splits, and the bounds

abbrev pub stepped_lines : Form → List Event → ℕ → List LogLine
stepped_lines (form.Log may) events done = flat_map event_lines events ++ line.Done done ∷ []
stepped_lines form.Rows events done = []

abbrev pub place_behind_steps : Form → Place
place_behind_steps (form.Log may) = place_behind_done may
place_behind_steps form.Rows = place.Between form.Rows

abbrev pub AllStepsFit : Form → ℕ → List Event → ℕ → Type 0
AllStepsFit (form.Log may) n events done =
    AllByRecursion (EventFits may.renews n) events × IsCountFromTo 0 200000 done
AllStepsFit form.Rows n events done = (events ≡ []) × (done ≡ 0)

abbrev pub bounds_lines : Form → List BoundValue → List LogLine
bounds_lines (form.Log may) bounds = flat_map bound_lines bounds
bounds_lines form.Rows bounds = []

abbrev pub AllBoundsFit : Form → List BoundValue → Type 0
AllBoundsFit (form.Log may) bounds = BoundsFit may.bounds bounds
AllBoundsFit form.Rows bounds = bounds ≡ []

-- ---- blocks

-- the place behind the first line of a block
abbrev pub block_place : Form → Bool → Header → Place
block_place f true h = place.Few f 0
block_place f false h = place.Satellites f h.n 0

-- these lines were taken, and then the text ended
pub record TakesAll (at : Place) (old : Lines) (lines : List LogLine) (new : Lines) : Type 0 where
  pub to : Place
  pub taken : Takes at old lines to new
  pub may_end : may_end to ≡ true
  pub ended : new.rest.now ≡ []

-- these lines were taken, and behind them the first line of a block
pub record TakesWith (f : Form) (at : Place) (old : Lines) (lines : List LogLine) (o : Opening)
    (new : Lines) : Type 0 where
  pub taken :
      Takes at old (lines ++ first_line o.few o.header ∷ []) (block_place f o.few o.header) new
  pub number : new.number ≡ o.line + 1

-- these lines were taken, and behind them the first line of a block, or else the text ended
abbrev pub TakesTo : Form → Place → Lines → List LogLine → Option Opening → Lines → Type 0
TakesTo f at old lines None new = TakesAll at old lines new
TakesTo f at old lines (Some o) new = TakesWith f at old lines o new

-- the block begins with this line
pub record IsOpened (o : Opening) (b : Block) : Type 0 where
  pub few : is_few b ≡ o.few
  pub header : header_of b ≡ o.header
  pub line : b.line ≡ o.line

-- the blocks begin one behind the other, from one line number up to another
abbrev pub AreNumbered : Form → ℕ → List Block → ℕ → Type 0
AreNumbered f from [] to = from ≡ to
AreNumbered f from (b ∷ more) to =
    (b.line ≡ from) × AreNumbered f (from + length (block_lines f b)) more to

-- the blocks fit, were taken up to the end of the text, and are numbered
pub record TakesBlocks (f : Form) (old : Lines) (blocks : List Block) : Type 0 where
  pub to : Place
  pub leads : Leads (place.Between f) (flat_map (block_lines f) blocks) to
  pub may_end : may_end to ≡ true
  pub parts : old.rest.now ≡ text_of (flat_map (block_lines f) blocks)
  pub fit : AllByRecursion (BlockFits f) blocks
  pub numbered : AreNumbered f old.number blocks (old.number
      + length (flat_map (block_lines f) blocks))
