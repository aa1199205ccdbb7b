-- The text of a log: the one spelling of its value, for values that fit.
use Rattle.std.specs.Prelude.{ℕ, ◌≡◌, ◌≤◌, Bool, true, false, List, [], ◌∷◌, ◌++◌, length, map}
use Rattle.std.specs.Prelude.{Option, None, Some}
use Rattle.std.specs.List.{flat_map, AllByRecursion}
use Rattle.sat_model.specs.declared.rules.Rules.{Rules}
use Rattle.sat_model.specs.declared.rows.Row.{Row}
use Rattle.sat_model.specs.declared.rows.SatEntry.{SatEntry}
use Rattle.sat_model.specs.declared.rows.SatEntry.TheVariants as entry
use Rattle.sat_model.specs.Bounds.{BoundValue}
use Rattle.sat_model.specs.Events.{Event, Made, Renewed, renewals_in}
use Rattle.sat_model.specs.Logs.{Body, Block, LogValue, is_few, IsNumbered}
use Rattle.log_lines.specs.declared.line.Form.{Form}
use Rattle.log_lines.specs.declared.line.Form.TheVariants as form
use Rattle.log_lines.specs.declared.line.Kind.{Kind}
use Rattle.log_lines.specs.declared.line.Kind.TheVariants as kind
use Rattle.log_lines.specs.declared.line.Header.{Header}
use Rattle.log_lines.specs.declared.line.LogLine.{LogLine}
use Rattle.log_lines.specs.declared.line.LogLine.TheVariants as line
use Rattle.log_tokens.specs.Fields.{IsCountFromTo}
use Rattle.log_lines.specs.Rows.{RowFits, EntryFits, CornersFit, corners_of}
use Rattle.step_lines.specs.Lines.{StepFits}
use Rattle.log_lines.specs.Lines.{limits_of, HeaderFits, text_of}
use Rattle.log_lines.specs.Order.{has_pairs, has_version, form_of}

-- ---- the lines

abbrev pub header_of : Block → Header
header_of b = record { index = b.index; ps = b.ps; n = b.n }

abbrev pub first_line : Bool → Header → LogLine
first_line true h = line.Few h
first_line false h = line.Epoch h

-- the satellite line of a renewed row
abbrev pub row_line : Row → LogLine
row_line row = line.Sat (entry.Row row)

-- a step has one line, a renewal one for its box and one for each row
abbrev pub event_lines : Event → List LogLine
event_lines (Made step) = line.Step step ∷ []
event_lines (Renewed new) = line.Renew (corners_of new.part) ∷ map row_line new.rows

-- a bound has one line for its half-space, and one for each sum
abbrev pub bound_lines : BoundValue → List LogLine
bound_lines bound = line.Bound bound.half (length bound.sums) ∷ map line.By bound.sums

-- What stands behind a root: the steps and renewals, the number of splits, and the bounds. In the
-- rows form nothing does.
abbrev pub closing_lines : Form → List Event → ℕ → List BoundValue → List LogLine
closing_lines (form.Log f) events done bounds =
    flat_map event_lines events ++ line.Done done ∷ flat_map bound_lines bounds
closing_lines form.Rows events done bounds = []

-- the root, where there is one, and what stands behind it
abbrev pub paved_lines : Form → Option Body → List LogLine
paved_lines f None = []
paved_lines f (Some body) =
    line.Root (corners_of body.root) ∷ closing_lines f body.events body.done body.bounds

-- the lines of a block behind its first
abbrev pub body_lines : Form → Block → List LogLine
body_lines f b = map line.Sat b.sats ++ paved_lines f b.body

abbrev pub block_lines : Form → Block → List LogLine
block_lines f b = first_line (is_few b) (header_of b) ∷ body_lines f b

-- the two lines of the head
abbrev pub head_lines : ℕ → Rules → List LogLine
head_lines version r = line.Version version ∷ line.Rules (limits_of r) ∷ []

-- the head, and the blocks
abbrev pub log_lines : Kind → LogValue → List LogLine
log_lines k log = head_lines log.version log.rules
    ++ flat_map (block_lines (form_of k log.version)) log.blocks

abbrev pub log_text : Kind → LogValue → List ℕ
log_text k log = text_of (log_lines k log)

-- ---- the values that have a text

abbrev pub IsSkipped : SatEntry → Type 0
IsSkipped (entry.Row row) = ⊥
IsSkipped (entry.Skipped sat skip) = Unit {0}

-- among the steps of a block of so many usable satellites a renewal has as many rows, and there is
-- none where rows may not be renewed
abbrev pub EventFits : Bool → ℕ → Event → Type 0
EventFits renews n (Made step) = StepFits step
EventFits renews n (Renewed new) = (renews ≡ true) × CornersFit (corners_of new.part)
    × (length new.rows ≡ n) × AllByRecursion RowFits new.rows

-- a bound has 1 to 64 sums
abbrev pub BoundFits : BoundValue → Type 0
BoundFits bound = IsCountFromTo 1 64 (length bound.sums)

-- there is none where there may be none
abbrev pub BoundsFit : Bool → List BoundValue → Type 0
BoundsFit true bounds = AllByRecursion BoundFits bounds
BoundsFit false bounds = bounds ≡ []

-- The steps and renewals, the number of splits and the bounds behind a root. The rows form has none.
abbrev pub ClosingFits : Form → ℕ → List Event → ℕ → List BoundValue → Type 0
ClosingFits (form.Log f) n events done bounds = AllByRecursion (EventFits f.renews n) events
    × IsCountFromTo 0 200000 done × BoundsFit f.bounds bounds
ClosingFits form.Rows n events done bounds = (events ≡ []) × (done ≡ 0) × (bounds ≡ [])

-- without a body a block is one of few satellites, and has skipped satellites alone
abbrev pub BodyFits : Form → Block → Option Body → Type 0
BodyFits f b None = AllByRecursion IsSkipped b.sats
BodyFits f b (Some body) =
    CornersFit (corners_of body.root) × ClosingFits f b.n body.events body.done body.bounds

pub record BlockFits (f : Form) (b : Block) : Type 0 where
  pub header : HeaderFits (header_of b)
  pub sats : AllByRecursion EntryFits b.sats
  pub at_most : length b.sats ≤ 64
  pub body : BodyFits f b b.body

-- The version tells what the rules say of pairs. All else that is asked of rules is kept by their
-- type.
pub record LogFits (k : Kind) (log : LogValue) : Type 0 where
  pub version : IsCountFromTo 1 4 log.version
  pub has_version : has_version k log.version ≡ true
  pub pairs : log.rules.pairs ≡ has_pairs log.version
  pub blocks : AllByRecursion (BlockFits (form_of k log.version)) log.blocks

-- the text is the one spelling of the log
pub record IsLogText (log : LogValue) (text : List ℕ) : Type 0 where
  pub fits : LogFits kind.Log log
  pub numbered : IsNumbered log
  pub spelled : text ≡ log_text kind.Log log

-- ---- version 1

abbrev pub IsUnrenewed : Option Body → Type 0
IsUnrenewed None = Unit {0}
IsUnrenewed (Some body) = renewals_in body.events ≡ []

-- in no block are rows renewed
abbrev pub AreUnrenewed : List Block → Type 0
AreUnrenewed blocks = AllByRecursion (λ b. IsUnrenewed b.body) blocks
