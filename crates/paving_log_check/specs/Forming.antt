-- The own rows that are formed of bases while a block's renewals are tested, and what is found by
-- them. No public clause cites it.
use Rattle.std.specs.Prelude.{◌≡◌, ℕ, ◌+◌, ◌-◌, ◌≤◌, ◌⊎◌, List, [], ◌∷◌, length, min, Option, None}
use Rattle.std.specs.Prelude.{Some, slice_get}
use Rattle.gnss_model.specs.declared.delays.Delays.{Delays}
use Rattle.grid_model.specs.Boxes.{GridBox, IsInside}
use Rattle.sat_model.specs.BoxTests.{test_of}
use Rattle.sat_model.specs.Events.{Event, Made, Renewed, RowsOver, rows_over, renewals_in, lines_of}
use Rattle.sat_model.specs.Events.{lines_of_all}
use Rattle.sat_model.specs.Fold.{Subpaving}
use Rattle.sat_model.specs.Logs.{Body, Block}
use Rattle.sat_model.specs.Renewals.{IsOfPlace, RenewalPasses, RenewalFails}
use Rattle.sat_model.specs.ShownBounds.{AreBoundsShown, IsFirstUnshown}
use Rattle.sat_model.specs.Stages.{first_stage}
use Rattle.sat_model.specs.Verdicts.{EventsPass, EventsFail}
use Rattle.sat_model.specs.declared.rows.Row.{Row}
use Rattle.sat_model.specs.declared.rows.SatEntry.TheVariants as entry
use Rattle.sat_model.specs.declared.rules.Rules.{Rules}
use Rattle.sat_rows.specs.Bases.{IsRowOfBase}
use Rattle.sat_rows.specs.declared.bases.Base.{Base}
use Rattle.sat_rows.specs.declared.lines.SatLine.{SatLine}
use Rattle.sat_rows.specs.declared.lines.SatLine.TheVariants.{Usable}
use Rattle.paving_log_check.specs.Answers.{ShowsNoSpans}
use Rattle.paving_log_check.specs.Epochs.{BodyPassesAt, BodyFailsAt, EpochPasses}
use Rattle.paving_log_check.specs.Epochs.{EpochFails}
use Rattle.paving_log_check.specs.Lines.{HoldsOwn, HasBound, RowFails}
use Rattle.paving_log_check.specs.OwnLines.{OwnLines, renewals_of, behind_root}
use Rattle.paving_log_check.specs.Renewed.{HoldsGiven, own_tests}
use Rattle.paving_log_check.specs.declared.verdict.Fault.{Fault}

-- rows for each renewal, for all of its lines as far as there are bases
abbrev pub AreAsMany : List Base → List RowsOver → List (List Row) → Type 0
AreAsMany bases [] [] = Unit {0}
AreAsMany bases [] (given ∷ more) = ⊥
AreAsMany bases (new ∷ renewals) [] = ⊥
AreAsMany bases (new ∷ renewals) (given ∷ more) =
    (length given ≡ min (length bases) (length new.rows)) × AreAsMany bases renewals more

-- ... for the lines that stand before the one k lines behind the first of these events
abbrev pub AreManyBefore : List Base → ℕ → List Event → List (List Row) → Type 0
AreManyBefore bases k [] renewed = Unit {0}
AreManyBefore bases k (Made step ∷ events) renewed =
    AreManyBefore bases (k - lines_of (Made step)) events renewed
AreManyBefore bases k (Renewed new ∷ events) [] = k ≤ 1
AreManyBefore bases k (Renewed new ∷ events) (given ∷ more) =
    (min (length bases) (min (k - 1) (length new.rows)) ≤ length given)
    × AreManyBefore bases (k - lines_of (Renewed new)) events more

abbrev pub IsManyBefore : List Base → ℕ → Option Body → List (List Row) → Type 0
IsManyBefore bases k None renewed = Unit {0}
IsManyBefore bases k (Some body) renewed = AreManyBefore bases k body.events renewed

abbrev pub own_lines : List SatLine → List (List Row) → OwnLines
own_lines lines renewed = record { lines = lines; renewed = renewed }

-- by the delays that are mapped
module _ (delays : Delays) where
  -- ---- one line

  -- a row is formed of the base, and where there is no base none is
  abbrev pub IsFormedBy : GridBox → Option Base → Option Row → Type 0
  IsFormedBy part None None = Unit {0}
  IsFormedBy part None (Some ours) = ⊥
  IsFormedBy part (Some base) None = ⊥
  IsFormedBy part (Some base) (Some ours) = IsRowOfBase delays base part ours

  abbrev pub HoldsFormed : Row → Option Row → Type 0
  HoldsFormed row None = Unit {0}
  HoldsFormed row (Some ours) = HoldsOwn delays row ours × HasBound delays row ours

  -- no test of line i, whose row this is, fails
  abbrev pub LineHolds : GridBox → List Row → List Base → ℕ → Row → Type 0
  LineHolds part firsts bases i row =
      IsOfPlace firsts i row × ((ours : Option Row) × IsFormedBy part (slice_get bases i) ours
      × HoldsFormed row ours)

  -- the least of its tests that fails
  abbrev pub LineBreaks : GridBox → List Row → List Base → ℕ → Row → Fault → Type 0
  LineBreaks part firsts bases i row fault =
      ((IsOfPlace firsts i row → ⊥) × (fault.number ≡ 52) × ShowsNoSpans fault)
      ⊎ (IsOfPlace firsts i row × ((ours : Row) × IsFormedBy part (slice_get bases i) (Some ours)
      × RowFails delays (entry.Row row) (Usable ours) fault))

  -- ---- a renewal

  -- each is a row of the base in its place, over a box that lies in the root
  abbrev pub AreFormed : GridBox → GridBox → List Base → List Row → Type 0
  AreFormed root part bases [] = Unit {0}
  AreFormed root part [] (ours ∷ given) = ⊥
  AreFormed root part (base ∷ bases) (ours ∷ given) =
      (IsInside part root × IsRowOfBase delays base part ours) × AreFormed root part bases given

  -- such rows for each of the first renewals
  abbrev pub AreAllFormed : GridBox → List Base → List RowsOver → List (List Row) → Type 0
  AreAllFormed root bases renewals [] = Unit {0}
  AreAllFormed root bases [] (given ∷ more) = ⊥
  AreAllFormed root bases (new ∷ renewals) (given ∷ more) =
      AreFormed root new.part bases given × AreAllFormed root bases renewals more

  -- by the root of the block, the first rows and the bases
  module _ (root : GridBox) (firsts : List Row) (bases : List Base) where
    -- no test fails, by rows that are formed for all of its lines as far as there are bases
    pub record RenewalHolds (boxes : Subpaving) (new : RowsOver) : Type 0 where
      pub given : List Row
      pub formed : AreFormed root new.part bases given
      pub many : length given ≡ min (length bases) (length new.rows)
      pub passes : (renewed : List (List Row)) (j : ℕ) → slice_get renewed j ≡ Some given
          → RenewalPasses (HoldsGiven delays renewed) (rows_over root firsts) j boxes new

    -- the first line that fails is k lines on, and before it there are as many rows
    pub record RenewalBreaks (boxes : Subpaving) (new : RowsOver) (k : ℕ)
        (fault : Fault) : Type 0 where
      pub given : List Row
      pub formed : AreFormed root new.part bases given
      pub many : min (length bases) (k - 1) ≤ length given
      pub fails : (renewed : List (List Row)) (j : ℕ) → slice_get renewed j ≡ Some given
          → RenewalFails (own_tests delays renewed) (rows_over root firsts) j boxes new k fault

    -- ---- the steps and renewals

    pub record EventsHold (rules : Rules) (done : ℕ) (events : List Event) : Type 0 where
      pub renewed : List (List Row)
      pub formed : AreAllFormed root bases (renewals_in events) renewed
      pub many : AreAsMany bases (renewals_in events) renewed
      pub passes : EventsPass (HoldsGiven delays renewed) (rows_over root firsts) rules done
          0 (first_stage (test_of rules firsts) root) events

    pub record EventsBreak (rules : Rules) (done : ℕ) (events : List Event) (k : ℕ)
        (fault : Fault) : Type 0 where
      pub renewed : List (List Row)
      pub formed : AreAllFormed root bases (renewals_in events) renewed
      pub many : AreManyBefore bases k events renewed
      pub fails : EventsFail (own_tests delays renewed) (rows_over root firsts) rules done
          0 (first_stage (test_of rules firsts) root) events k fault

    -- ---- with the bounds behind them

    pub record ClosingHolds (rules : Rules) (body : Body) : Type 0 where
      pub events : EventsHold rules body.done body.events
      pub bounds : AreBoundsShown rules.outliers (rows_over root firsts) body.events body.bounds

    -- all up to the splits pass, and a bound, whose line is k lines behind the root, is the first
    -- that isn't shown
    pub record BoundBreaks (rules : Rules) (body : Body) (k : ℕ) (fault : Fault) : Type 0 where
      pub events : EventsHold rules body.done body.events
      pub m : ℕ
      pub unshown : IsFirstUnshown rules.outliers (rows_over root firsts) body.events body.bounds m
      pub line : k ≡ lines_of_all body.events + 1 + m
      pub number : fault.number ≡ 66
      pub no_spans : ShowsNoSpans fault

    abbrev pub ClosingBreaks : Rules → Body → ℕ → Fault → Type 0
    ClosingBreaks rules body k fault =
        EventsBreak rules body.done body.events k fault ⊎ BoundBreaks rules body k fault

  -- ---- a block against own lines, as far as rows are formed

  -- what stands behind its satellites
  module _ (rules : Rules) (root : GridBox) (bases : List Base) (block : Block)
      (body : Body) where
    pub record BodyHolds : Type 0 where
      pub renewed : List (List Row)
      pub formed : AreAllFormed root bases (renewals_in body.events) renewed
      pub many : AreAsMany bases (renewals_in body.events) renewed
      pub passes : BodyPassesAt delays rules root renewed block (Some body)

    pub record BodyBreaks (fault : Fault) : Type 0 where
      pub renewed : List (List Row)
      pub formed : AreAllFormed root bases (renewals_in body.events) renewed
      pub many : AreManyBefore bases (behind_root fault.line block) body.events renewed
      pub fails : BodyFailsAt delays rules root renewed block body fault

  -- all of it
  module _ (rules : Rules) (root : GridBox) (lines : List SatLine) (bases : List Base)
      (block : Block) where
    pub record EpochHolds : Type 0 where
      pub renewed : List (List Row)
      pub formed : AreAllFormed root bases (renewals_of block.body) renewed
      pub many : AreAsMany bases (renewals_of block.body) renewed
      pub passes : EpochPasses delays rules root (own_lines lines renewed) block

    pub record EpochBreaks (fault : Fault) : Type 0 where
      pub renewed : List (List Row)
      pub formed : AreAllFormed root bases (renewals_of block.body) renewed
      pub many : IsManyBefore bases (behind_root fault.line block) block.body renewed
      pub fails : EpochFails delays rules root (own_lines lines renewed) block fault
