-- What passes against own rows passes with the rows taken as given, and where no own rows are given the same line fails.
use Rattle.std.proofs.Common.{◌≡◌, ℕ, zero, suc, ◌+◌, arith, List, [], ◌∷◌, length, refl, sym, inl, inr, Option, None, Some, Result, Ok, Err}
use Rattle.std.specs.Prelude.{IfOk, MatchOption}
use Rattle.gnss_model.specs.declared.delays.Delays.{Delays}
use Rattle.grid_model.specs.Boxes.{GridBox}
use Rattle.grid_model.specs.declared.memory.NoMemory.{NoMemory}
use Rattle.sat_model.specs.Events.{Event, Made, Renewed, RowsOver, rows_over, renewals_in, lines_of_all}
use Rattle.sat_model.specs.Fold.{Subpaving}
use Rattle.sat_model.specs.Logs.{Body, Block, rows_of}
use Rattle.sat_model.specs.Renewals.{LineFact, AnyLine, LinesPass, RenewalPasses, no_tests, LineFails, LinesFail, RenewalFails}
use Rattle.sat_model.specs.ShownBounds.{AreBoundsShown, IsFirstUnshown}
use Rattle.sat_model.specs.Stages.{Stage, after}
use Rattle.sat_model.specs.Verdicts.{EventsPass, EventsFail, BodyPasses, BodyFailsBy}
use Rattle.sat_model.specs.declared.rows.Row.{Row}
use Rattle.sat_model.specs.declared.rules.Rules.{Rules}
use Rattle.sat_rows.specs.declared.bases.Base.{Base}
use Rattle.paving_log_check.specs.Answers.{ShowsNoSpans}
use Rattle.paving_log_check.specs.Forming.{AreAllFormed, EventsHold, ClosingHolds, ClosingBreaks}
use Rattle.paving_log_check.specs.Renewed.{IsGiven, own_tests}
use Rattle.paving_log_check.specs.declared.verdict.Fault.{Fault}

-- ---- what passes

lines_any : (Meets : LineFact) (first : RowsOver) (j i : ℕ) (rows : List Row)
    → LinesPass Meets first j i rows → LinesPass AnyLine first j i rows
lines_any Meets first j i [] h = tt
lines_any Meets first j i (row ∷ rows) h = ((h.0.0, tt), lines_any Meets first j (suc i) rows h.1)

renewal_any : (Meets : LineFact) (first : RowsOver) (j : ℕ) (boxes : Subpaving) (new : RowsOver)
    → RenewalPasses Meets first j boxes new → RenewalPasses AnyLine first j boxes new
renewal_any Meets first j boxes new h = record { holds = h.holds; lines = lines_any Meets first j 0 new.rows h.lines }

pub events_any : (Meets : LineFact) (first : RowsOver) (rules : Rules) (done j : ℕ) (stage : Stage) (events : List Event)
    → EventsPass Meets first rules done j stage events
    → EventsPass AnyLine first rules done j stage events
events_any Meets first rules done j stage [] h = h
events_any Meets first rules done j stage (Made step ∷ events) h = (h.0, events_any Meets first rules done j (after stage (Made step)) events h.1)
events_any Meets first rules done j stage (Renewed new ∷ events) h = (
  renewal_any Meets first j stage.boxes new h.0,
  events_any Meets first rules done (suc j) (after stage (Renewed new)) events h.1,
)

-- ---- what fails

-- no own row is given
abbrev NoneGiven : List (List Row) → Type 0
NoneGiven renewed = (j i : ℕ) (ours : Row) → IsGiven renewed j i ours → ⊥

module _ (delays : Delays) (renewed : List (List Row)) (none : NoneGiven renewed) (first : RowsOver) where
  -- so the fault is told by its number alone
  line_told : (j i : ℕ) (row : Row) (fault : Fault)
      → LineFails (own_tests delays renewed) first j i row fault
      → LineFails no_tests first j i row fault.number × ShowsNoSpans fault
  line_told j i row fault (inl (other, is, plain)) = (inl (other, is, tt), plain)
  line_told j i row fault (inr (place, (ours, given, fails))) = absurd (none j i ours given)

  lines_told : (j i : ℕ) (rows : List Row) (k : ℕ) (fault : Fault)
      → LinesFail (own_tests delays renewed) first j i rows k fault
      → LinesFail no_tests first j i rows k fault.number × ShowsNoSpans fault
  lines_told j i [] k fault f = absurd f
  lines_told j i (row ∷ rows) zero fault f = line_told j i row fault f
  lines_told j i (row ∷ rows) (suc k) fault f = let later = lines_told j (suc i) rows k fault f.1 in (((f.0.0, tt), later.0), later.1)

  renewal_told : (j : ℕ) (boxes : Subpaving) (new : RowsOver) (k : ℕ) (fault : Fault)
      → RenewalFails (own_tests delays renewed) first j boxes new k fault
      → RenewalFails no_tests first j boxes new k fault.number × ShowsNoSpans fault
  renewal_told j boxes new zero fault f = ((f.0, f.1, tt), f.2)
  renewal_told j boxes new (suc k) fault f = let later = lines_told j 0 new.rows k fault f.1 in ((f.0, later.0), later.1)

  events_told : (rules : Rules) (done j : ℕ) (stage : Stage) (events : List Event) (k : ℕ) (fault : Fault)
      → EventsFail (own_tests delays renewed) first rules done j stage events k fault
      → EventsFail no_tests first rules done j stage events k fault.number × ShowsNoSpans fault
  events_told rules done j stage [] k fault f = ((f.0, f.1, tt), f.2)
  events_told rules done j stage (Made step ∷ events) zero fault f = ((f.0, tt), f.1)
  events_told rules done j stage (Made step ∷ events) (suc k) fault f = let later = events_told rules done j (after stage (Made step)) events k fault f.1 in ((f.0, later.0), later.1)
  events_told rules done j stage (Renewed new ∷ events) k fault (inl f) = let here = renewal_told j stage.boxes new k fault f in (inl here.0, here.1)
  events_told rules done j stage (Renewed new ∷ events) k fault (inr (l, is, passes, f)) =
      let later = events_told rules done (suc j) (after stage (Renewed new)) events l fault f in
      (inr (l, is, renewal_any (own_tests delays renewed).passes first j stage.boxes new passes, later.0), later.1)

-- without bases no row is formed
none_formed : (delays : Delays) (root : GridBox) (renewals : List RowsOver) (renewed : List (List Row))
    → AreAllFormed delays root [] renewals renewed → NoneGiven renewed
none_formed delays root renewals [] formed j i ours (rows, at, is) = absurd cc
none_formed delays root [] (given ∷ more) formed j i ours is = absurd formed
none_formed delays root (new ∷ renewals) ([] ∷ more) formed zero i ours (rows, at, is) = let same : [] ≡ rows = cc in absurd (let e = rw (sym same) at is in cc)
none_formed delays root (new ∷ renewals) ((other ∷ given) ∷ more) formed zero i ours is = absurd formed.0
none_formed delays root (new ∷ renewals) (given ∷ more) formed (suc j) i ours is = none_formed delays root renewals more formed.1 j i ours is

-- ---- a body, and a block

module _ (delays : Delays) (rules : Rules) (block : Block) (body : Body) where
  pub body_told : (result : Result (Option Fault) NoMemory) (firsts : List Row) (line : ℕ)
      → firsts ≡ rows_of block.sats
      → IfOk result (λ found. MatchOption found (ClosingHolds delays body.root firsts [] rules body)
      (λ fault. (k : ℕ) × ClosingBreaks delays body.root firsts [] rules body k fault × (fault.line ≡ line + k)))
      → line ≡ block.line + 2 + length block.sats
      → IfOk result (λ found. MatchOption found (BodyPasses rules block (Some body))
      (λ fault. (k : ℕ) × BodyFailsBy no_tests rules block body k fault.number × ShowsNoSpans fault × (fault.line ≡ block.line + 2 + length block.sats + k)))
  body_told (Ok None) firsts line is h begins = record {
    events = rw is at (events_any _ (rows_over body.root firsts) rules body.done 0 _ body.events h.events.passes);
    bounds = rw is at h.bounds;
  }
  body_told (Ok (Some fault)) firsts line is (k, inl f, at) begins =
      let told = events_told delays f.renewed (none_formed delays body.root (renewals_in body.events) f.renewed f.formed) (rows_over body.root firsts) rules body.done 0 _ body.events k fault f.fails in
      (k, inl (rw is at told.0), told.1, omega (arith, at, begins))
  body_told (Ok (Some fault)) firsts line is (k, inr f, at) begins = (
    k,
    inr (record {
      events = rw is at (events_any _ (rows_over body.root firsts) rules body.done 0 _ body.events f.events.passes);
      m = f.m;
      unshown = rw is at f.unshown;
      line = f.line;
      number = f.number;
      plain = tt;
    }),
    f.no_spans,
    omega (arith, at, begins),
  )
  body_told (Err e) firsts line is h begins = tt

-- what stands behind a root is decided by its steps and renewals, and then by its bounds
module _ (delays : Delays) (root : GridBox) (firsts : List Row) (bases : List Base) (rules : Rules) (body : Body) where
  pub closing_decided : (result : Result (Option Fault) NoMemory) (line behind : ℕ)
      → EventsHold delays root firsts bases rules body.done body.events
      → behind ≡ line + lines_of_all body.events + 1
      → IfOk result (λ found. MatchOption found (AreBoundsShown rules.outliers (rows_over root firsts) body.events body.bounds)
      (λ fault. (m : ℕ) × IsFirstUnshown rules.outliers (rows_over root firsts) body.events body.bounds m
      × (fault.number ≡ 66) × ShowsNoSpans fault × (fault.line ≡ behind + m)))
      → IfOk result (λ found. MatchOption found (ClosingHolds delays root firsts bases rules body)
      (λ fault. (k : ℕ) × ClosingBreaks delays root firsts bases rules body k fault × (fault.line ≡ line + k)))
  closing_decided (Ok None) line behind events begins h = record { events = events; bounds = h }
  closing_decided (Ok (Some fault)) line behind events begins (m, unshown, number, plain, at) = (
    lines_of_all body.events + 1 + m,
    inr (record { events = events; m = m; unshown = unshown; line = refl; number = number; no_spans = plain }),
    omega (arith, at, begins),
  )
  closing_decided (Err e) line behind events begins h = tt
