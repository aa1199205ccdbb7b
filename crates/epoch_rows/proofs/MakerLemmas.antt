-- What a run by one maker of rows is by another that may give them too, and which rows a run has.
use Rattle.std.proofs.Common.{◌≡◌, ℕ, zero, suc, ◌+◌, true, List, [], ◌∷◌, ◌++◌, length, map, refl, sym, subst, ◌∙◌, arith}
use Rattle.std.specs.Prelude.{Option, None, Some, slice_get}
use Rattle.std.specs.List.{AllByRecursion}
use Rattle.std.proofs.lemmas.Option.{same_Some}
use Rattle.bound_directions.specs.declared.directions.Directions.{Directions}
use Rattle.grid_model.specs.Boxes.{GridBox}
use Rattle.log_writer.specs.LastRenewals.{RenewsOver, RenewsIf, RenewsLast, last_events}
use Rattle.log_writer.specs.Pavings.{BodyExtends, Extends, HasRun, Paves, HasBegun, Begins}
use Rattle.paving.specs.Renewing.{Maker, GivesFrom, Renews}
use Rattle.paving.specs.Runs.{TurnsBegun}
use Rattle.paving.specs.Turns.{Turn, ShownEvent, OfStep, shown_new, joined_turns, events_of, used_after, worked_on, behind_turn, test_after, PavesTurns, PavedTurns}
use Rattle.sat_model.specs.BoxTests.{BoxTest}
use Rattle.sat_model.specs.Events.{Event, Made, Renewed, RowsOver, rows_over, renewals_in}
use Rattle.sat_model.specs.Fold.{ShownStep}
use Rattle.sat_model.specs.Logs.{Body, Block, rows_of}
use Rattle.sat_model.specs.Waiting.{WaitingBox, Paving}
use Rattle.sat_model.specs.declared.rows.Row.{Row}
use Rattle.sat_model.specs.declared.rules.Rules.{Rules}

-- ---- one maker for another

-- both are asked for rows or aren't, and what the first may give the second may give
pub record GoesAs (maker other : Maker) : Type 0 where
  pub active : maker.active ≡ other.active
  pub gives : maker.active ≡ true → (i : ℕ) (part : GridBox) (row : Row) → maker.gives i part row
      → other.gives i part row

module _ (maker other : Maker) (goes : GoesAs maker other) (rules : Rules) where
  rows_as : maker.active ≡ true → (from : ℕ) (part : GridBox) (rows : List Row)
      → GivesFrom maker from part rows → GivesFrom other from part rows
  rows_as active from part [] gives = tt
  rows_as active from part (row ∷ rows) gives = (goes.gives active from part row gives.0, rows_as active (suc from) part rows gives.1)

  renews_as : (used : RowsOver) (before splits : ℕ) (waiting : List WaitingBox) (renewed : Option RowsOver)
      → Renews maker used before splits waiting renewed
      → Renews other used before splits waiting renewed
  renews_as used before splits waiting None none = λ hull active due. none hull (goes.active ∙ active) due
  renews_as used before splits waiting (Some new) (active, due, many, gives) = (sym goes.active ∙ active, due, many, rows_as active 0 new.part new.rows gives)

  turns_as : (used : GridBox) (paving : Paving) (turns : List Turn) (last : Paving)
      → PavesTurns maker rules used paving turns last
      → PavesTurns other rules used paving turns last
  turns_as used paving [] last same = same
  turns_as used paving (turn ∷ turns) last (next, rest, is_next, steps, renews, more) = (
    next,
    rest,
    is_next,
    steps,
    renews_as (rows_over used paving.test.rows) paving.splits (worked_on paving rest turn).splits (worked_on paving rest turn).waiting turn.renewed renews,
    turns_as (used_after used turn.renewed) (behind_turn paving rest turn) turns last more,
  )

  paved_as : (test : BoxTest) (root : GridBox) (events : List ShownEvent)
      → PavedTurns maker test rules root events → PavedTurns other test rules root events
  paved_as test root events p = record {
    turns = p.turns;
    all_events = p.all_events;
    last = p.last;
    paves = turns_as root _ p.turns p.last p.paves;
    none_waiting = p.none_waiting;
  }

  begun_as : (test : BoxTest) (root : GridBox) (events : List ShownEvent)
      → TurnsBegun maker test rules root events → TurnsBegun other test rules root events
  begun_as test root events b = record {
    turns = b.turns;
    paving = b.paving;
    paves = turns_as root _ b.turns b.paving b.paves;
    steps = b.steps;
    begun = b.begun;
    all_events = b.all_events;
  }

  body_as : (Runs Others : Block → Body → Type 0) (block : Block) (given body : Option Body)
      → ((b : Body) → Runs block b → Others block b)
      → BodyExtends Runs block given body → BodyExtends Others block given body
  body_as Runs Others block None None as_runs is = tt
  body_as Runs Others block None (Some body) as_runs is = absurd is
  body_as Runs Others block (Some given) None as_runs is = absurd is
  body_as Runs Others block (Some given) (Some body) as_runs is = (is.0, as_runs body is.1)

  extends_as : (Runs Others : Block → Body → Type 0) (given block : Block)
      → ((b : Body) → Runs block b → Others block b) → Extends Runs given block
      → Extends Others given block
  extends_as Runs Others given block as_runs e = record {
    index = e.index;
    ps = e.ps;
    n = e.n;
    sats = e.sats;
    body = body_as Runs Others block given.body block.body as_runs e.body;
  }

  over_as : (used : GridBox) (hull : Option GridBox) (n : ℕ) (last : Option RowsOver)
      → RenewsOver maker used hull n last → RenewsOver other used hull n last
  over_as used hull n None none = λ part active is shorter. none part (goes.active ∙ active) is shorter
  over_as used hull n (Some new) (active, is, shorter, many, gives) = (sym goes.active ∙ active, is, shorter, many, rows_as active 0 new.part new.rows gives)

  last_as : (directions : Option Directions) (used : GridBox) (hull : Option GridBox) (n : ℕ) (last : Option RowsOver)
      → RenewsIf directions maker used hull n last → RenewsIf directions other used hull n last
  last_as None used hull n last none = none
  last_as (Some directions) used hull n last renews = over_as used hull n last renews

  pub paves_as : (directions : Option Directions) (given block : Block)
      → Paves directions maker rules given block → Paves directions other rules given block
  unfolding paved_as
  paves_as directions given block paves =
      extends_as (HasRun directions maker rules) (HasRun directions other rules) given block
      (λ body h. record {
        shown = h.shown;
        run = paved_as _ body.root h.shown h.run;
        last = h.last;
        renews = last_as directions _ _ _ h.last h.renews;
        events = h.events;
        done = h.done;
        bounds = h.bounds;
      }) paves

  pub begins_as : (given block : Block) → Begins maker rules given block
      → Begins other rules given block
  begins_as given block begins =
      extends_as (HasBegun maker rules) (HasBegun other rules) given block
      (λ body h. record { shown = h.shown; begun = begun_as _ body.root h.shown h.begun; events = h.events }) begins

-- ---- the rows that are renewed in a run

module _ (maker : Maker) (rules : Rules) where
  -- the renewal has so many rows, each of which may be given
  pub record IsGiven (n : ℕ) (new : RowsOver) : Type 0 where
    pub rows : GivesFrom maker 0 new.part new.rows
    pub many : length new.rows ≡ n

  abbrev AreGiven : ℕ → List RowsOver → Type 0
  AreGiven n renewals = AllByRecursion (IsGiven n) renewals

  steps_alone : (steps : List ShownStep) (more : List ShownEvent)
      → renewals_in (events_of (map OfStep steps ++ more)) ≡ renewals_in (events_of more)
  steps_alone [] more = refl
  steps_alone (shown ∷ steps) more = steps_alone steps more

  module _ (n : ℕ) (used : GridBox) (test : BoxTest) (many : length test.rows ≡ n) (before splits : ℕ) (waiting : List WaitingBox) where
    new_given : (renewed : Option RowsOver) (more : List ShownEvent)
        → Renews maker (rows_over used test.rows) before splits waiting renewed
        → AreGiven n (renewals_in (events_of more))
        → AreGiven n (renewals_in (events_of (shown_new renewed ++ more)))
    new_given None more renews all = all
    new_given (Some new) more (active, due, same, gives) all = (record { rows = gives; many = same ∙ many }, all)

    still_many : (renewed : Option RowsOver)
        → Renews maker (rows_over used test.rows) before splits waiting renewed
        → length (test_after test renewed).rows ≡ n
    still_many None renews = many
    still_many (Some new) (active, due, same, gives) = same ∙ many

  turns_given : (n : ℕ) (used : GridBox) (paving : Paving) (turns : List Turn) (last : Paving)
      → length paving.test.rows ≡ n → PavesTurns maker rules used paving turns last
      → AreGiven n (renewals_in (events_of (joined_turns turns)))
  turns_given n used paving [] last many same = tt
  turns_given n used paving (turn ∷ turns) last many (next, rest, is_next, steps, renews, more) =
      let behind = worked_on paving rest turn in
      subst (AreGiven n) (sym (steps_alone turn.steps (shown_new turn.renewed ++ joined_turns turns)))
      (new_given n used paving.test many paving.splits behind.splits behind.waiting turn.renewed (joined_turns turns) renews
      (turns_given n (used_after used turn.renewed) (behind_turn paving rest turn) turns last (still_many n used paving.test many paving.splits behind.splits behind.waiting turn.renewed renews) more))

  last_given : (directions : Option Directions) (used : GridBox) (hull : Option GridBox) (n : ℕ) (last : Option RowsOver)
      → RenewsIf directions maker used hull n last → AreGiven n (renewals_in (last_events last))
  last_given None used hull n last none = rw none tt
  last_given (Some directions) used hull n None renews = tt
  last_given (Some directions) used hull n (Some new) (active, is, shorter, many, gives) = (record { rows = gives; many = many }, tt)

  given_behind : (n : ℕ) (first more : List Event) → AreGiven n (renewals_in first)
      → AreGiven n (renewals_in more) → AreGiven n (renewals_in (first ++ more))
  given_behind n [] more all later = later
  given_behind n (Made step ∷ first) more all later = given_behind n first more all later
  given_behind n (Renewed new ∷ first) more all later = (all.0, given_behind n first more all.1 later)

  -- those of a run from the rows of a block
  pub run_given : (directions : Option Directions) (block : Block) (body : Body)
      → HasRun directions maker rules block body
      → AllByRecursion (IsGiven (length (rows_of block.sats))) (renewals_in body.events)
  run_given directions block body h =
      let n = length (rows_of block.sats) in
      let turns : AreGiven n (renewals_in (events_of h.shown)) = rw h.run.all_events (turns_given n body.root _ h.run.turns h.run.last refl h.run.paves) in
      rw h.events (given_behind n (events_of h.shown) (last_events h.last) turns
      (last_given directions _ _ n h.last h.renews))

  row_from : (from : ℕ) (part : GridBox) (rows : List Row) (i : ℕ) (row : Row)
      → GivesFrom maker from part rows → slice_get rows i ≡ Some row
      → maker.gives (from + i) part row
  row_from from part [] i row gives is = absurd cc
  row_from from part (first ∷ rows) zero row gives is = rw (sym (same_Some first row is)) (subst (λ (n : ℕ). maker.gives n part first) (omega arith) gives.0)
  row_from from part (first ∷ rows) (suc i) row gives is = subst (λ (n : ℕ). maker.gives n part row) (omega arith) (row_from (suc from) part rows i row gives.1 is)

  pub row_given : (part : GridBox) (rows : List Row) (i : ℕ) (row : Row)
      → GivesFrom maker 0 part rows → slice_get rows i ≡ Some row → maker.gives i part row
  row_given part rows i row gives is = subst (λ (n : ℕ). maker.gives n part row) (omega arith) (row_from 0 part rows i row gives is)
