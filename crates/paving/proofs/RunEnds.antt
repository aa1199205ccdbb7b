-- How a run ends: whole, or broken off.
use Rattle.std.proofs.Common.{◌≡◌, ℕ, ◌≤◌, arith, List, [], ◌∷◌, ◌++◌, map, refl, sym, ap, subst, Option, ◌∙◌, append_assoc, inl, inr}
use Rattle.std.proofs.lemmas.List.{append-nil}
use Rattle.sat_model.specs.declared.rules.Rules.{Rules}
use Rattle.sat_model.specs.declared.steps.Step.{Step}
use Rattle.grid_model.specs.Boxes.{GridBox}
use Rattle.sat_model.specs.BoxTests.{BoxTest}
use Rattle.sat_model.specs.Events.{RowsOver, rows_over}
use Rattle.sat_model.specs.Fold.{ShownStep}
use Rattle.sat_model.specs.Renewals.{AnyLine}
use Rattle.sat_model.specs.Stages.{first_stage}
use Rattle.sat_model.specs.Verdicts.{EventsPass}
use Rattle.sat_model.specs.Waiting.{WaitingBox, Paving, first_paving, IsNext}
use Rattle.paving.specs.declared.steps.StepFault.{StepFault}
use Rattle.paving.specs.Paved.{AreStepsOf}
use Rattle.paving.specs.Renewing.{Maker}
use Rattle.paving.specs.Runs.{IsRun, IsBroken, BeginsBox}
use Rattle.paving.specs.Standing.{Turned}
use Rattle.paving.specs.Turns.{Turn, OfStep, OfRows, shown_new, joined_turns, events_of, PavedTurns}
use Rattle.paving.specs.BrokenTurns.{BrokeTurn}
use Rattle.paving.specs.declared.counts.Counts.{Counts}
use Rattle.paving.specs.declared.turn.Pavement.{Pavement}
use Rattle.paving.proofs.TurnLemmas.{Suits, turns_pass, turns_cover}
use Rattle.paving.proofs.TurnsUnderway.{AreTurnsUnderway, splits_all, turns_more, paves_turn, paves_then}
use Rattle.paving.proofs.TakingLemmas.{events_both, of_steps}

-- the splits of the paving are those that are counted
pub splits_counted : {L : Type 0} (took : L → Step → GridBox → L → Type 0) (took_rows : L → RowsOver → L → Type 0) (maker : Maker) (test : BoxTest) (rules : Rules) (root : GridBox) (first now : L) (pavement : Pavement) (counts : Counts)
    → (u : AreTurnsUnderway took took_rows maker test rules root first now pavement counts) → u.paving.splits ≡ counts.bisections
splits_counted took took_rows maker test rules root first now pavement counts u =
    omega (arith, splits_all maker rules root (first_paving test root) u.paving u.turns u.paves, u.counted.bisections)

pub splits_within : {L : Type 0} (took : L → Step → GridBox → L → Type 0) (took_rows : L → RowsOver → L → Type 0) (maker : Maker) (test : BoxTest) (rules : Rules) (root : GridBox) (first now : L) (pavement : Pavement) (counts : Counts)
    → AreTurnsUnderway took took_rows maker test rules root first now pavement counts → counts.bisections ≤ rules.bisections
splits_within took took_rows maker test rules root first now pavement counts u =
    omega (arith, splits_counted took took_rows maker test rules root first now pavement counts u, u.stands.splits_is, u.stands.within, ap (λ (r : Rules). r.bisections) u.rules_same)

-- no box waits any more
pub whole_run : {L : Type 0} (took : L → Step → GridBox → L → Type 0) (took_rows : L → RowsOver → L → Type 0) (maker : Maker) (test : BoxTest) (rules : Rules) (root : GridBox) (first now : L) (pavement : Pavement) (counts : Counts)
    → Suits maker test.rows
    → (u : AreTurnsUnderway took took_rows maker test rules root first now pavement counts)
    → u.paving.waiting ≡ []
    → IsRun took took_rows maker test rules root first now counts
whole_run took took_rows maker test rules root first now pavement counts suits u none =
    let run : PavedTurns maker test rules root (joined_turns u.turns)
    = record { turns = u.turns; all_events = refl; last = u.paving; paves = u.paves; none_waiting = none } in
    record {
      events = joined_turns u.turns;
      paved = run;
      taken = u.taken;
      counted = u.counted;
      passes = subst (λ (done : ℕ). EventsPass AnyLine (rows_over root test.rows) rules done 0 (first_stage test root) (events_of (joined_turns u.turns)))
          (splits_counted took took_rows maker test rules root first now pavement counts u) (turns_pass maker test rules root _ suits run);
      cover = turns_cover maker test rules root _ suits run;
    }

front_then : (xs : List ShownStep) (next : ShownStep)
    → map OfStep (xs ++ next ∷ []) ≡ map OfStep xs ++ OfStep next ∷ []
front_then [] next = refl
front_then (x ∷ xs) next = ap (λ l. OfStep x ∷ l) (front_then xs next)

-- the first steps of a box begin it
begins : (rules : Rules) (paving : Paving) (next : WaitingBox) (rest : List WaitingBox) (steps more : List ShownStep)
    → IsNext paving.waiting next rest
    → AreStepsOf paving.test rules paving.splits next (steps ++ more) → BeginsBox rules paving steps
begins rules paving next rest [] more is are = tt
begins rules paving next rest (shown ∷ steps) more is are = (next, rest, more, is, are)

-- a step of the turn broke, or the renewal behind them
pub broke_in_turn : {L : Type 0} (took broke : L → Step → GridBox → L → Type 0) (took_rows : L → RowsOver → L → Type 0) (broke_rows : L → RowsOver → ℕ → L → Type 0) (room : L → ℕ) (fault : StepFault) (maker : Maker) (test : BoxTest) (rules : Rules) (root : GridBox)
    (first now last : L) (old new : Pavement) (counts : Counts) (turn : Turn)
    → (u : AreTurnsUnderway took took_rows maker test rules root first now old counts) → Turned maker old u.paving turn new
    → BrokeTurn took broke broke_rows room fault turn now last
    → IsBroken took broke took_rows broke_rows room fault maker test rules root first last
broke_in_turn took broke took_rows broke_rows room fault maker test rules root first now last old new counts turn u t (inl b) =
    let (next, rest, is_next, are, renews, more) = paves_turn took took_rows maker test rules root first now old new counts turn u t in
    record {
      events = joined_turns u.turns ++ map OfStep b.steps;
      next = OfStep b.next;
      paved_first = record {
        turns = u.turns;
        paving = u.paving;
        paves = u.paves;
        steps = b.steps ++ b.next ∷ [];
        begun = begins rules u.paving next rest (b.steps ++ b.next ∷ []) b.more is_next
            (subst (λ (l : List ShownStep). AreStepsOf u.paving.test rules u.paving.splits next l) (sym b.whole ∙ sym (append_assoc b.steps (b.next ∷ []) b.more)) are);
        all_events = append_assoc (joined_turns u.turns) (map OfStep b.steps) (OfStep b.next ∷ []) ∙ ap (λ l. joined_turns u.turns ++ l) (sym (front_then b.steps b.next));
      };
      before = b.before;
      taken = events_both took took_rows (joined_turns u.turns) (map OfStep b.steps) first now b.before u.taken (of_steps took took_rows b.steps now b.before b.taken);
      broken = (b.broken, b.full);
    }
broke_in_turn took broke took_rows broke_rows room fault maker test rules root first now last old new counts turn u t (inr b) =
    record {
      events = joined_turns u.turns ++ map OfStep turn.steps;
      next = OfRows b.new;
      paved_first = record {
        turns = u.turns ++ turn ∷ [];
        paving = t.last;
        paves = paves_then took took_rows maker test rules root first now old new counts turn u t;
        steps = [];
        begun = tt;
        all_events = append_assoc (joined_turns u.turns) (map OfStep turn.steps) (OfRows b.new ∷ [])
            ∙ ap (λ (r : Option RowsOver). joined_turns u.turns ++ (map OfStep turn.steps ++ shown_new r)) (sym b.is_new)
            ∙ sym (turns_more u.turns turn) ∙ sym (append-nil (joined_turns (u.turns ++ turn ∷ [])));
      };
      before = b.before;
      taken = events_both took took_rows (joined_turns u.turns) (map OfStep turn.steps) first now b.before u.taken (of_steps took took_rows turn.steps now b.before b.taken);
      broken = b.broke;
    }
