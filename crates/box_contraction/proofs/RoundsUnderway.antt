-- Cuts of eighths, round by round.
use Rattle.std.proofs.Common.{◌≡◌, ◌≢◌, ℕ, ◌+◌, ◌≤◌, arith, List, [], ◌∷◌, ◌++◌, length, refl, sym, subst, append_assoc, ◌∙◌, ap}
use Rattle.std.proofs.lemmas.List.{append-nil, length-append}
use Rattle.grid_model.specs.Boxes.{GridBox}
use Rattle.sat_model.specs.BoxTests.{BoxTest}
use Rattle.sat_model.specs.Fold.{ShownStep}
use Rattle.sat_model.specs.Waiting.{joined}
use Rattle.box_contraction.specs.Cuts.{eighths, all_faces, IsCutTo, AreFacesCut, AreRounds, AreEighthCuts}
use Rattle.box_contraction.specs.Adding.{AddsCuts}
use Rattle.range_contractor.proofs.TreeExists.{IsGridPart}
use Rattle.box_contraction.proofs.RoundLemmas.{Budget, grid_budget, faces_spent, round_before, joined_append}

pub record RoundsUnderway (test : BoxTest) (id : ℕ) (start : GridBox) (before : List ShownStep) (part : GridBox) (now : List ShownStep) : Type 0 where
  pub rounds : List (List ShownStep)
  pub goes_on : (more : List (List ShownStep)) (left : GridBox)
      → AreRounds (IsCutTo test id eighths) part more left
      → AreRounds (IsCutTo test id eighths) start (rounds ++ more) left
  pub added : now ≡ before ++ joined rounds
  pub rest : ℕ
  pub budget : Budget part rest
  pub spent : length (joined rounds) + rest ≡ 1008

pub no_rounds_yet : (test : BoxTest) (id : ℕ) (start : GridBox) (before : List ShownStep)
    → IsGridPart start → RoundsUnderway test id start before start before
no_rounds_yet test id start before grid = record { rounds = []; goes_on = λ more left h. h; added = sym (append-nil before); rest = 1008; budget = grid_budget start grid; spent = refl }

pub one_more : (rounds : List (List ShownStep)) (round : List ShownStep)
    → joined (rounds ++ round ∷ []) ≡ joined rounds ++ round
one_more rounds round = joined_append rounds (round ∷ []) ∙ ap (λ l. joined rounds ++ l) (append-nil round)

some_steps : (steps : List ShownStep) → 1 ≤ length steps → steps ≢ []
some_steps [] h = absurd (omega arith)
some_steps (step ∷ steps) h = λ e. absurd cc

no_steps : (steps : List ShownStep) → length steps ≡ 0 → steps ≡ []
no_steps [] h = refl
no_steps (step ∷ steps) h = absurd (omega arith)

pub rounds_so_far_few : (test : BoxTest) (id : ℕ) (start : GridBox) (before : List ShownStep) (part : GridBox) (now : List ShownStep)
    → RoundsUnderway test id start before part now → length now ≤ length before + 1008
rounds_so_far_few test id start before part now u = omega (arith, ap length u.added, length-append before (joined u.rounds), u.spent)

added_both : (before rounds steps now last : List ShownStep) → now ≡ before ++ rounds → last ≡ now ++ steps → last ≡ before ++ (rounds ++ steps)
added_both before rounds steps now last e f = f ∙ ap (λ (l : List ShownStep). l ++ steps) e ∙ append_assoc before rounds steps

pub one_round : (test : BoxTest) (id : ℕ) (start : GridBox) (before : List ShownStep) (part left : GridBox) (now last : List ShownStep)
    → RoundsUnderway test id start before part now
    → AddsCuts (AreFacesCut test id eighths all_faces part) now left last → length last ≢ length now
    → RoundsUnderway test id start before left last
one_round test id start before part left now last u c grew =
    let (rest, (e, budget)) = faces_spent test id all_faces part c.cuts left u.rest c.are u.budget in record {
      rounds = u.rounds ++ c.cuts ∷ [];
      goes_on = λ more end are. subst (λ (l : List (List ShownStep)). AreRounds (IsCutTo test id eighths) start l end) (sym (append_assoc u.rounds (c.cuts ∷ []) more))
          (u.goes_on (c.cuts ∷ more) end (round_before (IsCutTo test id eighths) part left end c.cuts more c.are (some_steps c.cuts (omega (arith, grew, ap length c.added, length-append now c.cuts))) are));
      added = added_both before (joined u.rounds) c.cuts now last u.added c.added ∙ ap (λ (l : List ShownStep). before ++ l) (sym (one_more u.rounds c.cuts));
      rest = rest;
      budget = budget;
      spent = omega (arith, u.spent, e, ap length (one_more u.rounds c.cuts), length-append (joined u.rounds) c.cuts);
    }

pub last_round : (test : BoxTest) (id : ℕ) (start : GridBox) (before : List ShownStep) (part left : GridBox) (now last : List ShownStep)
    → RoundsUnderway test id start before part now
    → AddsCuts (AreFacesCut test id eighths all_faces part) now left last → length last ≡ length now
    → AddsCuts (AreEighthCuts test id start) before left last
last_round test id start before part left now last u c none = record {
  cuts = joined u.rounds ++ c.cuts;
  are = (u.rounds ++ c.cuts ∷ [], u.goes_on (c.cuts ∷ []) left (c.are, no_steps c.cuts (omega (arith, none, ap length c.added, length-append now c.cuts))), sym (one_more u.rounds c.cuts));
  added = added_both before (joined u.rounds) c.cuts now last u.added c.added;
}

pub grown : (now last steps : List ShownStep) → last ≡ now ++ steps → length now ≤ length last
grown now last steps e = omega (arith, ap length e, length-append now steps)
