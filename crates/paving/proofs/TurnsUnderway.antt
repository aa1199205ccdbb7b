-- A run that is underway, turn by turn.
use Rattle.std.proofs.Common.{◌≡◌, ℕ, ◌+◌, ◌*◌, ◌<◌, ◌≤◌, ◌^◌, List, [], ◌∷◌, ◌++◌, length, map, arith, refl, sym, ap, subst, ◌∙◌, append_assoc, Option, None, Some}
use Rattle.std.specs.Prelude.{cond, count_by}
use Rattle.std.proofs.lemmas.List.{append-nil, length-append}
use Rattle.std.proofs.lemmas.List.Sums.{sum_by-append, sum_by-cons}
use Rattle.sat_model.specs.declared.rules.Rules.{Rules}
use Rattle.sat_model.specs.declared.steps.Step.{Step}
use Rattle.sat_model.specs.declared.steps.Step.TheVariants.{Cut, Split, Outside, Inside, Edge}
use Rattle.grid_model.specs.Boxes.{GridBox, grid_box}
use Rattle.sat_model.specs.BoxTests.{BoxTest}
use Rattle.sat_model.specs.Events.{RowsOver}
use Rattle.sat_model.specs.Fold.{ShownStep}
use Rattle.sat_model.specs.StepKinds.{is_split}
use Rattle.sat_model.specs.Waiting.{Paving, first_paving, splits_after, beyond, beyond_all}
use Rattle.paving.specs.Counting.{IsCountOf}
use Rattle.paving.specs.Renewing.{Maker}
use Rattle.paving.specs.Standing.{Stands, Turned, turns_left}
use Rattle.paving.specs.Turns.{Turn, ShownEvent, OfStep, OfRows, shown_new, turn_events, joined_turns, shown_steps, TookEvents, used_after, used_behind, behind_turn, PavesTurns}
use Rattle.paving.specs.declared.counts.Counts.{Counts}
use Rattle.paving.specs.declared.turn.Pavement.{Pavement}
use Rattle.paving.proofs.TakingLemmas.{events_both}

-- ---- runs, one behind the other

pub paves_both : (maker : Maker) (rules : Rules) (used : GridBox) (start middle last : Paving) (turns more : List Turn)
    → PavesTurns maker rules used start turns middle → PavesTurns maker rules (used_behind used turns) middle more last
    → PavesTurns maker rules used start (turns ++ more) last
paves_both maker rules used start middle last [] more paves then = subst (λ (p : Paving). PavesTurns maker rules used p more last) (sym paves) then
paves_both maker rules used start middle last (first ∷ turns) more (n, r, n_is, f_is, f_renews, later) then =
    (n, r, n_is, f_is, f_renews, paves_both maker rules (used_after used first.renewed) (behind_turn start r first) middle last turns more later then)

used_more : (used : GridBox) (turns : List Turn) (turn : Turn) → used_behind used (turns ++ turn ∷ []) ≡ used_after (used_behind used turns) turn.renewed
used_more used [] turn = refl
used_more used (first ∷ turns) turn = used_more (used_after used first.renewed) turns turn

pub turns_more : (turns : List Turn) (turn : Turn)
    → joined_turns (turns ++ turn ∷ []) ≡ joined_turns turns ++ turn_events turn
turns_more [] turn = ap (λ l. map OfStep turn.steps ++ l) (append-nil (shown_new turn.renewed))
turns_more (first ∷ turns) turn =
    ap (λ l. map OfStep first.steps ++ (shown_new first.renewed ++ l)) (turns_more turns turn)
    ∙ ap (λ l. map OfStep first.steps ++ l) (sym (append_assoc (shown_new first.renewed) (joined_turns turns) (turn_events turn)))
    ∙ sym (append_assoc (map OfStep first.steps) (shown_new first.renewed ++ joined_turns turns) (turn_events turn))

steps_both : (xs ys : List ShownEvent) → shown_steps (xs ++ ys) ≡ shown_steps xs ++ shown_steps ys
steps_both [] ys = refl
steps_both (OfStep shown ∷ xs) ys = ap (λ l. shown ∷ l) (steps_both xs ys)
steps_both (OfRows new ∷ xs) ys = steps_both xs ys

all_steps : (steps : List ShownStep) → shown_steps (map OfStep steps) ≡ steps
all_steps [] = refl
all_steps (shown ∷ steps) = ap (λ l. shown ∷ l) (all_steps steps)

no_steps : (renewed : Option RowsOver) → shown_steps (shown_new renewed) ≡ []
no_steps None = refl
no_steps (Some new) = refl

turn_steps : (turn : Turn) → shown_steps (turn_events turn) ≡ turn.steps
turn_steps turn = steps_both (map OfStep turn.steps) (shown_new turn.renewed) ∙ ap (λ l. l ++ shown_steps (shown_new turn.renewed)) (all_steps turn.steps)
    ∙ ap (λ l. turn.steps ++ l) (no_steps turn.renewed) ∙ append-nil turn.steps

-- ---- the splits of a run are those of its steps

one_split : (splits : ℕ) (step : Step) → splits_after splits step ≡ splits + cond (is_split step) 1 0
one_split splits (Cut id face bound) = omega arith
one_split splits (Split id axis) = refl
one_split splits (Outside id) = omega arith
one_split splits (Inside id clock lo hi) = omega arith
one_split splits (Edge id lo hi) = omega arith

abbrev splits_in : List ShownStep → ℕ
splits_in steps = count_by (λ shown. is_split shown.step) steps

splits_go : (paving : Paving) (steps : List ShownStep) → (beyond_all paving steps).splits ≡ paving.splits + splits_in steps
splits_go paving [] = omega arith
splits_go paving (shown ∷ more) = omega (arith, splits_go (beyond paving shown) more, one_split paving.splits shown.step, sum_by-cons (λ (y : ShownStep). cond (is_split y.step) 1 0) shown more)

steps_apart : (turn : Turn) (events : List ShownEvent) → shown_steps (map OfStep turn.steps ++ (shown_new turn.renewed ++ events)) ≡ turn.steps ++ shown_steps events
steps_apart turn events = ap shown_steps (sym (append_assoc (map OfStep turn.steps) (shown_new turn.renewed) events))
    ∙ steps_both (turn_events turn) events ∙ ap (λ l. l ++ shown_steps events) (turn_steps turn)

pub splits_all : (maker : Maker) (rules : Rules) (used : GridBox) (paving last : Paving) (turns : List Turn)
    → PavesTurns maker rules used paving turns last
    → last.splits ≡ paving.splits + splits_in (shown_steps (joined_turns turns))
splits_all maker rules used paving last [] paves = omega (arith, ap (λ (p : Paving). p.splits) paves)
splits_all maker rules used paving last (turn ∷ turns) (next, rest, is, are, renews, later) =
    omega (
      arith,
      splits_all maker rules (used_after used turn.renewed) (behind_turn paving rest turn) last turns later,
      splits_go (record paving { waiting = rest }) turn.steps,
      ap splits_in (steps_apart turn (joined_turns turns)),
      sum_by-append (λ (y : ShownStep). cond (is_split y.step) 1 0) turn.steps (shown_steps (joined_turns turns)),
    )

-- ---- what holds before each turn

pub record AreTurnsUnderway {L : Type 0} (took : L → Step → GridBox → L → Type 0) (took_rows : L → RowsOver → L → Type 0) (maker : Maker) (test : BoxTest) (rules : Rules) (root : GridBox)
    (first now : L) (pavement : Pavement) (counts : Counts) : Type 0 where
  pub turns : List Turn
  pub paving : Paving
  pub paves : PavesTurns maker rules root (first_paving test root) turns paving
  pub stands : Stands pavement paving
  pub used_is : grid_box pavement.in_use.part ≡ used_behind root turns
  pub taken : TookEvents took took_rows first (joined_turns turns) now
  pub counted : IsCountOf counts (shown_steps (joined_turns turns))
  pub long : length (shown_steps (joined_turns turns)) ≤ 1015 * length turns
  pub few : length turns + turns_left pavement ≤ 2 * rules.bisections + 1
  pub rules_same : pavement.rules ≡ rules
  pub root_same : grid_box pavement.root ≡ root
  pub rows_same : length pavement.in_use.rows.items ≡ length test.rows

pub none_yet : {L : Type 0} (took : L → Step → GridBox → L → Type 0) (took_rows : L → RowsOver → L → Type 0) (maker : Maker) (test : BoxTest) (rules : Rules) (root : GridBox) (log : L) (pavement : Pavement) (counts : Counts)
    → counts.inside ≡ 0 → counts.edge ≡ 0 → counts.outside ≡ 0 → counts.bisections ≡ 0
    → Stands pavement (first_paving test root) → pavement.rules ≡ rules → grid_box pavement.root ≡ root → grid_box pavement.in_use.part ≡ root
    → turns_left pavement ≡ 2 * rules.bisections + 1
    → AreTurnsUnderway took took_rows maker test rules root log log pavement counts
none_yet took took_rows maker test rules root log pavement counts inside edge outside splits stands rules_same root_same part left = record {
  turns = [];
  paving = first_paving test root;
  paves = refl;
  stands = stands;
  used_is = part;
  taken = refl;
  counted = record { inside = inside; edge = edge; outside = outside; bisections = splits };
  long = omega arith;
  few = omega (arith, left);
  rules_same = rules_same;
  root_same = root_same;
  rows_same = sym (ap (λ (t : BoxTest). length t.rows) stands.tested);
}

-- the next box got its turn
module _ {L : Type 0} (took : L → Step → GridBox → L → Type 0) (took_rows : L → RowsOver → L → Type 0) (maker : Maker) (test : BoxTest) (rules : Rules) (root : GridBox)
    (first now : L) (old new : Pavement) (counts : Counts) (turn : Turn)
    (u : AreTurnsUnderway took took_rows maker test rules root first now old counts) (t : Turned maker old u.paving turn new) where
  pub paves_turn : PavesTurns maker rules (used_behind root u.turns) u.paving (turn ∷ []) t.last
  paves_turn = subst (λ (r : Rules). PavesTurns maker r (used_behind root u.turns) u.paving (turn ∷ []) t.last) u.rules_same
      (subst (λ (b : GridBox). PavesTurns maker old.rules b u.paving (turn ∷ []) t.last) u.used_is t.paves)

  pub paves_then : PavesTurns maker rules root (first_paving test root) (u.turns ++ turn ∷ []) t.last
  paves_then = paves_both maker rules root (first_paving test root) u.paving t.last u.turns (turn ∷ []) u.paves paves_turn

  pub room_left : rules.bisections ≤ 200000 → length (shown_steps (joined_turns u.turns)) + length turn.steps < 2 ^ 32
  room_left most = omega (arith, u.few, u.long, t.few_steps, t.fewer, most)

  pub more_turns : (last : L) (after : Counts)
      → TookEvents took took_rows now (turn_events turn) last
      → IsCountOf after (shown_steps (joined_turns u.turns) ++ turn.steps)
      → AreTurnsUnderway took took_rows maker test rules root first last new after
  more_turns last after taken counted =
      let many = length-append u.turns (turn ∷ []) in
      let steps_are : shown_steps (joined_turns (u.turns ++ turn ∷ [])) ≡ shown_steps (joined_turns u.turns) ++ turn.steps
      = ap shown_steps (turns_more u.turns turn) ∙ steps_both (joined_turns u.turns) (turn_events turn) ∙ ap (λ l. shown_steps (joined_turns u.turns) ++ l) (turn_steps turn) in
      record {
        turns = u.turns ++ turn ∷ [];
        paving = t.last;
        paves = paves_then;
        stands = t.stands;
        used_is = t.used ∙ ap (λ (b : GridBox). used_after b turn.renewed) u.used_is ∙ sym (used_more root u.turns turn);
        taken = subst (λ (l : List ShownEvent). TookEvents took took_rows first l last) (sym (turns_more u.turns turn))
            (events_both took took_rows (joined_turns u.turns) (turn_events turn) first now last u.taken taken);
        counted = subst (λ (l : List ShownStep). IsCountOf after l) (sym steps_are) counted;
        long = omega (arith, many, u.long, t.few_steps, ap length steps_are, length-append (shown_steps (joined_turns u.turns)) turn.steps);
        few = omega (arith, many, u.few, t.fewer);
        rules_same = t.same.rules ∙ u.rules_same;
        root_same = ap grid_box t.same.root ∙ u.root_same;
        rows_same = t.same.rows ∙ u.rows_same;
      }
