-- A turn that is handed to a log.
use Rattle.std.proofs.Common.{◌↔◌, Result, Err, ◌≡◌, ℕ, suc, ◌+◌, ◌<◌, ◌^◌, List, [], ◌∷◌, ◌++◌, map, take, drop, get_or, length, arith, refl, sym, ap, subst, ◌∙◌, drop-cons, take-append-drop, append_assoc}
use Rattle.std.proofs.lemmas.List.{append-nil, map-append, take_more, length-append, length-map, length-take}
use Rattle.std.proofs.lemmas.List.Sums.{count_by-le-length}
use Rattle.grid_model.specs.Boxes.{GridBox}
use Rattle.sat_model.specs.declared.steps.Step.{Step}
use Rattle.sat_model.specs.Events.{RowsOver}
use Rattle.sat_model.specs.Fold.{ShownStep}
use Rattle.sat_model.specs.StepKinds.{is_inside, is_edge, is_outside, is_split}
use Rattle.box_contraction.specs.Adding.{step_value}
use Rattle.paving.specs.Taken.{TookAll}
use Rattle.box_contraction.specs.declared.box_step.BoxStep.{BoxStep}
use Rattle.paving.specs.declared.steps.StepFault.{StepFault}
use Rattle.paving.specs.Counting.{IsCountOf, HasRoom, counts_after}
use Rattle.paving.specs.Turns.{ShownEvent, OfStep, OfRows, TookEvents}
use Rattle.paving.specs.declared.counts.Counts.{Counts}
use Rattle.paving.proofs.Underway.{counted_more}

-- ---- steps

pub took_both : {L : Type 0} (took : L → Step → GridBox → L → Type 0) (xs ys : List ShownStep) (first middle last : L)
    → TookAll took first xs middle → TookAll took middle ys last
    → TookAll took first (xs ++ ys) last
took_both took [] ys first middle last f g = subst (λ l. TookAll took l ys last) (sym f) g
took_both took (x ∷ xs) ys first middle last (next, t, f) g = (next, t, took_both took xs ys next middle last f g)

pub steps_whole : (items : List BoxStep) (i : ℕ) (x : BoxStep) → i < length items → x ≡ get_or items i x
    → map step_value (take i items) ++ step_value x ∷ map step_value (drop (suc i) items) ≡ map step_value items
steps_whole items i x within is =
    let whole : items ≡ take i items ++ x ∷ drop (suc i) items
    = sym (take-append-drop i items) ∙ ap (λ (rest : List BoxStep). take i items ++ rest) (drop-cons items i x within)
    ∙ ap (λ (y : BoxStep). take i items ++ y ∷ drop (suc i) items) (sym is) in
    sym (ap (map step_value) whole ∙ map-append step_value (take i items) (x ∷ drop (suc i) items))

pub steps_longer : (items : List BoxStep) (i : ℕ) (x : BoxStep) → i < length items → x ≡ get_or items i x
    → map step_value (take (i + 1) items) ≡ map step_value (take i items) ++ step_value x ∷ []
steps_longer items i x within is =
    ap (map step_value) (take_more items i x within ∙ ap (λ (y : BoxStep). take i items ++ y ∷ []) (sym is))
    ∙ map-append step_value (take i items) (x ∷ [])

pub same_fault : (fault cause : StepFault) (P : Type 0)
    → ((◌≡◌ {A = Result (Unit {0}) StepFault} (Err fault) (Err cause)) ↔ P) → ((fault ≡ cause) ↔ P)
same_fault fault cause P h = (λ e. h.0 (rw e refl), λ p. let e = h.1 p in cc)

-- ---- counts

-- each count is at most the number of the steps, so one more has room
pub has_room : (counts : Counts) (items : List BoxStep) (i : ℕ) (before : List ShownStep) → i < length items
    → length before + length items < 2 ^ 32 → IsCountOf counts (before ++ map step_value (take i items)) → HasRoom counts
has_room counts items i before within room c =
    let steps = before ++ map step_value (take i items) in
    let long : length steps + 1 < 2 ^ 32 = omega (arith, within, room, length-append before (map step_value (take i items)), length-map (take i items) step_value, length-take i items) in (
      omega (arith, long, c.inside, count_by-le-length (λ (s : ShownStep). is_inside s.step) steps),
      omega (arith, long, c.edge, count_by-le-length (λ (s : ShownStep). is_edge s.step) steps),
      omega (arith, long, c.outside, count_by-le-length (λ (s : ShownStep). is_outside s.step) steps),
      omega (arith, long, c.bisections, count_by-le-length (λ (s : ShownStep). is_split s.step) steps),
    )

pub counted_one : (counts after : Counts) (x : BoxStep) (before front longer : List ShownStep)
    → IsCountOf counts (before ++ front) → after ≡ counts_after counts x.step → longer ≡ front ++ step_value x ∷ []
    → IsCountOf after (before ++ longer)
counted_one counts after x before front longer is same more =
    subst (λ (l : List ShownStep). IsCountOf after l) (append_assoc before front (step_value x ∷ []) ∙ ap (λ (l : List ShownStep). before ++ l) (sym more))
    (subst (λ (k : Counts). IsCountOf k ((before ++ front) ++ step_value x ∷ [])) (sym same)
    (counted_more counts (before ++ front) x.step (step_value x).part is))

-- ---- events that were taken

module _ {L : Type 0} (took : L → Step → GridBox → L → Type 0) (took_rows : L → RowsOver → L → Type 0) where
  pub events_both : (xs ys : List ShownEvent) (first middle last : L)
      → TookEvents took took_rows first xs middle → TookEvents took took_rows middle ys last
      → TookEvents took took_rows first (xs ++ ys) last
  events_both [] ys first middle last f g = subst (λ l. TookEvents took took_rows l ys last) (sym f) g
  events_both (OfStep shown ∷ xs) ys first middle last (next, t, f) g = (next, t, events_both xs ys next middle last f g)
  events_both (OfRows new ∷ xs) ys first middle last (next, t, f) g = (next, t, events_both xs ys next middle last f g)

  pub of_steps : (steps : List ShownStep) (first last : L) → TookAll took first steps last
      → TookEvents took took_rows first (map OfStep steps) last
  of_steps [] first last f = f
  of_steps (shown ∷ steps) first last (next, t, f) = (next, t, of_steps steps next last f)

  pub took_plain : (steps : List ShownStep) (first last : L) → TookAll took first steps last
      → TookEvents took took_rows first (map OfStep steps ++ []) last
  took_plain steps first last t = subst (λ l. TookEvents took took_rows first l last) (sym (append-nil (map OfStep steps))) (of_steps steps first last t)

  pub took_renewed : (steps : List ShownStep) (new : RowsOver) (first middle last : L) → TookAll took first steps middle → took_rows middle new last
      → TookEvents took took_rows first (map OfStep steps ++ OfRows new ∷ []) last
  took_renewed steps new first middle last t r = events_both (map OfStep steps) (OfRows new ∷ []) first middle last (of_steps steps first middle t) (last, r, refl)
