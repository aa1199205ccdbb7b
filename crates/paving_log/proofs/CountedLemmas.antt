-- Steps that were counted as their lines were taken: what the lines tell.
use Rattle.std.proofs.Common.{◌≡◌, ℕ, ◌+◌, ◌≤◌, cond, List, [], ◌∷◌, ◌++◌, length, map, refl, sym, ap, subst, ◌∙◌, arith}
use Rattle.std.specs.List.{flat_map, AllByRecursion, count_by}
use Rattle.std.proofs.lemmas.List.{length-append}
use Rattle.std.proofs.lemmas.List.Sums.{count_by-le-length, sum_by-append}
use Rattle.sat_model.specs.declared.rows.Row.{Row}
use Rattle.sat_model.specs.declared.steps.Step.{Step}
use Rattle.sat_model.specs.StepKinds.{is_kept_step}
use Rattle.sat_model.specs.Events.{Event, Made, Renewed, steps_in}
use Rattle.step_lines.specs.Texts.{AnyLine, OfStep, Other, AnyFits, steps_among, told_steps, AreLines}
use Rattle.step_lines.specs.Texts.{text_of as told_text}
use Rattle.log_lines.specs.declared.line.Corners.{Corners}
use Rattle.log_lines.specs.declared.line.Form.TheVariants as form
use Rattle.log_lines.specs.declared.line.LogForm.{LogForm}
use Rattle.log_lines.specs.declared.line.LogLine.{LogLine}
use Rattle.log_lines.specs.declared.line.LogLine.TheVariants as line
use Rattle.log_lines.specs.declared.line.Place.TheVariants as place
use Rattle.paving_log.specs.declared.lines.Lines.{Lines}
use Rattle.paving_log.specs.declared.renewal.Renewal.{Renewal}
use Rattle.log_lines.specs.Lines.{line_text, text_of}
use Rattle.paving_log.specs.Renewing.{Rise, new_rows, events_from}
use Rattle.log_lines.specs.Rows.{RowFits, corners_of}
use Rattle.paving_log.specs.Taking.{Takes, HasBetween, AllStepsFit}
use Rattle.log_lines.specs.Order.{place_behind_done}
use Rattle.log_lines.specs.Text.{row_line, event_lines, EventFits}
use Rattle.paving_log.proofs.BlockLemmas.{TakesEvents, done_on}
use Rattle.paving_log.proofs.EventLemmas.{rise_to, rise_on, step_behind, renewal_behind, steps_in_events, steps_le_lines}
use Rattle.paving_log.proofs.FitLemmas.{step_more, renewal_more}
use Rattle.log_lines.proofs.SpellingLemmas.{line_end}

-- ---- the lines of events, as those among which steps are found

abbrev told_rows : List Row → List AnyLine → List AnyLine
told_rows [] more = more
told_rows (row ∷ rows) more = Other (line_text (row_line row)) ∷ told_rows rows more

abbrev told : List Event → List AnyLine
told [] = []
told (Made step ∷ events) = OfStep step ∷ told events
told (Renewed new ∷ events) =
    Other (line_text (line.Renew (corners_of new.part))) ∷ told_rows new.rows (told events)

row_texts : (rows : List Row) (lines : List LogLine) (more : List AnyLine)
    → text_of lines ≡ told_text more
    → text_of (map row_line rows ++ lines) ≡ told_text (told_rows rows more)
row_texts [] lines more later = later
row_texts (row ∷ rows) lines more later = ap (λ (t : List ℕ). line_text (row_line row) ++ 10 ∷ t) (row_texts rows lines more later)

told_texts : (events : List Event)
    → text_of (flat_map event_lines events) ≡ told_text (told events)
told_texts [] = refl
told_texts (Made step ∷ events) = ap (λ (t : List ℕ). line_text (line.Step step) ++ 10 ∷ t) (told_texts events)
told_texts (Renewed new ∷ events) =
    ap (λ (t : List ℕ). line_text (line.Renew (corners_of new.part)) ++ 10 ∷ t)
    (row_texts new.rows (flat_map event_lines events) (told events) (told_texts events))

rows_fit : (rows : List Row) (more : List AnyLine) → AllByRecursion RowFits rows
    → AllByRecursion AnyFits more → AllByRecursion AnyFits (told_rows rows more)
rows_fit [] more fit later = later
rows_fit (row ∷ rows) more fit later = ((line_end (row_line row) fit.0, refl), rows_fit rows more fit.1 later)

told_fit : (may : LogForm) (n : ℕ) (events : List Event) → AllByRecursion (EventFits may.renews n) events
    → AllByRecursion AnyFits (told events)
told_fit may n [] fit = tt
told_fit may n (Made step ∷ events) fit = (fit.0, told_fit may n events fit.1)
told_fit may n (Renewed new ∷ events) fit =
    ((line_end (line.Renew (corners_of new.part)) fit.0.1, refl), rows_fit new.rows (told events) fit.0.3 (told_fit may n events fit.1))

rows_tell : (rows : List Row) (more : List AnyLine)
    → steps_among (told_rows rows more) ≡ steps_among more
rows_tell [] more = refl
rows_tell (row ∷ rows) more = rows_tell rows more

told_made : (events : List Event) → steps_among (told events) ≡ steps_in events
told_made [] = refl
told_made (Made step ∷ events) = ap (λ (l : List Step). step ∷ l) (told_made events)
told_made (Renewed new ∷ events) = rows_tell new.rows (told events) ∙ told_made events

-- ---- steps that were counted

-- so many steps, of which so many close a box inside or at the edge, and these renewals among them,
-- were taken from the front
pub record TakesCounted (may : LogForm) (n : ℕ) (start : Lines) (count kept : ℕ) (renewals : List Renewal) (left : Lines) : Type 0 where
  pub steps : List Step
  pub taken : TakesEvents may n start (events_from 0 steps renewals) left
  pub many : length steps ≡ count
  pub closing : count_by is_kept_step steps ≡ kept
  pub places : Rise 0 renewals count

-- no more of them close a box than there are
pub few_kept : (may : LogForm) (n : ℕ) (start : Lines) (count kept : ℕ) (renewals : List Renewal) (left : Lines)
    → TakesCounted may n start count kept renewals left → kept ≤ count
few_kept may n start count kept renewals left so_far =
    omega (arith, count_by-le-length is_kept_step so_far.steps, so_far.many, so_far.closing)

-- no more steps than numbers of lines
pub few_counted : (may : LogForm) (n : ℕ) (start : Lines) (count kept : ℕ) (renewals : List Renewal) (left : Lines)
    → TakesCounted may n start count kept renewals left → count ≤ 4000000001
few_counted may n start count kept renewals left so_far =
    omega (arith, so_far.taken.taken.number, left.room, steps_le_lines so_far.steps renewals, so_far.many)

abbrev one_if_kept : Step → ℕ
one_if_kept s = cond (is_kept_step s) 1 0

pub step_counted : (may : LogForm) (n : ℕ) (start old new : Lines) (count kept : ℕ) (renewals : List Renewal) (s : Step)
    → TakesCounted may n start count kept renewals old
    → Takes (place.Steps may n 0) old (line.Step s ∷ []) (place.Steps may n 0) new
    → TakesCounted may n start (count + 1) (kept + cond (is_kept_step s) 1 0) renewals new
step_counted may n start old new count kept renewals s before one =
    let rise : Rise 0 renewals (0 + length before.steps) = rise_to 0 count (0 + length before.steps) renewals before.places (omega (arith, before.many)) in
    record {
      steps = before.steps ++ s ∷ [];
      taken = step_more may n start old new (events_from 0 before.steps renewals) (events_from 0 (before.steps ++ s ∷ []) renewals) s before.taken one (step_behind 0 before.steps s renewals rise);
      many = omega (arith, length-append before.steps (s ∷ []), before.many);
      closing = omega (arith, sum_by-append one_if_kept before.steps (s ∷ []), before.closing);
      places = rise_to 0 count (count + 1) renewals before.places (omega arith);
    }

pub renewal_counted : (may : LogForm) (n : ℕ) (start old mid new : Lines) (count kept : ℕ) (renewals pushed : List Renewal) (r : Renewal) (c : Corners)
    → corners_of (new_rows r).part ≡ c → r.at ≡ count → pushed ≡ renewals ++ r ∷ []
    → TakesCounted may n start count kept renewals old
    → Takes (place.Steps may n 0) old (line.Renew c ∷ []) (place.Steps may n n) mid
    → Takes (place.Steps may n n) mid (map row_line r.rows.items) (place.Steps may n 0) new
    → length r.rows.items ≡ n → TakesCounted may n start count kept pushed new
renewal_counted may n start old mid new count kept renewals pushed r c same at push before first later many =
    let rise : Rise 0 renewals (0 + length before.steps) = rise_to 0 count (0 + length before.steps) renewals before.places (omega (arith, before.many)) in
    subst (λ (rs : List Renewal). TakesCounted may n start count kept rs new) (sym push) (record {
      steps = before.steps;
      taken = renewal_more may n start old mid new (events_from 0 before.steps renewals) (events_from 0 before.steps (renewals ++ r ∷ [])) (new_rows r).part r.rows.items c
          same before.taken first later many (renewal_behind 0 before.steps renewals r rise (omega (arith, at, before.many)));
      many = before.many;
      closing = before.closing;
      places = rise_on 0 count renewals r before.places at;
    })

-- ---- what is between

abbrev lines_counted : (may : LogForm) (n : ℕ) (events : List Event)
    → AllByRecursion (EventFits may.renews n) events → AreLines (text_of (flat_map event_lines events))
lines_counted may n events fit = record { lines = told events; parts = told_texts events; fit = told_fit may n events fit }

counted_steps : (may : LogForm) (n : ℕ) (steps : List Step) (renewals : List Renewal)
    → (fit : AllByRecursion (EventFits may.renews n) (events_from 0 steps renewals))
    → told_steps (text_of (flat_map event_lines (events_from 0 steps renewals))) (lines_counted may n (events_from 0 steps renewals) fit)
    ≡ steps
unfolding told_steps
counted_steps may n steps renewals fit = told_made (events_from 0 steps renewals) ∙ steps_in_events 0 steps renewals

pub between : (may : LogForm) (n : ℕ) (start left : Lines) (count kept : ℕ) (renewals : List Renewal)
    → TakesCounted may n start count kept renewals left
    → HasBetween start.rest.now left.rest.now count kept
between may n start left count kept renewals so_far =
    let events = events_from 0 so_far.steps renewals in
    let same = counted_steps may n so_far.steps renewals so_far.taken.fit in
    record {
      part = text_of (flat_map event_lines events);
      parts = so_far.taken.taken.parts;
      counted = (
        lines_counted may n events so_far.taken.fit,
        record {
          all = ap length same ∙ so_far.many;
          closing = ap (count_by is_kept_step) same ∙ so_far.closing;
        },
      );
    }

-- the steps that are found there are those that were counted
pub found_between : (may : LogForm) (n : ℕ) (start left : Lines) (count kept : ℕ) (renewals : List Renewal) (found : List Step)
    → (so_far : TakesCounted may n start count kept renewals left)
    → ((part : List ℕ) → start.rest.now ≡ part ++ left.rest.now → (lines : AreLines part) → found ≡ told_steps part lines)
    → found ≡ so_far.steps
found_between may n start left count kept renewals found so_far each =
    let events = events_from 0 so_far.steps renewals in
    each (text_of (flat_map event_lines events)) so_far.taken.taken.parts (lines_counted may n events so_far.taken.fit)
    ∙ counted_steps may n so_far.steps renewals so_far.taken.fit

-- the events of these steps, with the renewals as they are stored
stored_events : (found steps : List Step) (renewals stored : List Renewal) → stored ≡ renewals → found ≡ steps
    → events_from 0 steps renewals ≡ events_from 0 found stored
stored_events found steps renewals stored same one = rw (same, one) refl

pub places_between : (may : LogForm) (n : ℕ) (start left : Lines) (count kept : ℕ) (renewals stored : List Renewal) (found : List Step)
    → (so_far : TakesCounted may n start count kept renewals left) → stored ≡ renewals → found ≡ so_far.steps
    → Rise 0 stored (length found)
places_between may n start left count kept renewals stored found so_far same one =
    subst (λ (rs : List Renewal). Rise 0 rs (length found)) (sym same) (rise_to 0 count (length found) renewals so_far.places (omega (arith, ap length one, so_far.many)))

pub done_between : (may : LogForm) (n : ℕ) (start left new : Lines) (count kept : ℕ) (renewals stored : List Renewal) (found : List Step) (splits : ℕ)
    → (so_far : TakesCounted may n start count kept renewals left) → stored ≡ renewals → found ≡ so_far.steps
    → Takes (place.Steps may n 0) left (line.Done splits ∷ []) (place_behind_done may) new
    → Takes (place.Steps may n 0) start (flat_map event_lines (events_from 0 found stored) ++ line.Done splits ∷ []) (place_behind_done may) new
done_between may n start left new count kept renewals stored found splits so_far same one done =
    subst (λ (es : List Event). Takes (place.Steps may n 0) start (flat_map event_lines es ++ line.Done splits ∷ []) (place_behind_done may) new)
    (stored_events found so_far.steps renewals stored same one) (done_on may n start left new (events_from 0 so_far.steps renewals) splits so_far.taken done)

pub fit_between : (may : LogForm) (n : ℕ) (start left new : Lines) (count kept : ℕ) (renewals stored : List Renewal) (found : List Step) (splits : ℕ)
    → (so_far : TakesCounted may n start count kept renewals left) → stored ≡ renewals → found ≡ so_far.steps
    → Takes (place.Steps may n 0) left (line.Done splits ∷ []) (place_behind_done may) new
    → AllStepsFit (form.Log may) n (events_from 0 found stored) splits
fit_between may n start left new count kept renewals stored found splits so_far same one done =
    (subst (AllByRecursion (EventFits may.renews n)) (stored_events found so_far.steps renewals stored same one) so_far.taken.fit, done.leads.0)
