-- Events of steps and renewals: one more of them, and their lines.
use Rattle.std.proofs.Common.{◌≡◌, ℕ, zero, suc, ◌+◌, ◌-◌, ◌≤◌, Bool, false, List, [], ◌∷◌, ◌++◌, length, take, drop, refl, sym, ap, subst, ◌∙◌, append_assoc, arith}
use Rattle.std.specs.List.{flat_map, AllByRecursion}
use Rattle.std.proofs.lemmas.List.{length-append, length-map, length-drop, take-append-drop, take-append-le, drop-append-le}
use Rattle.sat_model.specs.declared.steps.Step.{Step}
use Rattle.sat_model.specs.Events.{Event, Made, Renewed, steps_in, renewals_in, made_all, lines_of_all}
use Rattle.sat_model.proofs.EventLemmas.{steps_of_made, steps_behind, made_behind}
use Rattle.paving_log.specs.declared.renewal.Renewal.{Renewal}
use Rattle.paving_log.specs.Renewing.{Rise, new_rows, events_from}
use Rattle.log_lines.specs.Text.{row_line, event_lines, EventFits}

-- ---- places

pub rise_high : (from to : ℕ) (rs : List Renewal) → Rise from rs to → from ≤ to
rise_high from to [] rise = rise
rise_high from to (r ∷ more) rise = omega (arith, rise.0, rise_high r.at to more rise.1)

pub rise_to : (from to high : ℕ) (rs : List Renewal) → Rise from rs to → to ≤ high
    → Rise from rs high
rise_to from to high [] rise le = omega (arith, rise)
rise_to from to high (r ∷ more) rise le = (rise.0, rise_to r.at to high more rise.1 le)

pub rise_on : (from to : ℕ) (rs : List Renewal) (r : Renewal) → Rise from rs to → r.at ≡ to
    → Rise from (rs ++ r ∷ []) to
rise_on from to [] r rise at = (omega (arith, rise), omega arith)
rise_on from to (first ∷ more) r rise at = (rise.0, rise_on first.at to more r rise.1 at)

-- the steps behind the next place
record IsPlaced (from : ℕ) (steps : List Step) (r : Renewal) (more : List Renewal) : Type 0 where
  few : r.at - from ≤ length steps
  rest : Rise r.at more (r.at + length (drop (r.at - from) steps))

placed : (from : ℕ) (steps : List Step) (r : Renewal) (more : List Renewal)
    → Rise from (r ∷ more) (from + length steps) → IsPlaced from steps r more
placed from steps r more rise =
    let high = rise_high r.at (from + length steps) more rise.1 in
    let left : from + length steps ≡ r.at + length (drop (r.at - from) steps) = omega (arith, rise.0, length-drop (r.at - from) steps) in
    record { few = omega (arith, rise.0); rest = subst (λ (n : ℕ). Rise r.at more n) left rise.1 }

-- ---- one more

pub step_behind : (from : ℕ) (steps : List Step) (s : Step) (rs : List Renewal)
    → Rise from rs (from + length steps)
    → events_from from (steps ++ s ∷ []) rs ≡ events_from from steps rs ++ Made s ∷ []
step_behind from steps s [] rise = made_behind steps (s ∷ [])
step_behind from steps s (r ∷ more) rise =
    let k = r.at - from in
    let at = placed from steps r more rise in
    let first : take k (steps ++ s ∷ []) ≡ take k steps = take-append-le k steps (s ∷ []) at.few in
    let rest : drop k (steps ++ s ∷ []) ≡ drop k steps ++ s ∷ [] = drop-append-le k steps (s ∷ []) at.few in
    let later = step_behind r.at (drop k steps) s more at.rest in
    ap (λ (xs : List Step). made_all xs ++ Renewed (new_rows r) ∷ events_from r.at (drop k (steps ++ s ∷ [])) more) first
    ∙ ap (λ (xs : List Step). made_all (take k steps) ++ Renewed (new_rows r) ∷ events_from r.at xs more) rest
    ∙ ap (λ (es : List Event). made_all (take k steps) ++ Renewed (new_rows r) ∷ es) later
    ∙ sym (append_assoc (made_all (take k steps)) (Renewed (new_rows r) ∷ events_from r.at (drop k steps) more) (Made s ∷ []))

take_whole : (steps : List Step) (k : ℕ) → k ≡ length steps
    → (take k steps ≡ steps) × (drop k steps ≡ [])
take_whole [] zero e = (refl, refl)
take_whole [] (suc k) e = absurd (omega (arith, e))
take_whole (s ∷ steps) zero e = absurd (omega (arith, e))
take_whole (s ∷ steps) (suc k) e = let later = take_whole steps k (omega (arith, e)) in (ap (λ (xs : List Step). s ∷ xs) later.0, later.1)

pub renewal_behind : (from : ℕ) (steps : List Step) (rs : List Renewal) (r : Renewal)
    → Rise from rs (from + length steps) → r.at ≡ from + length steps
    → events_from from steps (rs ++ r ∷ []) ≡ events_from from steps rs ++ Renewed (new_rows r) ∷ []
renewal_behind from steps [] r rise at =
    let whole = take_whole steps (r.at - from) (omega (arith, at)) in
    ap (λ (xs : List Step). made_all xs ++ Renewed (new_rows r) ∷ made_all (drop (r.at - from) steps)) whole.0
    ∙ ap (λ (xs : List Step). made_all steps ++ Renewed (new_rows r) ∷ made_all xs) whole.1
renewal_behind from steps (first ∷ more) r rise at =
    let k = first.at - from in
    let here = placed from steps first more rise in
    let high = rise_high first.at (from + length steps) more rise.1 in
    let end : r.at ≡ first.at + length (drop k steps) = omega (arith, at, rise.0, high, length-drop k steps) in
    let later = renewal_behind first.at (drop k steps) more r here.rest end in
    ap (λ (es : List Event). made_all (take k steps) ++ Renewed (new_rows first) ∷ es) later
    ∙ sym (append_assoc (made_all (take k steps)) (Renewed (new_rows first) ∷ events_from first.at (drop k steps) more) (Renewed (new_rows r) ∷ []))

-- ---- the steps alone

pub steps_in_events : (from : ℕ) (steps : List Step) (rs : List Renewal)
    → steps_in (events_from from steps rs) ≡ steps
steps_in_events from steps [] = steps_of_made steps
steps_in_events from steps (r ∷ more) =
    let k = r.at - from in
    steps_behind (made_all (take k steps)) (Renewed (new_rows r) ∷ events_from r.at (drop k steps) more)
    ∙ ap (λ (xs : List Step). xs ++ steps_in (events_from r.at (drop k steps) more)) (steps_of_made (take k steps))
    ∙ ap (λ (xs : List Step). take k steps ++ xs) (steps_in_events r.at (drop k steps) more)
    ∙ take-append-drop k steps

-- ---- their lines

pub lines_of_events : (events : List Event)
    → length (flat_map event_lines events) ≡ lines_of_all events
lines_of_events [] = refl
lines_of_events (Made step ∷ events) = omega (arith, lines_of_events events, length-append (event_lines (Made step)) (flat_map event_lines events))
lines_of_events (Renewed new ∷ events) =
    omega (arith, lines_of_events events, length-append (event_lines (Renewed new)) (flat_map event_lines events), length-map new.rows row_line)

fewer : (events : List Event) → length (steps_in events) ≤ lines_of_all events
fewer [] = omega arith
fewer (Made step ∷ events) = omega (arith, fewer events)
fewer (Renewed new ∷ events) = omega (arith, fewer events)

-- no more steps than lines
pub steps_le_lines : (steps : List Step) (rs : List Renewal)
    → length steps ≤ length (flat_map event_lines (events_from 0 steps rs))
steps_le_lines steps rs = omega (arith, ap length (steps_in_events 0 steps rs), fewer (events_from 0 steps rs), lines_of_events (events_from 0 steps rs))

pub fit_on : (renews : Bool) (n : ℕ) (events : List Event) (event : Event)
    → AllByRecursion (EventFits renews n) events → EventFits renews n event
    → AllByRecursion (EventFits renews n) (events ++ event ∷ [])
fit_on renews n [] event fit one = (one, tt)
fit_on renews n (first ∷ events) event fit one = (fit.0, fit_on renews n events event fit.1 one)

-- ---- steps without renewals

pub none_renewed : (n : ℕ) (events : List Event) → AllByRecursion (EventFits false n) events
    → renewals_in events ≡ []
none_renewed n [] fit = refl
none_renewed n (Made step ∷ events) fit = none_renewed n events fit.1
none_renewed n (Renewed new ∷ events) fit = let no = fit.0.0 in cc
