-- The walk over the steps and renewals of a body, with the steps and the renewals that are left.
use Rattle.std.proofs.Common.{◌≡◌, ℕ, suc, ◌+◌, ◌-◌, ◌<◌, ◌≤◌, arith, List, [], ◌∷◌, ◌++◌, length, get_or, take, drop, subst, refl, sym, ap, ◌∙◌}
use Rattle.std.proofs.lemmas.List.{append-nil, take_all, length-take-le, length-drop}
use Rattle.gnss_model.specs.declared.delays.Delays.{Delays}
use Rattle.grid_model.specs.Boxes.{GridBox}
use Rattle.sat_model.specs.BoxTests.{BoxTest, test_of}
use Rattle.sat_model.specs.Events.{Event, Renewed, made_all, lines_of_all}
use Rattle.sat_model.specs.Fold.{Subpaving}
use Rattle.sat_model.specs.Stages.{Stage, after}
use Rattle.sat_model.specs.Verdicts.{DonePasses, DoneFails}
use Rattle.sat_model.specs.declared.rows.Row.{Row}
use Rattle.sat_model.specs.declared.rules.Rules.{Rules}
use Rattle.sat_model.specs.declared.steps.Step.{Step}
use Rattle.sat_model.proofs.EventLemmas.{lines_of_made, lines_behind}
use Rattle.grid_model.proofs.ListLemmas.{next_item, no_item}
use Rattle.sat_rows.specs.declared.bases.Base.{Base}
use Rattle.paving_log.proofs.EventLemmas.{steps_le_lines, lines_of_events, rise_high}
use Rattle.paving_log.specs.declared.renewal.Renewal.{Renewal}
use Rattle.paving_log.specs.Renewing.{Rise, new_rows, events_from}
use Rattle.paving_log_check.specs.Answers.{ShowsNoSpans}
use Rattle.paving_log_check.specs.Forming.{RenewalHolds, RenewalBreaks, EventsHold, EventsBreak}
use Rattle.paving_log_check.specs.Steps.{StepsPass, StepsFail, stage_behind}
use Rattle.paving_log_check.specs.declared.verdict.Fault.{Fault}
use Rattle.paving_log_check.proofs.StepLemmas.{test_behind}
use Rattle.paving_log_check.proofs.WalkLemmas.{start, IsWalked, walked_first, walked_steps, walked_steps_fail, walked_renewal, walked_renewal_fails, walked_done, walked_done_fails}

-- so many steps stand before the next renewal
pub few_before : (taken : ℕ) (steps : List Step) (r : Renewal) (more : List Renewal)
    → Rise taken (r ∷ more) (taken + length steps)
    → (taken ≤ r.at) × (r.at - taken ≤ length steps)
few_before taken steps r more rise = (rise.0, omega (arith, rise.0, rise_high r.at (taken + length steps) more rise.1))

-- these rows come in the place of those of the test
abbrev by_rows : Subpaving → List Row → BoxTest → Stage
by_rows boxes rows test = record { boxes = boxes; test = record { rows = rows; q = test.q; pairs = test.pairs } }

pub steps_few : (steps : List Step) (rs : List Renewal)
    → length steps ≤ lines_of_all (events_from 0 steps rs)
steps_few steps rs = omega (arith, steps_le_lines steps rs, lines_of_events (events_from 0 steps rs))

module _ (delays : Delays) (root : GridBox) (firsts : List Row) (bases : List Base) (rules : Rules) (done : ℕ) (all : List Event) (line : ℕ) where
  -- behind so many steps and j renewals, where the next line has this number
  pub record IsOnTheWay (next taken j : ℕ) (stage : Stage) (steps : List Step) (renewals : List Renewal) : Type 0 where
    pub offset : ℕ
    pub walked : IsWalked delays root firsts bases rules done all j stage (events_from taken steps renewals) offset
    pub next_is : next ≡ line + offset
    pub rise : Rise taken renewals (taken + length steps)
    pub by : stage.test ≡ test_of rules stage.test.rows

  -- some line is the first that fails
  abbrev pub Breaks : Fault → Type 0
  Breaks fault = (k : ℕ) × EventsBreak delays root firsts bases rules done all k fault × (fault.line ≡ line + k)

  pub way_first : (steps : List Step) (renewals : List Renewal) (stage : Stage)
      → all ≡ events_from 0 steps renewals → Rise 0 renewals (length steps)
      → stage ≡ start delays root firsts bases rules done all
      → IsOnTheWay line 0 0 stage steps renewals
  way_first steps renewals stage is rise first = record {
    offset = 0;
    walked = rw first (subst (λ (events : List Event). IsWalked delays root firsts bases rules done all 0 (start delays root firsts bases rules done all) events 0) is (walked_first delays root firsts bases rules done all));
    next_is = omega arith;
    rise = subst (λ (n : ℕ). Rise 0 renewals n) (omega arith) rise;
    by = rw first refl;
  }

  -- with the renewal at a place, and behind the last one
  pub way_at : {next taken j : ℕ} {stage : Stage} {steps : List Step} (renewals there : List Renewal) (i : ℕ) (r : Renewal)
      → there ≡ renewals → i < length there → r ≡ get_or there i r
      → IsOnTheWay next taken j stage steps (drop i renewals)
      → IsOnTheWay next taken j stage steps (r ∷ drop (i + 1) renewals)
  way_at renewals there i r same within is w = rw (next_item renewals i r (rw same at within) (rw same at is)) at w

  pub way_end : {next taken j : ℕ} {stage : Stage} {steps : List Step} (renewals there : List Renewal) (i : ℕ)
      → there ≡ renewals → length there ≤ i
      → IsOnTheWay next taken j stage steps (drop i renewals)
      → IsOnTheWay next taken j stage steps []
  way_end renewals there i same ended w = rw (no_item renewals i (rw same at ended)) at w

  -- how many lines are left
  pub lines_left : {next taken j : ℕ} {stage : Stage} (steps : List Step) (renewals : List Renewal)
      → IsOnTheWay next taken j stage steps renewals
      → next + lines_of_all (events_from taken steps renewals) ≡ line + lines_of_all all
  lines_left steps renewals w = omega (arith, w.next_is, w.walked.lines)

  -- ... up to a renewal, and behind it
  pub lines_before : {next taken j : ℕ} {stage : Stage} (steps : List Step) (r : Renewal) (more : List Renewal)
      → IsOnTheWay next taken j stage steps (r ∷ more)
      → next + (r.at - taken) + 1 + length r.rows.items ≤ line + lines_of_all all
  lines_before {taken = taken} steps r more w =
      let few = few_before taken steps r more w.rise in
      let k = r.at - taken in
      let later = events_from r.at (drop k steps) more in
      omega (
        arith,
        lines_left steps (r ∷ more) w,
        lines_behind (made_all (take k steps)) (Renewed (new_rows r) ∷ later),
        lines_of_made (take k steps),
        length-take-le k steps few.1,
      )

  pub lines_last : {next taken j : ℕ} {stage : Stage} (steps : List Step)
      → IsOnTheWay next taken j stage steps [] → next + length steps ≤ line + lines_of_all all
  lines_last {taken = taken} steps w = omega (arith, lines_left steps [] w, lines_of_made steps)

  module _ {next taken j : ℕ} {stage : Stage} (steps : List Step) (r : Renewal) (more : List Renewal) (w : IsOnTheWay next taken j stage steps (r ∷ more)) (count : ℕ) (is : count ≡ r.at - taken) where
    walked_here : IsWalked delays root firsts bases rules done all j stage (made_all (take count steps) ++ Renewed (new_rows r) ∷ events_from r.at (drop count steps) more) w.offset
    walked_here = subst (λ (n : ℕ). IsWalked delays root firsts bases rules done all j stage (made_all (take n steps) ++ Renewed (new_rows r) ∷ events_from r.at (drop n steps) more) w.offset) (sym is) w.walked

    many_before : length (take count steps) ≡ count
    many_before = length-take-le count steps (omega (arith, is, (few_before taken steps r more w.rise).1))

    pub fails_in_steps : (k : ℕ) (fault : Fault)
        → StepsFail rules stage (take count steps) k fault.number → ShowsNoSpans fault
        → fault.line ≡ next + k → Breaks fault
    fails_in_steps k fault fails plain at = (
      w.offset + k,
      walked_steps_fail delays root firsts bases rules done all (take count steps) (Renewed (new_rows r) ∷ events_from r.at (drop count steps) more) walked_here k fault fails plain,
      omega (arith, at, w.next_is),
    )

    walked_before : StepsPass rules stage (take count steps)
        → IsWalked delays root firsts bases rules done all j (stage_behind stage (take count steps)) (Renewed (new_rows r) ∷ events_from r.at (drop count steps) more) (w.offset + length (take count steps))
    walked_before passes = walked_steps delays root firsts bases rules done all (take count steps) (Renewed (new_rows r) ∷ events_from r.at (drop count steps) more) walked_here passes

    module _ (mid : Stage) (here : mid ≡ stage_behind stage (take count steps)) (passes : StepsPass rules stage (take count steps)) where
      walked_mid : IsWalked delays root firsts bases rules done all j mid (Renewed (new_rows r) ∷ events_from r.at (drop count steps) more) (w.offset + length (take count steps))
      walked_mid = subst (λ (s : Stage). IsWalked delays root firsts bases rules done all j s (Renewed (new_rows r) ∷ events_from r.at (drop count steps) more) (w.offset + length (take count steps))) (sym here) (walked_before passes)

      pub fails_in_renewal : (k : ℕ) (fault : Fault)
          → RenewalBreaks delays root firsts bases mid.boxes (new_rows r) k fault
          → fault.line ≡ next + count + k → Breaks fault
      fails_in_renewal k fault fails at = (
        w.offset + length (take count steps) + k,
        walked_renewal_fails delays root firsts bases rules done all (new_rows r) (events_from r.at (drop count steps) more) walked_mid k fault fails,
        omega (arith, at, w.next_is, many_before),
      )

      pub way_more : (line_next : ℕ) (stage_next : Stage) (left : List Step)
          → RenewalHolds delays root firsts bases mid.boxes (new_rows r)
          → line_next ≡ next + count + 1 + length r.rows.items
          → stage_next ≡ record { boxes = mid.boxes; test = test_of rules r.rows.items }
          → left ≡ drop count steps
          → IsOnTheWay line_next r.at (j + 1) stage_next left more
      way_more line_next stage_next left holds line_is stage_is left_is =
          let few = few_before taken steps r more w.rise in
          let test : mid.test ≡ test_of rules mid.test.rows =
          ap (λ (s : Stage). s.test) here ∙ test_behind stage (take count steps) ∙ w.by ∙ ap (λ (t : BoxTest). test_of rules t.rows) (sym (ap (λ (s : Stage). s.test) here ∙ test_behind stage (take count steps))) in
          let same : after mid (Renewed (new_rows r)) ≡ record { boxes = mid.boxes; test = test_of rules r.rows.items } =
          ap (by_rows mid.boxes r.rows.items) test in
          let one : suc j ≡ j + 1 = omega arith in
          let on = walked_renewal delays root firsts bases rules done all (new_rows r) (events_from r.at (drop count steps) more) walked_mid holds in
          record {
            offset = w.offset + length (take count steps) + 1 + length r.rows.items;
            walked = rw (left_is, stage_is) (subst (λ (n : ℕ). IsWalked delays root firsts bases rules done all n (record { boxes = mid.boxes; test = test_of rules r.rows.items }) (events_from r.at (drop count steps) more) (w.offset + length (take count steps) + 1 + length r.rows.items)) one (subst (λ (s : Stage). IsWalked delays root firsts bases rules done all (suc j) s (events_from r.at (drop count steps) more) (w.offset + length (take count steps) + 1 + length r.rows.items)) same on));
            next_is = omega (arith, line_is, w.next_is, many_before);
            rise = subst (λ (n : ℕ). Rise r.at more n) (omega (arith, few.0, few.1, is, ap length left_is, length-drop count steps)) w.rise.1;
            by = rw stage_is refl;
          }

  -- ---- behind all renewals

  module _ {next taken j : ℕ} {stage : Stage} (steps : List Step) (w : IsOnTheWay next taken j stage steps []) (count : ℕ) (is : count ≡ length steps) where
    walked_last : IsWalked delays root firsts bases rules done all j stage (made_all (take count steps) ++ []) w.offset
    walked_last =
        let whole = take_all count steps (omega (arith, is)) in
        subst (λ (events : List Event). IsWalked delays root firsts bases rules done all j stage events w.offset) (ap made_all (sym whole) ∙ sym (append-nil (made_all (take count steps)))) w.walked

    pub fails_in_last : (k : ℕ) (fault : Fault)
        → StepsFail rules stage (take count steps) k fault.number → ShowsNoSpans fault
        → fault.line ≡ next + k → Breaks fault
    fails_in_last k fault fails plain at = (
      w.offset + k,
      walked_steps_fail delays root firsts bases rules done all (take count steps) [] walked_last k fault fails plain,
      omega (arith, at, w.next_is),
    )

    module _ (end : Stage) (here : end ≡ stage_behind stage (take count steps)) (passes : StepsPass rules stage (take count steps)) where
      walked_end : IsWalked delays root firsts bases rules done all j end [] (w.offset + length (take count steps))
      walked_end = subst (λ (s : Stage). IsWalked delays root firsts bases rules done all j s [] (w.offset + length (take count steps))) (sym here)
          (walked_steps delays root firsts bases rules done all (take count steps) [] walked_last passes)

      pub way_ends : DonePasses done end → EventsHold delays root firsts bases rules done all
      way_ends h = walked_done delays root firsts bases rules done all walked_end h

      pub fails_at_end : (fault : Fault) → DoneFails done end fault.number → ShowsNoSpans fault
          → fault.line ≡ next + count → Breaks fault
      fails_at_end fault fails plain at = (
        w.offset + length (take count steps),
        walked_done_fails delays root firsts bases rules done all fault walked_end fails plain,
        omega (arith, at, w.next_is, ap length (take_all count steps (omega (arith, is))), is),
      )
