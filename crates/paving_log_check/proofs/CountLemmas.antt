-- How many lines renewals have, and how many rows.
use Rattle.std.proofs.Common.{◌≡◌, ℕ, ◌+◌, ◌-◌, arith, List, [], ◌∷◌, ◌++◌, length, take, drop, map, ap, ◌∙◌}
use Rattle.std.specs.Prelude.{◌↔◌}
use Rattle.std.specs.List.{AllByRecursion}
use Rattle.std.proofs.lemmas.List.{length-append, take-append-drop}
use Rattle.sat_model.specs.declared.steps.Step.{Step}
use Rattle.sat_model.specs.Events.{Renewed, RowsOver, renewals_in, made_all, lines_of_all}
use Rattle.sat_model.proofs.EventLemmas.{lines_of_made, lines_behind, none_renewed, renewals_behind}
use Rattle.paving_log.specs.declared.renewal.Renewal.{Renewal}
use Rattle.paving_log.specs.Renewing.{new_rows, events_from}
use Rattle.paving_log_check.specs.Renewed.{lines_in_renewals}

pub lines_counted : (from : ℕ) (steps : List Step) (rs : List Renewal)
    → lines_of_all (events_from from steps rs) ≡ length steps + lines_in_renewals rs
lines_counted from steps [] = omega (arith, lines_of_made steps)
lines_counted from steps (r ∷ more) =
    let k = r.at - from in
    omega (
      arith,
      lines_behind (made_all (take k steps)) (Renewed (new_rows r) ∷ events_from r.at (drop k steps) more),
      lines_of_made (take k steps),
      lines_counted r.at (drop k steps) more,
      length-append (take k steps) (drop k steps),
      ap length (take-append-drop k steps),
    )

pub renewals_of_events : (from : ℕ) (steps : List Step) (rs : List Renewal)
    → renewals_in (events_from from steps rs) ≡ map new_rows rs
renewals_of_events from steps [] = none_renewed steps
renewals_of_events from steps (r ∷ more) =
    let k = r.at - from in
    renewals_behind (made_all (take k steps)) (Renewed (new_rows r) ∷ events_from r.at (drop k steps) more)
    ∙ ap (λ (l : List RowsOver). l ++ new_rows r ∷ renewals_in (events_from r.at (drop k steps) more)) (none_renewed (take k steps))
    ∙ ap (λ (l : List RowsOver). new_rows r ∷ l) (renewals_of_events r.at (drop k steps) more)

-- so many rows each
pub as_many : (n : ℕ) (rs : List Renewal)
    → AllByRecursion (λ r. length r.rows.items ≡ n) rs ↔ AllByRecursion (λ new. length new.rows ≡ n) (map new_rows rs)
as_many n [] = (λ h. tt, λ h. tt)
as_many n (r ∷ more) = (λ h. (h.0, (as_many n more).0 h.1), λ h. (h.0, (as_many n more).1 h.1))
