-- The rows in use behind steps and renewals: those of the last renewal.
use Rattle.std.proofs.Common.{◌≡◌, ℕ, zero, suc, ◌-◌, ◌≤◌, arith, List, [], ◌∷◌, ◌++◌, length, take, drop, refl, ap, ◌∙◌, None, Some}
use Rattle.std.specs.Prelude.{slice_get}
use Rattle.sat_model.specs.Events.{Event, Renewed, RowsOver, made_all}
use Rattle.sat_model.specs.ShownBounds.{rows_behind}
use Rattle.sat_model.specs.declared.steps.Step.{Step}
use Rattle.paving_log.specs.declared.renewal.Renewal.{Renewal}
use Rattle.paving_log.specs.Renewing.{new_rows, events_from}

-- steps keep the rows
behind_steps : (rows : RowsOver) (steps : List Step) (events : List Event)
    → rows_behind rows (made_all steps ++ events) ≡ rows_behind rows events
behind_steps rows [] events = refl
behind_steps rows (step ∷ steps) events = behind_steps rows steps events

behind_made : (rows : RowsOver) (steps : List Step) → rows_behind rows (made_all steps) ≡ rows
behind_made rows [] = refl
behind_made rows (step ∷ steps) = behind_made rows steps

behind_renewal : (rows : RowsOver) (from : ℕ) (steps : List Step) (r : Renewal) (more : List Renewal)
    → rows_behind rows (events_from from steps (r ∷ more)) ≡ rows_behind (new_rows r) (events_from r.at (drop (r.at - from) steps) more)
behind_renewal rows from steps r more =
    behind_steps rows (take (r.at - from) steps) (Renewed (new_rows r) ∷ events_from r.at (drop (r.at - from) steps) more)

behind_at : (rows : RowsOver) (from : ℕ) (steps : List Step) (rs : List Renewal) (i : ℕ) (r : Renewal)
    → suc i ≡ length rs → slice_get rs i ≡ Some r
    → rows_behind rows (events_from from steps rs) ≡ new_rows r
behind_at rows from steps [] i r last is = absurd (omega (arith, last))
behind_at rows from steps (first ∷ []) zero r last is =
    let same : first ≡ r = cc in
    behind_renewal rows from steps first [] ∙ behind_made (new_rows first) (drop (first.at - from) steps) ∙ ap new_rows same
behind_at rows from steps (first ∷ []) (suc i) r last is = absurd (omega (arith, last))
behind_at rows from steps (first ∷ second ∷ more) zero r last is = absurd (omega (arith, last))
behind_at rows from steps (first ∷ second ∷ more) (suc i) r last is =
    behind_renewal rows from steps first (second ∷ more)
    ∙ behind_at (new_rows first) first.at (drop (first.at - from) steps) (second ∷ more) i r (omega (arith, last)) is

some_at : (rs : List Renewal) (i : ℕ) (r : Renewal) → slice_get rs i ≡ Some r → suc i ≤ length rs
some_at [] i r is = absurd cc
some_at (first ∷ rs) zero r is = omega arith
some_at (first ∷ rs) (suc i) r is = omega (arith, some_at rs i r is)

none_at : (rs : List Renewal) (i : ℕ) → slice_get rs i ≡ None → length rs ≤ i
none_at [] i is = omega arith
none_at (first ∷ rs) zero is = absurd cc
none_at (first ∷ rs) (suc i) is = omega (arith, none_at rs i is)

pub behind_last : (rows : RowsOver) (steps : List Step) (rs : List Renewal) (r : Renewal)
    → slice_get rs (length rs - 1) ≡ Some r → rows_behind rows (events_from 0 steps rs) ≡ new_rows r
behind_last rows steps rs r is =
    behind_at rows 0 steps rs (length rs - 1) r (omega (arith, some_at rs (length rs - 1) r is)) is

pub behind_none : (rows : RowsOver) (steps : List Step) (rs : List Renewal)
    → slice_get rs (length rs - 1) ≡ None → rows_behind rows (events_from 0 steps rs) ≡ rows
behind_none rows steps [] is = behind_made rows steps
behind_none rows steps (r ∷ more) is = absurd (omega (arith, none_at (r ∷ more) (length (r ∷ more) - 1) is))
