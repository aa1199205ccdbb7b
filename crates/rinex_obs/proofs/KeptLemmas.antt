-- The epochs of a file that are kept.
use Rattle.std.proofs.Common.{◌≡◌, ℕ, ◌+◌, ◌≤◌, Bool, true, List, [], ◌∷◌, length, arith, refl, sym, ◌∙◌, ap, subst, inl, inr, IfOk, IfErr, Result, Ok, Err}
use Rattle.std.specs.Prelude.{◌&&◌, nat_le}
use Rattle.std.specs.List.{filter}
use Rattle.std.proofs.lemmas.Bool.{cond_both}
use Rattle.std.proofs.lemmas.Bool.Decides.{nat_tests}
use Rattle.grid_model.proofs.ListLemmas.{filter_yes}
use Rattle.rinex_text.specs.Lines.{lines_of}
use Rattle.rinex_text.specs.Reading.{Refuses, GivesRefusal}
use Rattle.rinex_text.specs.declared.fault.ReadError.{ReadError}
use Rattle.rinex_text.specs.declared.fault.ReadError.TheVariants.{Refused, NoMemory}
use Rattle.rinex_text.specs.declared.fault.Refusal.{Refusal}
use Rattle.rinex_text.proofs.OnlyLemmas.{ok_same, err_same, not_both}
use Rattle.rinex_obs.specs.Epochs.{Observed}
use Rattle.rinex_obs.specs.Facts.{AreNumberedFrom, AreNumbered, AreRisingFrom, AreDistinct, AreSatsOf, InEach}
use Rattle.rinex_obs.specs.Files.{Observations, is_between, AreBetween, between, obs_file_by, IsObsFileBy, IsFirstFaultBy}
use Rattle.rinex_obs.specs.Header.{are_both}
use Rattle.rinex_obs.specs.Reading.{observations_of, GivesObservations}
use Rattle.rinex_obs.specs.Whole.{IsWholeOf}
use Rattle.rinex_obs.specs.declared.obs.Obs.{Obs}
use Rattle.rinex_obs.specs.declared.obs.SatObs.{SatObs}
use Rattle.rinex_obs.specs.declared.sought.Sought.{Sought}
use Rattle.rinex_obs.proofs.FactLemmas.{on_file}
use Rattle.rinex_obs.proofs.OnlyLemmas.{file_only}
use Rattle.rinex_obs.proofs.WholeLemmas.{whole}

-- ---- lists

-- numbers that rise from a greater one rise from a lesser one
lower : (low high : ℕ) (epochs : List Observed) → low ≤ high → AreRisingFrom high epochs
    → AreRisingFrom low epochs
lower low high [] le rising = tt
lower low high (epoch ∷ more) le rising = (omega (arith, rising.0), rising.1, rising.2)

-- ... so do those of some of them
some_rise : (p : Observed → Bool) (least : ℕ) (epochs : List Observed) → AreRisingFrom least epochs
    → AreRisingFrom least (filter p epochs)
some_rise p least [] rising = tt
some_rise p least (epoch ∷ more) rising =
    cond_both (p epoch) (epoch ∷ filter p more) (filter p more) (AreRisingFrom least)
    (λ is. (rising.0, rising.1, some_rise p (epoch.index + 1) more rising.2))
    (λ other. lower least (epoch.index + 1) (filter p more) (omega (arith, rising.0)) (some_rise p (epoch.index + 1) more rising.2))

numbered_from_rise : (next : ℕ) (epochs : List Observed) → next + length epochs ≤ 200001
    → AreNumberedFrom next epochs → AreRisingFrom next epochs
numbered_from_rise next [] few numbered = tt
numbered_from_rise next (epoch ∷ more) few numbered =
    (omega (arith, numbered.0), omega (arith, numbered.0), subst (λ (n : ℕ). AreRisingFrom (n + 1) more) (sym numbered.0) (numbered_from_rise (next + 1) more (omega arith) numbered.1))

pub numbered_rise : (epochs : List Observed) → AreNumbered epochs → AreRisingFrom 1 epochs
numbered_rise epochs are = numbered_from_rise 1 epochs (omega (arith, are.at_most)) are.in_order

some_in_each : (Meet : List SatObs → Type 0) (p : Observed → Bool) (epochs : List Observed) → InEach Meet epochs
    → InEach Meet (filter p epochs)
some_in_each Meet p [] each = tt
some_in_each Meet p (epoch ∷ more) each =
    cond_both (p epoch) (epoch ∷ filter p more) (filter p more) (InEach Meet)
    (λ is. (each.0, some_in_each Meet p more each.1)) (λ other. some_in_each Meet p more each.1)

both_hold : (index : ℕ) → 1 ≤ index → index ≤ 200000 → nat_le 1 index && nat_le index 200000 ≡ true
both_hold index from to = grind (arith, nat_tests)

-- each epoch is from the first to the last
all_between : (least : ℕ) (epochs : List Observed) → 1 ≤ least → AreRisingFrom least epochs
    → filter (is_between 1 200000) epochs ≡ epochs
all_between least [] from rising = refl
all_between least (epoch ∷ more) from rising =
    filter_yes (is_between 1 200000) epoch more (both_hold epoch.index (omega (arith, rising.0)) rising.1)
    ∙ ap (λ (l : List Observed). epoch ∷ l) (all_between (epoch.index + 1) more (omega arith) rising.2)

-- ---- files

module _ (rising : Bool) (sought : Sought) (position : Bool) (text : List ℕ) where
  rising_file : (all : Observations) → IsObsFileBy rising sought position text all → AreRisingFrom 1 all.epochs
  rising_file all file = numbered_rise all.epochs (on_file rising sought position text all file).numbered

  -- all epochs of a file are from the first to the last
  pub all_kept : (all : Observations) → IsObsFileBy rising sought position text all → between 1 200000 all ≡ all
  all_kept all file =
      ap (λ (epochs : List Observed). record { position = all.position; epochs = epochs }) (all_between 1 all.epochs (omega arith) (rising_file all file))

  pub read_whole : (read : Result Obs ReadError) → IfOk read (λ obs. AreBetween 1 200000 (IsObsFileBy rising sought position text) (observations_of obs))
      → IfOk read (λ obs. IsObsFileBy rising sought position text (observations_of obs))
  read_whole (Ok obs) (all, file, are) =
      subst (IsObsFileBy rising sought position text) (sym (are ∙ all_kept all file)) file
  read_whole (Err e) kept = tt

  module _ (from to : ℕ) where
    abbrev Kept : Obs → Type 0
    Kept obs = AreBetween from to (IsObsFileBy rising sought position text) (observations_of obs)

    pub gives_between : (all : Observations) (given : Result Obs ReadError) → IfOk given Kept
        → IfErr given (Refuses (obs_file_by rising sought position (lines_of text)))
        → IsObsFileBy rising sought position text all → GivesObservations (between from to all) given
    gives_between all (Ok obs) kept fault file =
        kept.2 ∙ ap (between from to) (ok_same _ _ (file_only rising sought position (lines_of text) _ _ kept.1 file))
    gives_between all (Err (Refused r)) kept fault file = absurd (not_both _ _ (file_only rising sought position (lines_of text) _ _ file fault))
    gives_between all (Err NoMemory) kept fault file = refl

    pub between_refusal : (r : Refusal) (given : Result Obs ReadError) → IfOk given Kept
        → IfErr given (Refuses (obs_file_by rising sought position (lines_of text)))
        → IsFirstFaultBy rising sought position text r → GivesRefusal r given
    between_refusal r (Ok obs) kept fault first = not_both _ _ (file_only rising sought position (lines_of text) _ _ kept.1 first)
    between_refusal r (Err (Refused other)) kept fault first = inl (ap (λ u. Refused u) (err_same _ _ (file_only rising sought position (lines_of text) _ _ fault first)))
    between_refusal r (Err NoMemory) kept fault first = inr refl

    pub between_whole : (read : Result Obs ReadError) → IfOk read Kept
        → IfOk read (λ obs. AreBetween from to (IsWholeOf sought position (lines_of text)) (observations_of obs))
    between_whole (Ok obs) (all, file, are) = (all, whole rising sought position text all file, are)
    between_whole (Err e) kept = tt

    pub between_rising : (read : Result Obs ReadError) → IfOk read Kept
        → IfOk read (λ obs. AreRisingFrom 1 (observations_of obs).epochs)
    between_rising (Ok obs) (all, file, are) =
        subst (λ (o : Observations). AreRisingFrom 1 o.epochs) (sym are) (some_rise (is_between from to) 1 all.epochs (rising_file all file))
    between_rising (Err e) kept = tt

    pub between_distinct : (read : Result Obs ReadError) → IfOk read Kept
        → IfOk read (λ obs. InEach AreDistinct (observations_of obs).epochs)
    between_distinct (Ok obs) (all, file, are) =
        subst (λ (o : Observations). InEach AreDistinct o.epochs) (sym are) (some_in_each AreDistinct (is_between from to) all.epochs (on_file rising sought position text all file).distinct)
    between_distinct (Err e) kept = tt

    pub between_named : (read : Result Obs ReadError) → IfOk read Kept
        → IfOk read (λ obs. InEach (AreSatsOf (are_both sought)) (observations_of obs).epochs)
    between_named (Ok obs) (all, file, are) =
        subst (λ (o : Observations). InEach (AreSatsOf (are_both sought)) o.epochs) (sym are) (some_in_each (AreSatsOf (are_both sought)) (is_between from to) all.epochs (on_file rising sought position text all file).named)
    between_named (Err e) kept = tt
