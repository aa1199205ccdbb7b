-- The selected epochs of a file can stand in a log.
use Rattle.std.proofs.Common.{ℕ, ◌+◌, ◌≤◌, List, [], ◌∷◌, arith}
use Rattle.std.specs.Prelude.{Option, None, Some}
use Rattle.std.proofs.lemmas.Bool.{cond_both}
use Rattle.epoch_rows.specs.Ready.{AreWritable}
use Rattle.epoch_selection.specs.Selections.{is_selected, selected}
use Rattle.epoch_selection.specs.declared.selection.Selection.{Selection}
use Rattle.rinex_obs.specs.Facts.{AreRisingFrom, AreDistinct, AreNamedSats, InEach}
use Rattle.rinex_obs.specs.Reading.{plain_epochs}
use Rattle.rinex_obs.specs.declared.obs.ObsEpoch.{ObsEpoch}
use Rattle.sat_model.specs.Verdicts.{IsLater}

-- each number from this one on is later than that before
abbrev AreBehind : Option ℕ → ℕ → Type 0
AreBehind before least = (number : ℕ) → least ≤ number → IsLater before number

module _ (s : Selection) where
  selected_from : (before : Option ℕ) (least : ℕ) (epochs : List ObsEpoch) → AreBehind before least → 1 ≤ least
      → AreRisingFrom least (plain_epochs epochs) → InEach AreDistinct (plain_epochs epochs)
      → InEach AreNamedSats (plain_epochs epochs)
      → AreWritable before (selected s epochs)
  selected_from before least [] later from rising distinct named = tt
  selected_from before least (epoch ∷ more) later from rising distinct named =
      cond_both (is_selected s epoch) (epoch ∷ selected s more) (selected s more) (AreWritable before)
      (λ is. (
        later epoch.index rising.0,
        record { index = (omega (arith, rising.0), rising.1); distinct = distinct.0; named = named.0 },
        selected_from (Some epoch.index) (epoch.index + 1) more (λ number le. omega arith) (omega arith) rising.2 distinct.1 named.1,
      ))
      (λ other. selected_from before (epoch.index + 1) more (λ number le. later number (omega (arith, rising.0))) (omega arith) rising.2 distinct.1 named.1)

  pub selected_writable : (epochs : List ObsEpoch) → AreRisingFrom 1 (plain_epochs epochs)
      → InEach AreDistinct (plain_epochs epochs)
      → InEach AreNamedSats (plain_epochs epochs) → AreWritable None (selected s epochs)
  selected_writable epochs rising distinct named =
      selected_from None 1 epochs (λ number le. tt) (omega arith) rising distinct named
