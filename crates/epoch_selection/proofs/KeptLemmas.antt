-- The selected ones among epochs as they stand in a file, and among those of them that were kept.
use Rattle.std.proofs.Common.{◌≡◌, Bool, List, [], ◌∷◌, refl, sym, ap, ◌∙◌, inl, inr}
use Rattle.std.proofs.lemmas.Bool.{cases_Bool}
use Rattle.std.specs.List.{filter}
use Rattle.rinex_obs.specs.Epochs.{Observed}
use Rattle.rinex_obs.specs.Files.{Observations, is_between, between}
use Rattle.rinex_obs.specs.Reading.{observations_of, plain_epoch, plain_epochs}
use Rattle.rinex_obs.specs.declared.obs.Obs.{Obs}
use Rattle.rinex_obs.specs.declared.obs.ObsEpoch.{ObsEpoch}
use Rattle.grid_model.proofs.ListLemmas.{filter_yes, filter_no}
use Rattle.epoch_selection.specs.Selections.{is_selected, selected}
use Rattle.epoch_selection.specs.declared.selection.Selection.{Selection}

-- what is taken twice is what is taken once
filter_twice : {X : Type 0} (p : X → Bool) (xs : List X) → filter p (filter p xs) ≡ filter p xs
filter_twice p [] = refl
filter_twice p (x ∷ xs) = elim (cases_Bool (p x)) [
  | inl is ↦ ap (filter p) (filter_yes p x xs is) ∙ filter_yes p x (filter p xs) is ∙ ap (λ l. x ∷ l) (filter_twice p xs)
      ∙ sym (filter_yes p x xs is)
  | inr other ↦ ap (filter p) (filter_no p x xs other) ∙ filter_twice p xs ∙ sym (filter_no p x xs other)
]

module _ (s : Selection) where
  pub plain_selected : (epochs : List ObsEpoch)
      → plain_epochs (selected s epochs) ≡ filter (is_between s.from s.to) (plain_epochs epochs)
  plain_selected [] = refl
  plain_selected (seen ∷ epochs) = elim (cases_Bool (is_selected s seen)) [
    | inl is ↦ rw is (ap (λ (os : List Observed). plain_epoch seen ∷ os) (plain_selected epochs))
    | inr other ↦ rw other (plain_selected epochs)
  ]

  pub same_selected : (xs ys : List ObsEpoch) → plain_epochs xs ≡ plain_epochs ys
      → plain_epochs (selected s xs) ≡ plain_epochs (selected s ys)
  same_selected xs ys e =
      plain_selected xs ∙ ap (filter (is_between s.from s.to)) e ∙ sym (plain_selected ys)

  module _ (all kept : Obs) (e : observations_of kept ≡ between s.from s.to (observations_of all)) where
    kept_epochs : plain_epochs kept.epochs.items ≡ filter (is_between s.from s.to) (plain_epochs all.epochs.items)
    kept_epochs = ap (λ (o : Observations). o.epochs) e

    twice : plain_epochs (selected s kept.epochs.items) ≡ filter (is_between s.from s.to) (plain_epochs all.epochs.items)
    twice = plain_selected kept.epochs.items ∙ ap (filter (is_between s.from s.to)) kept_epochs
        ∙ filter_twice (is_between s.from s.to) (plain_epochs all.epochs.items)

    -- of those that were kept the same are selected as of all
    pub kept_same : plain_epochs (selected s kept.epochs.items) ≡ plain_epochs (selected s all.epochs.items)
    kept_same = twice ∙ sym (plain_selected all.epochs.items)

    -- and each that was kept
    pub kept_all : plain_epochs (selected s kept.epochs.items) ≡ plain_epochs kept.epochs.items
    kept_all = twice ∙ sym kept_epochs
