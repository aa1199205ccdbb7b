-- The selected ones among some epochs.
use Rattle.std.proofs.Common.{◌≡◌, ℕ, ◌+◌, ◌<◌, true, List, ◌∷◌, length, get_or, drop, refl, sym, ap, subst, ◌∙◌, Option, None, Some}
use Rattle.std.specs.Prelude.{ℤ}
use Rattle.std.proofs.lemmas.Option.{slice_get_read}
use Rattle.rinex_obs.specs.declared.obs.ObsEpoch.{ObsEpoch}
use Rattle.grid_model.specs.Boxes.{GridBox, grid_box}
use Rattle.grid_model.specs.declared.boxes.Box3.{Box3}
use Rattle.sat_model.specs.Logs.{Block}
use Rattle.epoch_selection.specs.Searches.{search_in, searches_in, searches_left, IsTaken}
use Rattle.epoch_selection.specs.Walks.{IsFirst}
use Rattle.epoch_selection.specs.Selections.{is_selected, selected, IsFirstSelected}
use Rattle.epoch_selection.specs.declared.searches.Searches.{Searches}
use Rattle.epoch_selection.specs.declared.selection.Selection.{Selection}
use Rattle.grid_model.proofs.ListLemmas.{next_item, filter_yes}

pub same_some : {X : Type 0} (o : Option X) (x y : X) → o ≡ Some x → o ≡ Some y → x ≡ y
same_some o x y e f = cc

module _ (s : Selection) (epochs : List ObsEpoch) (i : ℕ) (epoch : ObsEpoch) (so_far : selected s epochs ≡ selected s (drop i epochs))
    (within : i < length epochs) (is : epoch ≡ get_or epochs i epoch) where
  -- the epoch behind those that were passed over is taken
  pub first_selected : is_selected s epoch ≡ true → IsFirstSelected s epochs i
  first_selected chosen = record {
    epoch = epoch;
    at = slice_get_read epochs (length epochs) i epoch refl within is;
    are = so_far ∙ ap (selected s) (next_item epochs i epoch within is) ∙ filter_yes (is_selected s) epoch (drop (i + 1) epochs) chosen;
  }

-- the first search is that of the epoch that was taken
pub taken_search : (old : Searches) (epoch : ObsEpoch) (new : Searches) → IsTaken old epoch new
    → searches_left old ≡ search_in (grid_box old.root) epoch ∷ searches_left new
taken_search old epoch new taken = rw taken.same_root (ap (searches_in (grid_box old.root)) taken.first)

-- a receiver that stands still makes the same searches whatever the blocks
pub standing_first : (old : Searches) (epoch : ObsEpoch) (new : Searches) → IsTaken old epoch new
    → IsFirst (λ (blocks : List Block). searches_left old) (λ (root : GridBox) (block : Block). None)
    (λ (tag : ℤ) (kept : Option GridBox) (blocks : List Block). searches_left new) epoch (grid_box new.root)
standing_first old epoch new taken =
    let first = subst (λ (root : Box3). searches_left old ≡ search_in (grid_box root) epoch ∷ searches_left new) (sym taken.same_root) (taken_search old epoch new taken) in
    record {
      goes_on = λ block blocks. first;
      few = λ block blocks none. refl;
      ends = (searches_left new, first);
    }
