-- What is found one behind another.
use Rattle.std.proofs.Common.{◌≡◌, ℕ, zero, suc, ◌+◌, ◌<◌, ◌≤◌, arith, List, [], ◌∷◌, ◌++◌, length, map, take, get_or, refl, sym, ap, subst, ◌∙◌}
use Rattle.std.specs.List.{AllByRecursion}
use Rattle.std.proofs.lemmas.List.{take_more, take_all, map-append}
use Rattle.grid_model.specs.Boxes.{GridBox}
use Rattle.sat_model.specs.Logs.{Block}
use Rattle.paving_log.specs.CoverBoxes.{BodyFolds}
use Rattle.paving_log.specs.Values.{block_of, bound_value}
use Rattle.paving_log.specs.declared.log.Bound.{Bound}
use Rattle.paving_log.specs.declared.log.LogEpoch.{LogEpoch}
use Rattle.zone_guard.specs.EpochsFound.{AreFindings, IsEpochFound, AreEpochsFound}
use Rattle.zone_guard.specs.Bounds.{bound_plane, bound_planes}
use Rattle.zone_guard.specs.Findings.{IsFinding}
use Rattle.zone_guard.specs.Planes.{PlaneValue, plane_value, plane_values}
use Rattle.zone_guard.specs.Watched.{WatchValue}
use Rattle.zone_guard.specs.WatchValues.{watch_value, watch_values}
use Rattle.zone_guard.specs.declared.found.EpochFindings.{EpochFindings}
use Rattle.zone_guard.specs.declared.found.Finding.{Finding}
use Rattle.zone_guard.specs.declared.planes.HalfSpace.{HalfSpace}
use Rattle.zone_guard.specs.declared.watch.Watch.{Watch}

-- the items up to a place, each as a value
more_of : {X Y : Type 0} (f : X → Y) (xs : List X) (i : ℕ) (x : X) → i < length xs
    → x ≡ get_or xs i x → map f (take (i + 1) xs) ≡ map f (take i xs) ++ f x ∷ []
more_of f xs i x within is = ap (map f) (take_more xs i x within ∙ ap (λ y. take i xs ++ y ∷ []) (sym is)) ∙ map-append f (take i xs) (x ∷ [])

all_of : {X Y : Type 0} (f : X → Y) (xs : List X) (i : ℕ) → length xs ≤ i
    → map f (take i xs) ≡ map f xs
all_of f xs i ended = ap (map f) (take_all i xs ended)

module _ (bounds : List PlaneValue) (boxes : List GridBox) where
  one_more : (watches : List WatchValue) (found : List Finding) (w : WatchValue) (f : Finding)
      → AreFindings bounds boxes watches found → IsFinding bounds w.form boxes f
      → AreFindings bounds boxes (watches ++ w ∷ []) (found ++ f ∷ [])
  one_more [] [] w f are is = (is, tt)
  one_more [] (g ∷ found) w f are is = absurd are
  one_more (v ∷ watches) [] w f are is = absurd are
  one_more (v ∷ watches) (g ∷ found) w f are is = (are.0, one_more watches found w f are.1 is)

  pub findings_more : (watches : List Watch) (i : ℕ) (w : Watch) (found items : List Finding) (f : Finding)
      → i < length watches → w ≡ get_or watches i w
      → AreFindings bounds boxes (watch_values (take i watches)) found
      → IsFinding bounds (watch_value w).form boxes f → items ≡ found ++ f ∷ []
      → AreFindings bounds boxes (watch_values (take (i + 1) watches)) items
  findings_more watches i w found items f within is are here e =
      rw (e, more_of watch_value watches i w within is) (one_more (watch_values (take i watches)) found (watch_value w) f are here)

  pub findings_all : (watches : List Watch) (i : ℕ) (found : List Finding)
      → length watches ≤ i → AreFindings bounds boxes (watch_values (take i watches)) found
      → AreFindings bounds boxes (watch_values watches) found
  findings_all watches i found ended are = rw (all_of watch_value watches i ended) at are

next_epoch : (watches : List WatchValue) (blocks : List Block) (found : List EpochFindings) (block : Block) (e : EpochFindings)
    → AreEpochsFound watches blocks found → IsEpochFound watches block e
    → AreEpochsFound watches (blocks ++ block ∷ []) (found ++ e ∷ [])
next_epoch watches [] [] block e are is = (is, tt)
next_epoch watches [] (g ∷ found) block e are is = absurd are
next_epoch watches (b ∷ blocks) [] block e are is = absurd are
next_epoch watches (b ∷ blocks) (g ∷ found) block e are is = (are.0, next_epoch watches blocks found block e are.1 is)

pub epochs_more : (watches : List WatchValue) (epochs : List LogEpoch) (i : ℕ) (x : LogEpoch) (found items : List EpochFindings) (e : EpochFindings)
    → i < length epochs → x ≡ get_or epochs i x
    → AreEpochsFound watches (map block_of (take i epochs)) found
    → IsEpochFound watches (block_of x) e → items ≡ found ++ e ∷ []
    → AreEpochsFound watches (map block_of (take (i + 1) epochs)) items
epochs_more watches epochs i x found items e within is are here same =
    rw (same, more_of block_of epochs i x within is) (next_epoch watches (map block_of (take i epochs)) found (block_of x) e are here)

folds_of : (epochs : List LogEpoch) (i : ℕ) (x : LogEpoch) → i < length epochs
    → AllByRecursion (λ (b : Block). BodyFolds b.body) (map block_of epochs)
    → BodyFolds (block_of (get_or epochs i x)).body
folds_of [] i x within all = absurd (omega arith)
folds_of (y ∷ epochs) zero x within all = all.0
folds_of (y ∷ epochs) (suc i) x within all = folds_of epochs i x (omega arith) all.1

pub folds_at : (epochs : List LogEpoch) (i : ℕ) (x : LogEpoch) → i < length epochs
    → x ≡ get_or epochs i x → AllByRecursion (λ (b : Block). BodyFolds b.body) (map block_of epochs)
    → BodyFolds (block_of x).body
folds_at epochs i x within is all = subst (λ (y : LogEpoch). BodyFolds (block_of y).body) (sym is) (folds_of epochs i x within all)

-- ---- bounds

pub planes_more : (bounds : List Bound) (i : ℕ) (b : Bound) (found items : List HalfSpace) (h : HalfSpace)
    → i < length bounds → b ≡ get_or bounds i b
    → plane_values found ≡ bound_planes (map bound_value (take i bounds))
    → plane_value h ≡ bound_plane (bound_value b) → items ≡ found ++ h ∷ []
    → plane_values items ≡ bound_planes (map bound_value (take (i + 1) bounds))
planes_more bounds i b found items h within is are same e =
    rw (e, more_of bound_value bounds i b within is, map-append plane_value found (h ∷ []), map-append bound_plane (map bound_value (take i bounds)) (bound_value b ∷ []), are, same) refl

pub planes_all : (bounds : List Bound) (i : ℕ) (found : List HalfSpace) → length bounds ≤ i
    → plane_values found ≡ bound_planes (map bound_value (take i bounds))
    → plane_values found ≡ bound_planes (map bound_value bounds)
planes_all bounds i found ended are = rw (all_of bound_value bounds i ended) at are
