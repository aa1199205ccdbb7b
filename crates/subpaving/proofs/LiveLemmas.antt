-- The list of live boxes as a subpaving.
use Rattle.std.proofs.Common.{◌≡◌, ℕ, ◌+◌, ◌/◌, ◌<◌, ◌≤◌, arith, Option, Some, None, ap, List, [], ◌∷◌, ◌++◌, length, length-append, map, set, get_or, inl, inr}
use Rattle.std.specs.Prelude.{ℤ}
use Rattle.std.proofs.lemmas.Bool.{cases_lt}
use Rattle.std.proofs.lemmas.List.{map-append, map-set, get_or_past, length-map, length-set, set-append_left}
use Rattle.grid_model.specs.declared.boxes.Box3.{Box3}
use Rattle.grid_model.specs.Boxes.{GridBox, side_at, grid_box, with_side, low_half, high_half}
use Rattle.sat_model.specs.Fold.{Subpaving, left_by_cut, cut_box, halves}
use Rattle.subpaving.specs.LiveValues.{box_option}
use Rattle.sat_model.proofs.FoldLemmas.{there}

-- the subpaving of a list of boxes
abbrev pub boxes_with : List (Option Box3) → Subpaving
boxes_with boxes = record { live = map box_option boxes; splits = length boxes / 2 }

same_boxes : (a b : List (Option GridBox)) (n m : ℕ) → a ≡ b → n ≡ m
    → ◌≡◌ {A = Subpaving} (record { live = a; splits = n }) (record { live = b; splits = m })
same_boxes a b n m e f = cc

pub id_within : (boxes : List (Option Box3)) (id : ℕ) (part : GridBox)
    → get_or (map box_option boxes) id None ≡ Some part → id < length boxes
id_within boxes id part e = omega (arith, there (map box_option boxes) id part e, length-map boxes box_option)

pub all_none : (boxes : List (Option Box3)) (n : ℕ)
    → ((id : ℕ) → id < n → get_or (map box_option boxes) id None ≡ None) → length boxes ≤ n
    → (id : ℕ) → get_or (map box_option boxes) id None ≡ None
all_none boxes n none all id = elim (cases_lt id n) [
  | inl less ↦ none id less
  | inr more ↦ get_or_past (map box_option boxes) id None (omega (arith, length-map boxes box_option))
]

-- a box is closed
pub closed_boxes : (boxes : List (Option Box3)) (id : ℕ)
    → boxes_with (set boxes id None) ≡ record { live = set (map box_option boxes) id None; splits = length boxes / 2 }
closed_boxes boxes id = same_boxes _ _ _ _ (map-set box_option boxes id None) (ap (λ n. n / 2) (length-set boxes id None))

-- a box is cut
pub cut_boxes : (boxes : List (Option Box3)) (id face : ℕ) (bound : ℤ) (part rest : Box3)
    → get_or (map box_option boxes) id None ≡ Some (grid_box part)
    → grid_box rest ≡ left_by_cut face bound (grid_box part)
    → boxes_with (set boxes id (Some rest))
    ≡ record { live = set (map box_option boxes) id (cut_box face bound (get_or (map box_option boxes) id None)); splits = length boxes / 2 }
cut_boxes boxes id face bound part rest found left =
    let made = map-set box_option boxes id (Some rest) in
    rw found (same_boxes _ _ _ _ (rw left at made) (ap (λ n. n / 2) (length-set boxes id (Some rest))))

-- a box is split
pub split_boxes : (boxes both : List (Option Box3)) (id axis : ℕ) (part low high : Box3)
    → get_or (map box_option boxes) id None ≡ Some (grid_box part)
    → both ≡ boxes ++ (Some low ∷ Some high ∷ [])
    → grid_box low ≡ with_side axis (grid_box part) (low_half (side_at axis (grid_box part)))
    → grid_box high ≡ with_side axis (grid_box part) (high_half (side_at axis (grid_box part)))
    → boxes_with (set both id None)
    ≡ record { live = set (map box_option boxes) id None ++ halves axis (get_or (map box_option boxes) id None); splits = length boxes / 2 + 1 }
split_boxes boxes both id axis part low high found is low_is high_is =
    let more : length (set both id None) ≡ length boxes + 2 = omega (arith, length-set both id None, ap length is, length-append boxes (Some low ∷ Some high ∷ [])) in
    let kept = set-append_left boxes (Some low ∷ Some high ∷ []) id None (id_within boxes id (grid_box part) found) in
    let all : map box_option (set both id None) ≡ set (map box_option boxes) id None ++ (Some (grid_box low) ∷ Some (grid_box high) ∷ []) =
    rw (is, kept, map-append) (ap (λ (l : List (Option GridBox)). l ++ (Some (grid_box low) ∷ Some (grid_box high) ∷ [])) (map-set box_option boxes id None)) in
    rw found (same_boxes _ _ _ _ (rw (low_is, high_is) at all) (omega (arith, more)))
