-- What steps do to the bounds of groups of live boxes.
use Rattle.std.proofs.Common.{◌≡◌, ◌⊎◌, ◌-◌, ◌%◌, cond, min, ℕ, zero, suc, true, false, Bool, ◌+◌, ◌*◌, ◌/◌, ◌<◌, ◌≤◌, arith, Option, Some, None, List, [], ◌∷◌, ◌++◌, length, get_or, set, map, inl, inr, sym, subst, ap, refl, ◌∙◌, length-append}
use Rattle.std.proofs.lemmas.Bool.{cases_lt, cases_eq}
use Rattle.std.proofs.lemmas.List.{get_or-set_same, get_or-set_other, get_or-append_right, get_or_append_left, get_or_past, length-set}
use Rattle.std.proofs.Math.ListN.{get_or-map}
use Rattle.std.specs.Prelude.{ℤ, ◌≤ℤ◌}
use Rattle.std.proofs.lemmas.Grind.{div_ceil_times}
use Rattle.std.proofs.lemmas.Int.{ints}
use Rattle.grid_model.specs.declared.boxes.Box3.{Box3}
use Rattle.grid_model.specs.Boxes.{GridBox, Side, grid_box, side_at, with_side, low_half, high_half, IsSideInside, IsInside}
use Rattle.sat_model.specs.Fold.{IsProperBound, IsProperCut, is_low, left_by_cut, side_left}
use Rattle.sat_model.proofs.FoldLemmas.{middle_high}
use Rattle.grid_model.proofs.BoxLemmas.{lies_trans}
use Rattle.subpaving.specs.Groups.{AreGrouped, AreWider, Holds, IsBoundOf, IsIn, IsLiveAt, LiesIn}
use Rattle.subpaving.specs.LiveValues.{box_option}

some_same : (a b : Box3) → ◌≡◌ {A = Option Box3} (Some a) (Some b) → a ≡ b
some_same a b e = cc

none_no : (a : Box3) → ◌≡◌ {A = Option Box3} None (Some a) → ⊥
none_no a e = absurd cc

-- a box in one that is held is held
pub held_part : (bound : Option Box3) (part whole : Box3) → Holds bound whole → LiesIn part whole
    → Holds bound part
held_part bound part whole h inside =
    (h.0, λ hull is. lies_trans (grid_box part) (grid_box whole) (grid_box hull) inside (h.1 hull is))

-- a bound that is there and in which a box lies
pub holds_some : (bound : Option Box3) (hull part : Box3) → bound ≡ Some hull → LiesIn part hull
    → Holds bound part
holds_some bound hull part is inside = (
  λ none. none_no hull (sym none ∙ is),
  λ other at. let same = some_same hull other (sym is ∙ at) in rw same at inside,
)

-- ---- parts of a box

side_refl : (s : Side) → IsSideInside s s
side_refl s = (omega (arith, ints), omega (arith, ints))

with_inside : (axis : ℕ) (part : GridBox) (s : Side) → IsSideInside s (side_at axis part)
    → IsInside (with_side axis part s) part
with_inside zero part s h = (h, side_refl part.y, side_refl part.z)
with_inside (suc zero) part s h = (side_refl part.x, h, side_refl part.z)
with_inside (suc (suc n)) part s h = (side_refl part.x, side_refl part.y, h)

left_inside : (low : Bool) (s : Side) (bound : ℤ) → IsProperBound low s bound
    → IsSideInside (side_left low s bound) s
left_inside true s bound h = (omega (arith, ints, h.0), omega (arith, ints))
left_inside false s bound h = (omega (arith, ints), omega (arith, ints, h.1))

pub left_lies : (face : ℕ) (bound : ℤ) (part : GridBox) → IsProperCut face bound part
    → IsInside (left_by_cut face bound part) part
left_lies face bound part h = with_inside (face / 2) part _ (left_inside (is_low face) (side_at (face / 2) part) bound h)

side_ordered : (axis : ℕ) (part : Box3) → (side_at axis (grid_box part)).lo ≤ℤ (side_at axis (grid_box part)).hi
side_ordered zero part = omega (arith, ints, part.x_ordered)
side_ordered (suc zero) part = omega (arith, ints, part.y_ordered)
side_ordered (suc (suc n)) part = omega (arith, ints, part.z_ordered)

pub low_lies : (axis : ℕ) (part low : Box3)
    → grid_box low ≡ with_side axis (grid_box part) (low_half (side_at axis (grid_box part))) → LiesIn low part
low_lies axis part low is =
    let s = side_at axis (grid_box part) in
    subst (λ (b : GridBox). IsInside b (grid_box part)) (sym is)
    (with_inside axis (grid_box part) (low_half s) (omega (arith, ints), middle_high s (side_ordered axis part)))

pub high_lies : (axis : ℕ) (part high : Box3)
    → grid_box high ≡ with_side axis (grid_box part) (high_half (side_at axis (grid_box part))) → LiesIn high part
high_lies axis part high is =
    let s = side_at axis (grid_box part) in
    subst (λ (b : GridBox). IsInside b (grid_box part)) (sym is)
    (with_inside axis (grid_box part) (high_half s) (omega (arith, ints), omega (arith, ints)))

-- ---- closing, cutting, splitting

-- a box that is live where one box was written is that one, or was there before
live_set : (boxes : List (Option Box3)) (id j : ℕ) (found : Option Box3) (part : Box3)
    → IsLiveAt (set boxes id found) j part
    → ((j ≡ id) × (found ≡ Some part)) ⊎ IsLiveAt boxes j part
live_set boxes id j found part live = elim (cases_eq j id) [
  | inl same ↦ elim (cases_lt id (length boxes)) [
    | inl less ↦ inl (same, sym (get_or-set_same boxes id found None less) ∙ rw same at live)
    | inr more ↦ absurd (none_no part (sym (get_or_past (set boxes id found) id None (omega (arith, more, length-set boxes id found))) ∙ rw same at live))
  ]
  | inr other ↦ inr (sym (get_or-set_other boxes id j found None other) ∙ live)
]

-- a box is closed
pub closed_grouped : (boxes bounds : List (Option Box3)) (id : ℕ) → AreGrouped boxes bounds
    → AreGrouped (set boxes id None) bounds
closed_grouped boxes bounds id h j part live = elim (live_set boxes id j None part live) [
  | inl here ↦ absurd (none_no part here.1)
  | inr there ↦ h j part there
]

some_box : (found : Option Box3) (part : GridBox) → box_option found ≡ Some part
    → (whole : Box3) × (found ≡ Some whole) × (grid_box whole ≡ part)
some_box None part e = absurd cc
some_box (Some whole) part e = (whole, refl, cc)

pub live_there : (boxes : List (Option Box3)) (id : ℕ) (part : GridBox)
    → get_or (map box_option boxes) id None ≡ Some part
    → (whole : Box3) × IsLiveAt boxes id whole × (grid_box whole ≡ part)
live_there boxes id part e =
    some_box (get_or boxes id None) part (sym (get_or-map box_option boxes id None) ∙ e)

pub live_here : (boxes : List (Option Box3)) (id : ℕ) (part : Box3) → IsLiveAt boxes id part
    → get_or (map box_option boxes) id None ≡ Some (grid_box part)
live_here boxes id part live = get_or-map box_option boxes id None ∙ ap box_option live

-- a box is cut
pub cut_grouped : (boxes bounds : List (Option Box3)) (id : ℕ) (part rest : Box3)
    → get_or (map box_option boxes) id None ≡ Some (grid_box part) → LiesIn rest part
    → AreGrouped boxes bounds → AreGrouped (set boxes id (Some rest)) bounds
cut_grouped boxes bounds id part rest found inside h j other live = elim (live_set boxes id j (Some rest) other live) [
  | inl here ↦
      let (whole, at, same) = live_there boxes id (grid_box part) found in
      let held = held_part (get_or bounds (id / 512) None) rest whole (h id whole at) (rw same inside) in
      rw (here.0, sym (some_same rest other here.1)) held
  | inr there ↦ h j other there
]

-- ---- bounds that hold more

pub wider_grouped : (boxes before after : List (Option Box3)) → AreGrouped boxes before
    → AreWider before after → AreGrouped boxes after
wider_grouped boxes before after h wider id part live = wider (id / 512) part (h id part live)

-- one more bound
pub pushed_wider : (bounds more : List (Option Box3)) → AreWider bounds (bounds ++ more)
pushed_wider bounds more group part h = elim (cases_lt group (length bounds)) [
  | inl less ↦ rw (get_or_append_left bounds more None group less) h
  | inr past ↦ absurd (h.0 (get_or_past bounds group None past))
]

-- a bound is replaced by one that holds as much
pub set_wider : (bounds : List (Option Box3)) (at : ℕ) (hull : Box3)
    → ((other : Box3) → Holds (get_or bounds at None) other → LiesIn other hull)
    → AreWider bounds (set bounds at (Some hull))
set_wider bounds at hull holds group part h = elim (cases_eq group at) [
  | inl same ↦ elim (cases_lt at (length bounds)) [
    | inl less ↦ holds_some (get_or (set bounds at (Some hull)) group None) hull part (rw same (get_or-set_same bounds at (Some hull) None less))
        (holds part (rw same at h))
    | inr past ↦ absurd (h.0 (rw same (get_or_past bounds at None past)))
  ]
  | inr other ↦ rw (get_or-set_other bounds at group (Some hull) None other) h
]

two_grouped : (count : ℕ) (bounds : List (Option Box3)) (low high : Box3)
    → Holds (get_or bounds (count / 512) None) low → Holds (get_or bounds ((count + 1) / 512) None) high
    → (id : ℕ) (part : Box3) → count ≤ id → get_or (Some low ∷ Some high ∷ []) (id - count) None ≡ Some part
    → Holds (get_or bounds (id / 512) None) part
two_grouped count bounds low high holds_low holds_high id part past live = elim (cases_eq id count) [
  | inl first ↦
      let zero_is : id - count ≡ 0 = omega (arith, first) in
      let same = some_same low part (rw zero_is at live) in
      rw (first, sym same) holds_low
  | inr other ↦ elim (cases_eq id (count + 1)) [
    | inl second ↦
        let one_is : id - count ≡ 1 = omega (arith, second) in
        let same = some_same high part (rw one_is at live) in
        rw (second, sym same) holds_high
    | inr more ↦ absurd (none_no part (sym (get_or_past (Some low ∷ Some high ∷ []) (id - count) None (omega (arith, past, other, more))) ∙ live))
  ]
]

-- two more boxes, in a group each
pub split_grouped : (boxes bounds : List (Option Box3)) (low high : Box3) → AreGrouped boxes bounds
    → Holds (get_or bounds (length boxes / 512) None) low
    → Holds (get_or bounds ((length boxes + 1) / 512) None) high
    → AreGrouped (boxes ++ (Some low ∷ Some high ∷ [])) bounds
split_grouped boxes bounds low high h holds_low holds_high id part live = elim (cases_lt id (length boxes)) [
  | inl less ↦ h id part (sym (get_or_append_left boxes (Some low ∷ Some high ∷ []) None id less) ∙ live)
  | inr past ↦ two_grouped (length boxes) bounds low high holds_low holds_high id part past
      (sym (get_or-append_right boxes (Some low ∷ Some high ∷ []) (length boxes) id None refl past) ∙ live)
]

-- a box is split
pub split_kept : (boxes both bounds : List (Option Box3)) (id : ℕ) (low high : Box3)
    → both ≡ boxes ++ (Some low ∷ Some high ∷ []) → length boxes % 2 ≡ 1
    → (length boxes + 1) / 512 < length bounds → AreGrouped boxes bounds
    → Holds (get_or bounds (length boxes / 512) None) low → Holds (get_or bounds ((length boxes + 1) / 512) None) high
    → (length (set both id None) % 2 ≡ 1) × (length (set both id None) ≤ 512 * length bounds) × AreGrouped (set both id None) bounds
split_kept boxes both bounds id low high e odd there h holds_low holds_high =
    let more : length (set both id None) ≡ length boxes + 2 = omega (arith, length-set both id None, ap length e, length-append boxes (Some low ∷ Some high ∷ [])) in (
      omega (arith, more, odd),
      omega (arith, more, there),
      closed_grouped both bounds id (rw e (split_grouped boxes bounds low high h holds_low holds_high)),
    )

-- ---- where memory may run out

-- one more bound, or none
pub pushed_or_not : (done : Bool) (bounds more new : List (Option Box3)) → new ≡ cond done (bounds ++ more) bounds
    → AreWider bounds new × (length bounds ≤ length new)
pushed_or_not true bounds more new e = rw e (pushed_wider bounds more, omega (arith, length-append bounds more))
pushed_or_not false bounds more new e = rw e (λ group part h. h, omega arith)

-- ---- a group is looked through

pub live_within : (boxes : List (Option Box3)) (id : ℕ) (part : Box3) → IsLiveAt boxes id part → id < length boxes
live_within boxes id part live = elim (cases_lt id (length boxes)) [
  | inl less ↦ less
  | inr past ↦ absurd (none_no part (sym (get_or_past boxes id None past) ∙ live))
]

pub group_within : (id count group : ℕ) → id < count → count / 512 + min 1 (count % 512) ≤ group → id / 512 < group
group_within id count group less all = omega (arith, less, all, (div_ceil_times count 512 (omega arith)).0)

pub far_enough : (count next to : ℕ) → to ≡ min count next → (next ≤ to) ⊎ (count ≤ to)
far_enough count next to e = elim (cases_lt count next) [
  | inl less ↦ inr (omega (arith, e, less))
  | inr more ↦ inl (omega (arith, e, more))
]

-- the boxes from one number up to another lie in a box, and a bound holds them
abbrev pub AreWithin : Box3 → Option Box3 → List (Option Box3) → (from to : ℕ) → Type 0
AreWithin whole bound boxes from to =
    (id : ℕ) → from ≤ id → id < to → IsIn whole boxes id × IsBoundOf bound boxes id

-- the next isn't live
pub closed_next : (whole : Box3) (bound : Option Box3) (boxes : List (Option Box3)) (from to : ℕ)
    → AreWithin whole bound boxes from to → get_or boxes to None ≡ None → AreWithin whole bound boxes from (to + 1)
closed_next whole bound boxes from to h none = λ id low less. elim (cases_eq id to) [
  | inl same ↦
      let gone : (part : Box3) → IsLiveAt boxes id part → ⊥ = λ part live. none_no part (sym none ∙ rw same at live) in
      (λ part live. absurd (gone part live), λ part live. absurd (gone part live))
  | inr other ↦ h id low (omega (arith, less, other))
]

-- the next is, and the bound is widened
pub live_next : (whole part hull : Box3) (bound : Option Box3) (boxes : List (Option Box3)) (from to : ℕ)
    → AreWithin whole bound boxes from to → get_or boxes to None ≡ Some part → LiesIn part whole
    → ((other : Box3) → Holds bound other → LiesIn other hull) → LiesIn part hull
    → AreWithin whole (Some hull) boxes from (to + 1)
live_next whole part hull bound boxes from to h here inside wider holds = λ id low less. elim (cases_eq id to) [
  | inl same ↦
      let is : (other : Box3) → IsLiveAt boxes id other → part ≡ other = λ other live. some_same part other (sym here ∙ rw same at live) in (
        λ other live. subst (λ (b : Box3). LiesIn b whole) (is other live) inside,
        λ other live. holds_some (Some hull) hull other refl (subst (λ (b : Box3). LiesIn b hull) (is other live) holds),
      )
  | inr other ↦
      let before = h id low (omega (arith, less, other)) in
      (before.0, λ part live. holds_some (Some hull) hull part refl (wider part (before.1 part live)))
]

-- what is so of a group's numbers up to the last one that was given is so of all
pub whole_group : (whole : Box3) (bound : Option Box3) (boxes : List (Option Box3)) (group to : ℕ)
    → (group * 512 + 512 ≤ to) ⊎ (length boxes ≤ to) → AreWithin whole bound boxes (group * 512) to
    → (id : ℕ) → id / 512 ≡ group → IsIn whole boxes id × IsBoundOf bound boxes id
whole_group whole bound boxes group to far h id e = elim (cases_lt id to) [
  | inl less ↦ h id (omega (arith, e)) less
  | inr past ↦
      let beyond : length boxes ≤ id = elim far [
        | inl all ↦ absurd (omega (arith, e, all, past))
        | inr all ↦ omega (arith, all, past)
      ] in
      let gone : (part : Box3) → IsLiveAt boxes id part → ⊥ = λ part live. none_no part (sym (get_or_past boxes id None beyond) ∙ live) in
      (λ part live. absurd (gone part live), λ part live. absurd (gone part live))
]

-- the group has this bound now
pub bound_grouped : (boxes bounds : List (Option Box3)) (group : ℕ) (bound : Option Box3)
    → AreGrouped boxes bounds → group < length bounds
    → ((id : ℕ) → id / 512 ≡ group → IsBoundOf bound boxes id) → AreGrouped boxes (set bounds group bound)
bound_grouped boxes bounds group bound h there each id part live = elim (cases_eq (id / 512) group) [
  | inl same ↦ rw (same, get_or-set_same bounds group bound None there) (each id same part live)
  | inr other ↦ rw (get_or-set_other bounds group (id / 512) bound None other) (h id part live)
]

-- a group whose bound lies in a box lies there
pub bound_inside : (whole hull : Box3) (boxes bounds : List (Option Box3)) (group : ℕ) → AreGrouped boxes bounds
    → get_or bounds group None ≡ Some hull → LiesIn hull whole → (id : ℕ) → id / 512 ≡ group → IsIn whole boxes id
bound_inside whole hull boxes bounds group h is inside id e = λ part live.
    let held = h id part live in
    lies_trans (grid_box part) (grid_box hull) (grid_box whole) (held.1 hull (rw e is)) inside
