-- The root behind a part of the search box.
use Rattle.std.proofs.Common.{◌≡◌, ℕ, zero, suc, ◌*◌, ◌^◌, ◌≤◌, arith, true, ap, ◌∙◌, Option, None, Some, max, min, option_map, to_z, of_z}
use Rattle.std.specs.Prelude.{ℤ, pos, neg_ℤ, ◌+ℤ◌, ◌-ℤ◌, ◌≤ℤ◌}
use Rattle.std.specs.Int.{int_min, int_max, w128}
use Rattle.std.proofs.lemmas.Int.{ints, clamps}
use Rattle.range_contractor.proofs.BoxLemmas.{along, holds_at, holds_all, lies_through}
use Rattle.subpaving.specs.LiveValues.{box_option}
use Rattle.grid_model.proofs.AmountLemmas.{above_is}
use Rattle.grid_model.specs.Boxes.{Side, GridBox, grid_box, box_holds, side_at, IsIn}
use Rattle.sat_model.specs.Contractors.{SideLiesIn, LiesIn, meet_side, meet_box, IsMeet}
use Rattle.grid_model.specs.Lengths.{side_length}
use Rattle.grid_model.specs.SearchBoxes.{IsSearchBox}
use Rattle.grid_model.specs.Sizes.{IsBoxSize}
use Rattle.grid_model.specs.declared.boxes.Box3.{Box3}
use Rattle.grid_model.specs.declared.boxes.Pos.{Pos}
use Rattle.moving_tube.specs.Hulls.{HullLies}
use Rattle.moving_tube.specs.Reach.{longest_reach}
use Rattle.moving_tube.specs.Roots.{grown_side, grown_box, reached_box}
use Rattle.moving_tube.specs.Widened.{widened_side, widened_box}
use Rattle.grid_model.proofs.PointLemmas.{low_corner as holds_low}
use Rattle.range_contractor.proofs.TreeExists.{same_box}
use Rattle.range_contractor.proofs.MeetLemmas.{same_side}
use Rattle.log_tokens.specs.Fields.{IsTime}

pub same_time : (x : ℤ) → IsTime x → to_z w128 (of_z w128 x) ≡ x
same_time x time = omega (arith, ints, time.0, time.1)

-- ---- growing as far as boxes go

met_widened : (r : ℤ) (s t : Side) → IsBoxSize s.lo → IsBoxSize s.hi
    → meet_side s (widened_side r t) ≡ meet_side s (grown_side r t)
met_widened r s t low high =
    let lo : int_max s.lo (int_max (t.lo -ℤ r) (neg_ℤ (pos 10000000000000))) ≡ int_max s.lo (t.lo -ℤ r) = omega (arith, ints, clamps, low.low) in
    let hi : int_min s.hi (int_min (t.hi +ℤ r) (pos 10000000000000)) ≡ int_min s.hi (t.hi +ℤ r) = omega (arith, ints, clamps, high.high) in
    same_side _ _ _ _ lo hi

in_widened : (r : ℤ) (s t : Side) (n : ℤ) → IsBoxSize s.lo → IsBoxSize s.hi → IsIn s n
    → IsIn (grown_side r t) n → IsIn (widened_side r t) n
in_widened r s t n low high h k = (omega (arith, ints, clamps, low.low, h.0, k.0), omega (arith, ints, clamps, high.high, h.1, k.1))

meet_widened : (r : ℤ) (cover : GridBox) (search : Box3)
    → meet_box (grid_box search) (widened_box r cover) ≡ meet_box (grid_box search) (grown_box r cover)
meet_widened r cover search =
    let s = grid_box search in
    same_box _ _ _ _ _ _
    (met_widened r s.x cover.x search.lo_within.0 search.hi_within.0)
    (met_widened r s.y cover.y search.lo_within.1 search.hi_within.1)
    (met_widened r s.z cover.z search.lo_within.2 search.hi_within.2)

holds_widened : (r : ℤ) (cover : GridBox) (search : Box3) (p : Pos)
    → box_holds (grid_box search) p ≡ true → box_holds (grown_box r cover) p ≡ true
    → box_holds (widened_box r cover) p ≡ true
holds_widened r cover search p h k = holds_all (widened_box r cover) p (axis_of r cover search p h k)
  where
    axis_of : (r : ℤ) (cover : GridBox) (search : Box3) (p : Pos)
        → box_holds (grid_box search) p ≡ true → box_holds (grown_box r cover) p ≡ true
        → (axis : ℕ) → IsIn (side_at axis (widened_box r cover)) (along axis p)
    axis_of r cover search p h k zero = in_widened r (grid_box search).x cover.x p.x search.lo_within.0 search.hi_within.0 (holds_at _ p h 0) (holds_at _ p k 0)
    axis_of r cover search p h k (suc zero) = in_widened r (grid_box search).y cover.y p.y search.lo_within.1 search.hi_within.1 (holds_at _ p h 1) (holds_at _ p k 1)
    axis_of r cover search p h k (suc (suc n)) = in_widened r (grid_box search).z cover.z p.z search.lo_within.2 search.hi_within.2 (holds_at _ p h 2) (holds_at _ p k 2)

-- the meet with the widened box is that with the grown one
pub grown_meet : (r : ℤ) (cover : GridBox) (search : Box3) (answer : Option GridBox)
    → IsMeet (widened_box r cover) (grid_box search) answer
    → IsMeet (grown_box r cover) (grid_box search) answer
grown_meet r cover search None m = λ p h k. m p h (holds_widened r cover search p h k)
grown_meet r cover search (Some a) m = (m.0 ∙ meet_widened r cover search, m.1)

-- ---- the reach, and the same cut to the length of a search box

short_of : (s : Side) → side_length s ≤ 2 * 10 ^ 11 → s.hi ≤ℤ (s.lo +ℤ pos (2 * 10 ^ 11))
short_of s h = omega (arith, ints, above_is s.hi s.lo)

shorts : (a b c n : ℕ) → max a (max b c) ≤ n → (a ≤ n) × (b ≤ n) × (c ≤ n)
shorts a b c n h = (omega arith, omega arith, omega arith)

met_short : (r : ℕ) (s k : Side) → SideLiesIn k s → s.hi ≤ℤ (s.lo +ℤ pos (2 * 10 ^ 11))
    → meet_side s (grown_side (pos (min r longest_reach)) k) ≡ meet_side s (grown_side (pos r) k)
met_short r s k lies short =
    let lo : int_max s.lo (k.lo -ℤ pos (min r longest_reach)) ≡ int_max s.lo (k.lo -ℤ pos r) = omega (arith, ints, clamps, lies.low, lies.ordered, lies.high) in
    let hi : int_min s.hi (k.hi +ℤ pos (min r longest_reach)) ≡ int_min s.hi (k.hi +ℤ pos r) = omega (arith, ints, clamps, lies.low, lies.ordered, lies.high) in
    same_side _ _ _ _ lo hi

pub meet_short : (r : ℕ) (kept search : GridBox) → IsSearchBox search → LiesIn kept search
    → meet_box search (grown_box (pos (min r longest_reach)) kept) ≡ reached_box r kept search
meet_short r kept search box lies =
    let (x, y, z) = shorts (side_length search.x) (side_length search.y) (side_length search.z) (2 * 10 ^ 11) box.short in
    same_box _ _ _ _ _ _
    (met_short r search.x kept.x (lies 0) (short_of search.x x))
    (met_short r search.y kept.y (lies 1) (short_of search.y y))
    (met_short r search.z kept.z (lies 2) (short_of search.z z))

-- ---- it is there, and lies in the search box

in_lies : (s k : Side) (n : ℤ) → SideLiesIn k s → IsIn k n → IsIn s n
in_lies s k n h i = (omega (arith, ints, h.low, i.0), omega (arith, ints, h.high, i.1))

in_wider : (r : ℕ) (k : Side) (n : ℤ) → IsIn k n → IsIn (grown_side (pos r) k) n
in_wider r k n i = (omega (arith, ints, i.0), omega (arith, ints, i.1))

holds_search : (kept : Box3) (search : GridBox) → LiesIn (grid_box kept) search
    → box_holds search kept.lo ≡ true
holds_search kept search lies = holds_all search kept.lo (axis_of kept search lies)
  where
    axis_of : (kept : Box3) (search : GridBox) → LiesIn (grid_box kept) search → (axis : ℕ)
        → IsIn (side_at axis search) (along axis kept.lo)
    axis_of kept search lies zero = in_lies search.x (grid_box kept).x kept.lo.x (lies 0) (holds_at (grid_box kept) kept.lo (holds_low kept) 0)
    axis_of kept search lies (suc zero) = in_lies search.y (grid_box kept).y kept.lo.y (lies 1) (holds_at (grid_box kept) kept.lo (holds_low kept) 1)
    axis_of kept search lies (suc (suc n)) = in_lies search.z (grid_box kept).z kept.lo.z (lies 2) (holds_at (grid_box kept) kept.lo (holds_low kept) 2)

holds_wider : (r : ℕ) (kept : Box3) → box_holds (grown_box (pos r) (grid_box kept)) kept.lo ≡ true
holds_wider r kept = holds_all (grown_box (pos r) (grid_box kept)) kept.lo (axis_of r kept)
  where
    axis_of : (r : ℕ) (kept : Box3) (axis : ℕ)
        → IsIn (side_at axis (grown_box (pos r) (grid_box kept))) (along axis kept.lo)
    axis_of r kept zero = in_wider r (grid_box kept).x kept.lo.x (holds_at (grid_box kept) kept.lo (holds_low kept) 0)
    axis_of r kept (suc zero) = in_wider r (grid_box kept).y kept.lo.y (holds_at (grid_box kept) kept.lo (holds_low kept) 1)
    axis_of r kept (suc (suc n)) = in_wider r (grid_box kept).z kept.lo.z (holds_at (grid_box kept) kept.lo (holds_low kept) 2)

pub they_meet : (r : ℕ) (kept : Box3) (search : GridBox) → LiesIn (grid_box kept) search
    → IsMeet (grown_box (pos r) (grid_box kept)) search None → ⊥
they_meet r kept search lies none = none kept.lo (holds_search kept search lies) (holds_wider r kept)

met_lies : (a s t : Side) → a ≡ meet_side s t → SideLiesIn a a → SideLiesIn a s
met_lies a s t e h =
    let lo : a.lo ≡ int_max s.lo t.lo = ap (λ (x : Side). x.lo) e in
    let hi : a.hi ≡ int_min s.hi t.hi = ap (λ (x : Side). x.hi) e in
    record { low = omega (arith, ints, clamps, lo); ordered = h.ordered; high = omega (arith, ints, clamps, hi) }

pub root_lies : (a search t : GridBox) → a ≡ meet_box search t → LiesIn a a → LiesIn a search
root_lies a search t e h zero = met_lies a.x search.x t.x (ap (λ (c : GridBox). c.x) e) (h 0)
root_lies a search t e h (suc zero) = met_lies a.y search.y t.y (ap (λ (c : GridBox). c.y) e) (h 1)
root_lies a search t e h (suc (suc n)) = met_lies a.z search.z t.z (ap (λ (c : GridBox). c.z) e) (h 2)

-- ---- a box in a search box is one

side_short : (a s : Side) → side_length s ≤ 2 * 10 ^ 11 → SideLiesIn a s
    → side_length a ≤ 2 * 10 ^ 11
side_short a s short lies = omega (arith, ints, above_is a.hi a.lo, above_is s.hi s.lo, lies.low, lies.ordered, lies.high)

three_short : (a b c n : ℕ) → a ≤ n → b ≤ n → c ≤ n → max a (max b c) ≤ n
three_short a b c n h k l = omega arith

pub lies_searched : (a search : GridBox) → IsSearchBox search → LiesIn a search → IsSearchBox a
lies_searched a search box lies =
    let (x, y, z) = shorts (side_length search.x) (side_length search.y) (side_length search.z) (2 * 10 ^ 11) box.short in
    let h = lies 0 in
    let k = lies 1 in
    let l = lies 2 in
    record {
      x = record { low = record { low = omega (arith, ints, box.x.low.low, h.low); high = omega (arith, ints, box.x.high.high, h.high, h.ordered) }; high = record { low = omega (arith, ints, box.x.low.low, h.low, h.ordered); high = omega (arith, ints, box.x.high.high, h.high) } };
      y = record { low = record { low = omega (arith, ints, box.y.low.low, k.low); high = omega (arith, ints, box.y.high.high, k.high, k.ordered) }; high = record { low = omega (arith, ints, box.y.low.low, k.low, k.ordered); high = omega (arith, ints, box.y.high.high, k.high) } };
      z = record { low = record { low = omega (arith, ints, box.z.low.low, l.low); high = omega (arith, ints, box.z.high.high, l.high, l.ordered) }; high = record { low = omega (arith, ints, box.z.low.low, l.low, l.ordered); high = omega (arith, ints, box.z.high.high, l.high) } };
      short = three_short (side_length a.x) (side_length a.y) (side_length a.z) (2 * 10 ^ 11) (side_short a.x search.x x h) (side_short a.y search.y y k) (side_short a.z search.z z l);
    }

-- ---- a box within a box

pub hull_through : (hull : Option GridBox) (a b : GridBox) → HullLies hull a → LiesIn a b
    → HullLies hull b
hull_through None a b h l = tt
hull_through (Some hull) a b h l = lies_through hull a b h l

-- ---- what the code answers

pub behind_root : (r : ℕ) (kept search : Box3) (answer : Option Box3) (reach : ℤ)
    → IsSearchBox (grid_box search) → LiesIn (grid_box kept) (grid_box search)
    → reach ≡ pos (min r longest_reach)
    → IsMeet (grown_box reach (grid_box kept)) (grid_box search) (option_map grid_box answer)
    → box_option answer ≡ Some (reached_box r (grid_box kept) (grid_box search))
behind_root r kept search None reach box lies is met = absurd (they_meet (min r longest_reach) kept (grid_box search) lies (rw is at met))
behind_root r kept search (Some root) reach box lies is met = ap Some (met.0 ∙ rw is (meet_short r (grid_box kept) (grid_box search) box lies))

pub behind_lies : (kept search : Box3) (answer : Option Box3) (reach : ℤ)
    → IsMeet (grown_box reach (grid_box kept)) (grid_box search) (option_map grid_box answer)
    → HullLies (box_option answer) (grid_box search)
behind_lies kept search None reach met = tt
behind_lies kept search (Some root) reach met = root_lies (grid_box root) (grid_box search) (grown_box reach (grid_box kept)) met.0 met.1
