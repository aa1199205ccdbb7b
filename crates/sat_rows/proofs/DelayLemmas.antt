-- Declared ends with delays added, and how far a satellite is that is held by its place.
use Rattle.std.proofs.Common.{◌≡◌, ℕ, ◌+◌, ◌*◌, ◌^◌, ◌≤◌, arith, refl, true, ◌&&◌, Option, None, Some}
use Rattle.std.specs.Prelude.{is_none, ℤ, pos, nat_abs, ◌+ℤ◌, ◌-ℤ◌, ◌≤ℤ◌}
use Rattle.std.proofs.lemmas.Int.{ints}
use Rattle.std.proofs.lemmas.Nat.{mul-le}
use Rattle.broadcast_orbit.proofs.FarPlaces.{seen_width, near_is_far, far_from_points}
use Rattle.broadcast_orbit.specs.OrbitSizes.{IsOrbitDistance}
use Rattle.earth_rotation.proofs.TurnExists.{turn_exists}
use Rattle.elevation_mapping.specs.Places.{IsFarFromPlace}
use Rattle.fix_interval.specs.Places.{HoldsPlace, PlaceEnds}
use Rattle.fix_interval.specs.declared.place.Place.{Place}
use Rattle.grid_model.specs.Boxes.{GridBox, box_holds}
use Rattle.grid_model.specs.Intervals.{Between, Ends}
use Rattle.grid_model.specs.Lengths.{longest_length, spare_of}
use Rattle.grid_model.specs.SearchBoxes.{IsSearchBox}
use Rattle.grid_model.specs.Sizes.{IsWithin}
use Rattle.gnss_model.specs.Turn.{Turn}
use Rattle.gnss_model.specs.Delays.{span_amount, spare_over}
use Rattle.gnss_model.specs.declared.delays.Layer.{Layer}
use Rattle.gnss_model.specs.declared.delays.Layer.TheVariants.{Troposphere, Ionosphere}
use Rattle.grid_model.specs.declared.boxes.Pos.{Pos}
use Rattle.grid_model.specs.declared.spans.Span.{Span}
use Rattle.sat_rows.specs.OwnRows.{IsSmall}
use Rattle.grid_model.proofs.IntervalLemmas.{low_member, members_within}
use Rattle.grid_model.proofs.ProductLemmas.{larger}

-- ---- an end d with two delays, from k to m and from l to n

pub moved_holds : (d k m l n lo hi x y v : ℤ) → lo ≡ (d +ℤ k) +ℤ l → hi ≡ (d +ℤ m) +ℤ n
    → v ≡ (d +ℤ x) +ℤ y → Between k m x → Between l n y → Between lo hi v
moved_holds d k m l n lo hi x y v e f g a b = record { from = omega (arith, ints, e, g, a.from, b.from); to = omega (arith, ints, f, g, a.to, b.to) }

pub moved_width : (s t : ℕ) (d k m l n lo hi : ℤ) → lo ≡ (d +ℤ k) +ℤ l → hi ≡ (d +ℤ m) +ℤ n
    → (m -ℤ k) ≤ℤ pos s → (n -ℤ l) ≤ℤ pos t → (hi -ℤ lo) ≤ℤ pos (s + t)
moved_width s t d k m l n lo hi e f v w = omega (arith, ints)

-- the least low end is at most the greatest high end
pub moved_order : (d e k l m n lo hi : ℤ) → lo ≡ (d +ℤ k) +ℤ l → hi ≡ (e +ℤ m) +ℤ n → d ≤ℤ e
    → k ≤ℤ m → l ≤ℤ n → lo ≤ℤ hi
moved_order d e k l m n lo hi f g o p q = omega (arith, ints)

pub moved_small : (d k l z : ℤ) → z ≡ (d +ℤ k) +ℤ l → IsWithin (6 * 10 ^ 9) d
    → IsWithin (3 * 10 ^ 8 + 2) k → IsWithin (3 * 10 ^ 9 + 2) l → IsWithin (10 ^ 10) z
moved_small d k l z e f g h = record { low = omega (arith, ints, e, f.low, g.low, h.low); high = omega (arith, ints, e, f.high, g.high, h.high) }

pub plain_both : (a b : Option Span) → (is_none a && is_none b) ≡ true → (a ≡ None) × (b ≡ None)
plain_both None None e = (refl, refl)
plain_both None (Some b) e = absurd cc
plain_both (Some a) b e = absurd cc

pub plain_end : (d k l z : ℤ) → z ≡ (d +ℤ k) +ℤ l → k ≡ pos 0 → l ≡ pos 0 → z ≡ d
plain_end d k l z e f g = omega (arith, ints, e, f, g)

-- ---- one delay

pub same_holds : (l h lo hi x : ℤ) → lo ≡ l → hi ≡ h → Between l h x → Between lo hi x
same_holds l h lo hi x e f b = record { from = omega (arith, ints, e, b.from); to = omega (arith, ints, f, b.to) }

pub same_width : (m n : ℕ) (l h lo hi : ℤ) → lo ≡ l → hi ≡ h → (h -ℤ l) ≤ℤ pos m → m ≤ n
    → (hi -ℤ lo) ≤ℤ pos n
same_width m n l h lo hi e f w k = omega (arith, ints)

-- the least low end is at most the greatest high end
pub same_order : (l h low high lo hi : ℤ) → lo ≡ l → hi ≡ h → l ≤ℤ low → low ≤ℤ high → high ≤ℤ h
    → lo ≤ℤ hi
same_order l h low high lo hi e f p q r = omega (arith, ints)

same_within : (n : ℕ) (z x : ℤ) → z ≡ x → IsWithin n x → IsWithin n z
same_within n z x e w = record { low = omega (arith, ints, e, w.low); high = omega (arith, ints, e, w.high) }

pub small_span : (n : ℕ) (s : Span) (l h : ℤ) → s.lo ≡ l → s.hi ≡ h → IsWithin n l → IsWithin n h
    → IsSmall n s
small_span n s l h e f a b = record { lo = same_within n s.lo l e a; hi = same_within n s.hi h f b }

pub zero_holds : (lo hi x : ℤ) → lo ≡ pos 0 → hi ≡ pos 0 → x ≡ pos 0 → Between lo hi x
zero_holds lo hi x e f g = record { from = omega (arith, ints); to = omega (arith, ints) }

pub zero_within : (n : ℕ) (z : ℤ) → z ≡ pos 0 → IsWithin n z
zero_within n z e = record { low = omega (arith, ints); high = omega (arith, ints) }

spare_grows : (layer : Layer) (a b d : ℕ) → a ≤ b → spare_over layer a d ≤ spare_over layer b d
spare_grows Troposphere a b d h = let m = mul-le a d b d h (omega arith) in omega (arith, m)
spare_grows Ionosphere a b d h = let m = mul-le a d b d h (omega arith) in omega (arith, m)

pub low_spare : (layer : Layer) (s : Span) (d : ℕ)
    → spare_over layer (nat_abs s.lo) d ≤ spare_over layer (span_amount s) d
low_spare layer s d = spare_grows layer (nat_abs s.lo) (span_amount s) d (omega arith)

pub high_spare : (layer : Layer) (s : Span) (d : ℕ)
    → spare_over layer (nat_abs s.hi) d ≤ spare_over layer (span_amount s) d
high_spare layer s d = spare_grows layer (nat_abs s.hi) (span_amount s) d (omega arith)

-- ---- the place

spare_small : (root : GridBox) → longest_length root ≤ 2 * 10 ^ 11 → spare_of root ≤ seen_width
spare_small root h = omega arith

member_near : (n : ℕ) (root : GridBox) (l h x y : ℤ) → longest_length root ≤ 2 * 10 ^ 11
    → Ends n (spare_of root) l h → Between l h x → Between l h y → IsWithin seen_width (x -ℤ y)
member_near n root l h x y short e p q = larger (spare_of root) seen_width (x -ℤ y) (spare_small root short) (members_within n (spare_of root) l h x y e p q)

-- A place that holds what is seen of one as far from the origin as an orbit is far from the points
-- of the box, since it is narrow.
pub place_is_far : (m : ℕ) (root : GridBox) (sent a : Place)
    → ((x y z : ℤ) → HoldsPlace sent x y z → IsOrbitDistance x y z) → IsSearchBox root
    → PlaceEnds m (spare_of root) a
    → ((p : Pos) (x y z tx ty : ℤ) (r : ℕ) → box_holds root p ≡ true → HoldsPlace sent x y z → Turn p x y z tx ty r → HoldsPlace a tx ty z)
    → IsFarFromPlace (5 * 10 ^ 12) a root
place_is_far m root sent a distance box ends holds p x y z inside held =
    let low : HoldsPlace sent sent.x.lo sent.y.lo sent.z.lo = record { x_held = low_member _ _ sent.x.ordered; y_held = low_member _ _ sent.y.ordered; z_held = low_member _ _ sent.z.ordered } in
    let turn = turn_exists p sent.x.lo sent.y.lo sent.z.lo in
    let at = holds p sent.x.lo sent.y.lo sent.z.lo turn.0 turn.1 turn.2 inside low turn.3 in
    far_from_points x y z root p (near_is_far sent.x.lo sent.y.lo sent.z.lo p turn.0 turn.1 turn.2 x y z (distance sent.x.lo sent.y.lo sent.z.lo low) turn.3
    (member_near m root a.x.lo a.x.hi x turn.0 box.short ends.x_ends held.x_held at.x_held) (member_near m root a.y.lo a.y.hi y turn.1 box.short ends.y_ends held.y_held at.y_held) (member_near m root a.z.lo a.z.hi z sent.z.lo box.short ends.z_ends held.z_held at.z_held)) box inside
