-- A cut at a low face, and one at a high face.
use Rattle.std.proofs.Common.{◌≡◌, ◌≢◌, ℕ, zero, suc, ◌/◌, ◌%◌, true, false, arith}
use Rattle.std.specs.Prelude.{ℤ, pos, ◌≤ℤ◌, ◌<ℤ◌, ◌-ℤ◌, ◌+ℤ◌}
use Rattle.std.proofs.lemmas.Bool.Decides.{nat_tests}
use Rattle.grid_model.specs.declared.boxes.Box3.{Box3}
use Rattle.grid_model.specs.Boxes.{GridBox, grid_box, side_at, with_side}
use Rattle.sat_model.specs.Fold.{is_low, IsProperCut, left_by_cut, slab_of_cut}
use Rattle.grid_model.specs.Sizes.{IsBoxSize}

low_face : (face : ℕ) → face % 2 ≡ 0 → is_low face ≡ true
low_face face e = grind (arith, nat_tests)

high_face : (face : ℕ) → face % 2 ≢ 0 → is_low face ≡ false
high_face face e = grind (arith, nat_tests)

-- the ends of a side are of the size of a box
side_sizes : (axis : ℕ) (part : Box3)
    → IsBoxSize (side_at axis (grid_box part)).lo × IsBoxSize (side_at axis (grid_box part)).hi
side_sizes zero part = (part.lo_within.0, part.hi_within.0)
side_sizes (suc zero) part = (part.lo_within.1, part.hi_within.1)
side_sizes (suc (suc n)) part = (part.lo_within.2, part.hi_within.2)

pub proper_low : (face : ℕ) (bound : ℤ) (part : Box3) → face % 2 ≡ 0
    → IsProperCut face bound (grid_box part)
    → let side = side_at (face / 2) (grid_box part) in (side.lo <ℤ bound) × (bound ≤ℤ side.hi) × IsBoxSize side.lo × IsBoxSize side.hi
proper_low face bound part e h =
    let proper = rw (low_face face e) at h in
    let sizes = side_sizes (face / 2) part in
    (proper.0, proper.1, sizes.0, sizes.1)

pub proper_high : (face : ℕ) (bound : ℤ) (part : Box3) → face % 2 ≢ 0
    → IsProperCut face bound (grid_box part)
    → let side = side_at (face / 2) (grid_box part) in (side.lo ≤ℤ bound) × (bound <ℤ side.hi) × IsBoxSize side.lo × IsBoxSize side.hi
proper_high face bound part e h =
    let proper = rw (high_face face e) at h in
    let sizes = side_sizes (face / 2) part in
    (proper.0, proper.1, sizes.0, sizes.1)

pub slab_low : (face : ℕ) (bound hi : ℤ) (part slab : GridBox) → face % 2 ≡ 0 → hi ≡ bound -ℤ pos 1
    → slab ≡ with_side (face / 2) part (record { lo = (side_at (face / 2) part).lo; hi = hi })
    → slab ≡ slab_of_cut face bound part
slab_low face bound hi part slab e is made = rw (low_face face e) (rw is at made)

pub slab_high : (face : ℕ) (bound lo : ℤ) (part slab : GridBox) → face % 2 ≢ 0 → lo ≡ bound +ℤ pos 1
    → slab ≡ with_side (face / 2) part (record { lo = lo; hi = (side_at (face / 2) part).hi })
    → slab ≡ slab_of_cut face bound part
slab_high face bound lo part slab e is made = rw (high_face face e) (rw is at made)

pub left_high : (face : ℕ) (bound : ℤ) (part rest : GridBox) → face % 2 ≢ 0
    → rest ≡ with_side (face / 2) part (record { lo = (side_at (face / 2) part).lo; hi = bound })
    → rest ≡ left_by_cut face bound part
left_high face bound part rest e made = rw (high_face face e) made
