-- Boxes that are found the same by their coordinates.
use Rattle.std.proofs.Common.{◌≡◌, arith, true, ◌&&◌, int_eq, refl}
use Rattle.std.specs.Prelude.{ℤ}
use Rattle.std.proofs.lemmas.Bool.{and_parts as both}
use Rattle.std.proofs.lemmas.Int.{ints}
use Rattle.grid_model.specs.Boxes.{grid_box}
use Rattle.grid_model.specs.declared.boxes.Box3.{Box3}

pub same_coordinates : (a b : Box3)
    → ((int_eq a.lo.x b.lo.x && (int_eq a.lo.y b.lo.y && int_eq a.lo.z b.lo.z)) && (int_eq a.hi.x b.hi.x && (int_eq a.hi.y b.hi.y && int_eq a.hi.z b.hi.z))) ≡ true
    → grid_box a ≡ grid_box b
same_coordinates a b h =
    let (lo, hi) = both (int_eq a.lo.x b.lo.x && (int_eq a.lo.y b.lo.y && int_eq a.lo.z b.lo.z)) (int_eq a.hi.x b.hi.x && (int_eq a.hi.y b.hi.y && int_eq a.hi.z b.hi.z)) h in
    let (lx, ly, lz) = three_same a.lo.x b.lo.x a.lo.y b.lo.y a.lo.z b.lo.z lo in
    let (hx, hy, hz) = three_same a.hi.x b.hi.x a.hi.y b.hi.y a.hi.z b.hi.z hi in
    rw (lx, ly, lz, hx, hy, hz) refl
  where
    same : (c d : ℤ) → int_eq c d ≡ true → c ≡ d
    same c d k = grind (arith, ints)

    three_same : (c d e f g i : ℤ) → (int_eq c d && (int_eq e f && int_eq g i)) ≡ true
        → (c ≡ d) × (e ≡ f) × (g ≡ i)
    three_same c d e f g i k =
        let (x, yz) = both (int_eq c d) (int_eq e f && int_eq g i) k in
        let (y, z) = both (int_eq e f) (int_eq g i) yz in
        (same c d x, same e f y, same g i z)
