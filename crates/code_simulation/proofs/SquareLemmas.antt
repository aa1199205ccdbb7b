-- Distances from points between two circles round the earth's centre: by squares, each axis for itself.
use Rattle.std.proofs.Common.{◌≡◌, ℕ, ◌*◌, ◌≤◌, arith, ap, sym, ◌∙◌}
use Rattle.std.specs.Prelude.{ℤ, pos, ◌+ℤ◌, ◌-ℤ◌, ◌*ℤ◌, ◌≤ℤ◌}
use Rattle.std.proofs.lemmas.Int.{ints}
use lib.IntN.{*ℤ_comm}
use Rattle.broadcast_orbit.proofs.PairLemmas.{square_natural, square_of_difference, square_of_sum}
use Rattle.grid_model.specs.Ranges.{range_to}
use Rattle.grid_model.specs.declared.boxes.Pos.{Pos}
use Rattle.grid_model.proofs.ProductLemmas.{mul_assoc, square_of_amount, swap4}
use Rattle.grid_model.proofs.RootLemmas.{root_le as root_most, root_least}

times_scaled : (n s p : ℤ) → s *ℤ (n *ℤ p) ≡ n *ℤ (s *ℤ p)
times_scaled n s p = sym (mul_assoc s n p) ∙ ap (λ (z : ℤ). z *ℤ p) (*ℤ_comm s n) ∙ mul_assoc n s p

square_scaled : (n p : ℤ) → (n *ℤ p) *ℤ (n *ℤ p) ≡ (n *ℤ n) *ℤ (p *ℤ p)
square_scaled n p = swap4 n n p p

-- what is left over is (s + 6 p)^2
pub side_most : (s p : ℤ)
    → (pos 6 *ℤ ((s -ℤ p) *ℤ (s -ℤ p))) ≤ℤ ((pos 7 *ℤ (s *ℤ s)) +ℤ (pos 42 *ℤ (p *ℤ p)))
side_most s p =
    let over = square_natural (s +ℤ (pos 6 *ℤ p)) in
    let spelled = square_of_sum s (pos 6 *ℤ p) in
    let cross = times_scaled (pos 6) s p in
    let square = square_scaled (pos 6) p in
    let side = square_of_difference s p in
    omega (arith, ints, over, spelled, cross, square, side)

-- what is left over is (s - 4 p)^2
pub side_least : (s p : ℤ)
    → ((pos 3 *ℤ (s *ℤ s)) -ℤ (pos 12 *ℤ (p *ℤ p))) ≤ℤ (pos 4 *ℤ ((s -ℤ p) *ℤ (s -ℤ p)))
side_least s p =
    let over = square_natural (s -ℤ (pos 4 *ℤ p)) in
    let spelled = square_of_difference s (pos 4 *ℤ p) in
    let cross = times_scaled (pos 4) s p in
    let square = square_scaled (pos 4) p in
    let side = square_of_difference s p in
    omega (arith, ints, over, spelled, cross, square, side)

-- ---- ranges

-- the squared distance from p
abbrev pub apart : ℤ → ℤ → ℤ → Pos → ℤ
apart x y z p = ((x -ℤ p.x) *ℤ (x -ℤ p.x)) +ℤ ((y -ℤ p.y) *ℤ (y -ℤ p.y)) +ℤ ((z -ℤ p.z) *ℤ (z -ℤ p.z))

pub range_most : (n : ℕ) (x y z : ℤ) (p : Pos) → apart x y z p ≤ℤ pos (n * n) → range_to x y z p ≤ n
unfolding range_to
range_most n x y z p h =
    let a = square_of_amount (x -ℤ p.x) in
    let b = square_of_amount (y -ℤ p.y) in
    let c = square_of_amount (z -ℤ p.z) in
    root_most _ n (omega (arith, ints, a, b, c, h))

pub range_least : (n : ℕ) (x y z : ℤ) (p : Pos) → pos (n * n) ≤ℤ apart x y z p
    → n ≤ range_to x y z p
unfolding range_to
range_least n x y z p h =
    let a = square_of_amount (x -ℤ p.x) in
    let b = square_of_amount (y -ℤ p.y) in
    let c = square_of_amount (z -ℤ p.z) in
    root_least _ n (omega (arith, ints, a, b, c, h))
