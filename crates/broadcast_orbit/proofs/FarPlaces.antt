-- How far a satellite is from the points of a box in which a receiver is searched. Lengths are in um.
use Rattle.std.proofs.Common.{◌≡◌, ℕ, ◌+◌, ◌*◌, ◌^◌, ◌≤◌, arith, true}
use Rattle.std.specs.Prelude.{ℤ, pos, ◌+ℤ◌, ◌-ℤ◌, ◌*ℤ◌, ◌≤ℤ◌}
use Rattle.std.proofs.lemmas.Int.{ints}
use Rattle.grid_model.specs.Amounts.{square}
use Rattle.grid_model.specs.Boxes.{Side, GridBox, box_holds}
use Rattle.gnss_model.specs.OrbitChain.{OrbitChain}
use Rattle.grid_model.specs.SearchBoxes.{IsSearchSide, IsSearchBox}
use Rattle.grid_model.specs.Sizes.{IsWithin}
use Rattle.grid_model.specs.Squares.{sum_of_squares}
use Rattle.gnss_model.specs.Turn.{Turn}
use Rattle.grid_model.specs.declared.boxes.Pos.{Pos}
use Rattle.gnss_model.specs.declared.elements.Elements.{Elements}
use Rattle.grid_model.proofs.PointLemmas.{in_box}
use Rattle.grid_model.proofs.ProductLemmas.{product_le, square_of_amount, swap4}
use Rattle.broadcast_orbit.specs.OrbitSizes.{IsOrbitDistance}
use Rattle.broadcast_orbit.proofs.ChainDistance.{orbit_distance}
use Rattle.broadcast_orbit.proofs.PairLemmas.{square_of_difference, near_squares, square_natural, side_within}
use Rattle.broadcast_orbit.proofs.TurnKeeps.{turned_low, turned_high, turned_distance}

-- ---- from the distance to the origin

-- what is left over is (3 s - 4 p)^2
axis_apart : (s p : ℤ)
    → (pos 3 *ℤ (s *ℤ s)) ≤ℤ ((pos 12 *ℤ ((s -ℤ p) *ℤ (s -ℤ p))) +ℤ (pos 4 *ℤ (p *ℤ p)))
axis_apart s p =
    let over = square_natural ((pos 3 *ℤ s) -ℤ (pos 4 *ℤ p)) in
    let spelled = square_of_difference (pos 3 *ℤ s) (pos 4 *ℤ p) in
    let first = swap4 (pos 3) (pos 3) s s in
    let cross = swap4 (pos 3) (pos 4) s p in
    let second = swap4 (pos 4) (pos 4) p p in
    let apart = square_of_difference s p in
    omega (arith, ints, over, spelled, first, cross, second, apart)

abbrev search_reach : ℕ
search_reach = 8600 * 10 ^ 9

in_reach : (s : Side) (c : ℤ) → IsSearchSide s → s.lo ≤ℤ c → c ≤ℤ s.hi
    → (c *ℤ c) ≤ℤ pos (search_reach * search_reach)
in_reach s c b l h =
    let w : IsWithin search_reach c = record { low = omega (arith, ints, b.low.low); high = omega (arith, ints, b.high.high) } in
    product_le search_reach search_reach c c w w

-- a little less than the square of 19,900 km
abbrev pub far_square : ℕ
far_square = 3960 * 10 ^ 23

far_by : (xx yy zz dx dy dz px py pz : ℤ) → (pos 3 *ℤ xx) ≤ℤ ((pos 12 *ℤ dx) +ℤ (pos 4 *ℤ px))
    → (pos 3 *ℤ yy) ≤ℤ ((pos 12 *ℤ dy) +ℤ (pos 4 *ℤ py))
    → (pos 3 *ℤ zz) ≤ℤ ((pos 12 *ℤ dz) +ℤ (pos 4 *ℤ pz))
    → px ≤ℤ pos (search_reach * search_reach) → py ≤ℤ pos (search_reach * search_reach)
    → pz ≤ℤ pos (search_reach * search_reach) → pos far_square ≤ℤ (xx +ℤ yy +ℤ zz)
    → pos (square (5 * 10 ^ 12)) ≤ℤ (dx +ℤ dy +ℤ dz)
far_by xx yy zz dx dy dz px py pz x y z p q r far = omega (arith, ints)

squares_from : (n : ℕ) (x y z : ℤ) → pos n ≤ℤ ((x *ℤ x) +ℤ (y *ℤ y) +ℤ (z *ℤ z))
    → n ≤ sum_of_squares x y z
squares_from n x y z h = omega (arith, ints, h, square_of_amount x, square_of_amount y, square_of_amount z)

-- what is so far from the origin is 5,000 km from each point of the box
pub far_from_points : (x y z : ℤ) (box : GridBox) (p : Pos)
    → pos far_square ≤ℤ ((x *ℤ x) +ℤ (y *ℤ y) +ℤ (z *ℤ z)) → IsSearchBox box
    → box_holds box p ≡ true
    → square (5 * 10 ^ 12) ≤ sum_of_squares (x -ℤ p.x) (y -ℤ p.y) (z -ℤ p.z)
far_from_points x y z box p far search inside =
    let i = in_box box p inside in
    squares_from (square (5 * 10 ^ 12)) (x -ℤ p.x) (y -ℤ p.y) (z -ℤ p.z)
    (far_by (x *ℤ x) (y *ℤ y) (z *ℤ z) ((x -ℤ p.x) *ℤ (x -ℤ p.x)) ((y -ℤ p.y) *ℤ (y -ℤ p.y)) ((z -ℤ p.z) *ℤ (z -ℤ p.z)) (p.x *ℤ p.x) (p.y *ℤ p.y) (p.z *ℤ p.z) (axis_apart x p.x) (axis_apart y p.y) (axis_apart z p.z)
    (in_reach box.x p.x search.x i.x.0 i.x.1) (in_reach box.y p.y search.y i.y.0 i.y.1) (in_reach box.z p.z search.z i.z.0 i.z.1) far)

-- ---- places of a chain, seen from a point

-- how far a member of an interval may be from another
abbrev pub seen_width : ℕ
seen_width = 6 * 10 ^ 6

abbrev shift : ℕ
shift = seen_width * (seen_width + 2 * turned_high)

still_far : (a b c A B C : ℤ) → IsWithin shift (a -ℤ A) → IsWithin shift (b -ℤ B)
    → IsWithin shift (c -ℤ C) → pos (turned_low * turned_low) ≤ℤ (A +ℤ B +ℤ C)
    → pos far_square ≤ℤ (a +ℤ b +ℤ c)
still_far a b c A B C u v w d = omega (arith, ints, u.low, v.low, w.low, d)

sides_of : (x y z : ℤ) → ((x *ℤ x) +ℤ (y *ℤ y) +ℤ (z *ℤ z)) ≤ℤ pos (turned_high * turned_high)
    → IsWithin turned_high x × IsWithin turned_high y × IsWithin turned_high z
sides_of x y z t =
    let p = square_natural x in
    let q = square_natural y in
    let r = square_natural z in
    (side_within turned_high x (omega (arith, ints)), side_within turned_high y (omega (arith, ints)), side_within turned_high z (omega (arith, ints)))

-- a place as far as an orbit is far as seen from a point, and so is what is near to it
pub near_is_far : (x y z : ℤ) (p : Pos) (tx ty : ℤ) (r : ℕ) (a b c : ℤ) → IsOrbitDistance x y z
    → Turn p x y z tx ty r → IsWithin seen_width (a -ℤ tx) → IsWithin seen_width (b -ℤ ty)
    → IsWithin seen_width (c -ℤ z)
    → pos far_square ≤ℤ ((a *ℤ a) +ℤ (b *ℤ b) +ℤ (c *ℤ c))
near_is_far x y z p tx ty r a b c distance turn u v w =
    let d = turned_distance r p x y z tx ty distance turn in
    let s = sides_of tx ty z d.to in
    still_far (a *ℤ a) (b *ℤ b) (c *ℤ c) (tx *ℤ tx) (ty *ℤ ty) (z *ℤ z)
    (near_squares a tx seen_width turned_high u s.0) (near_squares b ty seen_width turned_high v s.1) (near_squares c z seen_width turned_high w s.2) d.from

no_width : (x : ℤ) → IsWithin seen_width (x -ℤ x)
no_width x = record { low = omega (arith, ints); high = omega (arith, ints) }

pub chain_is_far : (el : Elements) (n t x y z : ℤ) (p : Pos) (tx ty : ℤ) (r : ℕ)
    → OrbitChain el n t x y z → Turn p x y z tx ty r
    → pos far_square ≤ℤ ((tx *ℤ tx) +ℤ (ty *ℤ ty) +ℤ (z *ℤ z))
chain_is_far el n t x y z p tx ty r orbit turn = near_is_far x y z p tx ty r tx ty z (orbit_distance el n t x y z orbit) turn (no_width tx) (no_width ty) (no_width z)
