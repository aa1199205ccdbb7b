-- A turn by the earth's rotation keeps the distance from the axis, but for what its two products are rounded by and
-- what the law on the squares of sine and cosine leaves open.
use Rattle.std.proofs.Common.{◌≡◌, ℕ, ◌+◌, ◌-◌, ◌*◌, ◌^◌, ◌≤◌, arith, subst, lit≤}
use Rattle.std.specs.Prelude.{ℤ, pos, ◌+ℤ◌, ◌-ℤ◌, ◌*ℤ◌, ◌≤ℤ◌}
use Rattle.std.proofs.lemmas.Int.{ints}
use lib.IntN.{*ℤ_comm}
use Rattle.interval_trig.proofs.CircleLaw.{sine_and_cosine}
use Rattle.grid_model.specs.Angles.{unit}
use Rattle.grid_model.specs.Intervals.{Between, Close}
use Rattle.gnss_model.specs.OrbitChain.{IsSumOf, IsDifferenceOf}
use Rattle.grid_model.specs.Sines.{NearCircle}
use Rattle.grid_model.specs.Sizes.{IsWithin}
use Rattle.gnss_model.specs.Turn.{IsTurnedOver, Turn}
use Rattle.grid_model.specs.declared.boxes.Pos.{Pos}
use Rattle.grid_model.proofs.ProductLemmas.{mul_mono, swap4}
use Rattle.broadcast_orbit.specs.OrbitSizes.{least_distance, greatest_distance, IsOrbitDistance}
use Rattle.broadcast_orbit.proofs.PairLemmas.{pair_squares, near_squares, times_near, square_natural, first_within, second_within, product_between, Squares}

abbrev circle_low : ℕ
circle_low = unit * unit - 16 * unit

abbrev circle_high : ℕ
circle_high = unit * unit + 16 * unit

-- what the squares of the products may be off by, for a place at most r from the axis
abbrev turn_slip : ℕ → ℕ
turn_slip r = unit * (unit + 2 * (r * (unit + 8)))

-- by how much the square of the distance from the axis may change
abbrev pub IsTurnBound : ℕ → ℕ → Type 0
IsTurnBound r b = 2 * unit + 4 * (r * (unit + 8)) + 16 * (r * r) ≤ b * unit

keeps_by : (r b : ℕ) (xx yy R W P Q X Y : ℤ) → X ≡ xx *ℤ pos (unit * unit)
    → Y ≡ yy *ℤ pos (unit * unit) → IsWithin (turn_slip r) (X -ℤ P)
    → IsWithin (turn_slip r) (Y -ℤ Q) → Q +ℤ P ≡ W
    → (pos circle_low *ℤ R) ≤ℤ W → W ≤ℤ (pos circle_high *ℤ R) → R ≤ℤ pos (r * r) → IsTurnBound r b
    → Close b R (xx +ℤ yy)
keeps_by r b xx yy R W P Q X Y e f v w g low high most bound = record { below = omega (arith, ints, v.low, w.low); above = omega (arith, ints, v.high, w.high) }

fits_circle : (r : ℕ) → (r * r) * circle_high ≤ (r * (unit + 8)) * (r * (unit + 8))
fits_circle r = omega arith

turned_most : (r : ℕ) (P Q R T : ℤ) → (Q *ℤ Q) +ℤ (P *ℤ P) ≡ R *ℤ T → pos 0 ≤ℤ R → R ≤ℤ pos (r * r)
    → Between (pos circle_low) (pos circle_high) T → Squares 0 ((r * r) * circle_high) Q P
turned_most r P Q R T e some most t =
    let b = product_between 0 (r * r) circle_low circle_high R T (record { from = some; to = most }) t in
    record { from = omega (arith, ints, b.from, square_natural P, square_natural Q); to = omega (arith, ints, b.to) }

pub turn_keeps_by : (r b : ℕ) (x y c s nx ny : ℤ) → ((x *ℤ x) +ℤ (y *ℤ y)) ≤ℤ pos (r * r)
    → IsTurnBound r b → NearCircle s c → IsSumOf x c y s nx → IsDifferenceOf y c x s ny
    → Close b ((x *ℤ x) +ℤ (y *ℤ y)) ((nx *ℤ nx) +ℤ (ny *ℤ ny))
turn_keeps_by r b x y c s nx ny most bound law nx_is ny_is =
    let P = (x *ℤ c) +ℤ (y *ℤ s) in
    let Q = (y *ℤ c) -ℤ (x *ℤ s) in
    let R = (x *ℤ x) +ℤ (y *ℤ y) in
    let T = (c *ℤ c) +ℤ (s *ℤ s) in
    let t : Between (pos circle_low) (pos circle_high) T = record { from = omega (arith, ints, law.below, law.above); to = omega (arith, ints, law.below, law.above) } in
    let some : pos 0 ≤ℤ R = omega (arith, ints, square_natural x, square_natural y) in
    let swapped : (y *ℤ y) +ℤ (x *ℤ x) ≡ R = omega (arith, ints) in
    let e : (Q *ℤ Q) +ℤ (P *ℤ P) ≡ R *ℤ T = subst (λ (z : ℤ). (Q *ℤ Q) +ℤ (P *ℤ P) ≡ z *ℤ T) swapped (pair_squares y x c s) in
    let q = turned_most r P Q R T e some most t in
    let within_q = first_within (r * (unit + 8)) 0 ((r * r) * circle_high) Q P (fits_circle r) q in
    let within_p = second_within (r * (unit + 8)) 0 ((r * r) * circle_high) Q P (fits_circle r) q in
    let v = near_squares (nx *ℤ pos unit) P unit (r * (unit + 8)) (times_near P (pos unit) nx unit (record { le = tt }) nx_is) within_p in
    let w = near_squares (ny *ℤ pos unit) Q unit (r * (unit + 8)) (times_near Q (pos unit) ny unit (record { le = tt }) ny_is) within_q in
    let l : (pos circle_low *ℤ R) ≤ℤ (R *ℤ T) = rw (*ℤ_comm R T) (mul_mono (pos circle_low) T R t.from some) in
    let h : (R *ℤ T) ≤ℤ (pos circle_high *ℤ R) = rw (*ℤ_comm R T) (mul_mono T (pos circle_high) R t.to some) in
    keeps_by r b (nx *ℤ nx) (ny *ℤ ny) R (R *ℤ T) (P *ℤ P) (Q *ℤ Q) ((nx *ℤ pos unit) *ℤ (nx *ℤ pos unit)) ((ny *ℤ pos unit) *ℤ (ny *ℤ pos unit))
    (swap4 nx nx (pos unit) (pos unit)) (swap4 ny ny (pos unit) (pos unit)) v w e l h most bound

pub turned_over_keeps : (r b range : ℕ) (x y nx ny : ℤ) → ((x *ℤ x) +ℤ (y *ℤ y)) ≤ℤ pos (r * r)
    → IsTurnBound r b → IsTurnedOver range x y nx ny
    → Close b ((x *ℤ x) +ℤ (y *ℤ y)) ((nx *ℤ nx) +ℤ (ny *ℤ ny))
turned_over_keeps r b range x y nx ny most bound t = turn_keeps_by r b x y t.cos_angle t.sin_angle nx ny most bound (sine_and_cosine t.angle t.sin_angle t.cos_angle t.sin_angle_is t.cos_angle_is) t.x_is t.y_is

pub turn_keeps : (r b range : ℕ) (p : Pos) (x y z tx ty : ℤ) → ((x *ℤ x) +ℤ (y *ℤ y)) ≤ℤ pos (r * r)
    → IsTurnBound r b → Turn p x y z tx ty range
    → Close b ((x *ℤ x) +ℤ (y *ℤ y)) ((tx *ℤ tx) +ℤ (ty *ℤ ty))
turn_keeps r b range p x y z tx ty most bound t = turned_over_keeps r b _ x y tx ty most bound t.second_is

-- ---- a satellite's place, seen from a point, is as far from the origin as before, but for a few um

abbrev pub turn_loss : ℕ
turn_loss = 2136 * 10 ^ 11

abbrev pub turned_low : ℕ
turned_low = least_distance - 6

abbrev pub turned_high : ℕ
turned_high = greatest_distance + 3

bound_holds : IsTurnBound greatest_distance turn_loss
bound_holds = lit≤ tt

flat_most : (R Z : ℤ) → pos 0 ≤ℤ Z → (R +ℤ Z) ≤ℤ pos (greatest_distance * greatest_distance)
    → R ≤ℤ pos (greatest_distance * greatest_distance)
flat_most R Z h k = omega (arith, ints)

still_between : (R S Z : ℤ)
    → Between (pos (least_distance * least_distance)) (pos (greatest_distance * greatest_distance)) (R +ℤ Z)
    → Close turn_loss R S
    → Between (pos (turned_low * turned_low)) (pos (turned_high * turned_high)) (S +ℤ Z)
still_between R S Z d c = record { from = omega (arith, ints, d.from, c.below); to = omega (arith, ints, d.to, c.above) }

pub turned_distance : (range : ℕ) (p : Pos) (x y z tx ty : ℤ) → IsOrbitDistance x y z
    → Turn p x y z tx ty range
    → Between (pos (turned_low * turned_low)) (pos (turned_high * turned_high)) ((tx *ℤ tx) +ℤ (ty *ℤ ty) +ℤ (z *ℤ z))
turned_distance range p x y z tx ty d t =
    still_between ((x *ℤ x) +ℤ (y *ℤ y)) ((tx *ℤ tx) +ℤ (ty *ℤ ty)) (z *ℤ z) d
    (turn_keeps greatest_distance turn_loss range p x y z tx ty (flat_most ((x *ℤ x) +ℤ (y *ℤ y)) (z *ℤ z) (square_natural z) d.to) bound_holds t)
