-- The squares of the cosine and the sine of the true anomaly add up to one, as those of the eccentric
-- anomaly do.
use Rattle.std.proofs.Common.{◌≡◌, ℕ, ◌+◌, ◌-◌, ◌*◌, ◌^◌, ◌≤◌, arith, sym, ap, ◌∙◌, refl, subst, lit≤}
use Rattle.std.specs.Prelude.{ℤ, pos, ◌+ℤ◌, ◌-ℤ◌, ◌*ℤ◌, ◌≤ℤ◌, ◌<ℤ◌}
use Rattle.std.proofs.lemmas.Int.{ints}
use lib.IntN.{*ℤ_comm}
use Rattle.grid_model.specs.Angles.{unit}
use Rattle.grid_model.specs.Intervals.{Between}
use Rattle.grid_model.specs.Rounding.{Near}
use Rattle.grid_model.specs.Sines.{NearCircle}
use Rattle.grid_model.specs.Sizes.{IsWithin}
use Rattle.grid_model.proofs.ProductLemmas.{mul_mono, mul_le_back, add_mul, distrib, distrib_less, product_within, swap4, larger as wide, less_mul}
use Rattle.broadcast_orbit.specs.OrbitSizes.{eccentricity_amount}
use Rattle.broadcast_orbit.proofs.PairLemmas.{square_of_difference, near_squares, times_near, square_natural, Squares}
use Rattle.grid_model.proofs.RootLemmas.{square-mono}
use Rattle.broadcast_orbit.proofs.Chains.{one_within}
use Rattle.broadcast_orbit.proofs.ChainExists.{small_amount as within_of}

-- ---- (c - e)^2 one^2 + w^2 s^2, where the products of squares are variables
pub join : (C S X E W ES WS EC XX o : ℤ) → o ≡ pos (unit * unit) -ℤ E -ℤ W → pos 0 ≤ℤ o
    → o ≤ℤ pos (2 * unit) → IsWithin (16 * unit) ((S +ℤ C) -ℤ pos (unit * unit)) → EC ≡ XX
    → WS ≡ (pos (unit * unit) *ℤ S) -ℤ ES -ℤ (o *ℤ S) → IsWithin (4 * (unit * unit * unit)) (o *ℤ S)
    → IsWithin (unit * unit * unit) ((ES +ℤ EC) -ℤ (pos (unit * unit) *ℤ E)) →
    IsWithin (24 * (unit * unit * unit)) (((pos (unit * unit) *ℤ ((C -ℤ X) -ℤ (X -ℤ E))) +ℤ WS) -ℤ ((pos (unit * unit * (unit * unit)) -ℤ (pos (unit * unit) *ℤ X)) -ℤ ((pos (unit * unit) *ℤ X) -ℤ XX)))
join C S X E W ES WS EC XX o e p q d f g h i = record { low = omega (arith, ints, d.low, d.high, h.low, h.high, i.low, i.high); high = omega (arith, ints, d.low, d.high, h.low, h.high, i.low, i.high) }

-- what w^2 lacks
lack_is : (E W S o : ℤ) → o ≡ pos (unit * unit) -ℤ E -ℤ W
    → W *ℤ S ≡ (pos (unit * unit) *ℤ S) -ℤ (E *ℤ S) -ℤ (o *ℤ S)
lack_is E W S o e =
    let k : W ≡ (pos (unit * unit) -ℤ E) -ℤ o = omega (arith, ints) in
    subst (λ (z : ℤ). z *ℤ S ≡ (pos (unit * unit) *ℤ S) -ℤ (E *ℤ S) -ℤ (o *ℤ S)) (sym k) (less_mul (pos (unit * unit) -ℤ E) o S ∙ ap (λ (z : ℤ). z -ℤ (o *ℤ S)) (less_mul (pos (unit * unit)) E S))

factor_is : (E S C : ℤ)
    → E *ℤ ((S +ℤ C) -ℤ pos (unit * unit)) ≡ ((E *ℤ S) +ℤ (E *ℤ C)) -ℤ (pos (unit * unit) *ℤ E)
factor_is E S C = distrib_less E (S +ℤ C) (pos (unit * unit)) ∙ (let p = distrib E S C in let q = *ℤ_comm E (pos (unit * unit)) in omega (arith, ints))

circle_off : (s c : ℤ) → NearCircle s c
    → IsWithin (16 * unit) (((s *ℤ s) +ℤ (c *ℤ c)) -ℤ pos (unit * unit))
circle_off s c n = record { low = omega (arith, ints, n.below, n.above); high = omega (arith, ints, n.below, n.above) }

-- the squares of (c - e) one and w s add up to that of one^2 - e c
pub plain_squares : (e c s w : ℤ) → IsWithin eccentricity_amount e → IsWithin (unit + 8) s
    → NearCircle s c → pos 0 ≤ℤ ((pos (unit * unit) -ℤ (e *ℤ e)) -ℤ (w *ℤ w))
    → ((pos (unit * unit) -ℤ (e *ℤ e)) -ℤ (w *ℤ w)) ≤ℤ pos (2 * unit) →
    IsWithin (24 * (unit * unit * unit)) (((((c -ℤ e) *ℤ pos unit) *ℤ ((c -ℤ e) *ℤ pos unit)) +ℤ ((w *ℤ s) *ℤ (w *ℤ s))) -ℤ ((pos (unit * unit) -ℤ (e *ℤ c)) *ℤ (pos (unit * unit) -ℤ (e *ℤ c))))
plain_squares e c s w he hs n h k =
    let o = (pos (unit * unit) -ℤ (e *ℤ e)) -ℤ (w *ℤ w) in
    let S = s *ℤ s in
    let C = c *ℤ c in
    let E = e *ℤ e in
    let os : IsWithin (4 * (unit * unit * unit)) (o *ℤ S) = wide ((2 * unit) * ((unit + 8) * (unit + 8))) (4 * (unit * unit * unit)) (o *ℤ S) (lit≤ tt) (product_within (2 * unit) ((unit + 8) * (unit + 8)) o S (record { low = omega (arith, ints); high = k }) (product_within (unit + 8) (unit + 8) s s hs hs)) in
    let es : IsWithin (unit * unit * unit) (((E *ℤ S) +ℤ (E *ℤ C)) -ℤ (pos (unit * unit) *ℤ E)) = subst (λ (z : ℤ). IsWithin (unit * unit * unit) z) (factor_is E S C) (wide ((eccentricity_amount * eccentricity_amount) * (16 * unit)) (unit * unit * unit) (E *ℤ ((S +ℤ C) -ℤ pos (unit * unit))) (lit≤ tt) (product_within (eccentricity_amount * eccentricity_amount) (16 * unit) E ((S +ℤ C) -ℤ pos (unit * unit)) (product_within eccentricity_amount eccentricity_amount e e he he) (circle_off s c n))) in
    let ec : E *ℤ C ≡ (e *ℤ c) *ℤ (e *ℤ c) = sym (swap4 e e c c) in
    let j = join C S (e *ℤ c) E (w *ℤ w) (E *ℤ S) ((w *ℤ w) *ℤ S) (E *ℤ C) ((e *ℤ c) *ℤ (e *ℤ c)) o refl h k (circle_off s c n) ec (lack_is E (w *ℤ w) S o refl) os es in
    let p : ((c -ℤ e) *ℤ pos unit) *ℤ ((c -ℤ e) *ℤ pos unit) ≡ pos (unit * unit) *ℤ ((C -ℤ (e *ℤ c)) -ℤ ((e *ℤ c) -ℤ E)) = swap4 (c -ℤ e) (c -ℤ e) (pos unit) (pos unit) ∙ *ℤ_comm ((c -ℤ e) *ℤ (c -ℤ e)) (pos (unit * unit)) ∙ ap (λ (z : ℤ). pos (unit * unit) *ℤ z) (square_of_difference c e ∙ ap (λ (z : ℤ). (C -ℤ z) -ℤ (z -ℤ E)) (*ℤ_comm c e)) in
    let q : (w *ℤ s) *ℤ (w *ℤ s) ≡ (w *ℤ w) *ℤ S = swap4 w w s s in
    let r = square_of_difference (pos (unit * unit)) (e *ℤ c) in
    rw (p, q, r) j

-- a sum V of squares times g^2 is one^2 g^2, within 60 one^3
pub back : (V G : ℤ) → pos (49 * 10 ^ 30) ≤ℤ G
    → IsWithin (60 * (unit * unit * unit)) ((V *ℤ G) -ℤ (G *ℤ pos (unit * unit)))
    → Between (pos (unit * unit - 200 * unit)) (pos (unit * unit + 200 * unit)) V
back V G h w =
    let p : pos 0 <ℤ G = omega (arith, ints) in
    record { from = mul_le_back (pos (unit * unit - 200 * unit)) V G p (omega (arith, ints, w.low)); to = mul_le_back V (pos (unit * unit + 200 * unit)) G p (omega (arith, ints, w.high)) }

pub gather : (P Q N p q n : ℤ) → IsWithin (24 * (unit * unit * unit)) ((P +ℤ Q) -ℤ N)
    → IsWithin (2 * unit * (2 * unit + 2 * (3 * (unit * unit)))) (p -ℤ P)
    → IsWithin (2 * unit * (2 * unit + 2 * (3 * (unit * unit)))) (q -ℤ Q)
    → IsWithin (unit * (unit + 2 * (2 * (unit * unit)))) (n -ℤ N)
    → IsWithin (60 * (unit * unit * unit)) ((p +ℤ q) -ℤ n)
gather P Q N p q n a b c d = record { low = omega (arith, ints, a.low, a.high, b.low, b.high, c.low, c.high, d.low, d.high); high = omega (arith, ints, a.low, a.high, b.low, b.high, c.low, c.high, d.low, d.high) }

-- ---- the true anomaly

record DivisorIs (g : ℤ) : Type 0 where
  low : pos (7 * 10 ^ 15) ≤ℤ g
  high : g ≤ℤ pos (2 * unit)

divisor_from : (p g : ℤ) → IsWithin (eccentricity_amount * (unit + 8)) p
    → Near (pos (unit * unit) -ℤ p) (pos unit) g → DivisorIs g
divisor_from p g w n = record { low = omega (arith, ints, w.low, w.high, n.below, n.above); high = omega (arith, ints, w.low, w.high, n.below, n.above) }

total_within : (p : ℤ) → IsWithin (eccentricity_amount * (unit + 8)) p
    → IsWithin (2 * (unit * unit)) (pos (unit * unit) -ℤ p)
total_within p w = record { low = omega (arith, ints, w.high); high = omega (arith, ints, w.low) }

root_most : (w : ℕ) → w * w ≤ unit * unit → w ≤ unit
root_most w h = grind (arith, square-mono (unit + 1) w, h)

record Lack (E W : ℤ) (w : ℕ) : Type 0 where
  low : pos 0 ≤ℤ ((pos (unit * unit) -ℤ E) -ℤ W)
  high : ((pos (unit * unit) -ℤ E) -ℤ W) ≤ℤ pos (2 * unit)
  root : w ≤ unit

lack_from : (E : ℤ) (w : ℕ) → pos 0 ≤ℤ E → (pos (w * w) +ℤ E) ≤ℤ pos (unit * unit)
    → pos (unit * unit) <ℤ (pos ((w + 1) * (w + 1)) +ℤ E) → Lack E (pos (w * w)) w
lack_from E w p h k =
    let r = root_most w (omega (arith, ints)) in
    record { low = omega (arith, ints); high = omega (arith, ints); root = r }

difference_small : (c e : ℤ) → IsWithin (unit + 8) c → IsWithin eccentricity_amount e
    → IsWithin (3 * unit) (c -ℤ e)
difference_small c e p q = record { low = omega (arith, ints, p.low, q.high); high = omega (arith, ints, p.high, q.low) }

root_within : (w : ℕ) → w ≤ unit → IsWithin unit (pos w)
root_within w h = record { low = omega (arith, ints); high = omega (arith, ints) }

square_least : (g : ℤ) → pos (7 * 10 ^ 15) ≤ℤ g → pos (49 * 10 ^ 30) ≤ℤ (g *ℤ g)
square_least g h =
    let a : (pos (7 * 10 ^ 15) *ℤ g) ≤ℤ (g *ℤ g) = mul_mono (pos (7 * 10 ^ 15)) g g h (omega (arith, ints)) in
    omega (arith, ints)

pub true_squares : (e c s g cn sn : ℤ) (w : ℕ) → pos 0 ≤ℤ e → e ≤ℤ pos eccentricity_amount
    → IsWithin (unit + 8) c → IsWithin (unit + 8) s → NearCircle s c
    → (pos (w * w) +ℤ (e *ℤ e)) ≤ℤ pos (unit * unit)
    → pos (unit * unit) <ℤ (pos ((w + 1) * (w + 1)) +ℤ (e *ℤ e))
    → Near (pos (unit * unit) -ℤ (e *ℤ c)) (pos unit) g → Near ((c -ℤ e) *ℤ pos unit) g cn
    → Near (pos w *ℤ s) g sn → Squares (unit * unit - 200 * unit) (unit * unit + 200 * unit) cn sn
true_squares e c s g cn sn w h k C S n fl fh ng nc ns =
    let E = within_of e h k in
    let l = lack_from (e *ℤ e) w (square_natural e) fl fh in
    let p = product_within eccentricity_amount (unit + 8) e c E C in
    let d = divisor_from (e *ℤ c) g p ng in
    let P : IsWithin (3 * (unit * unit)) ((c -ℤ e) *ℤ pos unit) = wide (3 * unit * unit) (3 * (unit * unit)) ((c -ℤ e) *ℤ pos unit) (lit≤ tt) (product_within (3 * unit) unit (c -ℤ e) (pos unit) (difference_small c e C E) one_within) in
    let Q : IsWithin (3 * (unit * unit)) (pos w *ℤ s) = wide (unit * (unit + 8)) (3 * (unit * unit)) (pos w *ℤ s) (lit≤ tt) (product_within unit (unit + 8) (pos w) s (root_within w l.root) S) in
    let x = near_squares (cn *ℤ g) ((c -ℤ e) *ℤ pos unit) (2 * unit) (3 * (unit * unit)) (times_near ((c -ℤ e) *ℤ pos unit) g cn (2 * unit) d.high nc) P in
    let y = near_squares (sn *ℤ g) (pos w *ℤ s) (2 * unit) (3 * (unit * unit)) (times_near (pos w *ℤ s) g sn (2 * unit) d.high ns) Q in
    let z = near_squares (g *ℤ pos unit) (pos (unit * unit) -ℤ (e *ℤ c)) unit (2 * (unit * unit)) (times_near (pos (unit * unit) -ℤ (e *ℤ c)) (pos unit) g unit (record { le = tt }) ng) (total_within (e *ℤ c) p) in
    let a = gather (((c -ℤ e) *ℤ pos unit) *ℤ ((c -ℤ e) *ℤ pos unit)) ((pos w *ℤ s) *ℤ (pos w *ℤ s)) ((pos (unit * unit) -ℤ (e *ℤ c)) *ℤ (pos (unit * unit) -ℤ (e *ℤ c))) ((cn *ℤ g) *ℤ (cn *ℤ g)) ((sn *ℤ g) *ℤ (sn *ℤ g)) ((g *ℤ pos unit) *ℤ (g *ℤ pos unit))
    (plain_squares e c s (pos w) E S n l.low l.high) x y z in
    let v : ((cn *ℤ g) *ℤ (cn *ℤ g)) +ℤ ((sn *ℤ g) *ℤ (sn *ℤ g)) ≡ ((cn *ℤ cn) +ℤ (sn *ℤ sn)) *ℤ (g *ℤ g) = ap (λ (z : ℤ). z +ℤ ((sn *ℤ g) *ℤ (sn *ℤ g))) (swap4 cn cn g g) ∙ ap (λ (z : ℤ). ((cn *ℤ cn) *ℤ (g *ℤ g)) +ℤ z) (swap4 sn sn g g) ∙ sym (add_mul (cn *ℤ cn) (sn *ℤ sn) (g *ℤ g)) in
    let b = subst (λ (z : ℤ). IsWithin (60 * (unit * unit * unit)) (z -ℤ ((g *ℤ pos unit) *ℤ (g *ℤ pos unit)))) v a in
    back ((cn *ℤ cn) +ℤ (sn *ℤ sn)) (g *ℤ g) (square_least g d.low) (subst (λ (z : ℤ). IsWithin (60 * (unit * unit * unit)) ((((cn *ℤ cn) +ℤ (sn *ℤ sn)) *ℤ (g *ℤ g)) -ℤ z)) (swap4 g g (pos unit) (pos unit)) b)
