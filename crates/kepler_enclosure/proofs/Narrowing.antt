-- Each round of the iteration keeps every eccentric anomaly and takes four fifths of the excess away.
use Rattle.std.proofs.Common.{◌≡◌, ℕ, ◌+◌, ◌*◌, ◌^◌, ◌/◌, ◌≤◌, arith, sym, ap, ◌∙◌}
use Rattle.std.specs.Prelude.{ℤ, pos, neg_ℤ, nat_abs, ◌-ℤ◌, ◌+ℤ◌, ◌*ℤ◌, ◌≤ℤ◌}
use Rattle.std.specs.Int.{int_div_euclid}
use Rattle.std.proofs.lemmas.Int.{ints}
use lib.IntN.{*ℤ_comm}
use Rattle.grid_model.specs.Sizes.{IsWithin}
use Rattle.grid_model.specs.Intervals.{Between, Ends}
use Rattle.grid_model.specs.Rounding.{Near, IsFloor, IsTightRound}
use Rattle.grid_model.specs.Products.{least_product, greatest_product}
use Rattle.grid_model.specs.Angles.{unit}
use Rattle.gnss_model.specs.Kepler.{Kepler}
use Rattle.grid_model.proofs.ProductLemmas.{mul_neg, mul_mono}
use Rattle.grid_model.proofs.RoundingLemmas.{floor_is, floor_near}
use Rattle.grid_model.proofs.EndsLemmas.{product_ends}
use Rattle.interval_trig.proofs.Smoothness.{sine_value_small}

-- the greatest eccentricity, a fifth
abbrev pub fifth : ℕ
fifth = 2 * 10 ^ 15

-- ---- the start

-- e s, where e is at most a fifth and s at most one and eight units
record ProductBounds (e p : ℤ) : Type 0 where
  above : p ≤ℤ (e *ℤ pos unit +ℤ pos (2 * unit))
  below : neg_ℤ (e *ℤ pos unit +ℤ pos (2 * unit)) ≤ℤ p

product_bounds_of : (e p q r : ℤ) → pos 0 ≤ℤ e → e ≤ℤ pos fifth → q ≤ℤ (pos (unit + 8) *ℤ e)
    → r ≤ℤ (pos (unit + 8) *ℤ e) → p ≡ q → p ≡ neg_ℤ r → ProductBounds e p
product_bounds_of e p q r h k f g i j = record { above = omega (arith, ints); below = omega (arith, ints) }

double_neg : (z : ℤ) → z ≡ neg_ℤ (neg_ℤ z)
double_neg z = omega (arith, ints)

product_bounds : (e s : ℤ) → pos 0 ≤ℤ e → e ≤ℤ pos fifth → IsWithin (unit + 8) s
    → ProductBounds e (e *ℤ s)
product_bounds e s h k w =
    product_bounds_of e (e *ℤ s) (s *ℤ e) (neg_ℤ s *ℤ e) h k (mul_mono s (pos (unit + 8)) e w.high h)
    (mul_mono (neg_ℤ s) (pos (unit + 8)) e (omega (arith, ints, w.low)) h) (*ℤ_comm e s)
    (double_neg (e *ℤ s) ∙ ap neg_ℤ (sym (mul_neg e s) ∙ *ℤ_comm e (neg_ℤ s)))

start_between : (lo hi top a e x p q : ℤ) → Between lo hi a → e ≤ℤ top → ProductBounds e p
    → ProductBounds e q → ((x *ℤ pos unit) -ℤ p) ≤ℤ (a *ℤ pos unit)
    → (a *ℤ pos unit) ≤ℤ (((x +ℤ pos 1) *ℤ pos unit) -ℤ q)
    → Between (lo -ℤ (top +ℤ pos 4)) (hi +ℤ (top +ℤ pos 4)) x
start_between lo hi top a e x p q b h f g k l = record { from = omega (arith, ints, b.from, g.above, g.below); to = omega (arith, ints, b.to, f.above, f.below) }

-- every eccentric anomaly is within one eccentricity and four units of the mean anomaly
pub start_holds : (lo hi low top a e x : ℤ) → pos 0 ≤ℤ low → top ≤ℤ pos fifth → Between lo hi a
    → Between low top e → Kepler a e x → Between (lo -ℤ (top +ℤ pos 4)) (hi +ℤ (top +ℤ pos 4)) x
start_holds lo hi low top a e x h k p q v =
    let l : pos 0 ≤ℤ e = omega (arith, ints, q.from) in
    let m : e ≤ℤ pos fifth = omega (arith, ints, q.to) in
    start_between lo hi top a e x (e *ℤ v.here) (e *ℤ v.after) p q.to
    (product_bounds e v.here l m (sine_value_small x v.here v.sine_here)) (product_bounds e v.after l m (sine_value_small (x +ℤ pos 1) v.after v.sine_after)) v.below v.above

-- ---- one round

narrow_between : (lo hi a x v w p q l h : ℤ) → Between lo hi a → IsFloor p (pos unit) v
    → IsFloor q (pos unit) w → Between l h v → Between l h w
    → ((x *ℤ pos unit) -ℤ p) ≤ℤ (a *ℤ pos unit)
    → (a *ℤ pos unit) ≤ℤ (((x +ℤ pos 1) *ℤ pos unit) -ℤ q)
    → Between ((lo -ℤ pos 1) +ℤ l) (hi +ℤ h) x
narrow_between lo hi a x v w p q l h b f g i j k m = record { from = omega (arith, ints, b.from, g.le, g.gt, j.from); to = omega (arith, ints, b.to, f.le, f.gt, i.to) }

pub narrow_holds : (lo hi a e x l h : ℤ) → Between lo hi a → (v : Kepler a e x)
    → ((w : ℤ) → Near (e *ℤ v.here) (pos unit) w → Between l h w)
    → ((w : ℤ) → Near (e *ℤ v.after) (pos unit) w → Between l h w)
    → Between ((lo -ℤ pos 1) +ℤ l) (hi +ℤ h) x
narrow_holds lo hi a e x l h b v f g =
    let i : IsFloor (e *ℤ v.here) (pos unit) (int_div_euclid (e *ℤ v.here) (pos unit)) = floor_is (e *ℤ v.here) (pos unit) (record { lt = tt }) in
    let j : IsFloor (e *ℤ v.after) (pos unit) (int_div_euclid (e *ℤ v.after) (pos unit)) = floor_is (e *ℤ v.after) (pos unit) (record { lt = tt }) in
    narrow_between lo hi a x _ _ (e *ℤ v.here) (e *ℤ v.after) l h b i j (f _ (floor_near _ _ _ (record { lt = tt }) i)) (g _ (floor_near _ _ _ (record { lt = tt }) j)) v.below v.above

-- the ends of e s over one: amounts in, amounts out
pub swing_ends : (v w : ℕ) (a b c d l h : ℤ) → v ≤ fifth → Ends fifth v a b → Ends (unit + 8) w c d
    → l ≤ℤ h
    → IsTightRound (least_product a b c d) (pos unit) (greatest_product a b c d) (pos unit) l h
    → Ends (fifth + 2 + 2) (w / 5 + 1 + v + 2 + 4) l h
swing_ends v w a b c d l h s e f o t =
    product_ends fifth v (unit + 8) w (fifth + 2) (w / 5 + 1 + v + 2) a b c d (pos unit) l h e f (record { lt = tt }) (omega (arith, ints)) (omega (arith, ints)) o t

-- ---- the loop

-- every eccentric anomaly is held, and x is at most v wider than it has to be
pub record Narrowing (ml mh el eh xl xh : ℤ) (v : ℕ) : Type 0 where
  pub holds : (a e x : ℤ) → Between ml mh a → Between el eh e → Kepler a e x → Between xl xh x
  pub width : (xh -ℤ xl) ≤ℤ (pos 2 *ℤ ((mh -ℤ ml) +ℤ (eh -ℤ el)) +ℤ pos 16 +ℤ pos v)
  pub low_size : IsWithin (61 * unit) xl
  pub high_size : IsWithin (61 * unit) xh

pub narrower : (m e w u : ℤ) (v : ℕ) → pos 0 ≤ℤ m → pos 0 ≤ℤ e
    → (pos 5 *ℤ u) ≤ℤ (pos 5 *ℤ m +ℤ (pos 5 *ℤ e) +ℤ w +ℤ pos 60)
    → w ≤ℤ (pos 2 *ℤ (m +ℤ e) +ℤ pos 16 +ℤ pos v)
    → u ≤ℤ (pos 2 *ℤ (m +ℤ e) +ℤ pos 16 +ℤ pos (v / 5 + 1))
narrower m e w u v p q h k = omega (arith, ints)

pub final_width : (m e w : ℤ) (v : ℕ) → v ≤ 40 → w ≤ℤ (pos 2 *ℤ (m +ℤ e) +ℤ pos 16 +ℤ pos v)
    → w ≤ℤ (pos 2 *ℤ (m +ℤ e) +ℤ pos 64)
final_width m e w v h k = omega (arith, ints)

-- what a round doesn't change is as narrow as it makes anything
pub settled_width : (m e xl xh nl nh : ℤ) → nl ≡ xl → nh ≡ xh → pos 0 ≤ℤ m → pos 0 ≤ℤ e
    → (pos 5 *ℤ (nh -ℤ nl)) ≤ℤ (pos 5 *ℤ m +ℤ (pos 5 *ℤ e) +ℤ (xh -ℤ xl) +ℤ pos 60)
    → (xh -ℤ xl) ≤ℤ (pos 2 *ℤ (m +ℤ e) +ℤ pos 64)
settled_width m e xl xh nl nh f g p q h = omega (arith, ints)

-- the widths of one round, put together
pub round_width : (ml mh el eh xl xh pl ph rl rh : ℤ)
    → (pos 5 *ℤ (ph -ℤ pl)) ≤ℤ ((xh -ℤ xl) +ℤ (pos 5 *ℤ (eh -ℤ el)) +ℤ pos 55)
    → rl ≡ (ml -ℤ pos 1) +ℤ pl → rh ≡ mh +ℤ ph
    → (pos 5 *ℤ (rh -ℤ rl)) ≤ℤ (pos 5 *ℤ (mh -ℤ ml) +ℤ (pos 5 *ℤ (eh -ℤ el)) +ℤ (xh -ℤ xl) +ℤ pos 60)
round_width ml mh el eh xl xh pl ph rl rh h e f = omega (arith, ints)

pub swing_width : (el eh xl xh nl nh sl sh pl ph : ℤ) → el ≤ℤ eh → sl ≤ℤ sh → nl ≡ xl
    → nh ≡ xh +ℤ pos 1 → (sh -ℤ sl) ≤ℤ ((nh -ℤ nl) +ℤ pos 16)
    → (ph -ℤ pl) ≤ℤ pos (nat_abs (sh -ℤ sl) / 5 + 1 + nat_abs (eh -ℤ el) + 2 + 4)
    → (pos 5 *ℤ (ph -ℤ pl)) ≤ℤ ((xh -ℤ xl) +ℤ (pos 5 *ℤ (eh -ℤ el)) +ℤ pos 55)
swing_width el eh xl xh nl nh sl sh pl ph o q e f h k = omega (arith, ints)

pub moved_low : (m p r : ℤ) → IsWithin (60 * unit) m → IsWithin (fifth + 4) p
    → r ≡ (m -ℤ pos 1) +ℤ p → IsWithin (61 * unit) r
moved_low m p r v w e = record { low = omega (arith, ints); high = omega (arith, ints) }

pub moved_high : (m p r : ℤ) → IsWithin (60 * unit) m → IsWithin (fifth + 4) p → r ≡ m +ℤ p
    → IsWithin (61 * unit) r
moved_high m p r v w e = record { low = omega (arith, ints); high = omega (arith, ints) }
