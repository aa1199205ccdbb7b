-- The nested sums fall as the square grows, and no faster than the square over the first divisor.
use Rattle.std.proofs.Common.{◌≡◌, ℕ, ◌+◌, ◌-◌, ◌*◌, ◌^◌, ◌≤◌, ◌<◌, arith, ap, List, [], ◌∷◌, lit≤, subst}
use Rattle.std.proofs.lemmas.Nat.{mul-le}
use Rattle.std.proofs.Math.Nat.{mul-le-mul_right, mul-le-mul_left, le_of_mul-le-mul_left, le_trans, mul-pos}
use Rattle.grid_model.specs.Angles.{unit}
use Rattle.interval_trig.specs.NestedSums.{plain_num, nested_den}
use Rattle.interval_trig.proofs.HornerSteps.{small_step, times_less}

-- two numerators f >= g over e, of the squares y <= z: u stands for unit^2 and d for the first divisor
pub record Falls (u d y z f g e : ℕ) : Type 0 where
  pub order : g ≤ f
  pub slope : (f - g) * (d * u) ≤ (z - y) * e
  pub near_one : d * u * e ≤ g * (d * u) + z * e
  pub small : f ≤ e

cross_times : (u n y z f g e df dz : ℕ) → y ≤ z → 2 * z ≤ n → df * n ≤ dz * e
    → n * e ≤ g * n + z * e → f ≡ g + df → z ≡ y + dz → n * (y * f) ≤ n * (z * g)
cross_times u n y z f g e df dz h k s o ef ez =
    let a : y * (df * n) ≤ y * (dz * e) = mul-le-mul_left y s in
    -- y e <= g n
    let b : y * e ≤ z * e = mul-le-mul_right e h in
    let c : (2 * z) * e ≤ n * e = mul-le-mul_right e k in
    let b' : y * e ≤ g * n = omega arith in
    let d : dz * (y * e) ≤ dz * (g * n) = mul-le-mul_left dz b' in
    let m = ap (λ (x : ℕ). y * n * x) ef in
    let i = ap (λ (x : ℕ). x * (n * g)) ez in
    omega (arith, m, i)

difference_le : (n p q r : ℕ) → p ≤ q → q ≤ n → q ≤ r + p → (n - p) - (n - q) ≤ r
difference_le n p q r h k l = omega arith

regroup : (w v g n e t : ℕ) → n ≡ v * e → t ≤ (w * g) * v → (w * v) * g ≤ (w * v) * e → t ≤ w * n
regroup w v g n e t h k l = let m = ap (λ (x : ℕ). w * x) h in omega (arith, m)

slope_of : (u c y z f g e : ℕ) → g ≤ e → g ≤ f → y ≤ z → y * f ≤ z * g → z * g ≤ c * u * e
    → ((c * u * e - y * f) - (c * u * e - z * g)) * (c * u) ≤ (z - y) * (c * u * e)
slope_of u c y z f g e ge o h x b =
    let m : y * g ≤ y * f = mul-le-mul_left y o in
    let k = times_less z y g h in
    let t : (c * u * e - y * f) - (c * u * e - z * g) ≤ (z - y) * g = difference_le (c * u * e) (y * f) (z * g) ((z - y) * g) x b (omega arith) in
    let r : ((c * u * e - y * f) - (c * u * e - z * g)) * (c * u) ≤ ((z - y) * g) * (c * u) = mul-le-mul_right (c * u) t in
    let q : ((z - y) * (c * u)) * g ≤ ((z - y) * (c * u)) * e = mul-le-mul_left ((z - y) * (c * u)) ge in
    regroup (z - y) (c * u) g (c * u * e) e _ (omega arith) r q

near_of : (u c z g e : ℕ) → g ≤ e → z * g ≤ c * u * e
    → c * u * (c * u * e) ≤ (c * u * e - z * g) * (c * u) + z * (c * u * e)
near_of u c z g e o b =
    let k = times_less (c * u * e) (z * g) (c * u) b in
    let m : (z * (c * u)) * g ≤ (z * (c * u)) * e = mul-le-mul_left (z * (c * u)) o in
    omega (arith, k)

-- y f <= z g
cross : (u d y z f g e : ℕ) → 0 < d → 0 < u → y ≤ z → 2 * z ≤ d * u → Falls u d y z f g e
    → y * f ≤ z * g
cross u d y z f g e p q h k w = le_of_mul-le-mul_left (cross_times u (d * u) y z f g e (f - g) (z - y) h k w.slope w.near_one (let o = w.order in omega arith) (omega arith)) (mul-pos p q)

pub falls_step : (u c d y z f g e : ℕ) → 0 < d → 0 < u → 1 ≤ c → y ≤ z → z ≤ u → 2 * z ≤ d * u
    → Falls u d y z f g e →
    Falls u c y z (c * u * e - y * f) (c * u * e - z * g) (c * u * e)
falls_step u c d y z f g e p q r h l k w =
    let x : y * f ≤ z * g = cross u d y z f g e p q h k w in
    let b : z * g ≤ c * u * e = small_step u z g e c l (le_trans w.order w.small) r in
    record { order = omega arith; slope = slope_of u c y z f g e (le_trans w.order w.small) w.order h x b; near_one = near_of u c z g e (le_trans w.order w.small) b; small = omega arith }

twice : (u c z : ℕ) → z ≤ u → 2 ≤ c → 2 * z ≤ c * u
twice u c z h k = mul-le 2 z c u k h

innermost_slope : (d y z u : ℕ) → y ≤ z → z ≤ u → 2 ≤ d
    → ((d * u * 1 - y * 1) - (d * u * 1 - z * 1)) * (d * u) ≤ (z - y) * (d * u * 1)
innermost_slope d y z u h k l =
    let m : 2 * u ≤ d * u = mul-le-mul_right u l in
    let t : (d * u * 1 - y * 1) - (d * u * 1 - z * 1) ≤ z - y = omega arith in
    let r = mul-le-mul_right (d * u) t in
    omega (arith, r)

innermost_near : (d z u : ℕ) → z ≤ u → 2 ≤ d
    → d * u * (d * u * 1) ≤ (d * u * 1 - z * 1) * (d * u) + z * (d * u * 1)
innermost_near d z u k l =
    let m : 2 * u ≤ d * u = mul-le-mul_right u l in
    let e = times_less (d * u) z (d * u) (omega arith) in
    let f : d * u * 1 ≡ d * u = omega arith in
    let g : z * 1 ≡ z = omega arith in
    rw (f, g) (omega (arith, e))

-- a list of divisors of which each is at least 2
abbrev pub AllAtLeast : ℕ → List ℕ → Type 0
AllAtLeast n [] = Unit {0}
AllAtLeast n (d ∷ ds) = (n ≤ d) × AllAtLeast n ds

-- the innermost sum, 1 - y/d, and the sums round it
pub falls_all : (y z d : ℕ) (ds : List ℕ) → y ≤ z → z ≤ unit ^ 2 → 2 ≤ d → AllAtLeast 2 ds
    → Falls (unit ^ 2) d y z (plain_num y (d ∷ ds)) (plain_num z (d ∷ ds)) (nested_den (d ∷ ds))
falls_all y z d [] h k l a = record { order = omega arith; slope = innermost_slope d y z (unit ^ 2) h k l; near_one = innermost_near d z (unit ^ 2) k l; small = omega arith }
falls_all y z d (c ∷ ds) h k l a =
    falls_step (unit ^ 2) d c y z (plain_num y (c ∷ ds)) (plain_num z (c ∷ ds)) (nested_den (c ∷ ds)) (omega arith) (lit≤ tt) (omega arith) h k (twice (unit ^ 2) c z k a.0) (falls_all y z c ds h k a.0 a.1)

pub slope_by : (v d a b f g e j df : ℕ) → a ≤ b → b ≡ a + j → f ≡ g + df
    → Falls v d (a * a) (b * b) f g e → df * (d * v) ≤ (j * (a + b)) * e
slope_by v d a b f g e j df h ej ef w =
    let x : f - g ≡ df = omega arith in
    let y : b * b - a * a ≡ j * (a + b) = let i = ap (λ (x : ℕ). x * (a + b)) ej in omega (arith, i) in
    subst (λ (n : ℕ). n * (d * v) ≤ (j * (a + b)) * e) x (subst (λ (n : ℕ). (f - g) * (d * v) ≤ n * e) y w.slope)

-- a (f - g) <= (b - a) g, over d v
rise_low : (v d a b f g e j df : ℕ) → 0 < v → 2 ≤ d → a ≤ b → b ≡ a + j → f ≡ g + df
    → 3 * (b * b) ≤ d * v → Falls v d (a * a) (b * b) f g e → a * f ≤ b * g
rise_low v d a b f g e j df p q h ej ef k w =
    let s : df * (d * v) ≤ (j * (a + b)) * e = slope_by v d a b f g e j df h ej ef w in
    let x : a * (df * (d * v)) ≤ a * ((j * (a + b)) * e) = mul-le-mul_left a s in
    -- a (a + b) e <= g d v
    let r : a * (a + b) ≤ b * (b + b) = mul-le a (a + b) b (b + b) h (omega arith) in
    let r' : (a * (a + b)) * e ≤ (2 * (b * b)) * e = mul-le-mul_right e (omega arith) in
    let n : (3 * (b * b)) * e ≤ (d * v) * e = mul-le-mul_right e k in
    let y : (a * (a + b)) * e ≤ g * (d * v) = let z = w.near_one in omega arith in
    let x' : j * ((a * (a + b)) * e) ≤ j * (g * (d * v)) = mul-le-mul_left j y in
    let c : (d * v) * (a * df) ≤ (d * v) * (j * g) = omega arith in
    let c' : a * df ≤ j * g = le_of_mul-le-mul_left c (mul-pos (omega arith) p) in
    let i = ap (λ (x : ℕ). a * x) ef in
    let l = ap (λ (x : ℕ). x * g) ej in
    omega (arith, i, l)

-- the sine's sum a f(a^2): it rises, and no faster than a. v is unit^2, f and g are the numerators at a^2 and b^2
pub rises : (v d a b f g e : ℕ) → 0 < v → 2 ≤ d → a ≤ b → 3 * (b * b) ≤ d * v
    → Falls v d (a * a) (b * b) f g e → (a * f ≤ b * g) × (b * g ≤ a * f + (b - a) * e)
rises v d a b f g e p q h k w =
    let o = w.order in
    let n : a * g ≤ a * f = mul-le-mul_left a o in
    let m : (b - a) * g ≤ (b - a) * e = mul-le-mul_left (b - a) (le_trans o w.small) in
    let t = times_less b a g h in
    (rise_low v d a b f g e (b - a) (f - g) p q h (omega arith) (omega arith) k w, omega (arith, t))
