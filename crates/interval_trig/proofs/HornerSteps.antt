-- One step of the nested sums, on naturals.
use Rattle.std.proofs.Common.{lit≤, ◌≡◌, ℕ, ◌+◌, ◌-◌, ◌*◌, ◌^◌, ◌/◌, ◌≤◌, ◌<◌, arith, refl, ap, List, [], ◌∷◌, ◌∙◌}
use Rattle.std.specs.Prelude.{ℤ, pos, ◌-ℤ◌, ◌*ℤ◌}
use Rattle.std.proofs.lemmas.Int.{ints}
use Rattle.std.proofs.lemmas.Nat.{mul-le}
use Rattle.std.proofs.Math.Nat.{mul-le-mul_right, mul-le-mul_left, div-add-mod', mod-lt, div-mul-le_self, le_of_mul-le-mul_left, le_trans, mul-pos}
use Rattle.std.proofs.lemmas.Nat.{le-div}
use Rattle.grid_model.specs.Angles.{unit}
use Rattle.interval_trig.specs.NestedSums.{fine, Holds, nested_num, nested_den, plain_num}

-- u stands for `fine`, and g u for the square of `unit`: the new ends lie round (d g u e - y f) / (d g u e)
step_low : (u g d y f e yh h q : ℕ) → y ≤ yh * g → u * f ≤ h * e → yh * h ≤ q * (d * u)
    → u * (y * f) ≤ q * (d * (g * u) * e)
step_low u g d y f e yh h q a b c =
    let k : y * (u * f) ≤ (yh * g) * (h * e) = mul-le y (u * f) (yh * g) (h * e) a b in
    let l : (yh * h) * (g * e) ≤ (q * (d * u)) * (g * e) = mul-le-mul_right (g * e) c in
    omega arith

step_high : (u g d y f e yl l q : ℕ) → yl * g ≤ y → l * e ≤ u * f → q * (d * u) ≤ yl * l
    → q * (d * (g * u) * e) ≤ u * (y * f)
step_high u g d y f e yl l q a b c =
    let k : (yl * g) * (l * e) ≤ y * (u * f) = mul-le (yl * g) (l * e) y (u * f) a b in
    let m : (q * (d * u)) * (g * e) ≤ (yl * l) * (g * e) = mul-le-mul_right (g * e) c in
    omega arith

-- a difference times a number
pub times_less : (a b n : ℕ) → b ≤ a → (a - b) * n + b * n ≡ a * n
times_less a b n h = let e : (a - b) + b ≡ a = omega arith in let k = ap (λ (x : ℕ). x * n) e in omega (arith, k)

pub less_low : (u q n p : ℕ) → q ≤ u → u * p ≤ q * n → (u - q) * n ≤ u * (n - p)
less_low u q n p g h =
    let k = times_less u q n g in
    let m : u * n ≤ u * ((n - p) + p) = mul-le-mul_left u (omega arith) in
    omega (arith, k)

pub less_high : (u q n p : ℕ) → q ≤ u → p ≤ n → q * n ≤ u * p → u * (n - p) ≤ (u - q) * n
less_high u q n p g l h =
    let k = times_less u q n g in
    let e : (n - p) + p ≡ n = omega arith in
    let m = ap (λ (x : ℕ). u * x) e in
    omega (arith, k, m)

-- a quotient rounded up and down, times its divisor
pub above_quotient : (n m : ℕ) → 0 < m → n ≤ (n / m + 1) * m
above_quotient n m h = omega (arith, div-add-mod' n m, mod-lt n h)

pub below_quotient : (n m : ℕ) → (n / m) * m ≤ n
below_quotient n m = div-mul-le_self n m

-- the product of a held square and a held fraction is below the denominator
pub small_product : (u g d y f e yh h : ℕ) → 0 < u → yh ≤ u → h ≤ u → 1 ≤ d → y ≤ yh * g
    → u * f ≤ h * e → y * f ≤ d * (g * u) * e
small_product u g d y f e yh h p a b k l m =
    let s : u * f ≤ u * e = le_trans m (mul-le-mul_right e b) in
    let t : f ≤ e = le_of_mul-le-mul_left s p in
    let v : y ≤ u * g = le_trans l (mul-le-mul_right g a) in
    let w : y * f ≤ (u * g) * e = mul-le y f (u * g) e v t in
    let x : 1 * ((u * g) * e) ≤ d * ((u * g) * e) = mul-le-mul_right ((u * g) * e) k in
    omega arith

pub div_mono : (a b m : ℕ) → 0 < m → a ≤ b → a / m ≤ b / m
div_mono a b m p h = le-div (a / m) b m p (le_trans (div-mul-le_self a m) h)

-- one step of the nested sum holds the next fraction
pub step_holds : (u g d yl yh l h y f e : ℕ) → 0 < u → 1 ≤ d → yh ≤ u → h ≤ u → yl ≤ yh → l ≤ h
    → yh * h / (d * u) + 1 ≤ u → yl * g ≤ y → y ≤ yh * g → l * e ≤ u * f → u * f ≤ h * e →
    ((u - (yh * h / (d * u) + 1)) * (d * (g * u) * e) ≤ u * (d * (g * u) * e - y * f)) × (u * (d * (g * u) * e - y * f) ≤ (u - yl * l / (d * u)) * (d * (g * u) * e))
step_holds u g d yl yh l h y f e p k a b a' b' q m n r s =
    let du : 0 < d * u = mul-pos (omega arith) p in
    let hi : u * (y * f) ≤ (yh * h / (d * u) + 1) * (d * (g * u) * e) = step_low u g d y f e yh h (yh * h / (d * u) + 1) n s (above_quotient (yh * h) (d * u) du) in
    let lo : (yl * l / (d * u)) * (d * (g * u) * e) ≤ u * (y * f) = step_high u g d y f e yl l (yl * l / (d * u)) m r (below_quotient (yl * l) (d * u)) in
    let sm : y * f ≤ d * (g * u) * e = small_product u g d y f e yh h p a b k n s in
    let ql : yl * l / (d * u) ≤ u = le_trans (div_mono (yl * l) (yh * h) (d * u) du (mul-le yl l yh h a' b')) (omega arith) in
    (less_low u (yh * h / (d * u) + 1) (d * (g * u) * e) (y * f) q hi, less_high u (yl * l / (d * u)) (d * (g * u) * e) (y * f) ql sm lo)

pub below_half : (u d yh h : ℕ) → 2 ≤ d → yh ≤ u → h ≤ u → 2 ≤ u → yh * h / (d * u) + 1 ≤ u
below_half u d yh h k a b q =
    let p : yh * h ≤ u * u = mul-le yh h u u a b in
    let m : 2 * u ≤ d * u = mul-le-mul_right u k in
    let r : 0 < d * u = omega arith in
    let x : (yh * h / (d * u)) * (2 * u) ≤ (yh * h / (d * u)) * (d * u) = mul-le-mul_left (yh * h / (d * u)) m in
    let y : (yh * h / (d * u)) * (2 * u) ≤ u * u = le_trans x (le_trans (div-mul-le_self (yh * h) (d * u)) p) in
    let z : u * ((yh * h / (d * u)) * 2) ≤ u * u = omega arith in
    let w : (yh * h / (d * u)) * 2 ≤ u = le_of_mul-le-mul_left z (omega arith) in
    omega arith

width_of : (u d yl yh l h q1 q2 w : ℕ) → 0 < u → 100 * yh ≤ 62 * u → yh ≤ yl + 5 → h ≤ u → h ≡ l + w
    → yl * l ≤ (q1 + 1) * (d * u) → q2 * (d * u) ≤ yh * h → q1 ≤ q2 → q2 + 1 ≤ u → yl ≤ yh →
    100 * d * ((u - q1) - (u - (q2 + 1))) ≤ 62 * w + 200 * d + 500
width_of u d yl yh l h q1 q2 w p a b m e x y z t o =
    let c : yh * h ≤ (yl + 5) * h = mul-le-mul_right h b in
    let f = ap (λ (n : ℕ). yl * n) e in
    let g : (100 * yl) * w ≤ (62 * u) * w = mul-le-mul_right w (omega arith) in
    let i : u * (100 * (d * q2)) ≤ u * (100 * (d * (q1 + 1)) + 62 * w + 500) = omega arith in
    let j : 100 * (d * q2) ≤ 100 * (d * (q1 + 1)) + 62 * w + 500 = le_of_mul-le-mul_left i p in
    let r : ((u - q1) - (u - (q2 + 1))) + q1 ≡ q2 + 1 = omega arith in
    let s = ap (λ (n : ℕ). d * n) r in
    omega (arith, s, f)

-- how wide one step's part is, where y is at most 62 hundredths and at most 4 wide
pub step_width : (u d yl yh l h : ℕ) → 0 < u → 1 ≤ d → 100 * yh ≤ 62 * u → yh ≤ yl + 5 → yl ≤ yh
    → h ≤ u → l ≤ h → yh * h / (d * u) + 1 ≤ u →
    100 * d * ((u - yl * l / (d * u)) - (u - (yh * h / (d * u) + 1))) ≤ 62 * (h - l) + 200 * d + 500
step_width u d yl yh l h p k a b b' m n q = width_of u d yl yh l h (yl * l / (d * u)) (yh * h / (d * u)) (h - l) p a b m (omega arith)
    (above_quotient (yl * l) (d * u) (mul-pos (omega arith) p)) (below_quotient (yh * h) (d * u)) (div_mono (yl * l) (yh * h) (d * u) (mul-pos (omega arith) p) (mul-le yl l yh h b' n)) (omega arith) b'

-- the nested numerators are not negative while the square is at most unit^2
abbrev pub AllPositive : List ℕ → Type 0
AllPositive [] = Unit {0}
AllPositive (d ∷ ds) = (1 ≤ d) × AllPositive ds

pub plain_le_den : (y : ℕ) (ds : List ℕ) → plain_num y ds ≤ nested_den ds
plain_le_den y [] = omega arith
plain_le_den y (d ∷ ds) = omega arith

difference : (a b : ℕ) → b ≤ a → pos a -ℤ pos b ≡ pos (a - b)
difference a b h = omega (arith, ints)

pub small_step : (u y f e d : ℕ) → y ≤ u → f ≤ e → 1 ≤ d → y * f ≤ d * u * e
small_step u y f e d h k l =
    let w : y * f ≤ u * e = mul-le y f u e h k in
    let x : 1 * (u * e) ≤ d * (u * e) = mul-le-mul_right (u * e) l in
    omega arith

pub nested_is_plain : (y : ℕ) (ds : List ℕ) → y ≤ unit ^ 2 → AllPositive ds
    → nested_num y ds ≡ pos (plain_num y ds)
nested_is_plain y [] h p = refl
nested_is_plain y (d ∷ ds) h p =
    ap (λ (n : ℤ). pos (d * unit ^ 2 * nested_den ds) -ℤ (pos y *ℤ n)) (nested_is_plain y ds h p.1) ∙
    difference (d * unit ^ 2 * nested_den ds) (y * plain_num y ds) (small_step (unit ^ 2) y (plain_num y ds) (nested_den ds) d h (plain_le_den y ds) p.0)

pub one_holds : Holds fine fine 1 1
one_holds = record { low = lit≤ tt; high = lit≤ tt }
