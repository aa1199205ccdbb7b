-- The mean motion by a division: n0 S^3 is the root of mu, so the quotient of that root and a cube is n0.
use Rattle.std.proofs.Common.{◌≡◌, ℕ, ◌+◌, ◌*◌, ◌/◌, ◌^◌, ◌≤◌, ◌<◌, arith, lit≤, ⊎_elim, ◌-◌}
use Rattle.std.specs.Prelude.{ℤ, pos, negsuc, nat_abs, ◌≤ℤ◌, ◌<ℤ◌}
use Rattle.std.proofs.lemmas.Int.{ints}
use Rattle.std.proofs.lemmas.Nat.{mul-le}
use Rattle.std.proofs.lemmas.Bool.{cases_lt}
use Rattle.std.proofs.Math.Nat.{mul-le-mul_right, lt_of_mul-lt-mul_right, mul-lt-mul_of_pos_right, le_of_mul-le-mul_right, div-mul-le_self, lt-div-mul-add}
use Rattle.grid_model.specs.Intervals.{Between}
use Rattle.gnss_model.specs.MeanMotion.{IsMotionOf}
use Rattle.grid_model.specs.Roots.{root}
use Rattle.gnss_model.specs.Systems.{gravity_of}
use Rattle.gnss_model.specs.declared.systems.System.{System}
use Rattle.gnss_model.specs.declared.systems.System.TheVariants.{Gps, Galileo}
use Rattle.grid_model.proofs.RootLemmas.{square-mono, root_is}
use Rattle.sat_clock.specs.GravityRoots.{gravity_root}

abbrev scale : ℕ
scale = 10 ^ 29

abbrev mu : System → ℕ
mu y = gravity_of y * 10 ^ 116

root_low : (y : System) → (gravity_root y * scale) * (gravity_root y * scale) ≤ mu y
root_low Gps = lit≤ tt
root_low (Galileo message) = lit≤ tt

root_high : (y : System) → mu y < ((gravity_root y + 1) * scale) * ((gravity_root y + 1) * scale)
root_high Gps = lit≤ tt
root_high (Galileo message) = lit≤ tt

-- between these all computations go
pub root_least : (y : System) → 19 * 10 ^ 35 ≤ gravity_root y
root_least Gps = lit≤ tt
root_least (Galileo message) = lit≤ tt

pub root_greatest : (y : System) → gravity_root y ≤ 2 * 10 ^ 36
root_greatest Gps = lit≤ tt
root_greatest (Galileo message) = lit≤ tt

-- ---- the root of mu

square_lt_back : (x y g : ℕ) → x * x ≤ g → g < y * y → x < y
square_lt_back x y g h k = grind (arith, square-mono y x)

abbrev sixth : ℕ → ℕ
sixth s = s * (s * (s * (s * (s * (s * 1)))))

out_le : (n s g : ℕ) → pos (n * sixth s) ≤ℤ pos g → n * ((s * s * s) * (s * s * s)) ≤ g
out_le n s g h = omega (arith, ints)

out_lt : (n s g : ℕ) → pos g <ℤ pos (n * sixth s) → g < n * ((s * s * s) * (s * s * s))
out_lt n s g h = omega (arith, ints)

in_le : (n s g : ℕ) → n * ((s * s * s) * (s * s * s)) ≤ g → pos (n * sixth s) ≤ℤ pos g
in_le n s g h = omega (arith, ints)

in_lt : (n s g : ℕ) → g < n * ((s * s * s) * (s * s * s)) → pos g <ℤ pos (n * sixth s)
in_lt n s g h = omega (arith, ints)

regrouped : (n c g : ℕ) → n * n * (c * c) ≤ g → (n * c) * (n * c) ≤ g
regrouped n c g h = omega arith

regrouped_lt : (n c g : ℕ) → g < n * n * (c * c) → g < (n * c) * (n * c)
regrouped_lt n c g h = omega arith

-- n0 S^3 is less than the next number above the root of mu
motion_below : (y : System) (s n : ℕ) → IsMotionOf y (pos s) n
    → n * (s * s * s) < (gravity_root y + 1) * scale
motion_below y s n m = square_lt_back (n * (s * s * s)) ((gravity_root y + 1) * scale) (mu y) (regrouped n (s * s * s) (mu y) (out_le (n * n) s (mu y) m.low)) (root_high y)

-- and one motion more passes the root
motion_above : (y : System) (s n : ℕ) → IsMotionOf y (pos s) n
    → gravity_root y * scale < (n + 1) * (s * s * s)
motion_above y s n m = square_lt_back (gravity_root y * scale) ((n + 1) * (s * s * s)) (mu y) (root_low y) (regrouped_lt (n + 1) (s * s * s) (mu y) (out_lt ((n + 1) * (n + 1)) s (mu y) m.high))

-- ---- each root has a motion

root_between : (g p : ℕ) → 0 < p → (root (g / p) * root (g / p)) * p ≤ g
root_between g p h = let r = root_is (g / p) in omega (arith, mul-le-mul_right p r.square_le, div-mul-le_self g p)

root_above : (g p : ℕ) → 0 < p → g < ((root (g / p) + 1) * (root (g / p) + 1)) * p
root_above g p h =
    let r = root_is (g / p) in
    let k : g / p + 1 ≤ (root (g / p) + 1) * (root (g / p) + 1) = omega (arith, r.next_square_gt) in
    omega (arith, mul-le-mul_right p k, lt-div-mul-add {a = g} {b = p} h)

cube_positive : (s : ℕ) → 0 < s → 0 < s * s * s
cube_positive s h = mul-le 1 1 (s * s) s (mul-le 1 1 s s h h) h

cubes_positive : (s : ℕ) → 0 < s → 0 < (s * s * s) * (s * s * s)
cubes_positive s h = mul-le 1 1 (s * s * s) (s * s * s) (cube_positive s h) (cube_positive s h)

motion_exists : (y : System) (s : ℕ) → 0 < s → (n : ℕ) × IsMotionOf y (pos s) n
motion_exists y s h =
    let p = (s * s * s) * (s * s * s) in
    (root (mu y / p), record { low = in_le _ s (mu y) (root_between (mu y) p (cubes_positive s h)); high = in_lt _ s (mu y) (root_above (mu y) p (cubes_positive s h)) })

pub root_has_motion : (y : System) (r : ℤ) → pos 0 <ℤ r → (n : ℕ) × IsMotionOf y r n
root_has_motion y (pos s) h = motion_exists y s (omega (arith, ints))
root_has_motion y (negsuc s) h = absurd (omega (arith, ints))

-- ---- the quotient by a cube, rounded

cube_mono : (s a : ℕ) → s ≤ a → s * s * s ≤ a * a * a
cube_mono s a h = mul-le (s * s) s (a * a) a (mul-le s s a a h h) h

quotient_at_most : (k d n : ℕ) → k < (n + 1) * d → k / d ≤ n
quotient_at_most k d n h =
    let x : k / d * d < (n + 1) * d = omega (arith, div-mul-le_self k d) in
    let y : k / d < n + 1 = lt_of_mul-lt-mul_right d x in
    omega arith

quotient_at_least : (k d n : ℕ) → 0 < d → n * d < k + 1 → n ≤ k / d
quotient_at_least k d n p h =
    let x : n * d < (k / d + 1) * d = omega (arith, lt-div-mul-add {a = k} {b = d} p) in
    let y : n < k / d + 1 = lt_of_mul-lt-mul_right d x in
    omega arith

-- with t as the unit of the cubes: c and two more enclose a^3
above_slowest : (k t c n s a : ℕ) → s * s * s ≤ a * a * a → a * a * a < (c + 2) * t
    → k * t < (n + 1) * (s * s * s) → k < (n + 1) * (c + 2)
above_slowest k t c n s a h i j =
    let x : (n + 1) * (s * s * s) ≤ (n + 1) * ((c + 2) * t) = mul-le (n + 1) (s * s * s) (n + 1) ((c + 2) * t) (omega arith) (omega arith) in
    lt_of_mul-lt-mul_right t (omega (arith, x))

pub slowest_holds : (y : System) (s n c a : ℕ) → s ≤ a → a * a * a < (c + 2) * 10 ^ 29
    → IsMotionOf y (pos s) n → gravity_root y / (c + 2) ≤ n
slowest_holds y s n c a h i m =
    let x : gravity_root y < (n + 1) * (c + 2) = above_slowest (gravity_root y) scale c n s a (cube_mono s a h) i (motion_above y s n m) in
    quotient_at_most (gravity_root y) (c + 2) n x

pub slowest_tight : (k t c a : ℕ) → 0 < t → c * t ≤ a * a * a
    → k * t < (k / (c + 2) + 1) * (a * a * a + 2 * t)
slowest_tight k t c a p h =
    let r = k / (c + 2) in
    let x : k < (r + 1) * (c + 2) = omega (arith, lt-div-mul-add {a = k} {b = c + 2} (omega arith)) in
    let y : k * t < (r + 1) * (c + 2) * t = mul-lt-mul_of_pos_right x p in
    let z : (r + 1) * (c * t) ≤ (r + 1) * (a * a * a) = mul-le (r + 1) (c * t) (r + 1) (a * a * a) (omega arith) h in
    omega (arith, y, z)

pub fastest_tight : (k t c a : ℕ) → a * a * a < (c + 2) * t
    → k / c * (a * a * a) ≤ k * t + k / c * (2 * t)
fastest_tight k t c a h =
    let r = k / c in
    let x : r * (a * a * a) ≤ r * ((c + 2) * t) = mul-le r (a * a * a) r ((c + 2) * t) (omega arith) (omega arith) in
    let y : r * c * t ≤ k * t = mul-le-mul_right t (div-mul-le_self k c) in
    omega (arith, x, y)

below_fastest : (k t c n s a : ℕ) → a * a * a ≤ s * s * s → c * t ≤ a * a * a
    → n * (s * s * s) < (k + 1) * t → n * c < k + 1
below_fastest k t c n s a h i j =
    let x : n * (c * t) ≤ n * (s * s * s) = mul-le n (c * t) n (s * s * s) (omega arith) (omega arith) in
    lt_of_mul-lt-mul_right t (omega (arith, x))

pub fastest_holds : (y : System) (s n c a : ℕ) → 0 < c → a ≤ s → c * 10 ^ 29 ≤ a * a * a
    → IsMotionOf y (pos s) n → n ≤ gravity_root y / c
fastest_holds y s n c a p h i m =
    let x : n * c < gravity_root y + 1 = below_fastest (gravity_root y) scale c n s a (cube_mono a s h) i (motion_below y s n m) in
    quotient_at_least (gravity_root y) c n p x

-- ---- how far apart the two quotients are

cube_grows : (s s' : ℕ) → s ≤ 7 * 10 ^ 15 → s' ≤ s + 1 → s' * s' * s' ≤ s * s * s + 1472 * 10 ^ 29
cube_grows s s' h k =
    let x = cube_mono s' (s + 1) k in
    let y = mul-le s s (7 * 10 ^ 15) (7 * 10 ^ 15) h h in
    omega (arith, x, y)

-- In units of t: the cubes s and r of two roots are at most 1472 apart, and the lesser is at least m.
cubes_apart : (k t l h m d s r : ℕ) → k * t < (l + 1) * (r + 2 * t) → r ≤ s + 1472 * t
    → h * s ≤ k * t + h * (2 * t) → m * t ≤ s → h ≡ l + 1 + d → (d * m) * t ≤ (1476 * h) * t
cubes_apart k t l h m d s r a b c f e =
    let x : (l + 1) * (r + 2 * t) ≤ (l + 1) * (s + 1474 * t) = mul-le (l + 1) (r + 2 * t) (l + 1) (s + 1474 * t) (omega arith) (omega arith) in
    let y : d * (m * t) ≤ d * s = mul-le d (m * t) d s (omega arith) f in
    let z : (l + 1) * t ≤ h * t = mul-le-mul_right t (omega arith) in
    let u : h * s ≡ (l + 1) * s + d * s = rw e (omega arith) in
    omega (arith, x, y, z, u, a, c)

quotients_apart : (t h d : ℕ) → 0 < t → h ≤ 17 * 10 ^ 17 → (d * (12 * 10 ^ 17)) * t ≤ (1476 * h) * t
    → d ≤ 4094
quotients_apart t h d p i a =
    let x : d * (12 * 10 ^ 17) ≤ 1476 * h = le_of_mul-le-mul_right a p in
    omega (arith, x)

least_cube : (s : ℕ) → 5 * 10 ^ 15 ≤ s → 12 * 10 ^ 17 * 10 ^ 29 ≤ s * s * s
least_cube s h = omega (arith, cube_mono (5 * 10 ^ 15) s h)

pub cube_not_none : (c a : ℕ) → 5 * 10 ^ 15 ≤ a → a * a * a < (c + 2) * 10 ^ 29 → 0 < c
cube_not_none c a h k = omega (arith, least_cube a h)

-- the quotients of the root by cubes of neighbouring roots are at most 4095 apart
pub motions_apart : (k l h s r : ℕ) → 5 * 10 ^ 15 ≤ s → s ≤ 7 * 10 ^ 15 → r ≤ s + 1
    → k * 10 ^ 29 < (l + 1) * (r * r * r + 2 * 10 ^ 29)
    → h * (s * s * s) ≤ k * 10 ^ 29 + h * (2 * 10 ^ 29) → h ≤ 17 * 10 ^ 17 → h ≤ l + 4095
motions_apart k l h s r f g i a b j = ⊎_elim
    (λ (less : l < h).
    let d = h - (l + 1) in
    let e : h ≡ l + 1 + d = omega arith in
    let x : d ≤ 4094 = quotients_apart scale h d (lit≤ tt) j (cubes_apart k scale l h (12 * 10 ^ 17) d (s * s * s) (r * r * r) a (cube_grows s r g i) b (least_cube s f) e) in
    omega arith)
    (λ (most : h ≤ l). omega arith) (cases_lt l h)

-- how large they are
slow_enough : (k c : ℕ) → k ≤ 2 * 10 ^ 36 → 12 * 10 ^ 17 ≤ c + 2 → k / c ≤ 17 * 10 ^ 17
slow_enough k c h i = quotient_at_most k c (17 * 10 ^ 17) (omega arith)

least_step : (c a : ℕ) → 5 * 10 ^ 15 ≤ a → a * a * a < (c + 2) * 10 ^ 29 → 12 * 10 ^ 17 ≤ c + 2
least_step c a h i = omega (arith, least_cube a h)

pub motion_high : (y : System) (c d a : ℕ) → 5 * 10 ^ 15 ≤ a → a * a * a < (c + 2) * 10 ^ 29 → c ≤ d
    → gravity_root y / d ≤ 17 * 10 ^ 17
motion_high y c d a h i k = slow_enough (gravity_root y) d (root_greatest y) (omega (arith, least_step c a h i))

pub motion_low : (y : System) (c a : ℕ) → a ≤ 7 * 10 ^ 15 → c * 10 ^ 29 ≤ a * a * a
    → 10 ^ 15 ≤ gravity_root y / (c + 2)
motion_low y c a h i =
    let most : a * a * a ≤ 343 * 10 ^ 45 = omega (arith, cube_mono a (7 * 10 ^ 15) h) in
    quotient_at_least (gravity_root y) (c + 2) (10 ^ 15) (omega arith) (omega (arith, root_least y, most, i))

-- ---- a record's root

held_both : (y : System) (lo hi s : ℤ) (n l h : ℕ) → pos 0 ≤ℤ lo
    → ((s n : ℕ) → s ≤ nat_abs hi → IsMotionOf y (pos s) n → l ≤ n)
    → ((s n : ℕ) → nat_abs lo ≤ s → IsMotionOf y (pos s) n → n ≤ h) → Between lo hi s
    → IsMotionOf y s n → (l ≤ n) × (n ≤ h)
held_both y lo hi (pos s) n l h p f g v m = (f s n (omega (arith, ints, v.to)) m, g s n (omega (arith, ints, v.from)) m)
held_both y lo hi (negsuc s) n l h p f g v m = absurd (omega (arith, ints, v.from))

pub motion_held : (y : System) (lo hi s : ℤ) (n l h : ℕ) → pos 0 ≤ℤ lo
    → ((s n : ℕ) → s ≤ nat_abs hi → IsMotionOf y (pos s) n → l ≤ n)
    → ((s n : ℕ) → nat_abs lo ≤ s → IsMotionOf y (pos s) n → n ≤ h) → Between lo hi s
    → IsMotionOf y s n → Between (pos l) (pos h) (pos n)
motion_held y lo hi s n l h p f g v m = let x = held_both y lo hi s n l h p f g v m in record { from = omega (arith, ints, x.0); to = omega (arith, ints, x.1) }

-- there is a motion between the two quotients, so they are in order
pub motions_ordered : (y : System) (lo hi : ℤ) (l h : ℕ) → pos 0 <ℤ lo → lo ≤ℤ hi
    → ((s n : ℕ) → s ≤ nat_abs hi → IsMotionOf y (pos s) n → l ≤ n)
    → ((s n : ℕ) → nat_abs lo ≤ s → IsMotionOf y (pos s) n → n ≤ h) → pos l ≤ℤ pos h
motions_ordered y (pos s) hi l h p o f g =
    let x = motion_exists y s (omega (arith, ints)) in
    let y = f s x.0 (omega (arith, ints)) x.1 in
    let z = g s x.0 (omega arith) x.1 in
    omega (arith, ints, y, z)
motions_ordered y (negsuc s) hi l h p o f g = absurd (omega (arith, ints))
