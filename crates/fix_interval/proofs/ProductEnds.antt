-- The ends of products of factors, and what these products hold.
use Rattle.std.proofs.Common.{ℕ, ◌+◌, ◌*◌, ◌^◌, ◌≤◌, arith, lit≤}
use Rattle.std.specs.Prelude.{ℤ, pos, ◌+ℤ◌, ◌-ℤ◌, ◌*ℤ◌, ◌≤ℤ◌}
use Rattle.std.proofs.lemmas.Int.{ints}
use Rattle.grid_model.specs.Angles.{unit}
use Rattle.grid_model.specs.Intervals.{Between, Ends}
use Rattle.grid_model.specs.Rounding.{Near}
use Rattle.fix_interval.specs.declared.exact.Exact.{Exact}
use Rattle.fix_interval.specs.Factors.{HasEnds, HasAmount, Spread, factor_bound}
use Rattle.fix_interval.proofs.InsideLemmas.{Inside, inside_of, held, sum_inside, difference_inside}

pub over_one : (n k : ℕ) → n ≤ k * unit → pos n ≤ℤ (pos k *ℤ pos unit)
over_one n k h = omega (arith, ints)

-- numbers of a known amount, as wide as they can be
pub amount_of : (n w : ℕ) (a b : ℤ) → Ends n w a b → Ends n (2 * n) a b
amount_of n w a b e = let o = e.order in let l = e.low in let h = e.high in record { order = o; low = l; high = h; width = omega (arith, ints) }

-- factors of two known ends
pub spread : (m v n w k j : ℕ) (a b : Exact) → HasEnds m v a → HasEnds n w b → m * n ≤ k * unit
    → m * w + n * v ≤ j * unit → Spread k j a b
spread m v n w k j a b p q h i = record { m = m; v = v; n = n; w = w; left = p; right = q; amount = h; width = i }

-- factors of two known amounts
pub spread_by : (m n : ℕ) (a b : Exact) → HasAmount m a → HasAmount n b → (k : ℕ) → m * n ≤ k * unit
    → Spread k (4 * k) a b
spread_by m n a b p q k h = record { m = m; v = 2 * m; n = n; w = 2 * n; left = p; right = q; amount = h; width = omega arith }

pub factors_spread : (a b : Exact) → HasAmount factor_bound a → HasAmount factor_bound b
    → Spread (10 ^ 20) (4 * 10 ^ 20) a b
factors_spread a b p q = spread_by factor_bound factor_bound a b p q (10 ^ 20) (lit≤ tt)

-- what holds every number near x over one holds x over one between its ends
pub over_one_inside : (x lo hi : ℤ) → ((v : ℤ) → Near x (pos unit) v → Between lo hi v)
    → Inside x (pos unit) lo hi
over_one_inside x lo hi h = inside_of x (pos unit) lo hi (record { lt = tt }) h

pub sum_held : (x y pl ph ql qh v : ℤ) → ((u : ℤ) → Near x (pos unit) u → Between pl ph u)
    → ((u : ℤ) → Near y (pos unit) u → Between ql qh u) → Near (x +ℤ y) (pos unit) v
    → Between (pl +ℤ ql) (ph +ℤ qh) v
sum_held x y pl ph ql qh v f g n = held (x +ℤ y) (pos unit) _ _ v (record { lt = tt }) (sum_inside x y (pos unit) pl ph ql qh (over_one_inside x pl ph f) (over_one_inside y ql qh g)) n

pub difference_held : (x y pl ph ql qh v : ℤ) → ((u : ℤ) → Near x (pos unit) u → Between pl ph u)
    → ((u : ℤ) → Near y (pos unit) u → Between ql qh u) → Near (x -ℤ y) (pos unit) v
    → Between (pl -ℤ qh) (ph -ℤ ql) v
difference_held x y pl ph ql qh v f g n = held (x -ℤ y) (pos unit) _ _ v (record { lt = tt }) (difference_inside x y (pos unit) pl ph ql qh (over_one_inside x pl ph f) (over_one_inside y ql qh g)) n
