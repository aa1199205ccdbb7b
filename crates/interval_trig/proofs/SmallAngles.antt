-- The sine of a small angle is small, and its cosine is near one.
use Rattle.std.proofs.Common.{ℕ, ◌+◌, ◌≤◌, arith, inl}
use Rattle.std.specs.Prelude.{ℤ, pos, ◌+ℤ◌, ◌-ℤ◌, ◌≤ℤ◌}
use Rattle.std.proofs.lemmas.Int.{ints}
use Rattle.grid_model.specs.Angles.{unit}
use Rattle.grid_model.specs.Sizes.{IsWithin}
use Rattle.grid_model.specs.Intervals.{Between, Close, Ends}
use Rattle.grid_model.specs.Sines.{Sine, Cosine}
use Rattle.grid_model.specs.Taylor.{SineAt, CosineAt}
use Rattle.grid_model.proofs.IntervalLemmas.{low_member}
use Rattle.interval_trig.proofs.Existence.{sine_exists}
use Rattle.interval_trig.proofs.Smoothness.{sine_smooth, cosine_smooth}

sine_of_zero : Sine (pos 0) (pos 0)
unfolding Sine SineAt
sine_of_zero = (pos 0, record { within = record { low = record { le = tt }; high = record { le = tt } } }, record { low = inl (record { le = tt }); high = inl (record { le = tt }) })

cosine_of_zero : Cosine (pos 0) (pos unit)
unfolding Cosine CosineAt
cosine_of_zero = (pos 0, record { within = record { low = record { le = tt }; high = record { le = tt } } }, record { low = inl (record { le = tt }); high = inl (record { le = tt }) })

near_zero : (n : ℕ) (x : ℤ) → IsWithin n x → Close n x (pos 0)
near_zero n x w = record { below = omega (arith, ints, w.low, w.high); above = omega (arith, ints, w.low, w.high) }

small_sine : (n : ℕ) (x s : ℤ) → IsWithin n x → n ≤ unit → Sine x s → Close (n + 7) s (pos 0)
small_sine n x s w h v = sine_smooth x (pos 0) s (pos 0) n (near_zero n x w) h v sine_of_zero

ends_by : (m w : ℕ) (l h s : ℤ) → l ≤ℤ h → (h -ℤ l) ≤ℤ pos (w + 16) → Between l h s
    → Close (m + 7) s (pos 0) → Ends (m + w + 23) (w + 16) l h
ends_by m w l h s o i b k = let p = k.below in let q = k.above in let f = b.from in let t = b.to in record { order = o; low = record { low = omega (arith, ints); high = omega (arith, ints) }; high = record { low = omega (arith, ints); high = omega (arith, ints) }; width = i }

-- the ends of an interval that holds the sines of small angles
pub small_ends : (m w : ℕ) (a b l h : ℤ) → Ends m w a b → m ≤ unit → l ≤ℤ h
    → (h -ℤ l) ≤ℤ ((b -ℤ a) +ℤ pos 16) → ((v s : ℤ) → Between a b v → Sine v s → Between l h s)
    → Ends (m + w + 23) (w + 16) l h
small_ends m w a b l h e k o i f =
    let s = sine_exists a in
    let x = e.width in
    ends_by m w l h s.0 o (omega (arith, ints)) (f a s.0 (low_member a b e.order) s.1) (small_sine m a s.0 e.low k s.1)

natural_from : (n : ℕ) (c : ℤ) → n + 7 ≤ unit → Close (n + 7) c (pos unit) → pos 0 ≤ℤ c
natural_from n c h k = let p = k.below in let q = k.above in omega (arith, ints)

-- the cosine of a small angle isn't negative
pub cosine_natural : (n : ℕ) (x c : ℤ) → n + 7 ≤ unit → IsWithin n x → Cosine x c → pos 0 ≤ℤ c
cosine_natural n x c h w v = natural_from n c h (cosine_smooth x (pos 0) c (pos unit) n (near_zero n x w) (omega arith) v cosine_of_zero)
