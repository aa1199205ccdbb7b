-- What the equations of the chain share: the ends and the members of fields, of sums and of differences.
use Rattle.std.proofs.Common.{◌≡◌, ℕ, ◌+◌, ◌*◌, ◌≤◌, arith}
use Rattle.std.specs.Prelude.{ℤ, pos, neg_ℤ, ◌+ℤ◌, ◌-ℤ◌, ◌≤ℤ◌}
use Rattle.std.proofs.lemmas.Int.{ints}
use Rattle.grid_model.specs.Angles.{unit}
use Rattle.grid_model.specs.Sizes.{IsWithin}
use Rattle.grid_model.specs.Intervals.{Between, Ends}
use Rattle.gnss_model.specs.RecordBounds.{LiesFrom, IsField, IsValue}
use Rattle.grid_model.specs.Rounding.{Near}
use Rattle.grid_model.specs.declared.spans.Wide.{Wide}
use Rattle.grid_model.proofs.EndsLemmas.{sum_ends, difference_ends, wider_ends}
use Rattle.fix_interval.specs.declared.exact.Exact.{Exact}
use Rattle.fix_interval.specs.Factors.{Holds, HasEnds}
use Rattle.fix_interval.proofs.ProductEnds.{amount_of, spread}
use Rattle.broadcast_orbit.specs.Directions.{DirectionEnds, DirectionAmount, DirectionSpread}
use Rattle.broadcast_orbit.specs.declared.directions.Direction.{Direction}
use Rattle.grid_model.proofs.IntervalLemmas.{difference_by}

-- ---- fields

field_by : (n : ℕ) (a b l h : ℤ) → a ≤ℤ b → a ≡ l → b ≡ h → neg_ℤ (pos n) ≤ℤ l → h ≤ℤ pos n
    → h ≤ℤ (l +ℤ pos 1) → Ends n 1 a b
field_by n a b l h o e f p q r = record { order = o; low = record { low = omega (arith, ints); high = omega (arith, ints) }; high = record { low = omega (arith, ints); high = omega (arith, ints) }; width = omega (arith, ints) }

pub field_ends : (n : ℕ) (w : Wide) (a : Exact) → a.lo ≡ w.lo → a.hi ≡ w.hi → IsField n w
    → HasEnds n 1 a
field_ends n w a e f l = field_by n a.lo a.hi w.lo w.hi a.ordered e f l.from l.to l.narrow

positive_by : (m n : ℕ) (l : ℤ) → pos m ≤ℤ l → neg_ℤ (pos n) ≤ℤ l
positive_by m n l h = omega (arith, ints)

-- one whose numbers are not negative
pub range_ends : (m n : ℕ) (w : Wide) (a : Exact) → a.lo ≡ w.lo → a.hi ≡ w.hi
    → LiesFrom (pos m) (pos n) w → HasEnds n 1 a
range_ends m n w a e f l = field_by n a.lo a.hi w.lo w.hi a.ordered e f (positive_by m n w.lo l.from) l.to l.narrow

carried : (a b l h x : ℤ) → a ≡ l → b ≡ h → Between l h x → Between a b x
carried a b l h x e f p = record { from = omega (arith, ints, p.from); to = omega (arith, ints, p.to) }

pub value_held : (w : Wide) (a : Exact) (x : ℤ) → a.lo ≡ w.lo → a.hi ≡ w.hi → IsValue w x
    → Holds a x
value_held w a x e f p = carried a.lo a.hi w.lo w.hi x e f p

-- ---- sums and differences

sum_by : (al ah bl bh cl ch x y : ℤ) → cl ≡ al +ℤ bl → ch ≡ ah +ℤ bh → Between al ah x
    → Between bl bh y → Between cl ch (x +ℤ y)
sum_by al ah bl bh cl ch x y e f p q = record { from = omega (arith, ints, p.from, q.from); to = omega (arith, ints, p.to, q.to) }

pub sum_held : (a b c : Exact) (x y : ℤ) → c.lo ≡ a.lo +ℤ b.lo → c.hi ≡ a.hi +ℤ b.hi → Holds a x
    → Holds b y → Holds c (x +ℤ y)
sum_held a b c x y e f p q = sum_by a.lo a.hi b.lo b.hi c.lo c.hi x y e f p q

pub difference_held : (a b c : Exact) (x y : ℤ) → c.lo ≡ a.lo -ℤ b.hi → c.hi ≡ a.hi -ℤ b.lo
    → Holds a x → Holds b y → Holds c (x -ℤ y)
difference_held a b c x y e f p q = difference_by a.lo a.hi b.lo b.hi c.lo c.hi x y e f p q

-- ---- one less a product

pub less_ends : (m k w : ℕ) (a b l h : ℤ) → Ends k w a b → l ≡ pos m -ℤ b → h ≡ pos m -ℤ a
    → Ends (m + k) w l h
less_ends m k w a b l h p e f = let o = p.order in let x = p.low in let y = p.high in let z = p.width in record { order = omega (arith, ints); low = record { low = omega (arith, ints); high = omega (arith, ints) }; high = record { low = omega (arith, ints); high = omega (arith, ints) }; width = omega (arith, ints) }

pub near_less : (p r : ℤ) → Near (pos (unit * unit) -ℤ p) (pos unit) r
    → Near p (pos unit) (pos unit -ℤ r)
near_less p r n = record { below = omega (arith, ints, n.below, n.above); above = omega (arith, ints, n.below, n.above) }

less_by : (m : ℕ) (a b l h x : ℤ) → l ≡ pos m -ℤ b → h ≡ pos m -ℤ a → Between a b (pos m -ℤ x)
    → Between l h x
less_by m a b l h x e f p = record { from = omega (arith, ints, p.from, p.to); to = omega (arith, ints, p.from, p.to) }

pub less_held : (a c : Exact) (x : ℤ) → c.lo ≡ pos unit -ℤ a.hi → c.hi ≡ pos unit -ℤ a.lo
    → Holds a (pos unit -ℤ x) → Holds c x
less_held a c x e f p = less_by unit a.lo a.hi c.lo c.hi x e f p

pub sum_has : (m v n w : ℕ) (a b c : Exact) → c.lo ≡ a.lo +ℤ b.lo → c.hi ≡ a.hi +ℤ b.hi
    → HasEnds m v a → HasEnds n w b → HasEnds (m + n) (v + w) c
sum_has m v n w a b c e f p q = rw (e, f) (sum_ends m v n w a.lo a.hi b.lo b.hi p q)

pub difference_has : (m v n w : ℕ) (a b c : Exact) → c.lo ≡ a.lo -ℤ b.hi → c.hi ≡ a.hi -ℤ b.lo
    → HasEnds m v a → HasEnds n w b → HasEnds (m + n) (v + w) c
difference_has m v n w a b c e f p q = rw (e, f) (difference_ends m v n w a.lo a.hi b.lo b.hi p q)

-- ---- directions

pub wider_directions : (m n v w : ℕ) (a : Direction) → m ≤ n → v ≤ w → DirectionEnds m v a
    → DirectionEnds n w a
wider_directions m n v w a h k d = record { cosine = wider_ends m n v w a.cosine.lo a.cosine.hi h k d.cosine; sine = wider_ends m n v w a.sine.lo a.sine.hi h k d.sine }

pub direction_amount : (n w : ℕ) (a : Direction) → DirectionEnds n w a → DirectionAmount n a
direction_amount n w a d = record { cosine = amount_of n w a.cosine.lo a.cosine.hi d.cosine; sine = amount_of n w a.sine.lo a.sine.hi d.sine }

pub direction_spread : (m v n w n' w' k j l i : ℕ) (a b : Direction) → DirectionEnds m v a
    → HasEnds n w b.cosine → HasEnds n' w' b.sine → m * n ≤ k * unit → m * w + n * v ≤ j * unit
    → m * n' ≤ l * unit → m * w' + n' * v ≤ i * unit → DirectionSpread k j l i a b
direction_spread m v n w n' w' k j l i a b d p q e f g h = record {
  cosines = spread m v n w k j a.cosine b.cosine d.cosine p e f;
  sines = spread m v n' w' l i a.sine b.sine d.sine q g h;
  sine_cosine = spread m v n w k j a.sine b.cosine d.sine p e f;
  cosine_sine = spread m v n' w' l i a.cosine b.sine d.cosine q g h;
}

-- ---- one number added or taken off

pub less_number : (m n w : ℕ) (a b l h : ℤ) → Ends n w a b → l ≡ a -ℤ pos m → h ≡ b -ℤ pos m
    → Ends (n + m) w l h
less_number m n w a b l h p e f = let o = p.order in let x = p.low in let y = p.high in let z = p.width in record { order = omega (arith, ints); low = record { low = omega (arith, ints); high = omega (arith, ints) }; high = record { low = omega (arith, ints); high = omega (arith, ints) }; width = omega (arith, ints) }

pub less_number_held : (m : ℕ) (a b l h x : ℤ) → l ≡ a -ℤ pos m → h ≡ b -ℤ pos m → Between a b x
    → Between l h (x -ℤ pos m)
less_number_held m a b l h x e f p = record { from = omega (arith, ints, p.from); to = omega (arith, ints, p.to) }

pub one_within : IsWithin unit (pos unit)
one_within = record { low = omega (arith, ints); high = omega (arith, ints) }

-- ---- the time from the ephemeris time

pub after_held : (tl th s wl wh pl ph rl rh time toe : ℤ) → pl ≡ s +ℤ wl → ph ≡ s +ℤ wh
    → rl ≡ tl -ℤ ph → rh ≡ th -ℤ pl → Between tl th time → Between wl wh toe
    → Between rl rh (time -ℤ (s +ℤ toe))
after_held tl th s wl wh pl ph rl rh time toe g h i j p q = record { from = omega (arith, ints, p.from, q.to); to = omega (arith, ints, p.to, q.from) }

pub after_ends : (tl th s wl wh pl ph rl rh : ℤ) (d v w : ℕ) → tl ≤ℤ th → wl ≤ℤ wh → pl ≡ s +ℤ wl
    → ph ≡ s +ℤ wh → rl ≡ tl -ℤ ph → rh ≡ th -ℤ pl → neg_ℤ (pos d) ≤ℤ (tl -ℤ (s +ℤ wh))
    → (th -ℤ (s +ℤ wl)) ≤ℤ pos d → wh ≤ℤ (wl +ℤ pos w) → (th -ℤ tl) ≤ℤ pos v → Ends d (v + w) rl rh
after_ends tl th s wl wh pl ph rl rh d v w o o' g h i j x y z u = record { order = omega (arith, ints); low = record { low = omega (arith, ints); high = omega (arith, ints) }; high = record { low = omega (arith, ints); high = omega (arith, ints) }; width = omega (arith, ints) }
