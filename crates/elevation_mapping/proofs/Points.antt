-- The points of a box and the lines from them to a place: how large and wide they are, and how
-- long.
use Rattle.std.proofs.Common.{◌≡◌, ℕ, ◌+◌, ◌*◌, ◌/◌, ◌^◌, ◌≤◌, arith, lit≤, sym, true}
use Rattle.std.specs.Prelude.{IsTrue, nat_le, ℤ, pos, nat_abs, ◌+ℤ◌, ◌-ℤ◌, ◌≤ℤ◌}
use Rattle.std.proofs.lemmas.Int.{ints, by_lt_z}
use Rattle.grid_model.specs.Amounts.{square, above}
use Rattle.grid_model.specs.Boxes.{GridBox, Side, grid_box, side_holds, box_holds}
use Rattle.grid_model.specs.Lengths.{longest_length}
use Rattle.grid_model.specs.Sizes.{IsBoxSize}
use Rattle.grid_model.specs.Intervals.{Between, Ends}
use Rattle.grid_model.specs.Squares.{least_end, sum_of_squares}
use Rattle.grid_model.specs.declared.boxes.Box3.{Box3}
use Rattle.grid_model.specs.declared.boxes.Pos.{Pos}
use Rattle.grid_model.proofs.AmountLemmas.{above_is}
use Rattle.grid_model.proofs.EndsLemmas.{difference_ends, wider_ends}
use Rattle.grid_model.proofs.PointLemmas.{in_box, le_to}
use Rattle.grid_model.proofs.RootLemmas.{square-mono}
use Rattle.grid_model.proofs.SquareLemmas.{one_part}
use Rattle.fix_interval.specs.declared.place.Place.{Place}
use Rattle.fix_interval.specs.Places.{HoldsPlace, PlaceEnds}
use Rattle.grid_model.specs.SearchBoxes.{IsFarFromOrigin}
use Rattle.elevation_mapping.specs.Places.{IsFarFromPlace, least_sum}
use Rattle.elevation_mapping.specs.MappingSizes.{turned_reach}
use Rattle.elevation_mapping.specs.SineSizes.{up_amount, offset_amount, least_up}
use Rattle.grid_model.proofs.IntervalLemmas.{difference_by as offset_held}
use Rattle.std.proofs.lemmas.Bool.{and_from as both_from}

side_ends : (d : ℕ) (lo hi s t : ℤ) → lo ≤ℤ hi → IsBoxSize lo → IsBoxSize hi → s ≡ lo → t ≡ hi
    → above hi lo ≤ d → Ends (10 ^ 13) d s t
side_ends d lo hi s t o l h e f k = rw (e, f) (record { order = o; low = l; high = h; width = omega (arith, ints, above_is hi lo, k) })

pub record ArePoints (b : Box3) (q : Place) : Type 0 where
  pub x_low : q.x.lo ≡ b.lo.x
  pub x_high : q.x.hi ≡ b.hi.x
  pub y_low : q.y.lo ≡ b.lo.y
  pub y_high : q.y.hi ≡ b.hi.y
  pub z_low : q.z.lo ≡ b.lo.z
  pub z_high : q.z.hi ≡ b.hi.z

pub record AreOffsets (a b r : Place) : Type 0 where
  pub x_low : r.x.lo ≡ a.x.lo -ℤ b.x.hi
  pub x_high : r.x.hi ≡ a.x.hi -ℤ b.x.lo
  pub y_low : r.y.lo ≡ a.y.lo -ℤ b.y.hi
  pub y_high : r.y.hi ≡ a.y.hi -ℤ b.y.lo
  pub z_low : r.z.lo ≡ a.z.lo -ℤ b.z.hi
  pub z_high : r.z.hi ≡ a.z.hi -ℤ b.z.lo

pub place_ends : (b : Box3) (q : Place) → ArePoints b q
    → PlaceEnds (10 ^ 13) (longest_length (grid_box b)) q
place_ends b q p = record {
  x_ends = side_ends (longest_length (grid_box b)) b.lo.x b.hi.x q.x.lo q.x.hi b.x_ordered b.lo_within.0 b.hi_within.0 p.x_low p.x_high (omega arith);
  y_ends = side_ends (longest_length (grid_box b)) b.lo.y b.hi.y q.y.lo q.y.hi b.y_ordered b.lo_within.1 b.hi_within.1 p.y_low p.y_high (omega arith);
  z_ends = side_ends (longest_length (grid_box b)) b.lo.z b.hi.z q.z.lo q.z.hi b.z_ordered b.lo_within.2 b.hi_within.2 p.z_low p.z_high (omega arith);
}

axis_ends : (v w : ℕ) (a b c d l h : ℤ) → Ends turned_reach v a b → Ends (10 ^ 13) w c d
    → l ≡ a -ℤ d → h ≡ b -ℤ c → Ends offset_amount (w + v) l h
axis_ends v w a b c d l h p q e f = rw (e, f) (wider_ends (turned_reach + 10 ^ 13) offset_amount (v + w) (w + v) _ _ (lit≤ tt) (omega arith) (difference_ends turned_reach v (10 ^ 13) w a b c d p q))

pub offsets_ends : (v w : ℕ) (a b r : Place) → AreOffsets a b r → PlaceEnds turned_reach v a
    → PlaceEnds (10 ^ 13) w b → PlaceEnds offset_amount (w + v) r
offsets_ends v w a b r d p q = record {
  x_ends = axis_ends v w _ _ _ _ _ _ p.x_ends q.x_ends d.x_low d.x_high;
  y_ends = axis_ends v w _ _ _ _ _ _ p.y_ends q.y_ends d.y_low d.y_high;
  z_ends = axis_ends v w _ _ _ _ _ _ p.z_ends q.z_ends d.z_low d.z_high;
}

pub up_ends : (w : ℕ) (q : Place) (u : Place) → u.x ≡ q.x → u.y ≡ q.y
    → Ends up_amount (w + w / 148 + 5) u.z.lo u.z.hi → PlaceEnds (10 ^ 13) w q
    → PlaceEnds up_amount (w + w / 148 + 5) u
up_ends w q u e f z p = record {
  x_ends = rw e (wider_ends (10 ^ 13) up_amount w (w + w / 148 + 5) _ _ (lit≤ tt) (omega arith) p.x_ends);
  y_ends = rw f (wider_ends (10 ^ 13) up_amount w (w + w / 148 + 5) _ _ (lit≤ tt) (omega arith) p.y_ends);
  z_ends = z;
}

-- ---- the nearest members

record Least (lo hi : ℤ) : Type 0 where
  at : ℤ
  member : Between lo hi at
  is : nat_abs at ≡ least_end lo hi

least_at : (lo hi : ℤ) → lo ≤ℤ hi → Least lo hi
least_at lo hi o = by_lt_z lo (pos 0)
    (λ h. by_lt_z hi (pos 0)
    (λ k. record { at = hi; member = record { from = o; to = omega (arith, ints) }; is = omega (arith, ints, one_part lo, one_part hi) })
    (λ k. record { at = pos 0; member = record { from = omega (arith, ints); to = k }; is = omega (arith, ints, one_part lo, one_part hi) }))
    (λ h. record { at = lo; member = record { from = omega (arith, ints); to = o }; is = omega (arith, ints, one_part lo, one_part hi) })

record Difference (a b c d z : ℤ) : Type 0 where
  left : ℤ
  right : ℤ
  left_in : Between a b left
  right_in : Between c d right
  is : left -ℤ right ≡ z

difference_at : (a b c d z : ℤ) → a ≤ℤ b → c ≤ℤ d → Between (a -ℤ d) (b -ℤ c) z
    → Difference a b c d z
difference_at a b c d z o p i = by_lt_z a (z +ℤ c)
    (λ h. record { left = z +ℤ c; right = c; left_in = record { from = omega (arith, ints); to = omega (arith, ints, i.to) }; right_in = record { from = omega (arith, ints); to = p }; is = omega (arith, ints) })
    (λ h. record { left = a; right = a -ℤ z; left_in = record { from = omega (arith, ints); to = o }; right_in = record { from = omega (arith, ints); to = omega (arith, ints, i.from) }; is = omega (arith, ints) })

by_amounts : (a b c n : ℕ) (x y z : ℤ) → nat_abs x ≡ a → nat_abs y ≡ b → nat_abs z ≡ c
    → n ≤ sum_of_squares x y z → n ≤ a * a + b * b + c * c
by_amounts a b c n x y z e f g h = rw (sym e, sym f, sym g) h

in_side : (s : Side) (n : ℤ) → Between s.lo s.hi n → side_holds s n ≡ true
in_side s n i = both_from _ _ (le_to s.lo n i.from) (le_to n s.hi i.to)

held_by_box : (b : GridBox) (p : Pos) → Between b.x.lo b.x.hi p.x → Between b.y.lo b.y.hi p.y
    → Between b.z.lo b.z.hi p.z → box_holds b p ≡ true
held_by_box b p x y z = both_from _ _ (in_side b.x p.x x) (both_from _ _ (in_side b.y p.y y) (in_side b.z p.z z))

pub box_far : (n : ℕ) (b : Box3) → IsFarFromOrigin n (grid_box b)
    → square n ≤ square (least_end b.lo.x b.hi.x) + square (least_end b.lo.y b.hi.y) + square (least_end b.lo.z b.hi.z)
box_far n b f =
    let x = least_at b.lo.x b.hi.x b.x_ordered in
    let y = least_at b.lo.y b.hi.y b.y_ordered in
    let z = least_at b.lo.z b.hi.z b.z_ordered in
    let p : Pos = record { x = x.at; y = y.at; z = z.at } in
    by_amounts _ _ _ (square n) x.at y.at z.at x.is y.is z.is (f p (held_by_box (grid_box b) p x.member y.member z.member))

raised_square : (a b : ℕ) → a ≤ b + 3 → a * a ≤ b * b + 6 * b + 9
raised_square a b h = omega (arith, square-mono a (b + 3) h)

still_far : (x y z u : ℕ) → z ≤ u + 3 → u ≤ up_amount → square (6 * 10 ^ 12) ≤ x * x + y * y + z * z
    → square least_up ≤ x * x + y * y + u * u
still_far x y z u h k f = omega (arith, raised_square z u h, k, f)

least_le : (n w : ℕ) (l h : ℤ) → Ends n w l h → least_end l h ≤ n
least_le n w l h e = let a = e.low in let b = e.high in omega (arith, ints, one_part l, one_part h, a.low, a.high, b.low, b.high)

pub up_far : (b : Box3) (q u : Place) (w : ℕ) → ArePoints b q → u.x ≡ q.x → u.y ≡ q.y
    → Ends up_amount w u.z.lo u.z.hi → least_end q.z.lo q.z.hi ≤ least_end u.z.lo u.z.hi + 3
    → IsFarFromOrigin (6 * 10 ^ 12) (grid_box b) → square least_up ≤ least_sum u
up_far b q u w p e f z h far = rw (e, f, p.x_low, p.x_high, p.y_low, p.y_high) (still_far (least_end b.lo.x b.hi.x) (least_end b.lo.y b.hi.y) (least_end b.lo.z b.hi.z) (least_end u.z.lo u.z.hi) (rw (sym p.z_low, sym p.z_high) h) (least_le up_amount w u.z.lo u.z.hi z) (box_far (6 * 10 ^ 12) b far))

pub line_far : (n : ℕ) (b : Box3) (a q r : Place) → ArePoints b q → AreOffsets a q r
    → IsFarFromPlace n a (grid_box b) → square n ≤ least_sum r
line_far n b a q r p d far =
    let x = least_at r.x.lo r.x.hi r.x.ordered in
    let y = least_at r.y.lo r.y.hi r.y.ordered in
    let z = least_at r.z.lo r.z.hi r.z.ordered in
    let i = difference_at a.x.lo a.x.hi b.lo.x b.hi.x x.at a.x.ordered b.x_ordered (rw (sym p.x_low, sym p.x_high, sym d.x_low, sym d.x_high) x.member) in
    let j = difference_at a.y.lo a.y.hi b.lo.y b.hi.y y.at a.y.ordered b.y_ordered (rw (sym p.y_low, sym p.y_high, sym d.y_low, sym d.y_high) y.member) in
    let k = difference_at a.z.lo a.z.hi b.lo.z b.hi.z z.at a.z.ordered b.z_ordered (rw (sym p.z_low, sym p.z_high, sym d.z_low, sym d.z_high) z.member) in
    let t : Pos = record { x = i.right; y = j.right; z = k.right } in
    let f = far t i.left j.left k.left (held_by_box (grid_box b) t i.right_in j.right_in k.right_in) (record { x_held = i.left_in; y_held = j.left_in; z_held = k.left_in }) in
    by_amounts _ _ _ (square n) x.at y.at z.at x.is y.is z.is (rw (sym i.is, sym j.is, sym k.is) f)

pub same_number : (n : ℕ) → n ≤ n
same_number n = omega arith

pub axis_held : (lo hi s t p : ℤ) → s ≡ lo → t ≡ hi → lo ≤ℤ p → p ≤ℤ hi → Between s t p
axis_held lo hi s t p e f h k = record { from = omega (arith, ints); to = omega (arith, ints) }

-- ---- as truth values

pub true_le : (a b : ℕ) → IsTrue (nat_le a b) → a ≤ b
true_le a b h = grind arith

pub le_true : (a b : ℕ) → a ≤ b → IsTrue (nat_le a b)
le_true a b h = grind arith

pub through : (a b c : ℕ) → a ≤ b → b ≤ c → a ≤ c
through a b c h k = omega arith

pub place_holds : (b : Box3) (q : Place) (p : Pos) → ArePoints b q → box_holds (grid_box b) p ≡ true
    → HoldsPlace q p.x p.y p.z
place_holds b q p a h =
    let i = in_box (grid_box b) p h in
    record {
      x_held = axis_held b.lo.x b.hi.x q.x.lo q.x.hi p.x a.x_low a.x_high i.x.0 i.x.1;
      y_held = axis_held b.lo.y b.hi.y q.y.lo q.y.hi p.y a.y_low a.y_high i.y.0 i.y.1;
      z_held = axis_held b.lo.z b.hi.z q.z.lo q.z.hi p.z a.z_low a.z_high i.z.0 i.z.1;
    }

pub offsets_hold : (a q r : Place) (x y z px py pz : ℤ) → AreOffsets a q r → HoldsPlace a x y z
    → HoldsPlace q px py pz → HoldsPlace r (x -ℤ px) (y -ℤ py) (z -ℤ pz)
offsets_hold a q r x y z px py pz d h k = record {
  x_held = offset_held a.x.lo a.x.hi q.x.lo q.x.hi r.x.lo r.x.hi x px d.x_low d.x_high h.x_held k.x_held;
  y_held = offset_held a.y.lo a.y.hi q.y.lo q.y.hi r.y.lo r.y.hi y py d.y_low d.y_high h.y_held k.y_held;
  z_held = offset_held a.z.lo a.z.hi q.z.lo q.z.hi r.z.lo r.z.hi z pz d.z_low d.z_high h.z_held k.z_held;
}

pub place_far : (n : ℕ) (b : Box3) (q : Place) → ArePoints b q → IsFarFromOrigin n (grid_box b)
    → square n ≤ least_sum q
place_far n b q p f = rw (p.x_low, p.x_high, p.y_low, p.y_high, p.z_low, p.z_high) (box_far n b f)
