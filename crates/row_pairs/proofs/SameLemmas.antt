-- The same terms at the same values.
use Rattle.std.proofs.Common.{◌≡◌, ℕ, ◌+◌, ◌*◌, ◌<◌, ◌≤◌, arith}
use Rattle.std.specs.Prelude.{ℤ, pos, ◌+ℤ◌, ◌-ℤ◌, ◌*ℤ◌, unsigned_abs}
use Rattle.std.specs.Int.{int_div_euclid}
use Rattle.sat_model.specs.declared.rows.Row.{Row}
use Rattle.grid_model.specs.declared.spans.Span.{Span}
use Rattle.grid_model.specs.Amounts.{square}
use Rattle.grid_model.specs.Boxes.{Side, GridBox, middle, span_side}
use Rattle.grid_model.specs.Roots.{root}
use Rattle.grid_model.proofs.RootLemmas.{root_is, square-mono}
use Rattle.sat_model.specs.Pairs.{scale, half, away, away_square, arm, play, spread, slope, rounding, most, least, upper, lower, FormValue}

pub slope_same : (r a : ℤ) (n long : ℕ) (place : Span) (side : Side)
    → r ≡ int_div_euclid (pos scale *ℤ a) (pos n) → a ≡ away place side → n ≡ long
    → r ≡ slope long place side
unfolding slope
slope_same r a n long place side e f g = cc

pub away_same : (place : Span) (side : Side) (m n : ℤ) → m ≡ middle side
    → n ≡ middle (span_side place) → m -ℤ n ≡ away place side
unfolding away
away_same place side m n e f = cc

pub square_same : (row : Row) (part : GridBox) (s : ℕ) (x y z : ℤ)
    → s ≡ square (unsigned_abs x) + square (unsigned_abs y) + square (unsigned_abs z)
    → x ≡ away row.x part.x → y ≡ away row.y part.y → z ≡ away row.z part.z
    → s ≡ away_square row part
unfolding away_square
square_same row part s x y z e f g h = cc

pub arm_same : (row : Row) (part : GridBox) (a s : ℕ) → a ≡ root s + 1 → s ≡ away_square row part
    → a ≡ arm row part
unfolding arm
arm_same row part a s e f = cc

pub play_same : (row : Row) (part : GridBox) (s : ℕ) (x y z : ℤ) (k l m : ℕ)
    → s ≡ unsigned_abs x * k + unsigned_abs y * l + unsigned_abs z * m
    → x ≡ away row.x part.x → y ≡ away row.y part.y → z ≡ away row.z part.z
    → k ≡ half (span_side row.x) → l ≡ half (span_side row.y) → m ≡ half (span_side row.z)
    → s ≡ play row part
unfolding play
play_same row part s x y z k l m e f g h i j o = cc

pub spread_same : (row : Row) (part : GridBox) (s x y z k l m : ℕ)
    → s ≡ square (x + k) + square (y + l) + square (z + m)
    → x ≡ half part.x → y ≡ half part.y → z ≡ half part.z → k ≡ half (span_side row.x)
    → l ≡ half (span_side row.y) → m ≡ half (span_side row.z)
    → s ≡ spread row part
unfolding spread
spread_same row part s x y z k l m e f g h i j o = cc

pub rounding_same : (part : GridBox) (x y z : ℕ) → x ≡ half part.x → y ≡ half part.y
    → z ≡ half part.z → x + y + z ≡ rounding part
unfolding rounding
rounding_same part x y z f g h = cc

pub upper_same : (row : Row) (part : GridBox) (r e : ℤ) (a s p h : ℕ)
    → r ≡ int_div_euclid (pos scale *ℤ (((pos a *ℤ (e +ℤ pos 1)) -ℤ pos s) +ℤ pos p)) (pos a) +ℤ pos h
    → a ≡ arm row part → e ≡ row.range.hi -ℤ row.err.lo → s ≡ away_square row part
    → p ≡ play row part → h ≡ rounding part → r ≡ upper row part
unfolding upper most
upper_same row part r e a s p h i j k l m n = cc

pub lower_same : (row : Row) (part : GridBox) (r e : ℤ) (a s p g h : ℕ)
    → r ≡ int_div_euclid (pos scale *ℤ ((pos (2 * a) *ℤ e) -ℤ pos (a * a + s + 2 * p + g))) (pos (2 * a)) -ℤ pos h
    → a ≡ arm row part → e ≡ row.range.lo -ℤ row.err.hi → s ≡ away_square row part
    → p ≡ play row part → g ≡ spread row part → h ≡ rounding part → r ≡ lower row part
unfolding lower least
lower_same row part r e a s p g h i j k l m n o = cc

pub form_same : (x y z u l x' y' z' u' l' : ℤ) → x ≡ x' → y ≡ y' → z ≡ z' → u ≡ u' → l ≡ l'
    → ◌≡◌ {A = FormValue} (record { x = x; y = y; z = z; upper = u; lower = l }) (record { x = x'; y = y'; z = z'; upper = u'; lower = l' })
form_same x y z u l x' y' z' u' l' e f g h i = cc

-- no side of the sum of three squares is longer than its root
pub below_arm : (a s n : ℕ) → n ≡ root s + 1 → square a ≤ s → a < n
below_arm a s n e h = let r = root_is s in grind (arith, square-mono (root s + 1) a, r.next_square_gt)
