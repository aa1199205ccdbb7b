-- Ends of the numbers on the way from codes to a row.
use Rattle.std.proofs.Common.{◌≡◌, ◌∙◌, ap, lit≤, ℕ, ◌+◌, ◌*◌, ◌^◌, ◌≤◌, arith}
use Rattle.std.specs.Prelude.{ℤ, pos, ◌+ℤ◌, ◌-ℤ◌, ◌*ℤ◌, ◌≤ℤ◌, Some}
use Rattle.std.proofs.lemmas.Int.{ints}
use Rattle.fix_interval.specs.declared.exact.Exact.{Exact}
use Rattle.fix_interval.specs.Factors.{Holds, HasEnds}
use Rattle.fix_interval.proofs.NearLemmas.{near_exists}
use Rattle.pseudorange_prep.specs.Ranges.{IsNarrow}
use Rattle.grid_model.specs.Boxes.{Side, span_side}
use Rattle.grid_model.specs.Intervals.{Between, Ends}
use Rattle.gnss_model.specs.Pseudorange.{IsRangeWith, IsFreeOf}
use Rattle.sat_model.specs.Relaxed.{ends}
use Rattle.grid_model.specs.Sizes.{IsWithin, IsPlaceSize, IsErrorSize}
use Rattle.gnss_model.specs.Systems.{first_square, second_square, squares_apart}
use Rattle.sat_model.specs.declared.rows.Row.{Row}
use Rattle.grid_model.specs.declared.spans.Span.{Span}
use Rattle.grid_model.specs.declared.spans.Wide.{Wide}
use Rattle.gnss_model.specs.declared.systems.System.{System}
use Rattle.gnss_model.specs.declared.systems.System.TheVariants.{Gps, Galileo}
use Rattle.gnss_model.specs.declared.systems.Message.TheVariants.{Fnav, Inav}
use Rattle.pseudorange_prep.proofs.WidthLemmas.{apart_positive}
use Rattle.grid_model.proofs.IntervalLemmas.{low_member, high_member}
use Rattle.grid_model.proofs.ProductLemmas.{larger}
use Rattle.sat_rows.specs.Growth.{GrowsWithin}
use Rattle.sat_rows.specs.OwnRows.{IsSmall}
use Rattle.sat_rows.specs.RowSizes.{pseudorange_amount}
use Rattle.usable_sats.specs.Usability.{IsPlausible}

-- ---- pseudoranges

-- a combination of plausible codes
free_within : (y : System) (a b c d v : ℤ) → a ≤ℤ b → c ≤ℤ d
    → IsPlausible ((pos (first_square y) *ℤ a) -ℤ (pos (second_square y) *ℤ d)) ((pos (first_square y) *ℤ b) -ℤ (pos (second_square y) *ℤ c)) (squares_apart y)
    → IsFreeOf y a d v → Between (pos 0) (pos (40 * 10 ^ 12 + 1)) v
free_within Gps a b c d v o q p n = record { from = omega (arith, ints, p.from, n.above); to = omega (arith, ints, p.to, n.below) }
free_within (Galileo Fnav) a b c d v o q p n = record { from = omega (arith, ints, p.from, n.above); to = omega (arith, ints, p.to, n.below) }
free_within (Galileo Inav) a b c d v o q p n = record { from = omega (arith, ints, p.from, n.above); to = omega (arith, ints, p.to, n.below) }

around : (lo hi v : ℤ) → Between lo hi v → IsNarrow 8 lo hi
    → Between (pos 0) (pos (40 * 10 ^ 12 + 1)) v → Ends pseudorange_amount 8 lo hi
around lo hi v b n f = record {
  order = omega (arith, ints, b.from, b.to);
  low = record { low = omega (arith, ints, b.to, n.width, f.from); high = omega (arith, ints, b.from, f.to) };
  high = record { low = omega (arith, ints, b.to, f.from); high = omega (arith, ints, b.from, n.width, f.to) };
  width = n.width;
}

pub dual_ends : (y : System) (first second : Wide) (lo hi : ℤ)
    → IsPlausible ((pos (first_square y) *ℤ first.lo) -ℤ (pos (second_square y) *ℤ second.hi)) ((pos (first_square y) *ℤ first.hi) -ℤ (pos (second_square y) *ℤ second.lo)) (squares_apart y)
    → ((x : ℤ) → IsRangeWith y first (Some second) x → Between lo hi x) → IsNarrow 8 lo hi
    → Ends pseudorange_amount 8 lo hi
dual_ends y first second lo hi p h n =
    let v = near_exists ((pos (first_square y) *ℤ first.lo) -ℤ (pos (second_square y) *ℤ second.hi)) (pos (squares_apart y)) (apart_positive y) in
    around lo hi v.0 (h v.0 (first.lo, second.hi, low_member _ _ first.ordered, high_member _ _ second.ordered, v.1)) n
    (free_within y first.lo first.hi second.lo second.hi v.0 first.ordered second.ordered p v.1)

-- ---- places

-- ---- spans

pub sent_width : (n : ℕ) (lo hi : ℤ) → Ends n 8 lo hi → IsNarrow 1008 lo hi
sent_width n lo hi e = record { width = omega (arith, ints, e.width) }

pub span_holds : (x : Exact) (span : Span) (n : ℤ) → span.lo ≡ x.lo → span.hi ≡ x.hi → Holds x n
    → Between span.lo span.hi n
span_holds x span n e f h = rw (e, f) h

pub span_small : (m n w : ℕ) (x : Exact) (span : Span) → span.lo ≡ x.lo → span.hi ≡ x.hi → m ≤ n
    → HasEnds m w x → IsSmall n span
span_small m n w x span e f k h = record { lo = rw e (larger m n x.lo k h.low); hi = rw f (larger m n x.hi k h.high) }

pub span_width : (w : ℕ) (x : Exact) (span : Span) → span.lo ≡ x.lo → span.hi ≡ x.hi
    → (x.hi -ℤ x.lo) ≤ℤ pos w → (span.hi -ℤ span.lo) ≤ℤ pos w
span_width w x span e f h = rw (e, f) h

pub span_place : (span : Span) → IsSmall (56 * 10 ^ 12) span → IsSmall (60 * 10 ^ 12) span
span_place span s = record { lo = larger (56 * 10 ^ 12) (60 * 10 ^ 12) span.lo (lit≤ tt) s.lo; hi = larger (56 * 10 ^ 12) (60 * 10 ^ 12) span.hi (lit≤ tt) s.hi }

pub grown_within : (by : ℤ) (span grown : Span) → GrowsWithin by span → grown.lo ≡ span.lo -ℤ by
    → grown.hi ≡ span.hi +ℤ by → IsPlaceSize grown.lo × IsPlaceSize grown.hi
grown_within by span grown g e f = (rw e g.low, rw f g.high)

-- ---- the ends of the error

pub grown_lo : (by : ℤ) (side : Side) (span grown : Span) → span_side span ≡ side
    → grown.lo ≡ span.lo -ℤ by → grown.lo ≡ side.lo -ℤ by
grown_lo by side span grown e f = f ∙ ap (λ (s : Side). s.lo -ℤ by) e

pub grown_hi : (by : ℤ) (side : Side) (span grown : Span) → span_side span ≡ side
    → grown.hi ≡ span.hi +ℤ by → grown.hi ≡ side.hi +ℤ by
grown_hi by side span grown e f = f ∙ ap (λ (s : Side). s.hi +ℤ by) e

pub error_place : (z : ℤ) → IsErrorSize z → IsPlaceSize z
error_place z e = larger 1000000000000 60000000000000 z (lit≤ tt) e

pub side_place : (by : ℤ) (side : Side) (span : Span) → span_side span ≡ side
    → IsErrorSize (side.lo -ℤ by) → IsErrorSize (side.hi +ℤ by)
    → IsPlaceSize (span.lo -ℤ by) × IsPlaceSize (span.hi +ℤ by)
side_place by side span e low high =
    let lo : span.lo ≡ side.lo = ap (λ (s : Side). s.lo) e in
    let hi : span.hi ≡ side.hi = ap (λ (s : Side). s.hi) e in
    (rw lo (error_place _ low), rw hi (error_place _ high))

pub error_size : (z : ℤ) → IsWithin (10 ^ 10) z → IsErrorSize z
error_size z w = larger 10000000000 1000000000000 z (lit≤ tt) w

pub paired : (a b : ℤ) (span : Span) → a ≡ span.lo → b ≡ span.hi
    → ◌≡◌ {A = ℤ × ℤ} (a, b) (ends span)
paired a b span e f = λ i. (e i, f i)

pub err_ordered : (row : Row) (by lo hi : ℤ) → pos 0 ≤ℤ by → lo ≡ row.err.lo -ℤ by
    → hi ≡ row.err.hi +ℤ by → lo ≤ℤ hi
err_ordered row by lo hi k e f = let o = row.err.ordered in omega (arith, ints)
