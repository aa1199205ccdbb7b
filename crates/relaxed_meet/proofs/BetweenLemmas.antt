-- The numbers that lie in enough spans are those between a low end and the high end that goes with it.
use Rattle.std.proofs.Common.{◌≡◌, ℕ, ◌+◌, ◌-◌, ◌<◌, ◌≤◌, min, count_by, List, [], ◌∷◌, ◌++◌, length, map, get_or, cond, ◌&&◌, arith, refl, sym, ap, subst, ◌∙◌, inl, inr, Option, None, Some, IsNone, ◌↔◌, Bool, true, false, not, is_some, IsTrue}
use Rattle.std.specs.Prelude.{ℤ, pos, ◌≤ℤ◌, ◌<ℤ◌}
use Rattle.std.proofs.lemmas.Int.{ints}
use Rattle.std.proofs.lemmas.Bool.{cases_lt, cases_eq}
use Rattle.std.proofs.lemmas.List.{length-map, map-append}
use Rattle.std.proofs.lemmas.List.Sums.{sum_by-cons}
use lib.Signed.{le_z}
use Rattle.grid_model.specs.declared.spans.Span.{Span}
use Rattle.sat_model.specs.Relaxed.{holds, ends, LiesInRelaxed, IsRelaxedEmpty, IsRelaxedHull}
use Rattle.relaxed_meet.specs.Kept.{above, bit, IsFalling, Keeps, mirrored, LiesBetween, IsLeastIn, IsGreatestIn}
use Rattle.relaxed_meet.proofs.FallingLemmas.{above_le, at_rank, none_kept, kept_more}
use Rattle.grid_model.proofs.IntervalLemmas.{le_z_trans}

abbrev pub lows_of : List Span → List ℤ
lows_of spans = map (λ s. s.lo) spans

abbrev pub highs_of : List Span → List ℤ
highs_of spans = map (λ s. mirrored s.hi) spans

one_span : (lo hi b : ℤ) → lo ≤ℤ hi
    → cond (le_z lo b && le_z b hi) 1 0 + bit b lo + bit (mirrored b) (mirrored hi) ≡ 1
one_span lo hi b h = grind (arith, ints)

-- a span holds b, or begins behind it, or ends before it
held_or_not : (spans : List Span) (b : ℤ)
    → count_by (λ s. holds s b) (map ends spans) + above b (lows_of spans) + above (mirrored b) (highs_of spans) ≡ length spans
held_or_not [] b = omega arith
held_or_not (s ∷ spans) b = omega (
  arith,
  held_or_not spans b,
  one_span s.lo s.hi b s.ordered,
  sum_by-cons (λ t. cond (holds t b) 1 0) (ends s) (map ends spans),
  sum_by-cons (λ x. bit b x) s.lo (lows_of spans),
  sum_by-cons (λ x. bit (mirrored b) x) (mirrored s.hi) (highs_of spans),
)

pub record AreExtremes (spans : List Span) (need : ℕ) (lows highs : List ℤ) : Type 0 where
  pub some : 1 ≤ need
  pub enough : need ≤ length spans
  pub keeps_lows : Keeps (length spans - need + 1) lows (lows_of spans)
  pub keeps_highs : Keeps (length spans - need + 1) highs (highs_of spans)

counts : (spans : List Span)
    → (length (lows_of spans) ≡ length spans) × (length (highs_of spans) ≡ length spans)
counts spans = (length-map spans (λ s. s.lo), length-map spans (λ s. mirrored s.hi))

pub between : (spans : List Span) (need : ℕ) (lows highs : List ℤ) (b : ℤ)
    → AreExtremes spans need lows highs
    → LiesInRelaxed (map ends spans) need b → LiesBetween lows highs b
between spans need lows highs b e h =
    let n = counts spans in
    let split = held_or_not spans b in
    let most : length lows ≡ length spans - need + 1 = omega (arith, e.keeps_lows.count, n.0, e.some, e.enough) in
    let high_most : length highs ≡ length spans - need + 1 = omega (arith, e.keeps_highs.count, n.1, e.some, e.enough) in
    let few : above b (lows_of spans) < length lows = omega (arith, h, split, most, e.enough) in
    record {
      rank = above b (lows_of spans);
      is_rank = few;
      low = at_rank lows b (above b (lows_of spans)) e.keeps_lows.falling few (omega (arith, e.keeps_lows.same_above b));
      high = at_rank highs (mirrored b) (length lows - 1 - above b (lows_of spans)) e.keeps_highs.falling (omega (arith, few, most, high_most))
          (omega (arith, e.keeps_highs.same_above (mirrored b), h, split, most, few, e.enough));
    }

pub in_relaxed : (spans : List Span) (need : ℕ) (lows highs : List ℤ) (b : ℤ)
    → AreExtremes spans need lows highs
    → LiesBetween lows highs b → LiesInRelaxed (map ends spans) need b
in_relaxed spans need lows highs b e l =
    let n = counts spans in
    let split = held_or_not spans b in
    let most : length lows ≡ length spans - need + 1 = omega (arith, e.keeps_lows.count, n.0, e.some, e.enough) in
    let high_most : length highs ≡ length spans - need + 1 = omega (arith, e.keeps_highs.count, n.1, e.some, e.enough) in
    let low = above_le lows b l.rank e.keeps_lows.falling l.is_rank l.low in
    let high = above_le highs (mirrored b) (length lows - 1 - l.rank) e.keeps_highs.falling (omega (arith, l.is_rank, most, high_most)) l.high in
    omega (arith, split, low, high, e.keeps_lows.same_above b, e.keeps_highs.same_above (mirrored b), l.is_rank, most, e.enough)

twice : (b : ℤ) → mirrored (mirrored b) ≡ b
twice b = omega (arith, ints)

-- the mirror image lies between the mirror images
pub between_mirrored : (lows highs : List ℤ) (b : ℤ) → length highs ≡ length lows
    → LiesBetween lows highs b → LiesBetween highs lows (mirrored b)
between_mirrored lows highs b same l =
    let back : length highs - 1 - (length lows - 1 - l.rank) ≡ l.rank = omega (arith, same, l.is_rank) in
    record {
      rank = length lows - 1 - l.rank;
      is_rank = omega (arith, same, l.is_rank);
      low = l.high;
      high = rw (back, twice b) l.low;
    }

-- no pair of ends beyond the rank holds a number
pub record ApartBelow (lows highs : List ℤ) (passed : ℕ) : Type 0 where
  pub apart : (j : ℕ) → j < passed
      → mirrored (get_or highs j (pos 0)) <ℤ get_or lows (length lows - 1 - j) (pos 0)

pub none_between : (lows highs : List ℤ) (passed : ℕ) (b : ℤ) → ApartBelow lows highs passed
    → (l : LiesBetween lows highs b) → length lows ≤ passed + l.rank → ⊥
none_between lows highs passed b a l beyond =
    let gap = a.apart (length lows - 1 - l.rank) (omega (arith, l.is_rank, beyond)) in
    let back : length lows - 1 - (length lows - 1 - l.rank) ≡ l.rank = omega (arith, l.is_rank) in
    let apart = rw back at gap in
    absurd (omega (arith, ints, apart, l.low, l.high))

-- the low end of the first pair that holds a number is the least such
pub least_here : (lows highs : List ℤ) (passed : ℕ) (b : ℤ) → IsFalling lows
    → ApartBelow lows highs passed → passed < length lows → LiesBetween lows highs b
    → get_or lows (length lows - 1 - passed) (pos 0) ≤ℤ b
least_here lows highs passed b falling a within l = elim (cases_lt (passed + l.rank) (length lows)) [
  | inl before ↦ le_z_trans _ _ _ (falling.falls l.rank (length lows - 1 - passed) (omega (arith, before)) (omega (arith, within))) l.low
  | inr beyond ↦ absurd (none_between lows highs passed b a l beyond)
]

pub lies_here : (lows highs : List ℤ) (passed : ℕ) → passed < length lows
    → get_or lows (length lows - 1 - passed) (pos 0) ≤ℤ mirrored (get_or highs passed (pos 0))
    → LiesBetween lows highs (get_or lows (length lows - 1 - passed) (pos 0))
lies_here lows highs passed within le =
    let back : length lows - 1 - (length lows - 1 - passed) ≡ passed = omega arith in
    record {
      rank = length lows - 1 - passed;
      is_rank = omega arith;
      low = omega (arith, ints);
      high = rw back (omega (arith, ints, le));
    }

pub one_apart : (lows highs : List ℤ) (passed : ℕ) → ApartBelow lows highs passed
    → mirrored (get_or highs passed (pos 0)) <ℤ get_or lows (length lows - 1 - passed) (pos 0)
    → ApartBelow lows highs (passed + 1)
one_apart lows highs passed a gap = record {
  apart = λ j before. elim (cases_eq j passed) [
    | inl here ↦ subst (λ (n : ℕ). mirrored (get_or highs n (pos 0)) <ℤ get_or lows (length lows - 1 - n) (pos 0)) (sym here) gap
    | inr other ↦ a.apart j (omega arith)
  ];
}

-- ---- what the search finds

-- the mirror image of the least number between mirrored ends
pub greatest_from : (lows highs : List ℤ) (m x : ℤ) → length highs ≡ length lows
    → IsLeastIn (LiesBetween highs lows) (Some m) → x ≡ mirrored m
    → IsGreatestIn (LiesBetween lows highs) (Some x)
greatest_from lows highs m x same least is = (
  subst (LiesBetween lows highs) (sym is) (between_mirrored highs lows m (sym same) least.0),
  λ b l. omega (arith, ints, least.1 (mirrored b) (between_mirrored lows highs b same l)),
)

pub none_greatest : (lows highs : List ℤ) → length highs ≡ length lows
    → IsLeastIn (LiesBetween highs lows) None → IsGreatestIn (LiesBetween lows highs) None
none_greatest lows highs same none b l = none (mirrored b) (between_mirrored lows highs b same l)

pub least_in_relaxed : (spans : List Span) (need : ℕ) (lows highs : List ℤ) (r : Option ℤ)
    → AreExtremes spans need lows highs
    → IsLeastIn (LiesBetween lows highs) r → IsLeastIn (LiesInRelaxed (map ends spans) need) r
least_in_relaxed spans need lows highs None e none = λ b h. none b (between spans need lows highs b e h)
least_in_relaxed spans need lows highs (Some x) e least =
    (in_relaxed spans need lows highs x e least.0, λ b h. least.1 b (between spans need lows highs b e h))

-- fewer spans than are needed hold no number in common
pub too_few : (spans : List Span) (need : ℕ) → length spans < need
    → IsLeastIn (LiesInRelaxed (map ends spans) need) None
too_few spans need few b h = absurd (omega (arith, few, h, held_or_not spans b))

pub hull_from : (spans : List Span) (need : ℕ) (lows highs : List ℤ) (lo hi : ℤ)
    → AreExtremes spans need lows highs
    → IsLeastIn (LiesBetween lows highs) (Some lo) → IsGreatestIn (LiesBetween lows highs) (Some hi)
    → IsRelaxedHull (map ends spans) need lo hi
hull_from spans need lows highs lo hi e least greatest = record {
  lo_lies = in_relaxed spans need lows highs lo e least.0;
  hi_lies = in_relaxed spans need lows highs hi e greatest.0;
  within = λ b h. let l = between spans need lows highs b e h in (least.1 b l, greatest.1 b l);
}

pub are_extremes : (spans : List Span) (need n : ℕ) (lows highs : List ℤ) → n ≡ need → 1 ≤ need
    → need ≤ length spans
    → Keeps (length spans - n + 1) lows (lows_of spans)
    → Keeps (length spans - n + 1) highs (highs_of spans) → AreExtremes spans need lows highs
are_extremes spans need n lows highs is some enough low high =
    record { some = some; enough = enough; keeps_lows = rw is at low; keeps_highs = rw is at high }

pub none_relaxed : (spans : List Span) (need : ℕ) (lows highs : List ℤ)
    → AreExtremes spans need lows highs → IsLeastIn (LiesBetween lows highs) None
    → (b : ℤ) → LiesInRelaxed (map ends spans) need b → ⊥
none_relaxed spans need lows highs e none b h = none b (between spans need lows highs b e h)

pub none_or_some : (spans : List Span) (need : ℕ) (lows highs : List ℤ) (r : Option ℤ)
    → AreExtremes spans need lows highs → IsLeastIn (LiesBetween lows highs) r
    → IsNone r ↔ IsRelaxedEmpty (map ends spans) need
none_or_some spans need lows highs r e least = by_cases r (least_in_relaxed spans need lows highs r e least)
  where
    by_cases : {Lies : ℤ → Type 0} (r : Option ℤ) → IsLeastIn Lies r
        → IsNone r ↔ ((b : ℤ) → Lies b → ⊥)
    by_cases None none = (λ is. none, λ empty. refl)
    by_cases (Some x) least = (λ is. absurd cc, λ empty. absurd (empty x least.0))

-- ---- spans that were read one after another, of which only the extremes are kept

pub record AreRead (most : ℕ) (lows highs : List ℤ) (all : List (ℤ × ℤ)) : Type 0 where
  pub spans : List Span
  pub are : map ends spans ≡ all
  pub keeps_lows : Keeps most lows (lows_of spans)
  pub keeps_highs : Keeps most highs (highs_of spans)

pub none_read : (most : ℕ) → AreRead most [] [] []
none_read most = record {
  spans = [];
  are = refl;
  keeps_lows = none_kept most;
  keeps_highs = none_kept most;
}

-- one more is read
pub read_next : (all : List (ℤ × ℤ)) (s : Span) (most : ℕ) (lows highs new_lows new_highs : List ℤ) (lo hi : ℤ)
    → lo ≡ s.lo → hi ≡ mirrored s.hi → AreRead most lows highs all
    → IsFalling new_lows → length new_lows ≡ min (length lows + 1) most
    → ((b : ℤ) → above b new_lows ≡ min (above b (lows ++ lo ∷ [])) most)
    → IsFalling new_highs → length new_highs ≡ min (length highs + 1) most
    → ((b : ℤ) → above b new_highs ≡ min (above b (highs ++ hi ∷ [])) most)
    → AreRead most new_lows new_highs (all ++ ends s ∷ [])
read_next all s most lows highs new_lows new_highs lo hi lo_is hi_is read low_falls low_count low_same high_falls high_count high_same =
    let m = map-append ends read.spans (s ∷ []) in
    let l = map-append (λ t. t.lo) read.spans (s ∷ []) in
    let h = map-append (λ t. mirrored t.hi) read.spans (s ∷ []) in
    record {
      spans = read.spans ++ s ∷ [];
      are = m ∙ ap (λ (had : List (ℤ × ℤ)). had ++ ends s ∷ []) read.are;
      keeps_lows = rw l (kept_more most lows new_lows (lows_of read.spans) lo s.lo read.keeps_lows low_falls low_count low_same lo_is);
      keeps_highs = rw h (kept_more most highs new_highs (highs_of read.spans) hi (mirrored s.hi) read.keeps_highs high_falls high_count high_same hi_is);
    }

-- whether the search finds a number tells whether one lies in enough of the spans that were read
pub found_or_empty : (all : List (ℤ × ℤ)) (q len : ℕ) (lows highs : List ℤ) (r : Option ℤ) → q < len
    → length all ≡ len → AreRead (q + 1) lows highs all
    → IsLeastIn (LiesBetween lows highs) r → IsNone r ↔ IsRelaxedEmpty all (len - q)
found_or_empty all q len lows highs r less count read least =
    let same : length read.spans ≡ len = omega (arith, count, length-map read.spans ends, ap length read.are) in
    let most : length read.spans - (len - q) + 1 ≡ q + 1 = omega (arith, same) in
    let e : AreExtremes read.spans (len - q) lows highs = record {
      some = omega (arith, less);
      enough = omega (arith, same);
      keeps_lows = rw most read.keeps_lows;
      keeps_highs = rw most read.keeps_highs;
    } in
    rw (sym read.are) (none_or_some read.spans (len - q) lows highs r e least)

true_from : (a b : Bool) → a ≡ not b → a ≡ false → b ≡ true
true_from a true e f = refl
true_from a false e f = cc

false_from : (a b : Bool) → a ≡ not b → b ≡ true → a ≡ false
false_from a b e f = rw (e, f) refl

-- the same of a test for none
pub tested_none : {X Empty : Type 0} (r : Option X) (b : Bool) → is_some r ≡ not b
    → IsNone r ↔ Empty → IsTrue b ↔ Empty
tested_none r b e found = (λ t. found.0 (false_from (is_some r) b e t), λ empty. true_from (is_some r) b e (found.1 empty))
