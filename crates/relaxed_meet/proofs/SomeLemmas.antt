-- Where no number lies in all but at most q of some spans, none lies in all but at most q of all.
use Rattle.std.proofs.Common.{◌≡◌, ℕ, ◌+◌, ◌-◌, ◌<◌, ◌≤◌, List, [], ◌∷◌, ◌++◌, length, count_by, map, take, get_or, min, sym, subst, arith, refl, ap, cond}
use Rattle.std.specs.Prelude.{ℤ, None}
use Rattle.std.proofs.lemmas.List.{length-map, length-append, map_more}
use Rattle.std.proofs.lemmas.List.Sums.{sum_by-append, sum_by-cons}
use Rattle.sat_model.specs.Relaxed.{holds, ends, IsRelaxedEmpty}
use Rattle.grid_model.specs.declared.spans.Span.{Span}
use Rattle.relaxed_meet.specs.Kept.{LiesBetween, IsFalling, IsLeastIn, above, mirrored}
use Rattle.relaxed_meet.proofs.BetweenLemmas.{AreRead, none_read, read_next, found_or_empty}
use Rattle.grid_model.proofs.PlainLemmas.{at_most_one}

-- of all spans some were read, and each number misses no more of those than of all
pub record AreSomeRead (most : ℕ) (lows highs : List ℤ) (all : List (ℤ × ℤ)) : Type 0 where
  pub some : List (ℤ × ℤ)
  pub read : AreRead most lows highs some
  pub missed : (b : ℤ)
      → length some + count_by (λ s. holds s b) all ≤ count_by (λ s. holds s b) some + length all

pub none_of_some : (most : ℕ) → AreSomeRead most [] [] []
none_of_some most = record { some = []; read = none_read most; missed = λ b. omega arith }

counted_next : (b : ℤ) (s : ℤ × ℤ) (spans : List (ℤ × ℤ))
    → count_by (λ t. holds t b) (spans ++ s ∷ []) ≡ count_by (λ t. holds t b) spans + cond (holds s b) 1 0
counted_next b s spans = omega (arith, sum_by-append (λ t. cond (holds t b) 1 0) spans (s ∷ []), sum_by-cons (λ t. cond (holds t b) 1 0) s [])

-- one more span is there and isn't read
pub pass_next : (most : ℕ) (lows highs : List ℤ) (all : List (ℤ × ℤ)) (s : ℤ × ℤ)
    → AreSomeRead most lows highs all → AreSomeRead most lows highs (all ++ s ∷ [])
pass_next most lows highs all s had = record {
  some = had.some;
  read = had.read;
  missed = λ b. let m = had.missed b in omega (arith, m, counted_next b s all, length-append all (s ∷ []), at_most_one (holds s b));
}

-- or it is
pub take_next : (all : List (ℤ × ℤ)) (s : Span) (most : ℕ) (lows highs new_lows new_highs : List ℤ) (lo hi : ℤ)
    → lo ≡ s.lo → hi ≡ mirrored s.hi → AreSomeRead most lows highs all
    → IsFalling new_lows → length new_lows ≡ min (length lows + 1) most
    → ((b : ℤ) → above b new_lows ≡ min (above b (lows ++ lo ∷ [])) most)
    → IsFalling new_highs → length new_highs ≡ min (length highs + 1) most
    → ((b : ℤ) → above b new_highs ≡ min (above b (highs ++ hi ∷ [])) most)
    → AreSomeRead most new_lows new_highs (all ++ ends s ∷ [])
take_next all s most lows highs new_lows new_highs lo hi lo_is hi_is had low_falls low_count low_same high_falls high_count high_same = record {
  some = had.some ++ ends s ∷ [];
  read = read_next had.some s most lows highs new_lows new_highs lo hi lo_is hi_is had.read low_falls low_count low_same high_falls high_count high_same;
  missed = λ b. let m = had.missed b in omega (arith, m, counted_next b (ends s) all, counted_next b (ends s) had.some, length-append all (ends s ∷ []), length-append had.some (ends s ∷ []));
}

-- the next one of a list is passed over
pub pass_item : {X : Type 0} (f : X → ℤ × ℤ) (xs : List X) (i : ℕ) (x : X) (most : ℕ) (lows highs : List ℤ)
    → i < length xs → AreSomeRead most lows highs (map f (take i xs))
    → AreSomeRead most lows highs (map f (take (i + 1) xs))
pass_item f xs i x most lows highs within had =
    let e = map_more f xs i x within in
    subst (AreSomeRead most lows highs) (sym e) (pass_next most lows highs (map f (take i xs)) (f (get_or xs i x)) had)

-- or read
pub take_item : {X : Type 0} (f : X → ℤ × ℤ) (xs : List X) (i : ℕ) (x : X) (s : Span) (most : ℕ) (lows highs new_lows new_highs : List ℤ) (lo hi : ℤ)
    → i < length xs → x ≡ get_or xs i x → ends s ≡ f x → lo ≡ s.lo → hi ≡ mirrored s.hi
    → AreSomeRead most lows highs (map f (take i xs))
    → IsFalling new_lows → length new_lows ≡ min (length lows + 1) most
    → ((b : ℤ) → above b new_lows ≡ min (above b (lows ++ lo ∷ [])) most)
    → IsFalling new_highs → length new_highs ≡ min (length highs + 1) most
    → ((b : ℤ) → above b new_highs ≡ min (above b (highs ++ hi ∷ [])) most)
    → AreSomeRead most new_lows new_highs (map f (take (i + 1) xs))
take_item f xs i x s most lows highs new_lows new_highs lo hi within reads is lo_is hi_is had low_falls low_count low_same high_falls high_count high_same =
    let e = map_more f xs i x within in
    let next = take_next (map f (take i xs)) s most lows highs new_lows new_highs lo hi lo_is hi_is had low_falls low_count low_same high_falls high_count high_same in
    subst (AreSomeRead most new_lows new_highs) (let all : map f (take i xs) ++ ends s ∷ [] ≡ map f (take (i + 1) xs) = cc in all) next

-- where so many were read that q of them may be spared
pub empty_by_some : (all : List (ℤ × ℤ)) (q : ℕ) (lows highs : List ℤ) → length lows ≡ q + 1
    → AreSomeRead (q + 1) lows highs all → IsLeastIn (LiesBetween lows highs) None
    → IsRelaxedEmpty all (length all - q)
empty_by_some all q lows highs full had none b lies =
    let many : q < length had.some = read_many had.read full in
    let empty = (found_or_empty had.some q (length had.some) lows highs None many refl had.read none).0 refl in
    let m = had.missed b in
    empty b (omega (arith, m, lies, many))
  where
    read_many : AreRead (q + 1) lows highs had.some → length lows ≡ q + 1 → q < length had.some
    read_many read is = omega (arith, read.keeps_lows.count, is, length-map read.spans ends, length-map read.spans (λ s. s.lo), ap length read.are)
