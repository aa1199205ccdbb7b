-- The greatest numbers of a list, as many as are kept of them.
use Rattle.std.specs.Prelude.{◌≡◌, ℕ, ◌+◌, ◌-◌, ◌<◌, ◌≤◌, min, ℤ, pos, negsuc, ◌-ℤ◌, ◌≤ℤ◌, List}
use Rattle.std.specs.Prelude.{length, cond, count_by, slice_index_or, Option, None, Some}
use lib.Signed.{lt_z}

-- how many are greater than b
abbrev pub above : ℤ → List ℤ → ℕ
above b xs = count_by (λ x. lt_z b x) xs

-- whether x is, as a number
abbrev pub bit : ℤ → ℤ → ℕ
bit b x = cond (lt_z b x) 1 0

-- no number is greater than one before it
pub record IsFalling (xs : List ℤ) : Type 0 where
  pub falls : (i j : ℕ) → i ≤ j → j < length xs → slice_index_or xs j (pos 0)
      ≤ℤ slice_index_or xs i (pos 0)

-- the numbers of `old` and n are those of xs and c, of which c is the least up to place i
pub record IsKeptUpTo (i : ℕ) (xs old : List ℤ) (c n : ℤ) : Type 0 where
  pub falling : IsFalling xs
  pub count : length xs ≡ length old
  pub same_above : (b : ℤ) → above b xs + bit b c ≡ above b old + bit b n
  pub least : (j : ℕ) → j < i → c ≤ℤ slice_index_or xs j (pos 0)

-- the greatest numbers are kept, `most` of them at most
pub record Keeps (most : ℕ) (kept all : List ℤ) : Type 0 where
  pub falling : IsFalling kept
  pub count : length kept ≡ min (length all) most
  pub same_above : (b : ℤ) → above b kept ≡ min (above b all) most

-- the mirror image, which turns the order round
abbrev pub mirrored : ℤ → ℤ
mirrored x = negsuc 0 -ℤ x

-- b is at least the j-th greatest low end, and its mirror image at least the mirrored high end that
-- goes with it
pub record LiesBetween (lows highs : List ℤ) (b : ℤ) : Type 0 where
  pub rank : ℕ
  pub is_rank : rank < length lows
  pub low : slice_index_or lows rank (pos 0) ≤ℤ b
  pub high : slice_index_or highs (length lows - 1 - rank) (pos 0) ≤ℤ mirrored b

-- the least number that meets the fact, none where no number does
abbrev pub IsLeastIn : (ℤ → Type 0) → Option ℤ → Type 0
IsLeastIn Meets None = (b : ℤ) → Meets b → ⊥
IsLeastIn Meets (Some x) = Meets x × ((b : ℤ) → Meets b → x ≤ℤ b)

-- the greatest
abbrev pub IsGreatestIn : (ℤ → Type 0) → Option ℤ → Type 0
IsGreatestIn Meets None = (b : ℤ) → Meets b → ⊥
IsGreatestIn Meets (Some x) = Meets x × ((b : ℤ) → Meets b → b ≤ℤ x)
