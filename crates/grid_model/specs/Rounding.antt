-- Fractions of whole numbers and what they are rounded to. Denominators are positive.
use Rattle.std.specs.Prelude.{◌≡◌, ℤ, pos, ◌+ℤ◌, ◌-ℤ◌, ◌*ℤ◌, neg_ℤ, ◌≤ℤ◌, ◌<ℤ◌}
use Rattle.std.specs.Int.{int_div_euclid}
use Rattle.grid_model.specs.Intervals.{Between}

-- v is within one unit of num / den: how each printed equation is read
pub record Near (num den v : ℤ) : Type 0 where
  pub below : (v *ℤ den) ≤ℤ (num +ℤ den)
  pub above : num ≤ℤ (v *ℤ den +ℤ den)

-- q is num / den rounded down
pub record IsFloor (num den q : ℤ) : Type 0 where
  pub le : (q *ℤ den) ≤ℤ num
  pub gt : num <ℤ (q *ℤ den +ℤ den)

-- q is num / den rounded up
pub record IsCeiling (num den q : ℤ) : Type 0 where
  pub ge : num ≤ℤ (q *ℤ den)
  pub lt : (q *ℤ den) <ℤ (num +ℤ den)

-- lo is at most two units below n / d and hi at most two above m / e, so that the numbers from lo
-- to hi spread over at most four units more than the fractions do
pub record IsTightRound (n d m e lo hi : ℤ) : Type 0 where
  pub low : n ≤ℤ ((lo +ℤ pos 2) *ℤ d)
  pub high : ((hi -ℤ pos 2) *ℤ e) ≤ℤ m

-- the same round two quotients a n / b of a member a of the first interval and b of the second
pub record IsTightQuotient (alo ahi blo bhi n lo hi : ℤ) : Type 0 where
  pub low_num : ℤ
  pub low_den : ℤ
  pub high_num : ℤ
  pub high_den : ℤ
  pub low_num_is : Between alo ahi low_num
  pub low_den_is : Between blo bhi low_den
  pub high_num_is : Between alo ahi high_num
  pub high_den_is : Between blo bhi high_den
  pub tight : IsTightRound (low_num *ℤ n) low_den (high_num *ℤ n) high_den lo hi

-- the greatest multiple of a grain that is at most x
abbrev pub grain_floor : ℤ → ℤ → ℤ
grain_floor grain x = int_div_euclid x grain *ℤ grain

-- the least multiple of a grain that is at least x
abbrev pub grain_ceil : ℤ → ℤ → ℤ
grain_ceil grain x = neg_ℤ (grain_floor grain (neg_ℤ x))

-- v is a multiple of a grain
pub record IsMultipleOf (grain v : ℤ) : Type 0 where
  pub times : ℤ
  pub is : v ≡ times *ℤ grain
