-- Members of an interval, its ends, and numbers that are close to each other.
use Rattle.std.proofs.Common.{ℕ, ◌+◌, ◌≤◌, arith, ◌≡◌}
use Rattle.std.specs.Prelude.{ℤ, neg_ℤ, nat_abs, ◌-ℤ◌, ◌≤ℤ◌, pos}
use Rattle.std.specs.Int.{int_max, int_min}
use Rattle.std.proofs.lemmas.Int.{ints, clamps}
use Rattle.grid_model.specs.Sizes.{IsWithin}
use Rattle.grid_model.specs.Intervals.{Between, Ends, Close}

pub le_z_trans : (a b c : ℤ) → a ≤ℤ b → b ≤ℤ c → a ≤ℤ c
le_z_trans a b c h k = omega (arith, ints)

pub min_within : (n : ℕ) (x y : ℤ) → IsWithin n x → IsWithin n y → IsWithin n (int_min x y)
min_within n x y p q = record { low = omega (arith, ints, clamps); high = omega (arith, ints, clamps) }

pub max_within : (n : ℕ) (x y : ℤ) → IsWithin n x → IsWithin n y → IsWithin n (int_max x y)
max_within n x y p q = record { low = omega (arith, ints, clamps); high = omega (arith, ints, clamps) }

-- ---- members and ends

pub low_member : (a b : ℤ) → a ≤ℤ b → Between a b a
low_member a b h = record { from = omega (arith, ints); to = h }

pub high_member : (a b : ℤ) → a ≤ℤ b → Between a b b
high_member a b h = record { from = h; to = omega (arith, ints) }

pub member_within : (n w : ℕ) (a b x : ℤ) → Ends n w a b → Between a b x → IsWithin n x
member_within n w a b x e p = let l = e.low in let h = e.high in record { low = omega (arith, ints); high = omega (arith, ints) }

pub members_within : (n w : ℕ) (a b x y : ℤ) → Ends n w a b → Between a b x → Between a b y
    → IsWithin w (x -ℤ y)
members_within n w a b x y e p q = let o = e.order in let h = e.width in record { low = omega (arith, ints); high = omega (arith, ints) }

pub ends_of : (n : ℕ) (a b : ℤ) → a ≤ℤ b → IsWithin n a → IsWithin n b
    → Ends n (nat_abs (b -ℤ a)) a b
ends_of n a b h p q = record { order = h; low = p; high = q; width = omega (arith, ints) }

-- ---- numbers that are close

pub flipped : (n : ℕ) (s t : ℤ) → Close n s t → Close n t s
flipped n s t c = record { below = c.above; above = c.below }

pub wider : (m n : ℕ) (s t : ℤ) → m ≤ n → Close m s t → Close n s t
wider m n s t h c = record { below = omega (arith, ints, c.below, c.above); above = omega (arith, ints, c.below, c.above) }

pub both_neg : (n : ℕ) (s t : ℤ) → Close n s t → Close n (neg_ℤ s) (neg_ℤ t)
both_neg n s t c = record { below = omega (arith, ints, c.below, c.above); above = omega (arith, ints, c.below, c.above) }

-- the sign moves from one side to the other
pub neg_right : (n : ℕ) (s t : ℤ) → Close n (neg_ℤ s) t → Close n s (neg_ℤ t)
neg_right n s t c = record { below = omega (arith, ints, c.below, c.above); above = omega (arith, ints, c.below, c.above) }

pub neg_left : (n : ℕ) (s t : ℤ) → Close n s (neg_ℤ t) → Close n (neg_ℤ s) t
neg_left n s t c = record { below = omega (arith, ints, c.below, c.above); above = omega (arith, ints, c.below, c.above) }

-- s and t are m and n away from numbers that are close
pub chain : (m n k : ℕ) (s t a b : ℤ) → Close m s a → Close n t b → Close k a b
    → Close (m + n + k) s t
chain m n k s t a b p q c = record {
  below = omega (arith, ints, p.below, p.above, q.below, q.above, c.below, c.above);
  above = omega (arith, ints, p.below, p.above, q.below, q.above, c.below, c.above);
}

pub back_within : (w : ℕ) (s m : ℤ) → IsWithin w (s -ℤ m) → IsWithin w (m -ℤ s)
back_within w s m h = record { low = omega (arith, ints, h.low, h.high); high = omega (arith, ints, h.low, h.high) }

pub one_number : (m : ℕ) → Ends m 0 (pos m) (pos m)
one_number m = record { order = omega (arith, ints); low = record { low = omega (arith, ints); high = omega (arith, ints) }; high = record { low = omega (arith, ints); high = omega (arith, ints) }; width = omega (arith, ints) }

pub difference_by : (al ah bl bh cl ch x y : ℤ) → cl ≡ al -ℤ bh → ch ≡ ah -ℤ bl → Between al ah x
    → Between bl bh y → Between cl ch (x -ℤ y)
difference_by al ah bl bh cl ch x y e f p q = record { from = omega (arith, ints, p.from, q.to); to = omega (arith, ints, p.to, q.from) }
