-- Products of the whole numbers between two pairs of ends, a to b and c to d.
use Rattle.std.specs.Prelude.{ℕ, ℤ, ◌*ℤ◌}
use Rattle.std.specs.Int.{int_min, int_max}
use Rattle.grid_model.specs.Sizes.{IsWithin}

-- the least product is one of the four products of ends
abbrev pub least_product : ℤ → ℤ → ℤ → ℤ → ℤ
least_product a b c d = int_min (int_min (a *ℤ c) (a *ℤ d)) (int_min (b *ℤ c) (b *ℤ d))

-- and so is the greatest
abbrev pub greatest_product : ℤ → ℤ → ℤ → ℤ → ℤ
greatest_product a b c d = int_max (int_max (a *ℤ c) (a *ℤ d)) (int_max (b *ℤ c) (b *ℤ d))

-- no product of ends passes n in amount
pub record ProductsWithin (n : ℕ) (a b c d : ℤ) : Type 0 where
  pub low_low : IsWithin n (a *ℤ c)
  pub low_high : IsWithin n (a *ℤ d)
  pub high_low : IsWithin n (b *ℤ c)
  pub high_high : IsWithin n (b *ℤ d)
