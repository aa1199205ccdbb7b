-- The ends of a number with a sign, from those of its amount. No public clause cites this.
use Rattle.std.specs.Prelude.{ℕ, ℤ, Bool, true, false, pos, neg_ℤ}

abbrev pub low_of : Bool → ℕ → ℕ → ℤ
low_of true floor ceiling = neg_ℤ (pos ceiling)
low_of false floor ceiling = pos floor

abbrev pub high_of : Bool → ℕ → ℕ → ℤ
high_of true floor ceiling = neg_ℤ (pos floor)
high_of false floor ceiling = pos ceiling
