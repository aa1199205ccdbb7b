-- Small facts on products and offsets.
use Rattle.std.proofs.Common.{◌≡◌, ℕ, ◌+◌, ◌*◌, ◌/◌, ◌^◌, ◌≤◌, arith}
use Rattle.std.specs.Prelude.{ℤ, pos, negsuc, ◌*ℤ◌, ◌≤ℤ◌}
use Rattle.std.proofs.lemmas.Int.{ints}
use Rattle.grid_model.specs.Angles.{unit}
use Rattle.grid_model.specs.Intervals.{Ends}
use Rattle.grid_model.specs.Rounding.{Near}
use Rattle.gnss_model.specs.Layers.{layer_scale}
use Rattle.gnss_model.specs.Mapping.{up_scale, IsMapped}
use Rattle.gnss_model.specs.declared.delays.Layer.{Layer}

pub scale_spread : (w : ℕ)
    → pos (10 ^ 13 * 0 + up_scale * w) ≤ℤ (pos (w + w / 148 + 1) *ℤ pos (10 ^ 14))
scale_spread w = omega (arith, ints)

pub scale_ends : Ends up_scale 0 (pos up_scale) (pos up_scale)
scale_ends = record { order = record { le = tt }; low = record { low = record { le = tt }; high = record { le = tt } }; high = record { low = record { le = tt }; high = record { le = tt } }; width = record { le = tt } }

pub one_times : (n : ℕ) → pos n ≤ℤ (pos n *ℤ pos 1)
one_times n = omega (arith, ints)

thousand : (z : ℤ) (h : ℕ) → z *ℤ pos (1000 * h) ≡ pos 1000 *ℤ (z *ℤ pos h)
thousand (pos n) h = omega (arith, ints)
thousand (negsuc n) h = omega (arith, ints)

-- so many thousandths, both over 1000
pub near_thousand : (layer : Layer) (h : ℕ) (mp : ℤ) → IsMapped layer h mp
    → Near (pos unit *ℤ pos (layer_scale layer * 10 ^ 13)) (pos h) mp
near_thousand layer h mp n = record { below = omega (arith, ints, thousand mp h, n.below); above = omega (arith, ints, thousand mp h, n.above) }
