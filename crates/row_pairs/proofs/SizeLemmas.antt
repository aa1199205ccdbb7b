-- Sizes of roots and slopes.
use Rattle.std.proofs.Common.{◌≡◌, ℕ, ◌*◌, ◌<◌, ◌≤◌, arith, FitsSigned, w64}
use Rattle.std.specs.Prelude.{ℤ, pos, ◌+ℤ◌, ◌*ℤ◌, neg_ℤ, unsigned_abs, ◌≤ℤ◌, ◌<ℤ◌}
use Rattle.std.proofs.lemmas.Int.{ints}
use Rattle.grid_model.specs.Rounding.{IsFloor}
use Rattle.grid_model.specs.Sizes.{IsWithin}
use Rattle.grid_model.proofs.ProductLemmas.{mul_lt_back, mul_le_back, add_mul, neg_mul, product_within}
use Rattle.sat_model.proofs.PairAxisLemmas.{amount_within}
use Rattle.grid_model.proofs.PlainLemmas.{within_itself}

pub fits64 : (z : ℤ) → IsWithin 4194304 z → FitsSigned w64 z
fits64 z h = omega (arith, ints, h.low, h.high)

-- the quotient of S v by a greater number than v is at most S in amount
pub slope_small : (s a : ℕ) (v q : ℤ) → unsigned_abs v < a → IsFloor (pos s *ℤ v) (pos a) q
    → IsWithin s q
slope_small s a v q h f =
    let w : IsWithin (s * a) (pos s *ℤ v) = product_within s a (pos s) v (within_itself s) (wide v a h) in
    record {
      low = back (pos s) q (mul_lt_back (neg_ℤ (pos s)) (q +ℤ pos 1) (pos a) (some v a h) (low_atoms (q *ℤ pos a) (pos s *ℤ v) s a (neg_ℤ (pos s) *ℤ pos a) ((q +ℤ pos 1) *ℤ pos a) w f.gt (low_product s a) (add_mul q (pos 1) (pos a))));
      high = mul_le_back q (pos s) (pos a) (some v a h) (high_atoms (q *ℤ pos a) (pos s *ℤ v) s a w f.le);
    }
  where
    wide : (v : ℤ) (a : ℕ) → unsigned_abs v < a → IsWithin a v
    wide v a h = let w = amount_within v in record { low = omega (arith, ints, w.low); high = omega (arith, ints, w.high) }

    some : (v : ℤ) (a : ℕ) → unsigned_abs v < a → pos 0 <ℤ pos a
    some v a h = omega (arith, ints)

    back : (s q : ℤ) → neg_ℤ s <ℤ (q +ℤ pos 1) → neg_ℤ s ≤ℤ q
    back s q h = omega (arith, ints)

    low_product : (s a : ℕ) → neg_ℤ (pos s) *ℤ pos a ≡ neg_ℤ (pos (s * a))
    low_product s a = omega (arith, ints, neg_mul (pos s) (pos a))

    low_atoms : (qa sv : ℤ) (s a : ℕ) (nsa qa1 : ℤ) → IsWithin (s * a) sv → sv <ℤ (qa +ℤ pos a)
        → nsa ≡ neg_ℤ (pos (s * a)) → qa1 ≡ qa +ℤ (pos 1 *ℤ pos a) → nsa <ℤ qa1
    low_atoms qa sv s a nsa qa1 w h e f = omega (arith, ints, w.low)

    high_atoms : (qa sv : ℤ) (s a : ℕ) → IsWithin (s * a) sv → qa ≤ℤ sv → qa ≤ℤ (pos s *ℤ pos a)
    high_atoms qa sv s a w h = omega (arith, ints, w.high)
