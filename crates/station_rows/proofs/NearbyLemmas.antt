-- By how much pseudoranges differ whose codes, or combinations of codes, are near.
use Rattle.std.proofs.Common.{refl, ℕ, ◌+◌, ◌*◌, arith}
use Rattle.std.specs.Prelude.{ℤ, pos, neg_ℤ, ◌-ℤ◌, ◌≤ℤ◌, ◌<ℤ◌, Option, None, Some}
use Rattle.std.proofs.lemmas.Int.{ints}
use Rattle.gnss_model.specs.Pseudorange.{IsRangeWith}
use Rattle.gnss_model.specs.Systems.{squares_apart}
use Rattle.gnss_model.specs.declared.systems.System.{System}
use Rattle.grid_model.specs.Rounding.{Near}
use Rattle.grid_model.specs.Sizes.{IsWithin}
use Rattle.grid_model.specs.declared.spans.Wide.{Wide}
use Rattle.grid_model.proofs.IntervalLemmas.{difference_by}
use Rattle.grid_model.proofs.ProductLemmas.{mul_le_back, less_mul}
use Rattle.pseudorange_prep.proofs.WidthLemmas.{apart_positive, code_member}
use Rattle.station_rows.specs.Nearby.{AreNearWith, pseudoranges_apart}

-- ---- the pseudoranges: combinations are rounded by one unit each

combined_apart : (k : ℕ) (c d pr qr : ℤ) → pos 0 <ℤ pos k
    → neg_ℤ (pos (k * pseudoranges_apart)) ≤ℤ (c -ℤ d) → (c -ℤ d) ≤ℤ pos (k * pseudoranges_apart)
    → Near c (pos k) pr → Near d (pos k) qr → IsWithin (pseudoranges_apart + 2) (pr -ℤ qr)
combined_apart k c d pr qr some from to n m =
    let apart = less_mul pr qr (pos k) in
    let low : neg_ℤ (pos 5000000000002) ≤ℤ (pr -ℤ qr) = mul_le_back (neg_ℤ (pos 5000000000002)) (pr -ℤ qr) (pos k) some
    (omega (arith, ints, apart, from, n.above, m.below)) in
    let high : (pr -ℤ qr) ≤ℤ pos 5000000000002 = mul_le_back (pr -ℤ qr) (pos 5000000000002) (pos k) some
    (omega (arith, ints, apart, to, n.below, m.above)) in
    record { low = omega (arith, ints, low); high = omega (arith, ints, high) }

pub near_ranges : (system : System) (first : Wide) (second : Option Wide) (other : Wide)
    (other_second : Option Wide) (pr qr : ℤ) → AreNearWith system first second other other_second
    → IsRangeWith system first second pr → IsRangeWith system other other_second qr
    → IsWithin (pseudoranges_apart + 2) (pr -ℤ qr)
near_ranges system first None other None pr qr h v w = record { low = omega (arith, ints, h.from, v.from, w.to); high = omega (arith, ints, h.to, v.to, w.from) }
near_ranges system first None other (Some other_second) pr qr h v w = absurd h
near_ranges system first (Some second) other None pr qr h v w = absurd h
near_ranges system first (Some second) other (Some other_second) pr qr h (p, q, pv, qv, n) (s, t, sv, tv, m) =
    let own = code_member system first.lo first.hi second.lo second.hi p q _ _ pv qv refl refl in
    let theirs = code_member system other.lo other.hi other_second.lo other_second.hi s t _ _ sv tv refl refl in
    let apart = difference_by _ _ _ _ _ _ _ _ refl refl own theirs in
    combined_apart (squares_apart system) _ _ pr qr (apart_positive system) (omega (arith, ints, h.from, apart.from)) (omega (arith, ints, h.to, apart.to)) n m
