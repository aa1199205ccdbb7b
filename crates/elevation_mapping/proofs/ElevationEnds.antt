-- How large the quotients are that the sine of the elevation is made of.
use Rattle.std.proofs.Common.{◌≡◌, ℕ, ◌+◌, ◌-◌, ◌*◌, ◌^◌, ◌≤◌, arith, lit≤}
use Rattle.std.specs.Prelude.{ℤ, pos, neg_ℤ, ◌+ℤ◌, ◌≤ℤ◌}
use Rattle.std.proofs.lemmas.Int.{ints}
use Rattle.grid_model.specs.Amounts.{square}
use Rattle.grid_model.specs.Angles.{unit}
use Rattle.grid_model.specs.Intervals.{Ends}
use Rattle.grid_model.specs.Roots.{root}
use Rattle.grid_model.specs.Rounding.{IsTightQuotient}
use Rattle.grid_model.proofs.EndsLemmas.{quotient_ends, wider_ends}
use Rattle.fix_interval.proofs.ProductEnds.{amount_of}
use Rattle.fix_interval.specs.declared.place.Place.{Place}
use Rattle.fix_interval.specs.Places.{PlaceAmount}
use Rattle.elevation_mapping.specs.Places.{least_sum, greatest_sum}
use Rattle.elevation_mapping.specs.SineSizes.{up_amount, offset_amount, inner_amount, length_amount, height_amount, sine_amount, least_up, least_range}
use Rattle.elevation_mapping.proofs.Lengths.{root_at_least, length_ends}
use Rattle.fix_interval.proofs.PlaceLemmas.{wider_place}
use Rattle.grid_model.proofs.PlainLemmas.{within_itself}

least_divisor : (n v : ℕ) (l : ℤ) → l ≡ pos v → n ≤ v → pos n ≤ℤ l
least_divisor n v l e h = omega (arith, ints)

pub height_ends : (up : Place) (a b c d l h : ℤ) → PlaceAmount up_amount up
    → square least_up ≤ least_sum up → c ≡ pos (root (least_sum up))
    → d ≡ pos (root (greatest_sum up)) → Ends inner_amount (2 * inner_amount) a b → l ≤ℤ h
    → IsTightQuotient a b c d (pos 1) l h → Ends height_amount (2 * height_amount) l h
height_ends up a b c d l h p far e f i o t =
    let w = amount_of length_amount _ c d (length_ends (2 * offset_amount) up c d (wider_place up_amount offset_amount (2 * up_amount) (2 * offset_amount) up (lit≤ tt) (lit≤ tt) p) e f) in
    let s = least_divisor least_up (root (least_sum up)) c e (root_at_least least_up (least_sum up) far) in
    let k = 6 * 10 ^ 14 in
    let j = 10 ^ 17 in
    amount_of height_amount (j + 4) l h (wider_ends (k + 2) height_amount (j + 4) (j + 4) l h (lit≤ tt) (lit≤ tt) (quotient_ends inner_amount (2 * inner_amount) length_amount (2 * length_amount) k j 1 least_up (pos 1) a b c d l h i w (within_itself 1) (omega (arith, ints, s)) s (lit≤ tt) (lit≤ tt) o t))

pub sine_ends : (line : Place) (a b c d l h : ℤ) → PlaceAmount offset_amount line
    → square least_range ≤ least_sum line → c ≡ pos (root (least_sum line))
    → d ≡ pos (root (greatest_sum line)) → Ends height_amount (2 * height_amount) a b → l ≤ℤ h
    → IsTightQuotient a b c d (pos unit) l h → Ends (sine_amount - 8) (2 * (sine_amount - 8)) l h
sine_ends line a b c d l h p far e f i o t =
    let w = amount_of length_amount _ c d (length_ends (2 * offset_amount) line c d p e f) in
    let s = least_divisor least_range (root (least_sum line)) c e (root_at_least least_range (least_sum line) far) in
    let k = 2 * 10 ^ 18 in
    let j = 10 ^ 21 in
    amount_of (sine_amount - 8) (j + 4) l h (wider_ends (k + 2) (sine_amount - 8) (j + 4) (j + 4) l h (lit≤ tt) (lit≤ tt) (quotient_ends height_amount (2 * height_amount) length_amount (2 * length_amount) k j unit least_range (pos unit) a b c d l h i w (within_itself unit) (omega (arith, ints, s)) s (lit≤ tt) (lit≤ tt) o t))

pub padded_ends : (l h m n : ℤ) → m ≡ l +ℤ neg_ℤ (pos 8) → n ≡ h +ℤ pos 8
    → Ends (sine_amount - 8) (2 * (sine_amount - 8)) l h → Ends sine_amount (2 * sine_amount) m n
padded_ends l h m n e f i =
    let o = i.order in
    let p = i.low in
    let q = i.high in
    record { order = omega (arith, ints); low = record { low = omega (arith, ints, p.low, p.high); high = omega (arith, ints, p.low, p.high) }; high = record { low = omega (arith, ints, q.low, q.high); high = omega (arith, ints, q.low, q.high) }; width = omega (arith, ints, p.low, p.high, q.low, q.high) }
