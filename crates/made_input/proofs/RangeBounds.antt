-- How far a satellite is from a made receiver, and how large its code is.
use Rattle.std.proofs.Common.{◌≡◌, ℕ, ◌+◌, ◌*◌, ◌%◌, ◌^◌, ◌<◌, ◌≤◌, subst, sym, arith, lit≤, inl, inr}
use Rattle.std.specs.Prelude.{ℤ, pos, neg_ℤ, ◌+ℤ◌, ◌-ℤ◌, ◌*ℤ◌, ◌≤ℤ◌, ◌==◌}
use Rattle.std.proofs.lemmas.Bool.{cases_Bool}
use Rattle.std.proofs.lemmas.Int.{ints}
use Rattle.grid_model.specs.Ranges.{range_to}
use Rattle.grid_model.specs.Intervals.{Between}
use Rattle.gnss_model.specs.Pseudorange.{IsSent, IsCorrected}
use Rattle.grid_model.specs.Sizes.{IsWithin}
use Rattle.grid_model.specs.declared.boxes.Pos.{Pos}
use Rattle.gnss_model.specs.declared.elements.Elements.{Elements}
use Rattle.grid_model.proofs.RootLemmas.{square-mono}
use Rattle.code_simulation.specs.Residuals.{Residual}
use Rattle.code_simulation.specs.SearchSizes.{IsNearPoint}
use Rattle.code_simulation.proofs.SquareLemmas.{side_most, side_least, range_most, range_least}
use Rattle.made_input.specs.MadeCodes.{place_of, place_x, place_y, place_z, tag_of, goal_by, goal_of, IsMadeCode}
use Rattle.made_input.specs.Generator.{drawn}
use Rattle.made_input.proofs.ClockBounds.{IsMadeClock, clock_small}
use Rattle.made_input.proofs.OrbitBounds.{IsMadeEllipse, seen_low, seen_high, seen_distance}

-- ---- draws

pub drawn_below : (seed i n : ℕ) → 0 < n → drawn seed i n < n
unfolding drawn
drawn_below seed i n some = omega (arith, some)

-- ---- ranges

-- the place is so far from the earth's centre, squared
abbrev place_square : ℕ
place_square = 4001 * 10 ^ 9 * (4001 * 10 ^ 9) + 3001 * 10 ^ 9 * (3001 * 10 ^ 9) + 3901 * 10 ^ 9 * (3901 * 10 ^ 9)

abbrev least_range : ℕ
least_range = 17800 * 10 ^ 9

abbrev greatest_range : ℕ
greatest_range = 38900 * 10 ^ 9

square_to : (m : ℕ) (n : ℕ) → n ≤ m → (pos n *ℤ pos n) ≤ℤ pos (m * m)
square_to m n h = let s = square-mono n m h in omega (arith, ints, s)

place_near : (seed : ℕ)
    → (((place_of seed).x *ℤ (place_of seed).x) +ℤ ((place_of seed).y *ℤ (place_of seed).y) +ℤ ((place_of seed).z *ℤ (place_of seed).z)) ≤ℤ pos place_square
place_near seed =
    let a = square_to (4001 * 10 ^ 9) (place_x seed * 10 ^ 6) (omega (arith, drawn_below seed 0 1000 (lit≤ tt))) in
    let b = square_to (3001 * 10 ^ 9) (place_y seed * 10 ^ 6) (omega (arith, drawn_below seed 1 1000 (lit≤ tt))) in
    let c = square_to (3901 * 10 ^ 9) (place_z seed * 10 ^ 6) (omega (arith, drawn_below seed 2 1000 (lit≤ tt))) in
    omega (arith, ints, a, b, c)

range_between : (x y z : ℤ) (p : Pos)
    → Between (pos (seen_low * seen_low)) (pos (seen_high * seen_high)) ((x *ℤ x) +ℤ (y *ℤ y) +ℤ (z *ℤ z))
    → ((p.x *ℤ p.x) +ℤ (p.y *ℤ p.y) +ℤ (p.z *ℤ p.z)) ≤ℤ pos place_square
    → (least_range ≤ range_to x y z p) × (range_to x y z p ≤ greatest_range)
range_between x y z p d near = (
  range_least least_range x y z p (omega (arith, ints, side_least x p.x, side_least y p.y, side_least z p.z, d.from, near)),
  range_most greatest_range x y z p (omega (arith, ints, side_most x p.x, side_most y p.y, side_most z p.z, d.to, near)),
)

seen_range : (seed : ℕ) (el : Elements) (tag pr v : ℤ) → IsMadeEllipse el
    → (c : Residual el tag (place_of seed) pr v)
    → (least_range ≤ c.range) × (c.range ≤ greatest_range)
seen_range seed el tag pr v made c =
    let seen = seen_distance el c.n c.t c.sent_x c.sent_y c.z c.x c.y (place_of seed) c.range made c.orbit c.turn in
    subst (λ (r : ℕ). (least_range ≤ r) × (r ≤ greatest_range)) (sym c.turn.range_is) (range_between c.x c.y c.z (place_of seed) seen (place_near seed))

-- ---- the place as a point of a box

pub place_is_near : (seed : ℕ) → IsNearPoint (place_of seed)
place_is_near seed =
    let x = drawn_below seed 0 1000 (lit≤ tt) in
    let y = drawn_below seed 1 1000 (lit≤ tt) in
    let z = drawn_below seed 2 1000 (lit≤ tt) in
    record {
      x = record { low = omega (arith, ints, x); high = omega (arith, ints, x) };
      y = record { low = omega (arith, ints, y); high = omega (arith, ints, y) };
      z = record { low = omega (arith, ints, z); high = omega (arith, ints, z) };
    }

pub box_size : (z : ℤ) → IsWithin 5000000000000 z → IsWithin 10000000000000 z
box_size z h = record { low = omega (arith, ints, h.low); high = omega (arith, ints, h.high) }

-- ---- codes

-- the signal of a code was sent within an hour and some minutes of the clock time
sent_near : (code tag tsv toc : ℤ) → neg_ℤ (pos (2 * 10 ^ 10)) ≤ℤ code → code ≤ℤ pos (8 * 10 ^ 10)
    → IsWithin (4 * 10 ^ 15) (tag -ℤ toc) → IsSent tag (code *ℤ pos 1000) tsv
    → IsWithin (10 ^ 18) (tsv -ℤ toc)
sent_near code tag tsv toc from to near is = record { low = omega (arith, ints, from, to, near.low, is.above); high = omega (arith, ints, from, to, near.high, is.below) }

-- less than 30 km of light
corrected_near : (pr dt v : ℤ) → IsWithin (10 ^ 12) dt → IsCorrected pr dt v
    → IsWithin (30 * 10 ^ 9) (v -ℤ pr)
corrected_near pr dt v near is = record { low = omega (arith, ints, near.low, is.above); high = omega (arith, ints, near.high, is.below) }

pub goal_near : (draw j k : ℕ) → draw < 4001 → IsWithin (503 * 10 ^ 6) (goal_by draw j k)
goal_near draw j k below = elim (cases_Bool (k == 1 + j % 8)) [
  | inl e ↦ rw e (record { low = omega (arith, ints, below); high = omega (arith, ints, below) })
  | inr e ↦ rw e (record { low = omega (arith, ints, below); high = omega (arith, ints, below) })
]

pub record IsPlausible (code : ℤ) : Type 0 where
  pub from : pos (15 * 10 ^ 9) ≤ℤ code
  pub to : code ≤ℤ pos (40 * 10 ^ 9)

code_between : (code corrected v goal : ℤ) (range : ℕ) → IsWithin (503 * 10 ^ 6) goal
    → Between (goal -ℤ pos 4507) (goal +ℤ pos 3507) v → v ≡ corrected -ℤ pos range
    → IsWithin (30 * 10 ^ 9) (corrected -ℤ (code *ℤ pos 1000))
    → least_range ≤ range → range ≤ greatest_range → IsPlausible code
code_between code corrected v goal range g b is c low high = record { from = omega (arith, ints, g.low, b.from, is, c.high, low); to = omega (arith, ints, g.high, b.to, is, c.low, high) }

pub code_in_range : (seed j k : ℕ) (code : ℤ) → (c : IsMadeCode seed j k code) → IsMadeClock c.el
    → IsMadeEllipse c.el → IsWithin (4 * 10 ^ 15) (tag_of j -ℤ c.el.toc) → IsPlausible code
code_in_range seed j k code c clock ellipse near =
    let v = c.some.0 in
    let r = c.some.1 in
    let dt = clock_small c.el r.n r.tsv r.dt r.t clock (sent_near code (tag_of j) r.tsv c.el.toc c.from c.to near r.tsv_is) r.clock in
    let far = seen_range seed c.el (tag_of j) (code *ℤ pos 1000) v ellipse r in
    code_between code r.corrected v (goal_of seed j k) r.range (goal_near (drawn seed (10 + 8 * j + k) 4001) j k (drawn_below seed (10 + 8 * j + k) 4001 (lit≤ tt))) (c.near v r) r.residual_is
    (corrected_near (code *ℤ pos 1000) r.dt r.corrected dt r.corrected_is) far.0 far.1
