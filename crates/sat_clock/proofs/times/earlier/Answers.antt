use Rattle.std.proofs.Common.{◌≡◌, ℕ, ◌^◌, ◌+◌, ◌*◌, ◌≤◌, arith}
use Rattle.std.specs.Prelude.{ℤ, pos, ◌+ℤ◌, ◌-ℤ◌, ◌*ℤ◌, ◌≤ℤ◌}
use Rattle.std.proofs.lemmas.Int.{ints}
use Rattle.gnss_model.specs.ClockChain.{IsEarlier}
use Rattle.grid_model.specs.Intervals.{Between, Ends}
use Rattle.grid_model.specs.Products.{least_product, greatest_product}
use Rattle.grid_model.specs.Rounding.{Near, IsTightRound}
use Rattle.grid_model.specs.Sizes.{IsWithin}
use Rattle.grid_model.proofs.EndsLemmas.{product_ends, difference_ends}
use Rattle.sat_clock.proofs.times.earlier.Goals as goal

one_ends : Ends 1 0 (pos 1) (pos 1)
one_ends = record { order = record { le = tt }; low = record { low = record { le = tt }; high = record { le = tt } }; high = record { low = record { le = tt }; high = record { le = tt } }; width = record { le = tt } }

-- the offset in ps
in_ps : (n w j k : ℕ) (a b l h : ℤ) → Ends n w a b → n ≤ j * 10 ^ 4 → w ≤ k * 10 ^ 4 → l ≤ℤ h
    → IsTightRound (least_product a b (pos 1) (pos 1)) (pos (10 ^ 4)) (greatest_product a b (pos 1) (pos 1)) (pos (10 ^ 4)) l h
    → Ends (j + 2) (k + 4) l h
in_ps n w j k a b l h e f g o t = product_ends n w 1 0 j k a b (pos 1) (pos 1) (pos (10 ^ 4)) l h e one_ends (record { lt = tt }) (omega (arith, ints)) (omega (arith, ints)) o t

in_ps_small : (a b l h : ℤ) → a ≤ℤ b → IsWithin (10 ^ 37) a → IsWithin (10 ^ 37) b → l ≤ℤ h
    → IsTightRound (least_product a b (pos 1) (pos 1)) (pos (10 ^ 4)) (greatest_product a b (pos 1) (pos 1)) (pos (10 ^ 4)) l h
    → Ends (10 ^ 33 + 2) (2 * 10 ^ 33 + 4) l h
in_ps_small a b l h p u v o t = in_ps (10 ^ 37) (2 * 10 ^ 37) (10 ^ 33) (2 * 10 ^ 33) a b l h (record { order = p; low = u; high = v; width = omega (arith, ints) }) (omega arith) (omega arith) o t

within_less : (x y : ℤ) → IsWithin (10 ^ 37) x → IsWithin (10 ^ 33 + 2) y
    → IsWithin (10 ^ 38) (x -ℤ y)
within_less x y p q = record { low = omega (arith, ints); high = omega (arith, ints) }

-- what is taken off is near the offset
taken_off : (a b t : ℤ) → IsEarlier a b t → Near (b *ℤ pos 1) (pos (10 ^ 4)) (a -ℤ t)
taken_off a b t n = record { below = omega (arith, ints, n.above, n.below); above = omega (arith, ints, n.above, n.below) }

between_less : (lo hi l h rl rh a t : ℤ) → Between lo hi a → Between l h (a -ℤ t) → rl ≡ lo -ℤ h
    → rh ≡ hi -ℤ l → Between rl rh t
between_less lo hi l h rl rh a t p q e f = record { from = omega (arith, ints, p.from, q.to); to = omega (arith, ints, p.to, q.from) }

pub minus-requires-clause-low_size : goal.minus-requires-clause-low_size
minus-requires-clause-low_size c =
    within_less c.args.time.lo c.times_over.result.hi c.requires.low_size (in_ps_small c.args.offset.lo c.args.offset.hi c.times_over.result.lo c.times_over.result.hi c.args.offset.ordered c.requires.offset_low_size c.requires.offset_high_size c.times_over.result.ordered c.times_over.ensures.tight).high

pub minus-requires-clause-high_size : goal.minus-requires-clause-high_size
minus-requires-clause-high_size c =
    within_less c.args.time.hi c.times_over.result.lo c.requires.high_size (in_ps_small c.args.offset.lo c.args.offset.hi c.times_over.result.lo c.times_over.result.hi c.args.offset.ordered c.requires.offset_low_size c.requires.offset_high_size c.times_over.result.ordered c.times_over.ensures.tight).low

pub returns-clause-holds : goal.returns-clause-holds
returns-clause-holds c a b t p q n =
    let one : Between (pos 1) (pos 1) (pos 1) = record { from = record { le = tt }; to = record { le = tt } } in
    between_less c.args.time.lo c.args.time.hi c.times_over.result.lo c.times_over.result.hi c.minus.result.lo c.minus.result.hi a t p (c.times_over.ensures.holds b (pos 1) (a -ℤ t) q one (taken_off a b t n)) c.minus.ensures.low c.minus.ensures.high

pub returns-clause-ends : goal.returns-clause-ends
returns-clause-ends c m v n w j k e f g h =
    rw (c.minus.ensures.low, c.minus.ensures.high)
    (difference_ends m v (j + 2) (k + 4) c.args.time.lo c.args.time.hi c.times_over.result.lo c.times_over.result.hi e
    (in_ps n w j k c.args.offset.lo c.args.offset.hi c.times_over.result.lo c.times_over.result.hi f g h c.times_over.result.ordered c.times_over.ensures.tight))

early : (r time l h : ℤ) (j k : ℕ) → r ≡ time -ℤ h → Ends j k l h → (time -ℤ pos j) ≤ℤ r
early r time l h j k e f = omega (arith, ints, f.high.high)

late : (r time l h : ℤ) (j k : ℕ) → r ≡ time -ℤ l → Ends j k l h → r ≤ℤ (time +ℤ pos j)
late r time l h j k e f = omega (arith, ints, f.low.low)

pub returns-clause-early : goal.returns-clause-early
returns-clause-early c n w j f g =
    early c.minus.result.lo c.args.time.lo c.times_over.result.lo c.times_over.result.hi (j + 2) (w + 4) c.minus.ensures.low
    (in_ps n w j w c.args.offset.lo c.args.offset.hi c.times_over.result.lo c.times_over.result.hi f g (omega arith) c.times_over.result.ordered c.times_over.ensures.tight)

pub returns-clause-late : goal.returns-clause-late
returns-clause-late c n w j f g =
    late c.minus.result.hi c.args.time.hi c.times_over.result.lo c.times_over.result.hi (j + 2) (w + 4) c.minus.ensures.high
    (in_ps n w j w c.args.offset.lo c.args.offset.hi c.times_over.result.lo c.times_over.result.hi f g (omega arith) c.times_over.result.ordered c.times_over.ensures.tight)
