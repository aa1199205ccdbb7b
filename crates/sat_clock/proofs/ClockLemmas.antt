-- Ends of the lines of the clock chain, from the ends of their factors.
use Rattle.std.proofs.Common.{◌≡◌, ℕ, ◌+◌, ◌*◌, ◌≤◌, arith}
use Rattle.std.specs.Prelude.{ℤ, pos, neg_ℤ, ◌+ℤ◌, ◌-ℤ◌, ◌*ℤ◌, ◌≤ℤ◌}
use Rattle.std.proofs.lemmas.Int.{ints}
use Rattle.grid_model.specs.Angles.{unit}
use Rattle.gnss_model.specs.ClockChain.{IsEarlier}
use Rattle.grid_model.specs.Intervals.{Between, Ends}
use Rattle.grid_model.specs.Sizes.{IsWithin}
use Rattle.gnss_model.specs.RecordBounds.{IsField, LiesFrom}
use Rattle.gnss_model.specs.declared.elements.Elements.{Elements}
use Rattle.grid_model.specs.declared.spans.Wide.{Wide}
use Rattle.sat_clock.specs.ClockSizes.{IsNearEphemeris, ephemeris_reach, since_size, sent_size, motion_size, motion_width, width}

-- a field's numbers
pub field_ends : (n : ℕ) (field : Wide) → IsField n field → Ends n 1 field.lo field.hi
field_ends n field f = record { order = field.ordered; low = record { low = f.from; high = omega (arith, ints, f.to, field.ordered) }; high = record { low = omega (arith, ints, f.from, field.ordered); high = f.to }; width = omega (arith, ints, f.narrow) }

-- how far apart the ends are
pub ends_width : (n w : ℕ) (a b : ℤ) → Ends n w a b → width a b ≤ w
ends_width n w a b e = omega (arith, ints, e.order, e.width)

-- ---- times

-- tsv - toc, by way of the ephemeris time
pub since_ends : (el : Elements) (lo hi : ℤ) → lo ≤ℤ hi → IsNearEphemeris el lo hi
    → Ends since_size (width lo hi) (lo -ℤ el.toc) (hi -ℤ el.toc)
since_ends el lo hi o n =
    let v = el.toc_near.low in
    let w = el.toc_near.high in
    record {
      order = omega (arith, ints);
      low = record { low = omega (arith, ints, n.low, w.high); high = omega (arith, ints, n.high, v.low) };
      high = record { low = omega (arith, ints, n.low, w.high); high = omega (arith, ints, n.high, v.low) };
      width = omega (arith, ints);
    }

-- tsv - toe
pub ephemeris_ends : (lo hi start early late l h : ℤ) → lo ≤ℤ hi → early ≤ℤ late
    → late ≤ℤ (early +ℤ pos 1) → neg_ℤ (pos ephemeris_reach) ≤ℤ (lo -ℤ (start +ℤ late))
    → (hi -ℤ (start +ℤ early)) ≤ℤ pos ephemeris_reach → l ≡ lo -ℤ (start +ℤ late)
    → h ≡ hi -ℤ (start +ℤ early) → Ends ephemeris_reach (width lo hi + 1) l h
ephemeris_ends lo hi start early late l h o p q f g d e = record {
  order = omega (arith, ints);
  low = record { low = omega (arith, ints); high = omega (arith, ints) };
  high = record { low = omega (arith, ints); high = omega (arith, ints) };
  width = omega (arith, ints);
}

pub ephemeris_between : (lo hi start early late l h x toe : ℤ) → l ≡ lo -ℤ (start +ℤ late)
    → h ≡ hi -ℤ (start +ℤ early) → Between lo hi x → Between early late toe
    → Between l h (x -ℤ (start +ℤ toe))
ephemeris_between lo hi start early late l h x toe d e p q = record { from = omega (arith, ints, p.from, q.to); to = omega (arith, ints, p.to, q.from) }

-- the same time from another zero
pub earlier_from : (x b t zero : ℤ) → IsEarlier x b t → IsEarlier (x -ℤ zero) b (t -ℤ zero)
earlier_from x b t zero n = record { below = omega (arith, ints, n.below, n.above); above = omega (arith, ints, n.below, n.above) }

-- ---- the mean motion and the anomaly

pub motion_ends : (lo hi : ℤ) → lo ≤ℤ hi → pos 0 ≤ℤ lo → hi ≤ℤ pos motion_size
    → (hi -ℤ lo) ≤ℤ pos motion_width → Ends motion_size motion_width lo hi
motion_ends lo hi o f g w = record { order = o; low = record { low = omega (arith, ints); high = omega (arith, ints) }; high = record { low = omega (arith, ints); high = omega (arith, ints) }; width = w }

-- a field that isn't negative
pub natural_ends : (n : ℕ) (least : ℤ) (field : Wide) → pos 0 ≤ℤ least
    → LiesFrom least (pos n) field → Ends n 1 field.lo field.hi
natural_ends n least field h f = record { order = field.ordered; low = record { low = omega (arith, ints, f.from); high = omega (arith, ints, f.to, field.ordered) }; high = record { low = omega (arith, ints, f.from, field.ordered); high = f.to }; width = omega (arith, ints, f.narrow) }

pub sine_ends : (ml mh el eh xl xh sl sh : ℤ) → ml ≤ℤ mh → eh ≤ℤ (el +ℤ pos 1) → sl ≤ℤ sh
    → (xh -ℤ xl) ≤ℤ (pos 2 *ℤ ((mh -ℤ ml) +ℤ (eh -ℤ el)) +ℤ pos 64)
    → (sh -ℤ sl) ≤ℤ ((xh -ℤ xl) +ℤ pos 16) → IsWithin (unit + 8) sl → IsWithin (unit + 8) sh
    → Ends (unit + 8) (2 * width ml mh + 82) sl sh
sine_ends ml mh el eh xl xh sl sh o n p f g v w = record { order = p; low = v; high = w; width = omega (arith, ints) }

-- ---- tsv is a time after the start of GPS time

pub sent_ends : (el : Elements) (lo hi : ℤ) → lo ≤ℤ hi → IsNearEphemeris el lo hi
    → Ends sent_size (width lo hi) lo hi
sent_ends el lo hi o n =
    let v = el.toc_near.low in
    let w = el.toc_near.high in
    let p = el.toc_from in
    let q = el.toc_under in
    record {
      order = o;
      low = record { low = omega (arith, ints, n.low, w.high); high = omega (arith, ints, n.high, v.low) };
      high = record { low = omega (arith, ints, n.low, w.high); high = omega (arith, ints, n.high, v.low) };
      width = omega (arith, ints);
    }
