-- Satellites in order.
use Rattle.std.proofs.Common.{ℕ, ◌<◌, ◌≤◌, List, [], arith}
use Rattle.gnss_model.specs.declared.satellites.Sat.{Sat}
use Rattle.grid_model.specs.declared.spans.Span.{Span}
use Rattle.error_bounds.specs.Reading.{AreListed}

pub none_listed : (sat : Sat) → AreListed sat []
none_listed sat = record {
  declared = λ k d within. absurd (omega (arith, within));
  ascending = λ i j e less within. absurd (omega (arith, within));
  below = λ k d within. absurd (omega (arith, within));
}

-- behind all of a system those of a later one may come
pub listed_later : (system next n m : ℕ) (extra : List (Sat × Span)) → system < next → n ≤ 256
    → AreListed (record { system = system; number = n }) extra
    → AreListed (record { system = next; number = m }) extra
listed_later system next n m extra more fits l = record { declared = l.declared; ascending = l.ascending; below = λ k d within. omega (arith, more, fits, l.below k d within) }
