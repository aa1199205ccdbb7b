use Rattle.std.proofs.Common.{arith, sym, ◌∙◌, pos, to_z, of_z, w64}
use Rattle.std.specs.Prelude.{neg_ℤ}
use Rattle.std.proofs.lemmas.Int.{ints}
use Rattle.error_bounds.proofs.FormLemmas.{from_between}
use Rattle.error_bounds.proofs.form.span_of.Goals as goal

pub returns-then-lo-hi-clause-within : goal.returns-then-lo-hi-clause-within
returns-then-lo-hi-clause-within c =
    let (lo_low, lo_high) = from_between (neg_ℤ (pos c.args.most)) (pos c.args.most) (to_z w64 (of_z w64 c.args.lo)) (sym c.is_within.ensures ∙ c.if-is_within.true) in
    let (hi_low, hi_high) = from_between (neg_ℤ (pos c.args.most)) (pos c.args.most) (to_z w64 (of_z w64 c.args.hi)) (sym c.is_within-then-is_within.ensures ∙ c.if-is_within-2.true) in
    record {
      lo = record { low = omega (arith, ints, lo_low, lo_high); high = omega (arith, ints, lo_low, lo_high) };
      hi = record { low = omega (arith, ints, hi_low, hi_high); high = omega (arith, ints, hi_low, hi_high) };
    }
