use Rattle.std.proofs.Common.{refl, arith}
use Rattle.std.proofs.lemmas.Int.{ints}
use Rattle.exact_decimal.proofs.Limits.{below_floor, above_ceiling, some_parts, passes_none}
use Rattle.exact_decimal.proofs.between.to_unit_between.Goals as goal

pub returns-in_default-clause-lies : goal.returns-in_default-clause-lies
returns-in_default-clause-lies c = (λ e. absurd cc, λ lies. absurd (passes_none _ _ _ _ _ c.requires.low_within c.requires.high_within (c.in_default.ensures.range.0 refl) lies))

pub returns-then-held-low-clause-lies : goal.returns-then-held-low-clause-lies
returns-then-held-low-clause-lies c = (
  λ e. absurd cc,
  λ lies. let some = some_parts c.args.decimal.ten c.args.unit in
      absurd (let no = (below_floor _ _ c.args.low c.in-Ok.held.lo some c.in-Ok.ensures.floor).1 lies.from in omega (arith, ints, no, c.if-held-low.true)),
)

pub returns-then-held-high-clause-lies : goal.returns-then-held-high-clause-lies
returns-then-held-high-clause-lies c = (
  λ e. absurd cc,
  λ lies. let some = some_parts c.args.decimal.ten c.args.unit in
      absurd (let no = (above_ceiling _ _ c.args.high c.in-Ok.held.hi some c.in-Ok.ensures.ceiling).1 lies.to in omega (arith, ints, no, c.if-held-high.true)),
)

pub returns-clause-lies : goal.returns-clause-lies
returns-clause-lies c = (
  λ e.
      let some = some_parts c.args.decimal.ten c.args.unit in
      record {
        from = (below_floor _ _ c.args.low c.in-Ok.held.lo some c.in-Ok.ensures.floor).0 (omega (arith, ints, c.if-held-low.false));
        to = (above_ceiling _ _ c.args.high c.in-Ok.held.hi some c.in-Ok.ensures.ceiling).0 (omega (arith, ints, c.if-held-high.false));
      },
  λ lies. refl,
)
