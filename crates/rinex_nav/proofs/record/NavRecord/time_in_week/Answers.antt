use Rattle.std.proofs.Common.{arith, refl, subst}
use Rattle.std.specs.Prelude.{pos, ◌<ℤ◌}
use Rattle.std.proofs.lemmas.Int.{ints}
use Rattle.exact_decimal.specs.declared.decimal.Decimal.{Decimal}
use Rattle.exact_decimal.specs.declared.unit.Unit.TheVariants.{Time}
use Rattle.exact_decimal.proofs.Limits.{some_parts}
use Rattle.rinex_nav.specs.FieldBounds.{LiesUnder}
use Rattle.rinex_nav.specs.ElementsOf.{IsRounded}
use Rattle.rinex_nav.proofs.BoundLemmas.{under_floor, narrow}
use Rattle.rinex_nav.proofs.record.NavRecord.time_in_week.Goals as goal

pub returns-clause-inside : goal.returns-clause-inside
returns-clause-inside c =
    let lies = c.in_ok-toe.ensures.lies.0 refl in
    let less : c.in_ok-toe.toe.lo <ℤ pos 604800000000000000 = omega (arith, ints, c.if-toe-ge-WEEK.false) in
    subst (λ (d : Decimal). LiesUnder d Time (pos 604800000000000000)) c.decimal.ensures
    (record { from = omega (arith, ints, lies.from); under = (under_floor c.decimal.result _ _ c.in_ok-toe.ensures.floor).0 less })

pub returns-clause-field : goal.returns-clause-field
returns-clause-field c =
    let e = c.in_ok-toe.ensures in (
      subst (λ (d : Decimal). IsRounded c.in_ok-toe.toe d Time) c.decimal.ensures (record { floor = e.floor; ceiling = e.ceiling }),
      record { from = e.from; to = e.to; narrow = narrow _ _ _ _ (some_parts c.decimal.result.ten Time) e.floor e.ceiling },
      omega (arith, ints, c.if-toe-ge-WEEK.false),
    )
