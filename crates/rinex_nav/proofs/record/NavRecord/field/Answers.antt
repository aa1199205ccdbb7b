use Rattle.std.proofs.Common.{refl, sym, subst, FitsSigned}
use Rattle.std.specs.Int.{w128}
use Rattle.std.proofs.lemmas.Int.{to_z-of_z}
use Rattle.exact_decimal.specs.Units.{LiesBetween}
use Rattle.exact_decimal.specs.declared.decimal.Decimal.{Decimal}
use Rattle.exact_decimal.proofs.Limits.{some_parts}
use Rattle.rinex_nav.specs.ElementsOf.{IsRounded}
use Rattle.rinex_nav.proofs.BoundLemmas.{one_more, inside_row, holds_row, narrow}
use Rattle.rinex_nav.proofs.record.NavRecord.field.Goals as goal

pub returns-in-Some-clause-before : goal.returns-in-Some-clause-before
returns-in-Some-clause-before c =
    let f : FitsSigned w128 c.args.low = c.ranges.low in
    let g : FitsSigned w128 c.args.high = c.ranges.high in
    let h = c.in-Some.ensures.lies.0 refl in
    let lies = simp to_z-of_z at h in
    one_more _ _ c.requires.before ((inside_row c.args.self.now.fields c.args.number _ _ _ c.requires.row).1 (subst (λ (d : Decimal). LiesBetween d.digits d.ten c.args.unit c.args.low c.args.high) c.decimal.ensures lies))

pub returns-in-Some-clause-field : goal.returns-in-Some-clause-field
returns-in-Some-clause-field c =
    let f : FitsSigned w128 c.args.low = c.ranges.low in
    let g : FitsSigned w128 c.args.high = c.ranges.high in
    let e = c.in-Some.ensures in
    let from = e.from in
    let to = e.to in
    let from2 = simp to_z-of_z at from in
    let to2 = simp to_z-of_z at to in
    holds_row c.args.self.now.fields c.args.number _ _ _ c.in-Some.field c.requires.row
    (subst (λ (d : Decimal). IsRounded c.in-Some.field d c.args.unit) c.decimal.ensures (record { floor = e.floor; ceiling = e.ceiling }))
    (record { from = from2; to = to2; narrow = narrow _ _ _ _ (some_parts c.decimal.result.ten c.args.unit) e.floor e.ceiling })

pub returns-in-None-clause-outside : goal.returns-in-None-clause-outside
returns-in-None-clause-outside c = record {
  from = c.requires.from;
  to = c.requires.to;
  before = c.requires.before;
  outside = λ is.
      let f : FitsSigned w128 c.args.low = c.ranges.low in
      let g : FitsSigned w128 c.args.high = c.ranges.high in
      let lies = subst (λ (d : Decimal). LiesBetween d.digits d.ten c.args.unit c.args.low c.args.high) (sym c.decimal.ensures) ((inside_row c.args.self.now.fields c.args.number _ _ _ c.requires.row).0 is) in
      let no = c.in-None.ensures.lies.1 (simp to_z-of_z lies) in
      absurd cc;
}
