use Rattle.std.proofs.Common.{rules, arith, ◌/◌, FitsSigned}
use Rattle.std.specs.Prelude.{nat_abs}
use Rattle.std.specs.Int.{w128}
use Rattle.std.proofs.lemmas.Int.{ints, to_z-of_z}
use Rattle.rinex_nav.proofs.SourceLemmas.{whole_floor, whole_ceiling, is_whole}
use Rattle.rinex_nav.proofs.source.whole.Goals as goal

pub returns-then-held-clause-none : goal.returns-then-held-clause-none
returns-then-held-clause-none c = λ v w.
    let held = c.in_ok-held.ensures in
    let low = whole_floor c.args.number.now v c.in_ok-held.held.lo w held.floor in
    let high = whole_ceiling c.args.number.now v c.in_ok-held.held.hi w held.ceiling in
    absurd (omega (arith, ints, low, high, c.if-held.true))

pub returns-then-millionths-ne0-clause-none : goal.returns-then-millionths-ne0-clause-none
returns-then-millionths-ne0-clause-none c = λ v w.
    let held = c.in_ok-held.ensures in
    let f : FitsSigned w128 c.in_ok-held.held.lo = search rules in
    let low = whole_floor c.args.number.now v c.in_ok-held.held.lo w held.floor in
    let other = simp to_z-of_z at c.if-millionths-ne0.true in
    absurd (omega (arith, ints, low, other))

pub returns-clause-value : goal.returns-clause-value
returns-clause-value c =
    let held = c.in_ok-held.ensures in
    let f : FitsSigned w128 c.in_ok-held.held.lo = search rules in
    let same = simp to_z-of_z at c.if-millionths-ne0.false in
    simp to_z-of_z (is_whole c.args.number.now (nat_abs c.in_ok-held.held.lo / 1000000) c.in_ok-held.held.lo c.in_ok-held.held.hi held.floor held.ceiling (omega (arith, ints, c.if-held.false)) (omega (arith, ints, held.from, same)) (omega (arith, ints, held.from, held.to, c.if-held.false)))
