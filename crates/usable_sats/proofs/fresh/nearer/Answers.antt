use Rattle.std.proofs.Common.{arith, rules, sym, subst, ◌∙◌, FitsSigned}
use Rattle.std.specs.Prelude.{Option, ◌≤ℤ◌, ◌<ℤ◌}
use Rattle.std.specs.Int.{w128}
use Rattle.std.proofs.lemmas.Int.{ints, to_z-of_z}
use Rattle.std.proofs.lemmas.Option.{none-some, same_Some}
use Rattle.usable_sats.proofs.NearestLemmas.{none_more, stays, yields}
use Rattle.usable_sats.specs.Answers.{IsNearestFresh}
use Rattle.usable_sats.specs.Usability.{sighting_by}
use Rattle.usable_sats.specs.declared.fresh.Nearest.{Nearest}
use Rattle.usable_sats.proofs.fresh.nearer.Goals as goal

pub returns-in_default : goal.returns-in_default
returns-in_default c = λ galileo records seen at own f. none_more galileo c.args.settings.now c.args.epoch.now.tag seen records c.args.one.now c.args.so_far c.in_default.ensures.none f

pub returns-in-Some-so_far : goal.returns-in-Some-so_far
returns-in-Some-so_far c =
    let nearer : c.in-Some-so_far.nearest.age <ℤ c.in-Some.age = omega (arith, ints, c.if-nearest-age.true) in
    λ galileo records seen at own f. stays galileo c.args.settings.now c.args.epoch.now.tag seen records c.args.one.now c.in-Some-so_far.nearest c.in-Some.age c.in-Some.ensures.recent nearer
    (subst (λ (n : Option Nearest). IsNearestFresh (sighting_by galileo records c.args.settings.now c.args.epoch.now.tag seen) n) c.in-Some-so_far.is f)

pub returns-in_default-so_far : goal.returns-in_default-so_far
returns-in_default-so_far c =
    let fits : FitsSigned w128 c.in-Some.age = search rules in
    let no_farther : c.in-Some.age ≤ℤ c.in-Some-so_far.nearest.age = omega (arith, ints, c.if-nearest-age.false) in
    λ galileo records seen at own f. simp to_z-of_z
    (yields galileo c.args.settings.now c.args.epoch.now.tag seen records c.args.one.now c.args.so_far c.args.place c.in-Some.age at own c.in-Some.ensures.recent
    (λ n is. subst (λ (m : Nearest). c.in-Some.age ≤ℤ m.age) (same_Some c.in-Some-so_far.nearest n (sym c.in-Some-so_far.is ∙ is)) no_farther)
    f)

pub returns-in_default-so_far-2 : goal.returns-in_default-so_far-2
returns-in_default-so_far-2 c =
    let fits : FitsSigned w128 c.in-Some.age = search rules in
    λ galileo records seen at own f. simp to_z-of_z
    (yields galileo c.args.settings.now c.args.epoch.now.tag seen records c.args.one.now c.args.so_far c.args.place c.in-Some.age at own c.in-Some.ensures.recent
    (λ n is. absurd (none-some n (sym c.in_default-so_far.is ∙ is)))
    f)
