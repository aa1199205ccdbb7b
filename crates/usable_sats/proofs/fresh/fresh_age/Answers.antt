use Rattle.std.proofs.Common.{◌*◌, arith, rules, refl, FitsSigned}
use Rattle.std.specs.Prelude.{pos, ◌≤ℤ◌, ◌<ℤ◌}
use Rattle.std.specs.Int.{w128}
use Rattle.std.proofs.lemmas.Bool.{both_ways as true_false}
use Rattle.std.proofs.lemmas.Int.{ints, to_z-of_z}
use Rattle.rinex_nav.specs.Weeks.{IsAge}
use Rattle.rinex_nav.proofs.WeekLemmas.{age_only}
use Rattle.usable_sats.specs.Answers.{IsRecent}
use Rattle.usable_sats.proofs.fresh.fresh_age.Goals as goal
use Rattle.usable_sats.proofs.fresh.fresh_age.Goals.{then-not-one-via-then-not-one, then-not-one-via-else-not-one+then-age-from}

pub returns-then-not-one-clause-none : goal.returns-then-not-one-clause-none
returns-then-not-one-clause-none c = elim c.then-not-one.branch [
  | then-not-one-via-then-not-one w ↦ λ other recent. true_false c.args.one.now.healthy w.if-not-one.true recent.healthy
  | then-not-one-via-else-not-one+then-age-from w ↦
      let f : FitsSigned w128 c.in_ok-age.age = search rules in
      let g : FitsSigned w128 c.args.epoch.now.tag = search rules in
      let told = (c.in_ok-age.ensures.age c.in_ok-age.age).0 refl in
      let age : IsAge c.args.one.now c.args.epoch.now.tag c.in_ok-age.age = simp to_z-of_z at told in
      let over : pos (c.args.settings.now.max_age * 1000000000000) <ℤ c.in_ok-age.age = omega (arith, ints, w.if-age-from.true, w.from.ensures) in
      λ other recent.
      let same = age_only c.args.one.now c.args.epoch.now.tag _ _ recent.age_is age in
      let most : other ≤ℤ pos (c.args.settings.now.max_age * 1000000000000) = recent.fresh in
      absurd (omega (arith, ints, same))
]

pub returns-clause-recent : goal.returns-clause-recent
returns-clause-recent c =
    let f : FitsSigned w128 c.in_ok-age.age = search rules in
    let g : FitsSigned w128 c.args.epoch.now.tag = search rules in
    let told = (c.in_ok-age.ensures.age c.in_ok-age.age).0 refl in
    let age : IsAge c.args.one.now c.args.epoch.now.tag c.in_ok-age.age = simp to_z-of_z at told in
    let most : c.in_ok-age.age ≤ℤ pos (c.args.settings.now.max_age * 1000000000000) = omega (arith, ints, c.if-age-from.false, c.from.ensures) in
    let recent : IsRecent c.args.settings.now.max_age c.args.epoch.now.tag c.args.one.now c.in_ok-age.age = record { healthy = c.if-not-one.false; age_is = age; fresh = most } in
    simp to_z-of_z recent
