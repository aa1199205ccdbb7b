use Rattle.std.proofs.Common.{rules, ◌≡◌, FitsSigned, to_z, of_z, ap, subst, Some}
use Rattle.std.specs.Prelude.{ℤ, pos, ◌-ℤ◌, unsigned_abs}
use Rattle.std.specs.Int.{w128}
use Rattle.std.proofs.lemmas.Int.{to_z-of_z}
use Rattle.rinex_nav.specs.Weeks.{IsAge}
use Rattle.rinex_nav.proofs.WeekLemmas.{apart_fits, age_only}
use Rattle.rinex_nav.proofs.record.NavRecord.age.Goals as goal

pub returns-clause-age : goal.returns-clause-age
returns-clause-age c =
    let f1 : FitsSigned w128 c.abs.result = search rules in
    let f2 : FitsSigned w128 c.args.tag = c.ranges.tag in
    let f3 : FitsSigned w128 c.in_ok-time.time = search rules in
    let f4 = apart_fits c.args.tag c.in_ok-time.time c.requires.from c.requires.under c.in_ok-time.ensures.size in
    let value = c.abs.ensures.value in
    let is : c.abs.result ≡ pos (unsigned_abs (c.args.tag -ℤ c.in_ok-time.time)) = simp to_z-of_z at value in
    let age : IsAge c.args.self.now c.args.tag (to_z w128 (of_z w128 c.abs.result)) = (c.in_ok-time.time, c.in_ok-time.ensures.time, simp to_z-of_z is) in
    λ other. (
      λ e. let same : to_z w128 (of_z w128 c.abs.result) ≡ other = cc in subst (IsAge c.args.self.now c.args.tag) same age,
      λ is_other. ap (λ (a : ℤ). Some a) (age_only c.args.self.now c.args.tag _ _ age is_other),
    )
