use Rattle.rinex_text.proofs.HeaderLemmas.{version_lies, is_version}
use Rattle.rinex_text.proofs.header.is_version.Goals as goal

pub returns-in_default : goal.returns-in_default
returns-in_default c = (λ e. absurd cc, λ v. absurd (let other = (c.read_fixed.ensures.number v.digits v.ten).1 v.number in cc))

pub returns-in_default-2 : goal.returns-in_default-2
returns-in_default-2 c = (λ e. absurd cc, λ v. absurd (let other = (c.read_fixed.ensures.number v.digits v.ten).1 v.number in cc))

pub returns : goal.returns
returns c =
    let numbers = c.read_fixed.ensures.number in (
      λ some. is_version _ _ c.in-Ok-Some.number numbers (cc) (c.to_unit_between.ensures.lies.0 (cc)),
      λ v. let there = c.to_unit_between.ensures.lies.1 (version_lies _ _ c.in-Ok-Some.number numbers (cc) v) in cc,
    )
