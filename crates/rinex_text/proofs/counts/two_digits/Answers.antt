use Rattle.std.proofs.Common.{List, ℕ, sym, subst}
use Rattle.exact_decimal.specs.Counts.{IsCount}
use Rattle.rinex_text.proofs.counts.two_digits.Goals as goal

pub returns-in-None-clause-none : goal.returns-in-None-clause-none
returns-in-None-clause-none c = λ number is.
    let there = (c.read_count.ensures.number number).1 (subst (λ (f : List ℕ). IsCount f number) (sym c.columns.ensures.value) is) in
    absurd cc
