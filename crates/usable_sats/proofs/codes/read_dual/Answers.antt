use Rattle.std.proofs.Common.{refl}
use Rattle.usable_sats.proofs.CodeLemmas.{pair_out}
use Rattle.usable_sats.proofs.codes.read_dual.Goals as goal
use Rattle.std.proofs.lemmas.Bool.{both_ways as true_false}

pub returns-then-is_combination_in_range : goal.returns-then-is_combination_in_range
returns-then-is_combination_in_range c = λ a b.
    let rounded = rw c.in-Some-Some-2.is-0 at c.in_um.ensures.rounded in
    let plausible = rw c.in-Some-Some-2.is-0 at c.in_um.ensures.plausible in (
      (
        (c.in-Some-Some.first, c.in-Some-Some.is-0, rounded),
        (c.in-Some-Some.second, c.in-Some-Some-2.second, c.in-Some-Some.is-1, refl, c.in-Some-Some-2.ensures.rounded),
      ),
      (plausible, c.in-Some-Some-2.ensures.plausible, c.is_combination_in_range.ensures.0 c.if-is_combination_in_range.true),
    )

pub returns-else-is_combination_in_range : goal.returns-else-is_combination_in_range
returns-else-is_combination_in_range c = λ a b.
    let rounded = rw c.in-Some-Some-2.is-0 at c.in_um.ensures.rounded in (
      ((c.in-Some-Some.first, c.in-Some-Some.is-0), (c.in-Some-Some.second, c.in-Some-Some.is-1)),
      pair_out c.args.system c.args.seen.now a b c.in-Some-Some.first c.in-Some-Some.second c.in-Some-Some-2.first c.in-Some-Some-2.second c.in-Some-Some.is-0 c.in-Some-Some.is-1 rounded c.in-Some-Some-2.ensures.rounded
          (λ p. true_false c.is_combination_in_range.result c.if-is_combination_in_range.false (c.is_combination_in_range.ensures.1 p)),
    )
