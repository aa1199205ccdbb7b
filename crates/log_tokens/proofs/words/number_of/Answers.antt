use Rattle.std.proofs.Common.{◌≡◌, sym, ◌∙◌, w64, FitsSigned, arith}
use Rattle.std.specs.Prelude.{ℤ, ◌≤ℤ◌}
use Rattle.std.proofs.lemmas.Int.{ints}
use Rattle.log_tokens.proofs.DigitLemmas.{one_spelled}
use Rattle.log_tokens.proofs.words.number_of.Goals as goal
use Rattle.log_tokens.proofs.words.number_of.Goals.{else-from-number-via-then-from-number+else-number-from, else-from-number-via-else-from-number}

fits_between : (lo hi n : ℤ) → FitsSigned w64 lo → FitsSigned w64 hi → lo ≤ℤ n → n ≤ℤ hi
    → FitsSigned w64 n
fits_between lo hi n f g h k = omega (arith, ints)

pub returns-else-from-number-clause-none : goal.returns-else-from-number-clause-none
returns-else-from-number-clause-none c = λ n lo hi e.
    let fits : FitsSigned w64 n = fits_between _ _ n c.ranges.low c.ranges.high lo hi in
    let same : c.in_ok-number.number ≡ n = one_spelled c.in_ok-number.number n (omega arith) (omega (arith, fits.sfits)) (sym c.in_ok-number.ensures.found ∙ e) in
    elim c.else-from-number.branch [
      | else-from-number-via-then-from-number+else-number-from w ↦ omega (arith, ints, w.if-number-from.false, w.from-then-from-number.ensures)
      | else-from-number-via-else-from-number w ↦ omega (arith, ints, w.if-from-number.false, c.from.ensures)
    ]
