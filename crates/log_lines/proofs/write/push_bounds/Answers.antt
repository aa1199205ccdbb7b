use Rattle.std.proofs.Common.{◌≡◌, ℕ, true, false, List, ◌∷◌, ◌++◌, sym, to_z, of_z, w64, append_assoc, arith}
use Rattle.std.specs.Prelude.{ℤ}
use Rattle.std.specs.Fmt.{signed_decimal}
use Rattle.std.proofs.lemmas.Int.{ints}
use Rattle.log_tokens.specs.Words.{joined}
use Rattle.log_lines.specs.Rows.{are_ends, error_words}
use Rattle.log_lines.proofs.write.push_bounds.Goals as goal
use Rattle.grid_model.specs.Sizes.{IsErrorSize}
use Rattle.sat_model.specs.declared.rows.Row.{Row}

-- the words of an error alone, and with what is surely allowed of it
untold : (row : Row) (start end : List ℕ) → are_ends row.err row.sure_lo row.sure_hi ≡ true
    → end ≡ start ++ 32 ∷ (signed_decimal row.err.lo ++ 32 ∷ signed_decimal row.err.hi)
    → end ≡ start ++ 32 ∷ joined (error_words row)
untold row start end same e = rw same e

told : (row : Row) (start mid end : List ℕ) → are_ends row.err row.sure_lo row.sure_hi ≡ false
    → mid ≡ start ++ 32 ∷ (signed_decimal row.err.lo ++ 32 ∷ signed_decimal row.err.hi)
    → end ≡ mid ++ 32 ∷ (signed_decimal row.sure_lo ++ 32 ∷ signed_decimal row.sure_hi)
    → end ≡ start ++ 32 ∷ joined (error_words row)
told row start mid end other e f = rw other (rw (f, e) (simp append_assoc))

-- a number as it was passed by value
passed : (z : ℤ) → IsErrorSize z → to_z w64 (of_z w64 z) ≡ z
passed z within = omega (arith, ints, within.low, within.high)

pub returns-then-has_ends-clause-pushed : goal.returns-then-has_ends-clause-pushed
returns-then-has_ends-clause-pushed c =
    let row = c.args.row.now in
    let low = passed row.err.lo row.err_within.0 in
    let high = passed row.err.hi row.err_within.1 in
    let sure_low = passed row.sure_lo row.sure_within.0 in
    let sure_high = passed row.sure_hi row.sure_within.1 in
    untold row c.args.line.now.bytes c.push_errors.new.line.bytes (sym (rw (sure_low, sure_high) at c.if-has_ends.ensures)) (rw (low, high) at c.push_errors.ensures.pushed)

pub returns-clause-pushed : goal.returns-clause-pushed
returns-clause-pushed c =
    let row = c.args.row.now in
    let low = passed row.err.lo row.err_within.0 in
    let high = passed row.err.hi row.err_within.1 in
    let sure_low = passed row.sure_lo row.sure_within.0 in
    let sure_high = passed row.sure_hi row.sure_within.1 in
    told row c.args.line.now.bytes c.push_errors.new.line.bytes c.push_errors-2.new.line.bytes (sym (rw (sure_low, sure_high) at c.if-has_ends.ensures)) (rw (low, high) at c.push_errors.ensures.pushed)
    (rw (sure_low, sure_high) at c.push_errors-2.ensures.pushed)
