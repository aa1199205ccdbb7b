-- Where these aren't read, no ends have these words.
use Rattle.std.proofs.Common.{◌≡◌, [], ◌∷◌, ◌∙◌, to_z, of_z, w64, arith}
use Rattle.std.specs.Fmt.{signed_decimal}
use Rattle.std.proofs.lemmas.Int.{ints}
use Rattle.log_lines.proofs.SureLemmas.{told_words, read_ends}
use Rattle.log_lines.proofs.rows.told_ends.Goals as goal
use Rattle.log_lines.proofs.rows.told_ends.Goals.{then-lo-err-via-then-lo-err, then-lo-err-via-else-lo-err+then-err-hi}

pub returns-in_err-lo : goal.returns-in_err-lo
returns-in_err-lo c = rw c.from_residual.ensures (λ ends fits line.
    c.in_err-lo.ensures ends.0 (signed_decimal ends.1 ∷ []) (fits.0.lo_within.low, fits.0.lo_within.high) (line ∙ told_words c.args.err.now ends.0 ends.1 fits.1))

pub returns-in_err-hi : goal.returns-in_err-hi
returns-in_err-hi c = rw c.from_residual-in_err-hi.ensures (λ ends fits line.
    let told = line ∙ told_words c.args.err.now ends.0 ends.1 fits.1 in
    c.in_err-hi.ensures ends.1 [] (fits.0.hi_within.low, fits.0.hi_within.high) (cc (told, c.in_ok-lo.ensures.1)))

pub returns-then-lo-err : goal.returns-then-lo-err
returns-then-lo-err c = λ ends fits line.
    let low = c.in_ok-lo.ensures in
    let high = c.in_ok-hi.ensures in
    let told = line ∙ told_words c.args.err.now ends.0 ends.1 fits.1 in
    let same = read_ends _ _ _ c.in_ok-lo.lo c.in_ok-hi.hi ends.0 ends.1 (record { low = low.0.0; high = low.0.1 }, record { low = high.0.0; high = high.0.1 }) (fits.0.lo_within, fits.0.hi_within) low.1 high.1 told in
    elim c.then-lo-err.branch [
      | then-lo-err-via-then-lo-err w ↦ omega (arith, ints, w.if-lo-err.true, same.lo_same, fits.0.low_ordered)
      | then-lo-err-via-else-lo-err+then-err-hi w ↦ omega (arith, ints, w.if-err-hi.true, same.hi_same, fits.0.high_ordered)
    ]

pub returns-then-has_ends : goal.returns-then-has_ends
returns-then-has_ends c = λ ends fits line.
    let low = c.in_ok-lo.ensures in
    let high = c.in_ok-hi.ensures in
    let told = line ∙ told_words c.args.err.now ends.0 ends.1 fits.1 in
    let same = read_ends _ _ _ c.in_ok-lo.lo c.in_ok-hi.hi ends.0 ends.1 (record { low = low.0.0; high = low.0.1 }, record { low = high.0.0; high = high.0.1 }) (fits.0.lo_within, fits.0.hi_within) low.1 high.1 told in
    let lo : to_z w64 (of_z w64 c.in_ok-lo.lo) ≡ ends.0 = omega (arith, ints, same.lo_same) in
    let hi : to_z w64 (of_z w64 c.in_ok-hi.hi) ≡ ends.1 = omega (arith, ints, same.hi_same) in
    let own = rw (lo, hi) at c.if-has_ends.ensures in
    cc (own, fits.1)
