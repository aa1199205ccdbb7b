-- Where a field isn't read, no root has these words: each field before it has taken its own.
use Rattle.std.proofs.Common.{◌≡◌, [], arith, lit<, refl, rules}
use Rattle.std.proofs.lemmas.Int.{ints}
use Rattle.log_tokens.specs.Fields.{pos_words}
use Rattle.log_lines.specs.Rows.{CornersFit}
use Rattle.log_tokens.specs.Words.{words_left}
use Rattle.log_tokens.proofs.WordLemmas.{same_rest}
use Rattle.log_tokens.proofs.NumberLemmas.{one_place}
use Rattle.log_lines.proofs.rows.root.Goals as goal
use Rattle.log_lines.proofs.rows.root.Goals.{else-lo-hi-via-then-lo-hi+then-lo-hi-2+else-lo-hi-3, else-lo-hi-via-then-lo-hi+else-lo-hi-2, else-lo-hi-via-else-lo-hi}

pub returns-in_err-lo : goal.returns-in_err-lo
returns-in_err-lo c = rw c.from_residual.ensures (λ b fits line. c.in_err-lo.ensures b.lo (pos_words b.hi) fits.lo_within line)

pub returns-in_err-hi : goal.returns-in_err-hi
returns-in_err-hi c = rw c.from_residual-in_err-hi.ensures (λ b fits line. c.in_err-hi.ensures b.hi [] fits.hi_within (cc (line, c.in_ok-lo.ensures.1)))

pub returns-then-lo-hi-3 : goal.returns-then-lo-hi-3
returns-then-lo-hi-3 c =
    let ended : words_left c.in_ok-hi.rest ≡ [] = search rules in
    let fits : CornersFit (record { lo = c.in_ok-lo.lo; hi = c.in_ok-hi.hi }) = record {
      x_ordered = omega (arith, ints, c.if-lo-hi.true);
      y_ordered = omega (arith, ints, c.if-lo-hi-2.true);
      z_ordered = omega (arith, ints, c.if-lo-hi-3.true);
      lo_within = c.in_ok-lo.ensures.0;
      hi_within = c.in_ok-hi.ensures.0;
    } in
    (fits, cc (c.in_ok-lo.ensures.1, c.in_ok-hi.ensures.1, ended))

pub returns-else-lo-hi : goal.returns-else-lo-hi
returns-else-lo-hi c = λ b fits line.
    let lo = one_place 10000000000000 _ _ (pos_words b.hi) c.in_ok-lo.lo b.lo (lit< tt) c.in_ok-lo.ensures.0 fits.lo_within c.in_ok-lo.ensures.1 line in
    let later = same_rest _ (pos_words c.in_ok-lo.lo) (pos_words b.lo) _ (pos_words b.hi) refl c.in_ok-lo.ensures.1 line in
    let hi = one_place 10000000000000 _ _ [] c.in_ok-hi.hi b.hi (lit< tt) c.in_ok-hi.ensures.0 fits.hi_within c.in_ok-hi.ensures.1 later in
    elim c.else-lo-hi.branch [
      | else-lo-hi-via-then-lo-hi+then-lo-hi-2+else-lo-hi-3 w ↦ omega (arith, ints, w.if-lo-hi-3.false, lo.2, hi.2, fits.z_ordered)
      | else-lo-hi-via-then-lo-hi+else-lo-hi-2 w ↦ omega (arith, ints, w.if-lo-hi-2.false, lo.1, hi.1, fits.y_ordered)
      | else-lo-hi-via-else-lo-hi w ↦ omega (arith, ints, w.if-lo-hi.false, lo.0, hi.0, fits.x_ordered)
    ]
