use Rattle.std.proofs.Common.{◌≡◌, ℕ, ℤ, pos, List, [], ◌∷◌, ◌++◌, refl, arith, to_z, of_z, w64}
use Rattle.std.specs.Prelude.{nat_abs}
use Rattle.std.specs.Fmt.{decimal}
use Rattle.std.proofs.lemmas.Bool.{both_ways}
use Rattle.std.proofs.lemmas.Int.{ints}
use Rattle.log_tokens.specs.Fields.{number_words, IsFromTo}
use Rattle.log_tokens.proofs.WordLemmas.{same_rest}
use Rattle.sat_model.specs.declared.row_sums.Term.{Term}
use Rattle.sat_model.specs.declared.row_sums.RowSum.{RowSum}
use Rattle.bound_lines.specs.BoundLines.{term_words, sum_words}
use Rattle.bound_lines.proofs.fields.sum_fields.Goals as goal

-- the words of a sum from a term on
abbrev from_fourth : RowSum → List (List ℕ)
from_fourth s = term_words s.fourth ++ term_words s.fifth

abbrev from_third : RowSum → List (List ℕ)
from_third s = term_words s.third ++ from_fourth s

abbrev from_second : RowSum → List (List ℕ)
from_second s = term_words s.second ++ from_third s

abbrev from_first : RowSum → List (List ℕ)
from_first s = term_words s.first ++ from_second s

behind_aim : (line rest : List (List ℕ)) (n : ℤ) (s : RowSum) → line ≡ number_words n ++ rest
    → line ≡ sum_words s → rest ≡ from_first s
behind_aim line rest n s e f = cc

behind : (line rest more : List (List ℕ)) (a b : Term) → line ≡ term_words a ++ rest
    → line ≡ term_words b ++ more → rest ≡ more
behind line rest more a b e f = same_rest line (term_words a) (term_words b) rest more refl e f

-- the aim as it is cast
aim_is : (z : ℤ) → IsFromTo (pos 0) (pos 17592186044416) z
    → z ≡ pos (nat_abs (to_z w64 (of_z w64 z)))
aim_is z (low, high) = omega (arith, ints, low, high)

-- all words, where none is left behind the last term
whole : (line l1 l2 l3 l4 l5 rest : List (List ℕ)) (z : ℤ) (n : ℕ) (t u v w x : Term)
    → line ≡ number_words z ++ l1 → l1 ≡ term_words t ++ l2 → l2 ≡ term_words u ++ l3
    → l3 ≡ term_words v ++ l4 → l4 ≡ term_words w ++ l5 → l5 ≡ term_words x ++ rest → rest ≡ []
    → z ≡ pos n
    → line ≡ decimal n ∷ (term_words t ++ (term_words u ++ (term_words v ++ (term_words w ++ term_words x))))
whole line l1 l2 l3 l4 l5 rest z n t u v w x a b c d e f g h = rw (a, b, c, d, e, f, g, h) refl

pub returns-in_err-aim : goal.returns-in_err-aim
returns-in_err-aim c = rw c.from_residual.ensures (λ s fits line.
    c.in_err-aim.ensures (pos s.aim) (from_first s) (omega (arith, ints), omega (arith, ints, s.aim_low)) line)

pub returns-in_err-first : goal.returns-in_err-first
returns-in_err-first c = rw c.from_residual-in_err-first.ensures (λ s fits line.
    let at_first = behind_aim _ _ c.in_ok-aim.aim s c.in_ok-aim.ensures.1 line in
    c.in_err-first.ensures s.first (from_second s) tt at_first)

pub returns-in_err-second : goal.returns-in_err-second
returns-in_err-second c = rw c.from_residual-in_err-second.ensures (λ s fits line.
    let at_first = behind_aim _ _ c.in_ok-aim.aim s c.in_ok-aim.ensures.1 line in
    let at_second = behind _ _ (from_second s) c.in_ok-first.first s.first c.in_ok-first.ensures.1 at_first in
    c.in_err-second.ensures s.second (from_third s) tt at_second)

pub returns-in_err-third : goal.returns-in_err-third
returns-in_err-third c = rw c.from_residual-in_err-third.ensures (λ s fits line.
    let at_first = behind_aim _ _ c.in_ok-aim.aim s c.in_ok-aim.ensures.1 line in
    let at_second = behind _ _ (from_second s) c.in_ok-first.first s.first c.in_ok-first.ensures.1 at_first in
    let at_third = behind _ _ (from_third s) c.in_ok-second.second s.second c.in_ok-second.ensures.1 at_second in
    c.in_err-third.ensures s.third (from_fourth s) tt at_third)

pub returns-in_err-fourth : goal.returns-in_err-fourth
returns-in_err-fourth c = rw c.from_residual-in_err-fourth.ensures (λ s fits line.
    let at_first = behind_aim _ _ c.in_ok-aim.aim s c.in_ok-aim.ensures.1 line in
    let at_second = behind _ _ (from_second s) c.in_ok-first.first s.first c.in_ok-first.ensures.1 at_first in
    let at_third = behind _ _ (from_third s) c.in_ok-second.second s.second c.in_ok-second.ensures.1 at_second in
    let at_fourth = behind _ _ (from_fourth s) c.in_ok-third.third s.third c.in_ok-third.ensures.1 at_third in
    c.in_err-fourth.ensures s.fourth (term_words s.fifth) tt at_fourth)

pub returns-in_err-fifth : goal.returns-in_err-fifth
returns-in_err-fifth c = rw c.from_residual-in_err-fifth.ensures (λ s fits line.
    let at_first = behind_aim _ _ c.in_ok-aim.aim s c.in_ok-aim.ensures.1 line in
    let at_second = behind _ _ (from_second s) c.in_ok-first.first s.first c.in_ok-first.ensures.1 at_first in
    let at_third = behind _ _ (from_third s) c.in_ok-second.second s.second c.in_ok-second.ensures.1 at_second in
    let at_fourth = behind _ _ (from_fourth s) c.in_ok-third.third s.third c.in_ok-third.ensures.1 at_third in
    let at_fifth = behind _ _ (term_words s.fifth) c.in_ok-fourth.fourth s.fourth c.in_ok-fourth.ensures.1 at_fourth in
    c.in_err-fifth.ensures s.fifth [] tt at_fifth)

pub returns-then-not-is_ended : goal.returns-then-not-is_ended
returns-then-not-is_ended c = λ s fits line.
    let at_first = behind_aim _ _ c.in_ok-aim.aim s c.in_ok-aim.ensures.1 line in
    let at_second = behind _ _ (from_second s) c.in_ok-first.first s.first c.in_ok-first.ensures.1 at_first in
    let at_third = behind _ _ (from_third s) c.in_ok-second.second s.second c.in_ok-second.ensures.1 at_second in
    let at_fourth = behind _ _ (from_fourth s) c.in_ok-third.third s.third c.in_ok-third.ensures.1 at_third in
    let at_fifth = behind _ _ (term_words s.fifth) c.in_ok-fourth.fourth s.fourth c.in_ok-fourth.ensures.1 at_fourth in
    let at_end = behind _ _ [] c.in_ok-fifth.fifth s.fifth c.in_ok-fifth.ensures.1 at_fifth in
    both_ways _ c.if-not-is_ended.true (c.is_ended.ensures.1 at_end)

pub returns : goal.returns
returns c = (
  tt,
  whole _ _ _ _ _ _ _ c.in_ok-aim.aim _ c.in_ok-first.first c.in_ok-second.second c.in_ok-third.third c.in_ok-fourth.fourth c.in_ok-fifth.fifth
      c.in_ok-aim.ensures.1 c.in_ok-first.ensures.1 c.in_ok-second.ensures.1 c.in_ok-third.ensures.1 c.in_ok-fourth.ensures.1 c.in_ok-fifth.ensures.1
      (c.is_ended.ensures.0 c.if-not-is_ended.false) (aim_is _ c.in_ok-aim.ensures.0),
)
