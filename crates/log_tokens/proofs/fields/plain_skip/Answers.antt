use Rattle.std.proofs.Common.{◌≡◌, ℕ, ◌≤◌, List, ◌∷◌, inl, inr, arith}
use Rattle.std.specs.Fmt.{decimal}
use Rattle.std.proofs.lemmas.Fmt.{decimal_injective}
use Rattle.log_tokens.specs.Fields.{IsPlainTest, optional_words}
use Rattle.log_tokens.proofs.fields.plain_skip.Goals as goal

plain_bound : (n : ℕ) → IsPlainTest n → n ≤ 9
plain_bound n (inl few) = omega (arith, few.1)
plain_bound n (inr more) = more.1

other_than_six : (n : ℕ) → IsPlainTest n → n ≡ 6 → ⊥
other_than_six n (inl few) six = omega (arith, few.1, six)
other_than_six n (inr more) six = omega (arith, more.0, six)

-- no skip without a field begins with test 6
none_of_six : (line rest : List (List ℕ)) (six number field : ℕ) → six ≡ 6
    → line ≡ decimal six ∷ rest → IsPlainTest number → line ≡ decimal number ∷ optional_words field
    → ⊥
none_of_six line rest six number field is e plain f =
    let spelled : decimal number ≡ decimal six = cc in
    let same : number ≡ six = decimal_injective number six (omega (arith, plain_bound number plain)) (omega (arith, is)) spelled in
    other_than_six number plain (omega arith)

pub returns-then-number-eq6 : goal.returns-then-number-eq6
returns-then-number-eq6 c = λ skip fits line.
    none_of_six _ _ c.in_ok-number.number skip.number skip.field c.if-number-eq6.true c.in_ok-number.ensures.1 fits.0 line
