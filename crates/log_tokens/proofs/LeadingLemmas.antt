-- Numbers and words at the front of a text.
use Rattle.std.proofs.Common.{◌≡◌, ℕ, suc, ◌+◌, ◌-◌, ◌*◌, ◌^◌, ◌%◌, ◌<◌, ◌≤◌, List, [], ◌∷◌, ◌++◌, length, take, drop, get_or, sym, ap, subst, ◌∙◌, take-add, arith}
use Rattle.std.proofs.lemmas.List.{take-take, length-take-le, length-drop}
use Rattle.std.specs.Fmt.{decimal}
use Rattle.std.specs.Prelude.{slice_range}
use Rattle.std.proofs.lemmas.Fmt.{decimal_digit}
use Rattle.std.specs.Float.Numeral.{digits_len}
use Rattle.std.specs.Str.Parse.{AllDigits, digits_value}
use Rattle.core.proofs.dec2flt.Rows.{AllDigits-digits_len, AllDigits-append, many_more}
use Rattle.std.proofs.Math.Nat.{mul-le-mul, pow-le-pow_right}
use Rattle.std.proofs.lemmas.Int.Digits.{digits_value-lt}
use Rattle.log_tokens.proofs.DigitLemmas.{number_spelled}
use Rattle.grid_model.proofs.ListLemmas.{all_dropped as all_behind, cut_at}

-- digits at the front and the byte behind them
pub number_in_front : (text : List ℕ) (count number byte : ℕ) → count < length text → count ≤ 19
    → AllDigits 10 (take count text) → number ≡ digits_value 10 (take count text)
    → get_or text count 0 ≡ byte
    → 0 < length (take count text)
    → (1 < length (take count text) → get_or (take count text) 0 0 ≡ 48 → ⊥)
    → text ≡ decimal number ++ byte ∷ take (length text - (count + 1)) (drop (count + 1) text)
number_in_front text count number byte long few all value is some plain =
    let len : length (take count text) ≡ count = length-take-le count text (omega arith) in
    let spelled = number_spelled (take count text) number some (omega (arith, len)) plain all value in
    let next : suc count ≡ count + 1 = omega arith in
    cut_at text count byte long is ∙ ap (λ (ds : List ℕ). ds ++ byte ∷ drop (suc count) text) spelled
    ∙ ap (λ (rest : List ℕ). decimal number ++ byte ∷ rest) (ap (λ (n : ℕ). drop n text) next ∙ sym (all_behind text (count + 1)))

-- the first digits of a text, and their number
pub record AreInFront (text : List ℕ) (count number : ℕ) : Type 0 where
  pub digits : AllDigits 10 (take count text)
  pub value : number ≡ digits_value 10 (take count text)

-- digits of a word, read behind a number so far
word_read : (word : List ℕ) (so_far count number : ℕ) → length word ≡ 8 → so_far < 10 ^ 8
    → count ≡ 0 + digits_len (drop 0 word) → count ≤ length word
    → number ≡ (so_far * 10 ^ (count - 0) + digits_value 10 (slice_range word 0 count)) % 2 ^ 64
    → AllDigits 10 (take count word)
    × (number ≡ so_far * 10 ^ count + digits_value 10 (take count word))
word_read word so_far count number long small digits within value =
    let all = AllDigits-digits_len word count (omega (arith, digits)) in
    let len : length (take count word) ≡ count = length-take-le count word (omega arith) in
    let part = digits_value-lt 10 (take count word) all in
    let few : count ≤ 8 = omega (arith, within, long) in
    let most : 10 ^ count ≤ 10 ^ 8 = pow-le-pow_right {n = 10} (omega arith) few in
    let up_to : so_far ≤ 10 ^ 8 = omega (arith, small) in
    let whole : count - 0 ≡ count = omega arith in
    let read : number ≡ (so_far * 10 ^ count + digits_value 10 (take count word)) % 2 ^ 64 = rw whole at value in
    let product : so_far * 10 ^ count ≤ 10 ^ 8 * 10 ^ 8 = mul-le-mul up_to most in
    let below : digits_value 10 (take count word) < 10 ^ count = rw len at part in
    (all, omega (arith, read, product, below, most))

-- those of the first word
pub first_word : (text : List ℕ) (count number : ℕ) → 8 ≤ length text
    → count ≡ 0 + digits_len (drop 0 (take 8 text)) → count ≤ length (take 8 text)
    → number ≡ (0 * 10 ^ (count - 0) + digits_value 10 (slice_range (take 8 text) 0 count)) % 2 ^ 64
    → AreInFront text count number
first_word text count number long digits within value =
    let len : length (take 8 text) ≡ 8 = length-take-le 8 text long in
    let read = word_read (take 8 text) 0 count number len (omega arith) digits within value in
    let same : take count (take 8 text) ≡ take count text = take-take count 8 text (omega (arith, len)) in
    record { digits = rw same at read.0; value = omega (arith, rw same at read.1) }

-- those of the first word and of the next one
pub second_word : (text : List ℕ) (first number count more : ℕ) → 16 ≤ length text
    → AreInFront text first number → 8 ≤ first → first ≤ length (take 8 text)
    → count ≡ 0 + digits_len (drop 0 (slice_range text 8 16))
    → count ≤ length (slice_range text 8 16)
    → more ≡ (number * 10 ^ (count - 0)
    + digits_value 10 (slice_range (slice_range text 8 16) 0 count)) % 2 ^ 64
    → AreInFront text (8 + count) more
second_word text first number count more long front apart within digits inside value =
    let len : length (take 8 text) ≡ 8 = length-take-le 8 text (omega arith) in
    let is : first ≡ 8 = omega (arith, len) in
    let ahead : AreInFront text 8 number = subst (λ n. AreInFront text n number) is front in
    let small = digits_value-lt 10 (take 8 text) ahead.digits in
    let eight : number < 10 ^ 8 = omega (arith, ahead.value, rw len at small) in
    let word_len : length (slice_range text 8 16) ≡ 8 = omega (arith, length-take-le 8 (drop 8 text) (omega (arith, length-drop 8 text))) in
    let read = word_read (slice_range text 8 16) number count more word_len eight digits inside value in
    let same : take count (take 8 (drop 8 text)) ≡ take count (drop 8 text) = take-take count 8 (drop 8 text) (omega (arith, word_len)) in
    let both : take (8 + count) text ≡ take 8 text ++ take count (drop 8 text) = take-add 8 count text in
    let next : more ≡ number * 10 ^ count + digits_value 10 (take count (drop 8 text)) = rw same at read.1 in
    let sum = many_more text 8 count (omega (arith, word_len)) in
    record {
      digits = rw both (AllDigits-append (take 8 text) (take count (drop 8 text)) ahead.digits (rw same at read.0));
      value = next ∙ ap (λ (n : ℕ). n * 10 ^ count + digits_value 10 (take count (drop 8 text))) ahead.value ∙ sym sum;
    }

-- a digit and the byte behind it
pub digit_in_front : (text : List ℕ) (digit byte : ℕ) → 2 ≤ length text → get_or text 0 0 < 256
    → digit ≡ (get_or text 0 0 + 208) % 256 → digit ≤ 9 → get_or text 1 0 ≡ byte
    → text ≡ decimal digit ++ byte ∷ take (length text - 2) (drop 2 text)
digit_in_front [] digit byte long fits digit_is small is = absurd (omega arith)
digit_in_front (first ∷ []) digit byte long fits digit_is small is = absurd (omega arith)
digit_in_front (first ∷ second ∷ more) digit byte long fits digit_is small is =
    let code : first ≡ 48 + digit = omega arith in
    rw (all_behind (first ∷ second ∷ more) 2, decimal_digit digit (omega arith)) (ap (λ (b : ℕ). b ∷ second ∷ more) code ∙ ap (λ (b : ℕ). (48 + digit) ∷ b ∷ more) is)
