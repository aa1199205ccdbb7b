-- A text that is shown on one line.
use Rattle.std.proofs.Common.{◌≡◌, ◌≤◌, ◌<◌, ℕ, ◌+◌, Bool, true, false, cond, List, [], ◌∷◌, ◌++◌}
use Rattle.std.proofs.Common.{length, drop, get_or, sym, ap, ◌∙◌, arith, append_assoc, append-nil}
use Rattle.std.proofs.Common.{length-append}
use Rattle.std.specs.Prelude.{encode_utf8, encode_utf8_all}
use Rattle.std.specs.Char.{is_control}
use Rattle.std.specs.Str.{IsUtf8, chars}
use Rattle.std.proofs.lemmas.List.{at_drop_more, at_drop_all}
use Rattle.std.proofs.lemmas.Str.{length-encode, len_utf8_bounds, encodes-chars}
use Rattle.input_files.specs.InputTexts.{shown_char, shown_chars}

one_or_more : (c : ℕ) (b : Bool) → length (encode_utf8 (cond b 63 c)) ≤ length (encode_utf8 c)
one_or_more c true =
    let least = len_utf8_bounds c in let long = length-encode c in
    let short : length (encode_utf8 63) ≡ 1 = length-encode 63 in omega arith
one_or_more c false = omega arith

-- it isn't longer than the text
pub shown_le : (cs : List ℕ) → length (shown_chars cs) ≤ length (encode_utf8_all cs)
shown_le [] = omega arith
shown_le (c ∷ cs) = omega (
  arith,
  one_or_more c (is_control c),
  shown_le cs,
  length-append (encode_utf8 (shown_char c)) (shown_chars cs),
  length-append (encode_utf8 c) (encode_utf8_all cs),
)

pub next_shown : (cs : List ℕ) (n c : ℕ) → (n < length cs) × (c ≡ get_or cs n c)
    → shown_chars (drop n cs) ≡ encode_utf8 (shown_char c) ++ shown_chars (drop (n + 1) cs)
next_shown cs n c h =
    at_drop_more shown_chars cs n c h.0 ∙ ap (λ (x : ℕ). encode_utf8 (shown_char x) ++ shown_chars
    (drop (n + 1) cs)) (sym h.1)

-- there is room for the next character
pub has_room : (start line text : List ℕ) (n c : ℕ) → IsUtf8 text
    → (n < length (chars text)) × (c ≡ get_or (chars text) n c)
    → line ++ shown_chars (drop n (chars text)) ≡ start ++ shown_chars (chars text)
    → length start + length text ≤ 192 → length line + length (encode_utf8 (shown_char c)) ≤ 192
has_room start line text n c utf8 at same room = omega (
  arith,
  ap length same,
  ap length (next_shown (chars text) n c at),
  shown_le (chars text),
  ap length (encodes-chars text utf8),
  length-append line (shown_chars (drop n (chars text))),
  length-append start (shown_chars (chars text)),
  length-append (encode_utf8 (shown_char c)) (shown_chars (drop (n + 1) (chars text))),
)

pub shown_more : (start line : List ℕ) (cs : List ℕ) (n c : ℕ)
    → (n < length cs) × (c ≡ get_or cs n c)
    → line ++ shown_chars (drop n cs) ≡ start ++ shown_chars cs
    → (line ++ encode_utf8 (shown_char c)) ++ shown_chars (drop (n + 1) cs) ≡ start ++
    shown_chars cs
shown_more start line cs n c at same =
    append_assoc line (encode_utf8 (shown_char c)) (shown_chars (drop (n + 1) cs)) ∙ ap
    (λ (l : List ℕ). line ++ l) (sym (next_shown cs n c at)) ∙ same

-- all of it is there
pub shown_all : (start line : List ℕ) (cs : List ℕ) (n : ℕ) → length cs ≤ n
    → line ++ shown_chars (drop n cs) ≡ start ++ shown_chars cs → line ≡ start ++ shown_chars cs
shown_all start line cs n le same =
    sym (append-nil line) ∙ ap (λ (l : List ℕ). line ++ l) (sym (at_drop_all shown_chars cs n le)) ∙
    same

pub shown_short : (text : List ℕ) → IsUtf8 text → length (shown_chars (chars text)) ≤ length text
shown_short text utf8 = omega (arith, shown_le (chars text), ap length (encodes-chars text utf8))
