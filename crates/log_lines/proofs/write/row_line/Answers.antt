use Rattle.std.proofs.Common.{◌≡◌, ℕ, ◌+◌, ◌/◌, ◌%◌, List, [], ◌∷◌, ◌++◌, append_assoc}
use Rattle.std.specs.Fmt.{signed_decimal}
use Rattle.log_tokens.specs.Words.{joined}
use Rattle.log_lines.specs.Rows.{error_words}
use Rattle.log_lines.proofs.write.row_line.Goals as goal

-- the words of a satellite, its place and its range
front : (start one two three sat a b c d e f g h : List ℕ) → one ≡ start ++ 32 ∷ sat
    → two ≡ one ++ 32 ∷ (a ++ 32 ∷ (b ++ 32 ∷ (c ++ 32 ∷ (d ++ 32 ∷ (e ++ 32 ∷ f)))))
    → three ≡ two ++ 32 ∷ (g ++ 32 ∷ h)
    → three ≡ start ++ 32 ∷ (sat ++ 32 ∷ (a ++ 32 ∷ (b ++ 32 ∷ (c ++ 32 ∷ (d ++ 32 ∷ (e ++ 32 ∷ (f ++ 32 ∷ (g ++ 32 ∷ h))))))))
front start one two three sat a b c d e f g h p q r = rw (r, q, p) (simp append_assoc)

-- the words of a row, and LF
row_spelled : (start three four end sat a b c d e f g h bounds : List ℕ)
    → three ≡ start ++ 32 ∷ (sat ++ 32 ∷ (a ++ 32 ∷ (b ++ 32 ∷ (c ++ 32 ∷ (d ++ 32 ∷ (e ++ 32 ∷ (f ++ 32 ∷ (g ++ 32 ∷ h))))))))
    → four ≡ three ++ 32 ∷ bounds → end ≡ four ++ 10 ∷ []
    → end ≡ start ++ 32 ∷ (sat ++ 32 ∷ ((a ++ 32 ∷ (b ++ 32 ∷ (c ++ 32 ∷ (d ++ 32 ∷ (e ++ 32 ∷ (f ++ 32 ∷ (g ++ 32 ∷ (h ++ 32 ∷ bounds)))))))) ++ 10 ∷ []))
row_spelled start three four end sat a b c d e f g h bounds r s t = rw (t, s, r) (simp append_assoc)

pub returns : goal.returns
returns c = λ ascii.
    let row = c.args.row.now in
    let sat : List ℕ = row.sat.system ∷ (48 + row.sat.number / 10) ∷ (48 + row.sat.number % 10) ∷ [] in
    let start : c.push_str.new.self.bytes ≡ 115 ∷ 97 ∷ 116 ∷ [] = cc in
    let one = rw start at (c.push_sat.ensures.pushed ascii) in
    let three = front (115 ∷ 97 ∷ 116 ∷ []) c.push_sat.new.line.bytes c.push_place.new.line.bytes c.push_span.new.line.bytes sat
    (signed_decimal row.x.lo) (signed_decimal row.x.hi) (signed_decimal row.y.lo) (signed_decimal row.y.hi) (signed_decimal row.z.lo) (signed_decimal row.z.hi)
    (signed_decimal row.range.lo) (signed_decimal row.range.hi) one c.push_place.ensures.pushed c.push_span.ensures.pushed in
    row_spelled (115 ∷ 97 ∷ 116 ∷ []) c.push_span.new.line.bytes c.push_bounds.new.line.bytes c.push_str-2.new.self.bytes sat
    (signed_decimal row.x.lo) (signed_decimal row.x.hi) (signed_decimal row.y.lo) (signed_decimal row.y.hi) (signed_decimal row.z.lo) (signed_decimal row.z.hi)
    (signed_decimal row.range.lo) (signed_decimal row.range.hi) (joined (error_words row)) three c.push_bounds.ensures.pushed c.push_str-2.ensures.bytes
