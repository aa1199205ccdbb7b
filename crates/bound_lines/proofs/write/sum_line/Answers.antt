use Rattle.std.proofs.Common.{◌≡◌, ℕ, List, [], ◌∷◌, ◌++◌, to_z, w64, append_assoc, arith}
use Rattle.std.specs.Prelude.{pos}
use Rattle.std.specs.Fmt.{decimal, signed_decimal}
use Rattle.std.proofs.lemmas.Int.{ints}
use Rattle.bound_lines.proofs.write.sum_line.Goals as goal

-- the words of two terms behind a number, and of two more, and LF
front : (start one two three a p q r s : List ℕ) → one ≡ start ++ 32 ∷ a
    → two ≡ one ++ 32 ∷ (p ++ 32 ∷ q) → three ≡ two ++ 32 ∷ (r ++ 32 ∷ s)
    → three ≡ start ++ 32 ∷ (a ++ 32 ∷ (p ++ 32 ∷ (q ++ 32 ∷ (r ++ 32 ∷ s))))
front start one two three a p q r s e f g = rw (g, f, e) (simp append_assoc)

middle : (start three four a p q r s t u : List ℕ)
    → three ≡ start ++ 32 ∷ (a ++ 32 ∷ (p ++ 32 ∷ (q ++ 32 ∷ (r ++ 32 ∷ s))))
    → four ≡ three ++ 32 ∷ (t ++ 32 ∷ u)
    → four ≡ start ++ 32 ∷ (a ++ 32 ∷ (p ++ 32 ∷ (q ++ 32 ∷ (r ++ 32 ∷ (s ++ 32 ∷ (t ++ 32 ∷ u))))))
middle start three four a p q r s t u e f = rw (f, e) (simp append_assoc)

later : (start four five a p q r s t u v w : List ℕ)
    → four ≡ start ++ 32 ∷ (a ++ 32 ∷ (p ++ 32 ∷ (q ++ 32 ∷ (r ++ 32 ∷ (s ++ 32 ∷ (t ++ 32 ∷ u))))))
    → five ≡ four ++ 32 ∷ (v ++ 32 ∷ w)
    → five ≡ start ++ 32 ∷ (a ++ 32 ∷ (p ++ 32 ∷ (q ++ 32 ∷ (r ++ 32 ∷ (s ++ 32 ∷ (t ++ 32 ∷ (u ++ 32 ∷ (v ++ 32 ∷ w))))))))
later start four five a p q r s t u v w e f = rw (f, e) (simp append_assoc)

last : (start five six a p q r s t u v w x y : List ℕ)
    → five ≡ start ++ 32 ∷ (a ++ 32 ∷ (p ++ 32 ∷ (q ++ 32 ∷ (r ++ 32 ∷ (s ++ 32 ∷ (t ++ 32 ∷ (u ++ 32 ∷ (v ++ 32 ∷ w))))))))
    → six ≡ five ++ 32 ∷ (x ++ 32 ∷ y)
    → six ≡ start ++ 32 ∷ (a ++ 32 ∷ (p ++ 32 ∷ (q ++ 32 ∷ (r ++ 32 ∷ (s ++ 32 ∷ (t ++ 32 ∷ (u ++ 32 ∷ (v ++ 32 ∷ (w ++ 32 ∷ (x ++ 32 ∷ y))))))))))
last start five six a p q r s t u v w x y e f = rw (f, e) (simp append_assoc)

spelled : (start six end all : List ℕ) → six ≡ start ++ 32 ∷ all → end ≡ six ++ 10 ∷ []
    → end ≡ start ++ 32 ∷ (all ++ 10 ∷ [])
spelled start six end all e f = rw (f, e) (simp append_assoc)

pub returns : goal.returns
returns c =
    let sum = c.args.sum.now in
    let aim : to_z w64 sum.aim ≡ pos sum.aim = omega (arith, ints, sum.aim_low) in
    let start : c.push_str.new.self.bytes ≡ 98 ∷ 121 ∷ [] = cc in
    let one : c.push_number.new.line.bytes ≡ (98 ∷ 121 ∷ []) ++ 32 ∷ decimal sum.aim = rw (aim, start) at c.push_number.ensures.pushed in
    let three = front (98 ∷ 121 ∷ []) c.push_number.new.line.bytes c.push_term.new.line.bytes c.push_term-2.new.line.bytes (decimal sum.aim)
    (decimal sum.first.place) (signed_decimal sum.first.multiplier) (decimal sum.second.place) (signed_decimal sum.second.multiplier) one c.push_term.ensures.pushed c.push_term-2.ensures.pushed in
    let four = middle (98 ∷ 121 ∷ []) c.push_term-2.new.line.bytes c.push_term-3.new.line.bytes (decimal sum.aim)
    (decimal sum.first.place) (signed_decimal sum.first.multiplier) (decimal sum.second.place) (signed_decimal sum.second.multiplier) (decimal sum.third.place) (signed_decimal sum.third.multiplier) three c.push_term-3.ensures.pushed in
    let five = later (98 ∷ 121 ∷ []) c.push_term-3.new.line.bytes c.push_term-4.new.line.bytes (decimal sum.aim)
    (decimal sum.first.place) (signed_decimal sum.first.multiplier) (decimal sum.second.place) (signed_decimal sum.second.multiplier) (decimal sum.third.place) (signed_decimal sum.third.multiplier) (decimal sum.fourth.place) (signed_decimal sum.fourth.multiplier)
    four c.push_term-4.ensures.pushed in
    let six = last (98 ∷ 121 ∷ []) c.push_term-4.new.line.bytes c.push_term-5.new.line.bytes (decimal sum.aim)
    (decimal sum.first.place) (signed_decimal sum.first.multiplier) (decimal sum.second.place) (signed_decimal sum.second.multiplier) (decimal sum.third.place) (signed_decimal sum.third.multiplier) (decimal sum.fourth.place) (signed_decimal sum.fourth.multiplier) (decimal sum.fifth.place) (signed_decimal sum.fifth.multiplier)
    five c.push_term-5.ensures.pushed in
    spelled (98 ∷ 121 ∷ []) c.push_term-5.new.line.bytes c.push_str-2.new.self.bytes _ six c.push_str-2.ensures.bytes
