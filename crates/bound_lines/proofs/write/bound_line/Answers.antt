use Rattle.std.proofs.Common.{◌≡◌, ℕ, List, [], ◌∷◌, ◌++◌, to_z, of_z, w64, append_assoc, arith}
use Rattle.std.specs.Prelude.{ℤ, pos}
use Rattle.std.specs.Fmt.{decimal, signed_decimal}
use Rattle.std.proofs.lemmas.Int.{ints}
use Rattle.grid_model.specs.Sizes.{IsWithin}
use Rattle.bound_lines.proofs.write.bound_line.Goals as goal

spelled : (start one two end a b d e f : List ℕ) → one ≡ start ++ 32 ∷ (a ++ 32 ∷ (b ++ 32 ∷ d))
    → two ≡ one ++ 32 ∷ (e ++ 32 ∷ f) → end ≡ two ++ 10 ∷ []
    → end ≡ start ++ 32 ∷ ((a ++ 32 ∷ (b ++ 32 ∷ (d ++ 32 ∷ (e ++ 32 ∷ f)))) ++ 10 ∷ [])
spelled start one two end a b d e f g h i = rw (i, h, g) (simp append_assoc)

-- a number as it was passed by value
passed : (z : ℤ) → IsWithin 9000000000000000000 z → to_z w64 (of_z w64 z) ≡ z
passed z within = omega (arith, ints, within.low, within.high)

wider : (z : ℤ) → IsWithin 1000000 z → IsWithin 9000000000000000000 z
wider z w = record { low = omega (arith, ints, w.low); high = omega (arith, ints, w.high) }

pub returns : goal.returns
returns c =
    let head = c.args.head.now in
    let half = head.half in
    let x = passed half.x (wider half.x half.x_within) in
    let y = passed half.y (wider half.y half.y_within) in
    let z = passed half.z (wider half.z half.z_within) in
    let most = passed half.most half.most_within in
    let sums : to_z w64 (of_z w64 c.from.result) ≡ pos head.sums = omega (arith, ints, c.from.ensures, head.few_sums) in
    let start : c.push_str.new.self.bytes ≡ 98 ∷ 111 ∷ 117 ∷ 110 ∷ 100 ∷ [] = cc in
    let one : c.push_three.new.line.bytes ≡ (98 ∷ 111 ∷ 117 ∷ 110 ∷ 100 ∷ []) ++ 32 ∷ (signed_decimal half.x ++ 32 ∷ (signed_decimal half.y ++ 32 ∷ signed_decimal half.z)) = rw (x, y, z, start) at c.push_three.ensures.pushed in
    let two : c.push_numbers.new.line.bytes ≡ c.push_three.new.line.bytes ++ 32 ∷ (signed_decimal half.most ++ 32 ∷ decimal head.sums) = rw (most, sums) at c.push_numbers.ensures.pushed in
    spelled (98 ∷ 111 ∷ 117 ∷ 110 ∷ 100 ∷ []) c.push_three.new.line.bytes c.push_numbers.new.line.bytes c.push_str-2.new.self.bytes
    (signed_decimal half.x) (signed_decimal half.y) (signed_decimal half.z) (signed_decimal half.most) (decimal head.sums)
    one two c.push_str-2.ensures.bytes
