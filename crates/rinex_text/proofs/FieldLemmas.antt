-- A field spells one count, and no test comes out both ways.
use Rattle.std.proofs.Common.{◌≡◌, ℕ, List, sym, ◌∙◌, Some}
use Rattle.exact_decimal.specs.Counts.{IsCount}
use Rattle.exact_decimal.proofs.Counts.{count_answer}

pub same_count : (field : List ℕ) (m n : ℕ) → IsCount field m → IsCount field n → m ≡ n
same_count field m n first second =
    let a = (count_answer field m).1 first in
    let b = (count_answer field n).1 second in
    let same : Some m ≡ Some n = sym a ∙ b in
    cc
