-- The mask of the lists that have a node, one bit for each. No public clause cites it.
use Rattle.std.specs.Prelude.{ℕ, ◌+◌, ◌*◌, List, [], ◌∷◌, cond, nat_eq}

abbrev pub flag : ℕ → ℕ
flag count = cond (nat_eq count 0) 0 1

unfoldable pub mask_of : List ℕ → ℕ
mask_of [] = 0
mask_of (count ∷ counts) = flag count + 2 * mask_of counts
