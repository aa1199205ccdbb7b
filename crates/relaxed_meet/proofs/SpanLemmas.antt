-- Spans that are read one after another.
use Rattle.std.proofs.Common.{◌≡◌, ℕ, ◌+◌, ◌<◌, ◌≤◌, List, [], ◌∷◌, length, map, take, get_or, ◌++◌, arith}
use Rattle.std.proofs.lemmas.List.{map-append}
use Rattle.std.specs.Prelude.{ℤ}
use Rattle.std.proofs.lemmas.List.{map_more}
use Rattle.std.proofs.lemmas.Grind.{common_steps}
use Rattle.grid_model.specs.declared.spans.Span.{Span}
use Rattle.sat_model.specs.Relaxed.{ends}

-- one more row is read, and its span pushed
pub pushed_ends : {X : Type 0} (f : X → ℤ × ℤ) (xs : List X) (i : ℕ) (x : X) (v w : List Span) (y : Span)
    → i < length xs → x ≡ get_or xs i x
    → map ends v ≡ map f (take i xs) → w ≡ v ++ y ∷ [] → ends y ≡ f x
    → map ends w ≡ map f (take (i + 1) xs)
pushed_ends f xs i x v w y within reads had now is =
    let e = map_more f xs i x within in let m = map-append ends v (y ∷ []) in cc

pub all_ends : {X : Type 0} (f : X → ℤ × ℤ) (xs : List X) (i : ℕ) (v : List Span) → length xs ≤ i
    → map ends v ≡ map f (take i xs) → map ends v ≡ map f xs
all_ends f xs i v done had = grind (arith, common_steps)
