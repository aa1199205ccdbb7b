-- The pieces of a group, one by one.
use Rattle.std.proofs.Common.{◌≡◌, ℕ, zero, suc, ◌+◌, ◌*◌, ◌<◌, ◌≤◌, List, ◌∷◌, length, map, take, drop, get_or, refl, sym, ap, subst, ◌∙◌, arith}
use Rattle.std.specs.List.{AllByRecursion}
use Rattle.std.proofs.Math.Nat.{mul-le-mul_right}
use Rattle.std.proofs.lemmas.List.{drop-drop, drop-map, take-map}
use Rattle.std.proofs.lemmas.Nat.{mul-le}
use Rattle.zone_guard.specs.Beyond.{IsSoOfOne}
use Rattle.zone_guard.specs.GroupAnswers.{pieces_of}
use Rattle.zone_guard.specs.Planes.{PlaneValue, plane_value, plane_values}
use Rattle.zone_guard.specs.WatchValues.{group_pieces}
use Rattle.zone_guard.specs.declared.pieces.Group.{Group}
use Rattle.zone_guard.specs.declared.planes.HalfSpace.{HalfSpace}
use Rattle.zone_guard.proofs.EachLemmas.{EachFrom, each_next, each_not, each_held, OneFrom, one_next, one_here, one_none}

-- ---- where a piece stands

pub few_sides : (pieces each : ℕ) → pieces ≤ 64 → each ≤ 16 → pieces * each ≤ 1024
few_sides pieces each few short = mul-le pieces each 64 16 few short

-- a piece ends where the sides do, or before
pub piece_ends : (place pieces each count : ℕ) → place < pieces → count ≡ pieces * each
    → place * each + each ≤ count
piece_ends place pieces each count within is =
    let up : place + 1 ≤ pieces = omega (arith, within) in
    let most : (place + 1) * each ≤ pieces * each = mul-le-mul_right each up in
    let next : (place + 1) * each ≡ place * each + each = grind arith in
    omega (arith, most, next, is)

module _ {X : Type 0} (each : ℕ) where
  piece_count : (count : ℕ) (xs : List X) → length (pieces_of count each xs) ≡ count
  piece_count zero xs = refl
  piece_count (suc count) xs = ap suc (piece_count count (drop each xs))

  nothing_before : (xs : List X) → take each (drop (0 * each) xs) ≡ take each xs
  nothing_before xs =
      let e : 0 * each ≡ 0 = omega arith in
      ap (λ (n : ℕ). take each (drop n xs)) e

  one_before : (i : ℕ) (xs : List X)
      → take each (drop (suc i * each) xs) ≡ take each (drop (i * each) (drop each xs))
  one_before i xs =
      let e : suc i * each ≡ each + i * each = grind arith in
      ap (λ (n : ℕ). take each (drop n xs)) e ∙ ap (take each) (sym (drop-drop (i * each) each xs))

  piece_at : (count i : ℕ) (xs x : List X) → i < count → x ≡ take each (drop (i * each) xs)
      → x ≡ get_or (pieces_of count each xs) i x
  piece_at zero i xs x within is = absurd (omega (arith, within))
  piece_at (suc count) zero xs x within is = is ∙ nothing_before xs
  piece_at (suc count) (suc i) xs x within is = piece_at count i (drop each xs) x (omega (arith, within)) (is ∙ one_before i xs)

pieces_mapped : {X Y : Type 0} (f : X → Y) (each count : ℕ) (xs : List X)
    → map (map f) (pieces_of count each xs) ≡ pieces_of count each (map f xs)
pieces_mapped f each zero xs = refl
pieces_mapped f each (suc count) xs =
    let here : map f (take each xs) ≡ take each (map f xs) = sym (take-map f each xs) in
    let there : map (map f) (pieces_of count each (drop each xs)) ≡ pieces_of count each (drop each (map f xs)) =
    pieces_mapped f each count (drop each xs) ∙ ap (pieces_of count each) (sym (drop-map f each xs)) in
    λ i. here i ∷ there i

-- ---- what holds of the pieces

module _ (P : List PlaneValue → Type 0) (g : Group) where
  abbrev cut : List (List HalfSpace)
  cut = pieces_of g.sizes.pieces g.sizes.each g.sides.items

  abbrev StandsAt : ℕ → List HalfSpace → Type 0
  StandsAt i x = x ≡ take g.sizes.each (drop (i * g.sizes.each) g.sides.items)

  values_same : map plane_values cut ≡ group_pieces g
  values_same = pieces_mapped plane_value g.sizes.each g.sizes.pieces g.sides.items

  cut_within : (i : ℕ) → i < g.sizes.pieces → i < length cut
  cut_within i within = omega (arith, within, piece_count g.sizes.each g.sizes.pieces g.sides.items)

  cut_ended : (i : ℕ) → g.sizes.pieces ≤ i → length cut ≤ i
  cut_ended i ended = omega (arith, ended, piece_count g.sizes.each g.sizes.pieces g.sides.items)

  at_place : (i : ℕ) (x : List HalfSpace) → i < g.sizes.pieces → StandsAt i x → x ≡ get_or cut i x
  at_place i x within is = piece_at g.sizes.each g.sizes.pieces i g.sides.items x within is

  -- what holds of the pieces from a place on is what holds of all of them
  abbrev pub EachPiece : ℕ → Type 0
  EachPiece i = EachFrom plane_values P cut i

  pub piece_next : (i : ℕ) (x : List HalfSpace) → i < g.sizes.pieces → StandsAt i x
      → P (plane_values x) → EachPiece i → EachPiece (i + 1)
  piece_next i x within is holds from = each_next plane_values P cut i x (cut_within i within) (at_place i x within is) holds from

  pub piece_not : (i : ℕ) (x : List HalfSpace) → i < g.sizes.pieces → StandsAt i x
      → (P (plane_values x) → ⊥) → EachPiece i → AllByRecursion P (group_pieces g) → ⊥
  piece_not i x within is fails from all =
      each_not plane_values P cut i x (cut_within i within) (at_place i x within is) fails from
      (subst (λ (ps : List (List PlaneValue)). AllByRecursion P ps) (sym values_same) all)

  pub pieces_held : (i : ℕ) → g.sizes.pieces ≤ i → EachPiece i → AllByRecursion P (group_pieces g)
  pieces_held i ended from =
      subst (λ (ps : List (List PlaneValue)). AllByRecursion P ps) values_same (each_held plane_values P cut i (cut_ended i ended) from)

  -- and of one of them
  abbrev pub OnePiece : ℕ → Type 0
  OnePiece i = OneFrom plane_values P cut i

  pub other_piece : (i : ℕ) (x : List HalfSpace) → i < g.sizes.pieces → StandsAt i x
      → (P (plane_values x) → ⊥) → OnePiece i → OnePiece (i + 1)
  other_piece i x within is not from = one_next plane_values P cut i x (cut_within i within) (at_place i x within is) not from

  pub piece_here : (i : ℕ) (x : List HalfSpace) → i < g.sizes.pieces → StandsAt i x
      → P (plane_values x) → OnePiece i → IsSoOfOne P (group_pieces g)
  piece_here i x within is holds from =
      subst (λ (ps : List (List PlaneValue)). IsSoOfOne P ps) values_same
      (one_here plane_values P cut i x (cut_within i within) (at_place i x within is) holds from)

  pub no_piece : (i : ℕ) → g.sizes.pieces ≤ i → OnePiece i → IsSoOfOne P (group_pieces g) → ⊥
  no_piece i ended from some =
      one_none plane_values P cut i (cut_ended i ended) from
      (subst (λ (ps : List (List PlaneValue)). IsSoOfOne P ps) (sym values_same) some)
