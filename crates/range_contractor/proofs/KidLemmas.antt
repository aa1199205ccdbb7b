-- Kids of a tree one after the other.
use Rattle.std.proofs.Common.{◌≡◌, ℕ, zero, suc, ◌+◌, ◌-◌, ◌≤◌, ◌<◌, arith, List, [], ◌∷◌, ◌++◌, length, map, take, drop, get_or, Option, None, Some, refl, sym, ap, subst, ◌∙◌, inl, inr, count_by, cond}
use Rattle.std.specs.Prelude.{ℤ, ◌≤ℤ◌}
use Rattle.std.proofs.lemmas.Int.{ints}
use Rattle.std.proofs.lemmas.List.Sums.{sum_by-append}
use Rattle.sat_model.proofs.FittingLemmas.{count_here, holds_from}
use Rattle.std.proofs.lemmas.List.{take_more, at_drop_more, map-append, length-map}
use Rattle.grid_model.specs.Boxes.{Side, GridBox, side_at, IsIn}
use Rattle.sat_model.specs.Relaxed.{holds, IsRelaxedHull}
use Rattle.sat_model.specs.Trees.{TreeValue, TreeList, no_trees, tree, HasSoundNodes, HaveSoundNodes, count_trees, trees_of}
use Rattle.sat_model.specs.Contractors.{Contractor, Repeats, sides_of, IsRelaxedBox, LiesIn}
use Rattle.sat_model.specs.Proposals.{IsTied, InTurn, AreTied}
use Rattle.range_contractor.specs.Hulls.{AreInside, IsBoxOfHulls}
use Rattle.range_contractor.proofs.CountLemmas.{Member, some_holds}
use Rattle.range_contractor.proofs.TreeLemmas.{keeps}

module _ {X : Type 0} (view : X → TreeValue) (xs : List X) where
  -- the next kid and those behind it
  pub kids_from : (i : ℕ) (x : X) → i < length xs → x ≡ get_or xs i x
      → trees_of (map view (drop i xs)) ≡ tree (view x) (trees_of (map view (drop (i + 1) xs)))
  kids_from i x h e = at_drop_more (λ (ys : List X). trees_of (map view ys)) xs i x h ∙ ap (λ (y : X). tree (view y) (trees_of (map view (drop (i + 1) xs)))) (sym e)

  pub count_kids : count_trees (trees_of (map view xs)) ≡ length xs
  count_kids = count_of (map view xs) ∙ length-map xs view
    where
      count_of : (ts : List TreeValue) → count_trees (trees_of ts) ≡ length ts
      count_of [] = refl
      count_of (t ∷ ts) = omega (arith, count_of ts)

-- ---- sides of answers

pub sides_append : (axis : ℕ) (answers more : List (Option GridBox))
    → sides_of axis (answers ++ more) ≡ sides_of axis answers ++ sides_of axis more
sides_append axis [] more = refl
sides_append axis (None ∷ answers) more = sides_append axis answers more
sides_append axis (Some a ∷ answers) more = ap (λ (l : List (ℤ × ℤ)). ((side_at axis a).lo, (side_at axis a).hi) ∷ l) (sides_append axis answers more)

-- ---- answers of kids

pub tied_append : (ts : List TreeValue) (t : TreeValue) (grain slack : ℤ) (clock : Side) (part : GridBox) (answers : List (Option GridBox)) (answer : Option GridBox)
    → AreTied (trees_of ts) grain slack clock part answers → IsTied t grain slack clock part answer
    → AreTied (trees_of (ts ++ t ∷ [])) grain slack clock part (answers ++ answer ∷ [])
tied_append [] t grain slack clock part [] answer h k = (k, tt)
tied_append [] t grain slack clock part (a ∷ answers) answer h k = absurd h
tied_append (u ∷ ts) t grain slack clock part [] answer h k = absurd h
tied_append (u ∷ ts) t grain slack clock part (a ∷ answers) answer h k = (h.0, tied_append ts t grain slack clock part answers answer h.1 k)

pub tied_more : {X : Type 0} (view : X → TreeValue) (xs : List X) (i : ℕ) (x : X) (grain slack : ℤ) (clock : Side) (part : GridBox) (answers : List (Option GridBox)) (answer : Option GridBox)
    → i < length xs → x ≡ get_or xs i x
    → AreTied (trees_of (map view (take i xs))) grain slack clock part answers
    → IsTied (view x) grain slack clock part answer
    → AreTied (trees_of (map view (take (i + 1) xs))) grain slack clock part (answers ++ answer ∷ [])
tied_more view xs i x grain slack clock part answers answer h e all k =
    let same : map view (take i xs) ++ view x ∷ [] ≡ map view (take (i + 1) xs) =
    sym (map-append view (take i xs) (x ∷ [])) ∙ ap (λ l. map view l) (ap (λ y. take i xs ++ y ∷ []) e ∙ sym (take_more xs i x h)) in
    subst (λ (ts : List TreeValue). AreTied (trees_of ts) grain slack clock part (answers ++ answer ∷ [])) same
    (tied_append (map view (take i xs)) (view x) grain slack clock part answers answer all k)

-- ---- hulls of spans inside a side

inside_of : (s : Side) (spans : List (ℤ × ℤ)) (t : ℤ × ℤ) → AreInside s spans → Member t spans
    → (s.lo ≤ℤ t.0) × (t.1 ≤ℤ s.hi)
inside_of s [] t h m = absurd m
inside_of s (u ∷ spans) t h m = elim m [
  | inl e ↦ (rw e h.0, rw e h.1)
  | inr m ↦ inside_of s spans t h.2 m
]

pub hull_inside : (s : Side) (spans : List (ℤ × ℤ)) (need : ℕ) (lo hi : ℤ) → 1 ≤ need
    → AreInside s spans → IsRelaxedHull spans need lo hi → (s.lo ≤ℤ lo) × (lo ≤ℤ hi) × (hi ≤ℤ s.hi)
hull_inside s spans need lo hi h i k =
    let (t, m, l, u) = some_holds lo spans (omega (arith, k.lo_lies)) in
    let (t', m', l', u') = some_holds hi spans (omega (arith, k.hi_lies)) in
    let x = inside_of s spans t i m in
    let x' = inside_of s spans t' i m' in
    let w = k.within lo k.lo_lies in
    (omega (arith, ints, x.0), w.1, omega (arith, ints, x'.1))

-- ---- the answer of enough kids

pub relaxed_answer : (answers : List (Option GridBox)) (need : ℕ) (answer : Option GridBox)
    → IsBoxOfHulls (sides_of 0 answers) (sides_of 1 answers) (sides_of 2 answers) need answer
    → IsRelaxedBox answers need answer
relaxed_answer answers need None h = elim h [
  | inl e ↦ (0, e)
  | inr h ↦ elim h [
    | inl e ↦ (1, e)
    | inr e ↦ (2, e)
  ]
]
relaxed_answer answers need (Some a) h = λ axis. hull_at axis
  where
    sides_z : (n : ℕ) (answers : List (Option GridBox))
        → sides_of (suc (suc n)) answers ≡ sides_of 2 answers
    sides_z n [] = refl
    sides_z n (None ∷ answers) = sides_z n answers
    sides_z n (Some a ∷ answers) = ap (λ (l : List (ℤ × ℤ)). (a.z.lo, a.z.hi) ∷ l) (sides_z n answers)

    hull_at : (axis : ℕ)
        → IsRelaxedHull (sides_of axis answers) need (side_at axis a).lo (side_at axis a).hi
    hull_at zero = h.0
    hull_at (suc zero) = h.1
    hull_at (suc (suc n)) = rw (sides_z n answers) h.2

-- ---- rounds

abbrev pub GoesOn : ℕ → Contractor → GridBox → ℕ → GridBox → Type 0
GoesOn rounds Run part left current = (answer : Option GridBox) → Repeats left Run current answer → Repeats rounds Run part answer

one_less : (rounds round : ℕ) → round < rounds → rounds - round ≡ suc (rounds - (round + 1))
one_less rounds round h = omega arith

pub repeat_more : (rounds round : ℕ) (Run : Contractor) (part current kept : GridBox)
    → round < rounds → Run current (Some kept) → GoesOn rounds Run part (rounds - round) current
    → GoesOn rounds Run part (rounds - (round + 1)) kept
repeat_more rounds round Run part current kept h ran on answer rest =
    on answer (subst (λ (n : ℕ). Repeats n Run current answer) (sym (one_less rounds round h)) (Some kept, ran, rest))

pub repeat_none : (rounds round : ℕ) (Run : Contractor) (part current : GridBox) → round < rounds
    → Run current None → GoesOn rounds Run part (rounds - round) current
    → Repeats rounds Run part None
repeat_none rounds round Run part current h ran on =
    on None (subst (λ (n : ℕ). Repeats n Run current None) (sym (one_less rounds round h)) (None, ran, refl))

pub repeat_done : (rounds round : ℕ) (Run : Contractor) (part current : GridBox) → rounds ≤ round
    → GoesOn rounds Run part (rounds - round) current → Repeats rounds Run part (Some current)
repeat_done rounds round Run part current h on =
    on (Some current) (subst (λ (n : ℕ). Repeats n Run current (Some current)) (sym (none_left rounds round h)) refl)
  where
    none_left : (rounds round : ℕ) → rounds ≤ round → rounds - round ≡ 0
    none_left rounds round h = omega arith

-- a round that leaves all of the box does so again
repeats_same : (n : ℕ) (Run : Contractor) (current : GridBox) → Run current (Some current)
    → Repeats n Run current (Some current)
repeats_same zero Run current ran = refl
repeats_same (suc n) Run current ran = (Some current, ran, repeats_same n Run current ran)

pub repeat_same : (rounds round : ℕ) (Run : Contractor) (part current : GridBox)
    → Run current (Some current) → GoesOn rounds Run part (rounds - round) current
    → Repeats rounds Run part (Some current)
repeat_same rounds round Run part current ran on = on (Some current) (repeats_same (rounds - round) Run current ran)

-- ---- one after the other

module _ {X : Type 0} (view : X → TreeValue) (xs : List X) (grain slack : ℤ) (clock : Side) (part : GridBox) where
  abbrev pub TurnGoesOn : ℕ → GridBox → Type 0
  TurnGoesOn i current = (answer : Option GridBox) → InTurn (trees_of (map view (drop i xs))) grain slack clock current answer → InTurn (trees_of (map view xs)) grain slack clock part answer

  pub turn_more : (i : ℕ) (x : X) (current kept : GridBox) → i < length xs → x ≡ get_or xs i x
      → IsTied (view x) grain slack clock current (Some kept) → TurnGoesOn i current
      → TurnGoesOn (i + 1) kept
  turn_more i x current kept h e ran on answer rest =
      on answer (subst (λ (ts : TreeList). InTurn ts grain slack clock current answer) (sym (kids_from view xs i x h e)) (Some kept, ran, rest))

  pub turn_none : (i : ℕ) (x : X) (current : GridBox) → i < length xs → x ≡ get_or xs i x
      → IsTied (view x) grain slack clock current None → TurnGoesOn i current
      → InTurn (trees_of (map view xs)) grain slack clock part None
  turn_none i x current h e ran on =
      on None (subst (λ (ts : TreeList). InTurn ts grain slack clock current None) (sym (kids_from view xs i x h e)) (None, ran, refl))

pub sound_from : {X : Type 0} (view : X → TreeValue) (xs : List X) (i : ℕ) (x : X) → i < length xs
    → x ≡ get_or xs i x → HaveSoundNodes (trees_of (map view (drop i xs)))
    → HasSoundNodes (view x) × HaveSoundNodes (trees_of (map view (drop (i + 1) xs)))
sound_from view xs i x h e s = subst HaveSoundNodes (kids_from view xs i x h e) s

-- ---- answers that were kept lie in the box

pub answers_inside : (axis : ℕ) (kids : TreeList) (grain slack : ℤ) (clock : Side) (part : GridBox) (answers : List (Option GridBox))
    → LiesIn part part → AreTied kids grain slack clock part answers
    → AreInside (side_at axis part) (sides_of axis answers)
answers_inside axis no_trees grain slack clock part [] lies h = tt
answers_inside axis no_trees grain slack clock part (answer ∷ answers) lies h = absurd h
answers_inside axis (tree t more) grain slack clock part [] lies h = absurd h
answers_inside axis (tree t more) grain slack clock part (None ∷ answers) lies h = answers_inside axis more grain slack clock part answers lies h.1
answers_inside axis (tree t more) grain slack clock part (Some a ∷ answers) lies h =
    let k = keeps t grain slack clock part (Some a) lies h.0 in
    let u = k.0 axis in
    (u.low, u.high, answers_inside axis more grain slack clock part answers lies h.1)

-- ---- answers that are the whole box

-- each number of the box's sides lies in that of each kid but for so many
abbrev pub HoldMost : List (Option GridBox) → ℕ → ℕ → GridBox → Type 0
HoldMost answers kids smaller part =
    (axis : ℕ) (b : ℤ) → IsIn (side_at axis part) b → kids ≤ count_by (λ s. holds s b) (sides_of axis answers) + smaller

count_append : (b : ℤ) (xs ys : List (ℤ × ℤ))
    → count_by (λ s. holds s b) (xs ++ ys) ≡ count_by (λ s. holds s b) xs + count_by (λ s. holds s b) ys
count_append b xs ys = sum_by-append (λ s. cond (holds s b) 1 0) xs ys

count_more : (axis : ℕ) (b : ℤ) (answers : List (Option GridBox)) (answer : Option GridBox)
    → count_by (λ s. holds s b) (sides_of axis (answers ++ answer ∷ [])) ≡ count_by (λ s. holds s b) (sides_of axis answers) + count_by (λ s. holds s b) (sides_of axis (answer ∷ []))
count_more axis b answers answer = rw (sides_append axis answers (answer ∷ [])) (count_append b (sides_of axis answers) (sides_of axis (answer ∷ [])))

pub whole_more : (answers : List (Option GridBox)) (answer : Option GridBox) (kids smaller : ℕ) (part : GridBox)
    → answer ≡ Some part → HoldMost answers kids smaller part
    → HoldMost (answers ++ answer ∷ []) (kids + 1) smaller part
whole_more answers answer kids smaller part is most axis b within =
    let one = count_here b ((side_at axis part).lo, (side_at axis part).hi) [] (holds_from _ _ b within.0 within.1) in
    let here : count_by (λ s. holds s b) (sides_of axis (answer ∷ [])) ≡ 1 + 0 = rw is one in
    omega (arith, most axis b within, count_more axis b answers answer, here)

pub smaller_more : (answers : List (Option GridBox)) (answer : Option GridBox) (kids smaller : ℕ) (part : GridBox)
    → HoldMost answers kids smaller part
    → HoldMost (answers ++ answer ∷ []) (kids + 1) (smaller + 1) part
smaller_more answers answer kids smaller part most axis b within = omega (arith, most axis b within, count_more axis b answers answer)

pub whole_hulls : (answers : List (Option GridBox)) (need kids smaller : ℕ) (part : GridBox)
    → LiesIn part part → 1 ≤ need → need + smaller ≤ kids
    → ((axis : ℕ) → AreInside (side_at axis part) (sides_of axis answers))
    → HoldMost answers kids smaller part → IsRelaxedBox answers need (Some part)
whole_hulls answers need kids smaller part lies some enough inside most axis =
    let u = lies axis in
    record {
      lo_lies = omega (arith, most axis (side_at axis part).lo (u.low, u.ordered));
      hi_lies = omega (arith, most axis (side_at axis part).hi (u.ordered, u.high));
      within = λ b h.
          let (s, m, l, r) = some_holds b (sides_of axis answers) (omega (arith, h)) in
          let x = inside_of (side_at axis part) (sides_of axis answers) s (inside axis) m in
          (omega (arith, ints, x.0), omega (arith, ints, x.1));
    }
