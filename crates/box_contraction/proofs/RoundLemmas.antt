-- Rounds of eighths end, make at most 1,008 cuts, and leave no eighth that is shown empty.
use Rattle.std.proofs.Common.{◌≡◌, ◌≢◌, ℕ, zero, suc, ◌+◌, ◌-◌, ◌/◌, ◌<◌, ◌≤◌, arith, List, [], ◌∷◌, ◌++◌, length, inl, inr, refl, sym, ap, subst, ◌∙◌, append_assoc, Bool, true, false}
use Rattle.std.specs.Prelude.{ℤ, ◌-ℤ◌, ◌≤ℤ◌}
use Rattle.std.proofs.lemmas.Int.{ints}
use Rattle.std.proofs.lemmas.List.{length-append, append-nil}
use borrow.Author.Differences.{up}
use Rattle.grid_model.specs.Boxes.{Side, GridBox, side_at, with_side}
use Rattle.sat_model.specs.BoxTests.{BoxTest}
use Rattle.sat_model.specs.Fold.{ShownStep, axis_of, is_low, IsProperBound, side_left}
use Rattle.grid_model.specs.Lengths.{side_length}
use Rattle.sat_model.specs.Waiting.{joined}
use Rattle.grid_model.specs.Sizes.{IsBoxSize}
use Rattle.grid_model.proofs.SquareLemmas.{one_part}
use Rattle.range_contractor.proofs.TreeExists.{IsGridPart}
use Rattle.box_contraction.specs.Cuts.{past_eighth, eighths, all_faces, AreFaces, NoneMayCut, cut_shown, IsCutTo, AreFacesDone, AreFacesCut, AreRounds, AreEighthCuts}
use Rattle.box_contraction.proofs.EighthLemmas.{CanShrink, side_cuts}
use Rattle.box_contraction.proofs.FaceLemmas.{all_are, both_faces, to_exists, faces_exist, faces_both}
use Rattle.range_contractor.proofs.AmountLemmas.{above_is_up}

-- ---- a budget of cuts

-- so many eighths can be cut off the side at most
abbrev SideBudget : Side → ℕ → Type 0
SideBudget s most = (cuts : ℕ) → CanShrink (side_length s + 1) cuts → cuts ≤ most

pub record Budget (part : GridBox) (most : ℕ) : Type 0 where
  pub x : ℕ
  pub y : ℕ
  pub z : ℕ
  pub x_is : SideBudget part.x x
  pub y_is : SideBudget part.y y
  pub z_is : SideBudget part.z z
  pub sum : most ≡ x + y + z

-- the side that the cut of an eighth leaves has an eighth of its numbers less
eighth_left : (low : Bool) (s : Side) → IsProperBound low s (past_eighth low s)
    → (side_length (side_left low s (past_eighth low s)) + 1 ≤ (side_length s + 1) - (side_length s + 1) / 8) × (8 ≤ side_length s + 1)
eighth_left true s (h, k) =
    let e : side_length s ≡ up (s.hi -ℤ s.lo) = above_is_up s.hi s.lo in
    let f : side_length (side_left true s (past_eighth true s)) ≡ up (s.hi -ℤ past_eighth true s) = above_is_up s.hi (past_eighth true s) in
    let some : 1 ≤ (side_length s + 1) / 8 = omega (arith, ints) in
    (omega (arith, ints, one_part (s.hi -ℤ s.lo), one_part (s.hi -ℤ past_eighth true s)), omega arith)
eighth_left false s (h, k) =
    let e : side_length s ≡ up (s.hi -ℤ s.lo) = above_is_up s.hi s.lo in
    let f : side_length (side_left false s (past_eighth false s)) ≡ up (past_eighth false s -ℤ s.lo) = above_is_up (past_eighth false s) s.lo in
    let some : 1 ≤ (side_length s + 1) / 8 = omega (arith, ints) in
    (omega (arith, ints, one_part (s.hi -ℤ s.lo), one_part (past_eighth false s -ℤ s.lo)), omega arith)

side_spent : (low : Bool) (s : Side) (most : ℕ) → IsProperBound low s (past_eighth low s) → SideBudget s most
    → (rest : ℕ) × ((most ≡ rest + 1) × SideBudget (side_left low s (past_eighth low s)) rest)
side_spent low s zero proper b = absurd (let e = eighth_left low s proper in omega (arith, b 1 (e.1, side_length (side_left low s (past_eighth low s)) + 1, e.0, tt)))
side_spent low s (suc rest) proper b =
    let e = eighth_left low s proper in
    (rest, (omega arith, λ cuts can. let one_more = b (suc cuts) (e.1, side_length (side_left low s (past_eighth low s)) + 1, e.0, can) in omega (arith, one_more)))

spent_on : (axis : ℕ) (low : Bool) (part : GridBox) (most : ℕ)
    → IsProperBound low (side_at axis part) (past_eighth low (side_at axis part)) → Budget part most
    → (rest : ℕ) × ((most ≡ rest + 1) × Budget (with_side axis part (side_left low (side_at axis part) (past_eighth low (side_at axis part)))) rest)
spent_on zero low part most proper b =
    let (rest, (e, is)) = side_spent low part.x b.x proper b.x_is in
    (rest + b.y + b.z, (omega (arith, b.sum), record { x = rest; y = b.y; z = b.z; x_is = is; y_is = b.y_is; z_is = b.z_is; sum = refl }))
spent_on (suc zero) low part most proper b =
    let (rest, (e, is)) = side_spent low part.y b.y proper b.y_is in
    (b.x + rest + b.z, (omega (arith, b.sum), record { x = b.x; y = rest; z = b.z; x_is = b.x_is; y_is = is; z_is = b.z_is; sum = refl }))
spent_on (suc (suc n)) low part most proper b =
    let (rest, (e, is)) = side_spent low part.z b.z proper b.z_is in
    (b.x + b.y + rest, (omega (arith, b.sum), record { x = b.x; y = b.y; z = rest; x_is = b.x_is; y_is = b.y_is; z_is = is; sum = refl }))

-- each cut spends one
pub faces_spent : (test : BoxTest) (id : ℕ) (faces : List ℕ) (part : GridBox) (steps : List ShownStep) (left : GridBox) (most : ℕ)
    → AreFacesCut test id eighths faces part steps left → Budget part most
    → (rest : ℕ) × ((most ≡ rest + length steps) × Budget left rest)
faces_spent test id [] part steps left most (none, same) b = (most, (rw none (omega arith), rw same b))
faces_spent test id (face ∷ faces) part steps left most (own, middle, more, is, rest, join) b = elim is [
  | inr (not, none, same) ↦
      let (r, (e, c)) = faces_spent test id faces middle more left most rest (rw same b) in
      (r, (omega (arith, e, ap length join, length-append own more, ap length none), c))
  | inl (may, one, cut) ↦
      let (r, (e, c)) = spent_on (axis_of face) (is_low face) part most may.0 b in
      let (r', (e', c')) = faces_spent test id faces middle more left r rest (rw cut c) in
      (r', (omega (arith, e, e', ap length join, length-append own more, ap length one), c'))
]

length_small : (s : Side) → s.lo ≤ℤ s.hi → IsBoxSize s.lo × IsBoxSize s.hi
    → side_length s ≤ 20000000000000
length_small s o (p, q) = omega (arith, ints, above_is_up s.hi s.lo, one_part (s.hi -ℤ s.lo), p.low, q.high)

-- a box of the grid
pub grid_budget : (part : GridBox) → IsGridPart part → Budget part 1008
grid_budget part grid = record {
  x = 336;
  y = 336;
  z = 336;
  x_is = λ cuts can. side_cuts (side_length part.x + 1) cuts (omega (arith, length_small part.x (grid.lies 0).ordered grid.sizes.x)) can;
  y_is = λ cuts can. side_cuts (side_length part.y + 1) cuts (omega (arith, length_small part.y (grid.lies 1).ordered grid.sizes.y)) can;
  z_is = λ cuts can. side_cuts (side_length part.z + 1) cuts (omega (arith, length_small part.z (grid.lies 2).ordered grid.sizes.z)) can;
  sum = refl;
}

-- ---- rounds

-- a round, and those behind it where it made a cut
pub round_before : (Done : ℕ → GridBox → List ShownStep → GridBox → Type 0) (part middle left : GridBox) (round : List ShownStep) (more : List (List ShownStep))
    → AreFacesDone Done all_faces part round middle → round ≢ []
    → AreRounds Done middle more left → AreRounds Done part (round ∷ more) left
round_before Done part middle left round [] cut some rest = absurd rest
round_before Done part middle left round (second ∷ more) cut some rest = (middle, cut, some, rest)

-- rounds that begin with this one
abbrev pub GoOn : (ℕ → GridBox → List ShownStep → GridBox → Type 0) → GridBox → List ShownStep → Type 0
GoOn Done part round = (more : List (List ShownStep)) × ((left : GridBox) × AreRounds Done part (round ∷ more) left)

abbrev pub HasRounds : (ℕ → GridBox → List ShownStep → GridBox → Type 0) → GridBox → Type 0
HasRounds Done part = (rounds : List (List ShownStep)) × ((left : GridBox) × AreRounds Done part rounds left)

go_on : (Done : ℕ → GridBox → List ShownStep → GridBox → Type 0) (part middle : GridBox) (steps : List ShownStep)
    → AreFacesDone Done all_faces part steps middle
    → (1 ≤ length steps → HasRounds Done middle) → GoOn Done part steps
go_on Done part middle [] cut more = ([], (middle, (cut, refl)))
go_on Done part middle (step ∷ steps) cut more =
    let (rounds, (left, rest)) = more (omega arith) in
    (rounds, (left, round_before Done part middle left (step ∷ steps) rounds cut (λ e. absurd cc) rest))

rounds_up_to : (test : BoxTest) (id : ℕ) (fuel : ℕ) (part : GridBox) (most : ℕ) → test.q < length test.rows
    → Budget part most → most ≤ fuel → HasRounds (IsCutTo test id eighths) part
rounds_up_to test id zero part most few b le =
    let (steps, (middle, cut)) = faces_exist (IsCutTo test id eighths) all_faces part (λ face b. to_exists test id eighths face b few) in
    let (rest, (e, c)) = faces_spent test id all_faces part steps middle most cut b in
    let (more, (left, are)) = go_on (IsCutTo test id eighths) part middle steps cut (λ some. absurd (omega arith)) in
    (steps ∷ more, (left, are))
rounds_up_to test id (suc fuel) part most few b le =
    let (steps, (middle, cut)) = faces_exist (IsCutTo test id eighths) all_faces part (λ face b. to_exists test id eighths face b few) in
    let (rest, (e, c)) = faces_spent test id all_faces part steps middle most cut b in
    let (more, (left, are)) = go_on (IsCutTo test id eighths) part middle steps cut (λ some. rounds_up_to test id fuel middle rest few c (omega arith)) in
    (steps ∷ more, (left, are))

pub rounds_exist : (test : BoxTest) (id : ℕ) (part : GridBox) → test.q < length test.rows → IsGridPart part
    → (steps : List ShownStep) × ((left : GridBox) × AreEighthCuts test id part steps left)
rounds_exist test id part few grid =
    let (rounds, (left, are)) = rounds_up_to test id 1008 part 1008 few (grid_budget part grid) (omega arith) in
    (joined rounds, (left, (rounds, are, refl)))

pub joined_append : (xs ys : List (List ShownStep)) → joined (xs ++ ys) ≡ joined xs ++ joined ys
joined_append [] ys = refl
joined_append (x ∷ xs) ys = ap (λ l. x ++ l) (joined_append xs ys) ∙ sym (append_assoc x (joined xs) (joined ys))

-- ---- what they are

-- the faces of all rounds, one after the other
rounds_faces : (Done : ℕ → GridBox → List ShownStep → GridBox → Type 0) (part : GridBox) (rounds : List (List ShownStep)) (left : GridBox)
    → AreRounds Done part rounds left
    → (faces : List ℕ) × (AreFaces faces × AreFacesDone Done faces part (joined rounds) left)
rounds_faces Done part [] left is = absurd is
rounds_faces Done part (round ∷ []) left (cut, none) = (all_faces, (all_are, subst (λ (s : List ShownStep). AreFacesDone Done all_faces part s left) (sym (append-nil round)) cut))
rounds_faces Done part (round ∷ (second ∷ more)) left (middle, cut, some, rest) =
    let (faces, (named, others)) = rounds_faces Done middle (second ∷ more) left rest in
    (all_faces ++ faces, (both_faces all_faces faces all_are named, faces_both Done all_faces faces part middle left round (joined (second ∷ more)) cut others))

pub round_cuts_faces : (test : BoxTest) (id : ℕ) (part : GridBox) (steps : List ShownStep) (left : GridBox)
    → AreEighthCuts test id part steps left
    → (faces : List ℕ) × (AreFaces faces × AreFacesCut test id eighths faces part steps left)
round_cuts_faces test id part steps left (rounds, are, join) =
    let (faces, (named, all)) = rounds_faces (IsCutTo test id eighths) part rounds left are in
    (faces, (named, subst (λ (s : List ShownStep). AreFacesCut test id eighths faces part s left) (sym join) all))

-- ---- how many

rounds_spent : (test : BoxTest) (id : ℕ) (part : GridBox) (rounds : List (List ShownStep)) (left : GridBox) (most : ℕ)
    → AreRounds (IsCutTo test id eighths) part rounds left → Budget part most
    → length (joined rounds) ≤ most
rounds_spent test id part [] left most is b = absurd is
rounds_spent test id part (round ∷ []) left most (cut, none) b = omega (arith, length-append round [], ap length none)
rounds_spent test id part (round ∷ (second ∷ more)) left most (middle, cut, some, rest) b =
    let (r, (e, c)) = faces_spent test id all_faces part round middle most cut b in
    omega (arith, e, length-append round (joined (second ∷ more)), rounds_spent test id middle (second ∷ more) left r rest c)

pub rounds_few : (test : BoxTest) (id : ℕ) (part : GridBox) (steps : List ShownStep) (left : GridBox)
    → IsGridPart part → AreEighthCuts test id part steps left → length steps ≤ 1008
rounds_few test id part steps left grid (rounds, are, join) = omega (arith, ap length join, rounds_spent test id part rounds left 1008 are (grid_budget part grid))

-- ---- what is left

none_of_both : (own more : List ShownStep) → [] ≡ own ++ more → (own ≡ []) × (more ≡ [])
none_of_both [] more e = (refl, sym e)
none_of_both (step ∷ own) more e = absurd cc

no_cuts : (test : BoxTest) (id : ℕ) (faces : List ℕ) (part : GridBox) (steps : List ShownStep) (left : GridBox)
    → AreFacesCut test id eighths faces part steps left → steps ≡ []
    → (left ≡ part) × NoneMayCut test faces part
no_cuts test id [] part steps left (none, same) e = (same, tt)
no_cuts test id (face ∷ faces) part steps left (own, middle, more, is, rest, join) e =
    let (own_none, more_none) = none_of_both own more (sym e ∙ join) in
    elim is [
      | inl (may, one, cut) ↦ absurd (let f : ◌≡◌ {A = List ShownStep} (cut_shown id face (eighths face part) part ∷ []) [] = sym one ∙ own_none in cc)
      | inr (not, none, same) ↦
          let (later, others) = no_cuts test id faces middle more left rest more_none in
          (later ∙ same, (not, subst (λ (c : GridBox). NoneMayCut test faces c) same others))
    ]

rounds_leave : (test : BoxTest) (id : ℕ) (part : GridBox) (rounds : List (List ShownStep)) (left : GridBox)
    → AreRounds (IsCutTo test id eighths) part rounds left → NoneMayCut test all_faces left
rounds_leave test id part [] left is = absurd is
rounds_leave test id part (round ∷ []) left (cut, none) = let (same, others) = no_cuts test id all_faces part round left cut none in rw same others
rounds_leave test id part (round ∷ (second ∷ more)) left (middle, cut, some, rest) = rounds_leave test id middle (second ∷ more) left rest

pub round_cuts_leave : (test : BoxTest) (id : ℕ) (part : GridBox) (steps : List ShownStep) (left : GridBox)
    → AreEighthCuts test id part steps left → NoneMayCut test all_faces left
round_cuts_leave test id part steps left (rounds, are, join) = rounds_leave test id part rounds left are
