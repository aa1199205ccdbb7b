-- An answer that is tied keeps what the tree allows, and has faces of the box, of `Within` boxes or
-- multiples of the grain.
use Rattle.std.proofs.Common.{◌≡◌, ℕ, zero, suc, ◌+◌, ◌-◌, ◌≤◌, arith, List, [], ◌∷◌, count_by, true, inl, inr, refl, Option, None, Some}
use Rattle.std.specs.Prelude.{ℤ, pos, ◌≤ℤ◌, ◌+ℤ◌}
use Rattle.std.proofs.lemmas.Int.{ints, clamps}
use Rattle.grid_model.specs.declared.boxes.Pos.{Pos}
use Rattle.grid_model.specs.Boxes.{Side, GridBox, box_holds, side_at, IsIn}
use Rattle.sat_model.specs.Relaxed.{holds, IsRelaxedHull}
use Rattle.sat_model.specs.Trees.{TreeValue, Sat, All, Relaxed, Again, Within, TreeList, no_trees, tree, Allows, AllButAllow, count_trees}
use Rattle.sat_model.specs.Contractors.{IsAllowedIn, SideLiesIn, LiesIn, KeepsAllowed, sides_of, IsRelaxedBox, IsMeet, meet_side, meet_box, Contractor, Then, Repeats}
use Rattle.sat_model.specs.Proposals.{Keeps, IsTied, InTurn, AreTied}
use Rattle.range_contractor.proofs.BoxLemmas.{along, holds_at, holds_all, lies_through}
use Rattle.range_contractor.proofs.CountLemmas.{Member, some_holds}
use Rattle.sat_model.proofs.FittingLemmas.{count_here, count_any, holds_from}

-- the same for each point and offset
abbrev Implies : (Pos → ℤ → Type 0) → (Pos → ℤ → Type 0) → Type 0
Implies S Q = (p : Pos) (b : ℤ) → S p b → Q p b

keeps_less : (S Q : Pos → ℤ → Type 0) (part : GridBox) (clock : Side) (answer : Option GridBox)
    → Implies S Q → KeepsAllowed Q clock part answer → KeepsAllowed S clock part answer
keeps_less S Q part clock None i k = λ p a. k p (record { inside = a.inside; offset = a.offset; in_clock = a.in_clock; allowed = i p a.offset a.allowed })
keeps_less S Q part clock (Some a') i k = (k.0, λ p a. k.1 p (record { inside = a.inside; offset = a.offset; in_clock = a.in_clock; allowed = i p a.offset a.allowed }))

-- ---- one after the other

keeps_behind : (S : Pos → ℤ → Type 0) (part m : GridBox) (clock : Side) (answer : Option GridBox)
    → LiesIn m part → ((p : Pos) → IsAllowedIn S part clock p → box_holds m p ≡ true)
    → KeepsAllowed S clock m answer → KeepsAllowed S clock part answer
keeps_behind S part m clock None lies held k = λ p a. k p (record { inside = held p a; offset = a.offset; in_clock = a.in_clock; allowed = a.allowed })
keeps_behind S part m clock (Some a') lies held k =
    (lies_through a' m part k.0 lies, λ p a. k.1 p (record { inside = held p a; offset = a.offset; in_clock = a.in_clock; allowed = a.allowed }))

keeps_then : (S : Pos → ℤ → Type 0) (part : GridBox) (clock : Side) (middle answer : Option GridBox) (Next : Contractor)
    → KeepsAllowed S clock part middle
    → ((m : GridBox) → LiesIn m part → Next m answer → KeepsAllowed S clock m answer)
    → Then middle Next answer → KeepsAllowed S clock part answer
keeps_then S part clock None answer Next k next is = rw is k
keeps_then S part clock (Some m) answer Next k next is = keeps_behind S part m clock answer k.0 k.1 (next m k.0 is)

keeps_same : (S : Pos → ℤ → Type 0) (part : GridBox) (clock : Side) (answer : Option GridBox)
    → LiesIn part part → answer ≡ Some part → KeepsAllowed S clock part answer
keeps_same S part clock answer lies is = rw is (lies, λ p a. a.inside)

pub lies_itself : (a part : GridBox) → LiesIn a part → LiesIn a a
lies_itself a part h axis = let u = h axis in record { low = omega (arith, ints); ordered = u.ordered; high = omega (arith, ints) }

keeps_repeated : (S : Pos → ℤ → Type 0) (n : ℕ) (Run : Contractor) (clock : Side)
    → ((c : GridBox) (a : Option GridBox) → LiesIn c c → Run c a → KeepsAllowed S clock c a)
    → (part : GridBox) (answer : Option GridBox) → LiesIn part part → Repeats n Run part answer
    → KeepsAllowed S clock part answer
keeps_repeated S zero Run clock run part answer lies is = keeps_same S part clock answer lies is
keeps_repeated S (suc n) Run clock run part answer lies (middle, ran, then) =
    keeps_then S part clock middle answer (Repeats n Run) (run part middle lies ran)
    (λ m inside rest. keeps_repeated S n Run clock run m answer (lies_itself m part inside) rest) then

-- ---- the meet

pub meet_at : (axis : ℕ) (c d : GridBox)
    → side_at axis (meet_box c d) ≡ meet_side (side_at axis c) (side_at axis d)
meet_at zero c d = refl
meet_at (suc zero) c d = refl
meet_at (suc (suc n)) c d = refl

meet_lies : (axis : ℕ) (part box a : GridBox) → a ≡ meet_box part box
    → SideLiesIn (side_at axis a) (side_at axis a) → SideLiesIn (side_at axis a) (side_at axis part)
meet_lies axis part box a is ordered =
    let e : side_at axis a ≡ meet_side (side_at axis part) (side_at axis box) = rw is (meet_at axis part box) in
    record {
      low = rw e (omega (arith, ints, clamps));
      ordered = ordered.ordered;
      high = rw e (omega (arith, ints, clamps));
    }

in_meet : (axis : ℕ) (c d : GridBox) (p : Pos) → IsIn (side_at axis c) (along axis p)
    → IsIn (side_at axis d) (along axis p) → IsIn (side_at axis (meet_box c d)) (along axis p)
in_meet axis c d p h k = rw (meet_at axis c d) (omega (arith, ints, clamps, h.0, k.0), omega (arith, ints, clamps, h.1, k.1))

keeps_meet : (part box : GridBox) (clock : Side) (answer : Option GridBox) → IsMeet box part answer
    → KeepsAllowed (λ p b. box_holds box p ≡ true) clock part answer
keeps_meet part box clock None none = λ p a. none p a.inside a.allowed
keeps_meet part box clock (Some a) (is, ordered) = (
  λ axis. meet_lies axis part box a is (ordered axis),
  λ p k. rw is (holds_all (meet_box part box) p (λ axis. in_meet axis part box p (holds_at part p k.inside axis) (holds_at box p k.allowed axis))),
)

-- ---- in enough sides

-- each answer keeps what its tree allows
abbrev AllKeep : TreeList → GridBox → Side → List (Option GridBox) → Type 0
AllKeep no_trees part clock [] = Unit {0}
AllKeep no_trees part clock (answer ∷ answers) = ⊥
AllKeep (tree t more) part clock [] = ⊥
AllKeep (tree t more) part clock (answer ∷ answers) = Keeps t clock part answer × AllKeep more part clock answers

-- what one kid's answer adds on an axis where the kid allows the point
side_counts : (axis : ℕ) (t : TreeValue) (part : GridBox) (clock : Side) (answer : Option GridBox) (answers : List (Option GridBox)) (p : Pos) (b : ℤ)
    → Keeps t clock part answer → box_holds part p ≡ true → IsIn clock b → Allows t p b
    → 1 + count_by (λ s. holds s (along axis p)) (sides_of axis answers) ≤ count_by (λ s. holds s (along axis p)) (sides_of axis (answer ∷ answers))
side_counts axis t part clock None answers p b k i c a = absurd (k p (record { inside = i; offset = b; in_clock = c; allowed = a }))
side_counts axis t part clock (Some a') answers p b k i c a =
    let in_a = holds_at a' p (k.1 p (record { inside = i; offset = b; in_clock = c; allowed = a })) axis in
    omega (arith, count_here (along axis p) ((side_at axis a').lo, (side_at axis a').hi) (sides_of axis answers) (holds_from _ _ (along axis p) in_a.0 in_a.1))

side_counts_any : (axis : ℕ) (answer : Option GridBox) (answers : List (Option GridBox)) (n : ℤ)
    → count_by (λ s. holds s n) (sides_of axis answers) ≤ count_by (λ s. holds s n) (sides_of axis (answer ∷ answers))
side_counts_any axis None answers n = omega arith
side_counts_any axis (Some a) answers n = count_any n ((side_at axis a).lo, (side_at axis a).hi) (sides_of axis answers)

all_but_counted : (axis : ℕ) (kids : TreeList) (q : ℕ) (part : GridBox) (clock : Side) (answers : List (Option GridBox)) (p : Pos) (b : ℤ)
    → AllKeep kids part clock answers → box_holds part p ≡ true → IsIn clock b
    → AllButAllow kids q p b
    → count_trees kids ≤ count_by (λ s. holds s (along axis p)) (sides_of axis answers) + q
all_but_counted axis no_trees q part clock answers p b k i c a = omega arith
all_but_counted axis (tree t more) q part clock [] p b k i c a = absurd k
all_but_counted axis (tree t more) zero part clock (answer ∷ answers) p b k i c a =
    omega (arith, side_counts axis t part clock answer answers p b k.0 i c a.0, all_but_counted axis more zero part clock answers p b k.1 i c a.1)
all_but_counted axis (tree t more) (suc q) part clock (answer ∷ answers) p b k i c a = elim a [
  | inl a ↦ omega (arith, side_counts axis t part clock answer answers p b k.0 i c a.0, all_but_counted axis more (suc q) part clock answers p b k.1 i c a.1)
  | inr a ↦ omega (arith, side_counts_any axis answer answers (along axis p), all_but_counted axis more q part clock answers p b k.1 i c a)
]

-- each side of the answers lies in the box's
sides_lie : (axis : ℕ) (kids : TreeList) (part : GridBox) (clock : Side) (answers : List (Option GridBox)) (s : ℤ × ℤ)
    → AllKeep kids part clock answers → Member s (sides_of axis answers)
    → ((side_at axis part).lo ≤ℤ s.0) × (s.1 ≤ℤ (side_at axis part).hi)
sides_lie axis no_trees part clock [] s k m = absurd m
sides_lie axis no_trees part clock (answer ∷ answers) s k m = absurd k
sides_lie axis (tree t more) part clock [] s k m = absurd k
sides_lie axis (tree t more) part clock (None ∷ answers) s k m = sides_lie axis more part clock answers s k.1 m
sides_lie axis (tree t more) part clock (Some a ∷ answers) s k m = elim m [
  | inl is ↦ let lies = k.0.0 axis in (rw is lies.low, rw is lies.high)
  | inr m ↦ sides_lie axis more part clock answers s k.1 m
]

no_need : (spans : List (ℤ × ℤ)) (lo hi : ℤ) → IsRelaxedHull spans 0 lo hi → ⊥
no_need spans lo hi h = let w = h.within (hi +ℤ pos 1) (omega arith) in omega (arith, ints, w.1)

hull_lies : (axis : ℕ) (kids : TreeList) (part : GridBox) (clock : Side) (answers : List (Option GridBox)) (need : ℕ) (a : GridBox)
    → AllKeep kids part clock answers
    → IsRelaxedHull (sides_of axis answers) need (side_at axis a).lo (side_at axis a).hi
    → SideLiesIn (side_at axis a) (side_at axis part)
hull_lies axis kids part clock answers zero a k h = absurd (no_need (sides_of axis answers) _ _ h)
hull_lies axis kids part clock answers (suc need) a k h =
    let (s, m, l, u) = some_holds (side_at axis a).lo (sides_of axis answers) (omega (arith, h.lo_lies)) in
    let (s', m', l', u') = some_holds (side_at axis a).hi (sides_of axis answers) (omega (arith, h.hi_lies)) in
    let x = sides_lie axis kids part clock answers s k m in
    let x' = sides_lie axis kids part clock answers s' k m' in
    let w = h.within (side_at axis a).lo h.lo_lies in
    record { low = omega (arith, ints, x.0); ordered = w.1; high = omega (arith, ints, x'.1) }

keeps_relaxed : (q : ℕ) (kids : TreeList) (part : GridBox) (clock : Side) (answers : List (Option GridBox)) (answer : Option GridBox)
    → AllKeep kids part clock answers → IsRelaxedBox answers (count_trees kids - q) answer
    → KeepsAllowed (λ p b. AllButAllow kids q p b) clock part answer
keeps_relaxed q kids part clock answers None k (axis, none) = λ p a.
    none (along axis p) (omega (arith, all_but_counted axis kids q part clock answers p a.offset k a.inside a.in_clock a.allowed))
keeps_relaxed q kids part clock answers (Some a') k hulls = (
  λ axis. hull_lies axis kids part clock answers (count_trees kids - q) a' k (hulls axis),
  λ p a. holds_all a' p (λ axis. (hulls axis).within (along axis p) (omega (arith, all_but_counted axis kids q part clock answers p a.offset k a.inside a.in_clock a.allowed))),
)

-- ---- every tree

mutual
  pub keeps : (t : TreeValue) (grain slack : ℤ) (clock : Side) (part : GridBox) (answer : Option GridBox)
      → LiesIn part part → IsTied t grain slack clock part answer → Keeps t clock part answer
  keeps (Sat leaf) grain slack clock part answer lies is = is.0
  keeps (All kids) grain slack clock part answer lies is = keeps_in_turn kids grain slack clock part answer lies is
  keeps (Relaxed q kids) grain slack clock part answer lies (answers, all, is) =
      keeps_relaxed q kids part clock answers answer (all_keep kids grain slack clock part answers lies all) is
  keeps (Again rounds kid) grain slack clock part answer lies is =
      keeps_repeated (Allows kid) rounds (λ c a. IsTied kid grain slack clock c a) clock (λ c a l r. keeps kid grain slack clock c a l r) part answer lies is
  keeps (Within box) grain slack clock part answer lies is = keeps_meet part box clock answer is

  keeps_in_turn : (kids : TreeList) (grain slack : ℤ) (clock : Side) (part : GridBox) (answer : Option GridBox)
      → LiesIn part part → InTurn kids grain slack clock part answer
      → KeepsAllowed (λ p b. AllButAllow kids zero p b) clock part answer
  keeps_in_turn no_trees grain slack clock part answer lies is = keeps_same _ part clock answer lies is
  keeps_in_turn (tree t more) grain slack clock part answer lies (middle, first, then) =
      keeps_then (λ p b. Allows t p b × AllButAllow more zero p b) part clock middle answer (λ c a. InTurn more grain slack clock c a)
      (keeps_less (λ p b. Allows t p b × AllButAllow more zero p b) (Allows t) part clock middle (λ p b h. h.0) (keeps t grain slack clock part middle lies first))
      (λ m inside rest. keeps_less (λ p b. Allows t p b × AllButAllow more zero p b) (λ p b. AllButAllow more zero p b) m clock answer (λ p b h. h.1)
      (keeps_in_turn more grain slack clock m answer (lies_itself m part inside) rest))
      then

  all_keep : (kids : TreeList) (grain slack : ℤ) (clock : Side) (part : GridBox) (answers : List (Option GridBox))
      → LiesIn part part → AreTied kids grain slack clock part answers
      → AllKeep kids part clock answers
  all_keep no_trees grain slack clock part [] lies h = tt
  all_keep no_trees grain slack clock part (answer ∷ answers) lies h = absurd h
  all_keep (tree t more) grain slack clock part [] lies h = absurd h
  all_keep (tree t more) grain slack clock part (answer ∷ answers) lies h =
      (keeps t grain slack clock part answer lies h.0, all_keep more grain slack clock part answers lies h.1)
