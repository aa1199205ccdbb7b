-- Each tree has an answer for each box and each clock span.
use Rattle.std.proofs.Common.{◌≡◌, ℕ, zero, suc, ◌-◌, ◌<◌, arith, List, [], ◌∷◌, inl, inr, refl, subst, Option, None, Some}
use Rattle.std.specs.Prelude.{ℤ, pos, ◌*ℤ◌, ◌≤ℤ◌}
use Rattle.std.proofs.lemmas.Int.{ints}
use Rattle.grid_model.specs.Boxes.{Side, GridBox, side_at}
use Rattle.grid_model.specs.Sizes.{IsBoxSize}
use Rattle.sat_model.proofs.RelaxedExists.{relaxed_hull}
use Rattle.sat_model.specs.Trees.{LeafValue, TreeValue, Sat, All, Relaxed, Again, Within, TreeList, no_trees, tree, count_trees, IsLeafSized}
use Rattle.sat_model.specs.Contractors.{SideLiesIn, LiesIn, IsMeet, meet_side, Contractor, Then, Repeats, sides_of, IsRelaxedBox}
use Rattle.sat_model.specs.Proposals.{IsTied, InTurn, AreTied}
use Rattle.range_contractor.specs.Sides.{IsMeetOf}
use Rattle.range_contractor.proofs.BoxLemmas.{holds_at}
use Rattle.range_contractor.proofs.MeetLemmas.{apart, meet_is}
use Rattle.range_contractor.proofs.TreeLemmas.{keeps}
use Rattle.range_contractor.proofs.KidLemmas.{relaxed_answer}
use Rattle.range_contractor.proofs.LeafLemmas.{AreSizes}
use Rattle.range_contractor.proofs.LeafExists.{AreWholeSides, meet_or_none, leaf_exists}

-- a leaf between multiples of the grain
pub record IsGrainLeaf (g : ℤ) (leaf : LeafValue) : Type 0 where
  pub sized : IsLeafSized leaf
  pub whole : AreWholeSides g leaf
  pub x : leaf.x.lo ≤ℤ leaf.x.hi
  pub y : leaf.y.lo ≤ℤ leaf.y.hi
  pub z : leaf.z.lo ≤ℤ leaf.z.hi

-- each leaf is one, and q is below the number of kids
abbrev mutual
  pub IsGrainTree : ℤ → TreeValue → Type 0
  IsGrainTree g (Sat leaf) = IsGrainLeaf g leaf
  IsGrainTree g (All kids) = AreGrainTrees g kids
  IsGrainTree g (Relaxed q kids) = (q < count_trees kids) × AreGrainTrees g kids
  IsGrainTree g (Again rounds kid) = IsGrainTree g kid
  IsGrainTree g (Within box) = Unit {0}

  pub AreGrainTrees : ℤ → TreeList → Type 0
  AreGrainTrees g no_trees = Unit {0}
  AreGrainTrees g (tree t more) = IsGrainTree g t × AreGrainTrees g more

-- a box of the grid, not empty
pub record IsGridPart (part : GridBox) : Type 0 where
  pub lies : LiesIn part part
  pub sizes : AreSizes part

sized_in : (a part : Side) → SideLiesIn a part → IsBoxSize part.lo × IsBoxSize part.hi
    → IsBoxSize a.lo × IsBoxSize a.hi
sized_in a part l (p, q) = (
  record { low = omega (arith, ints, l.low, p.low); high = omega (arith, ints, l.ordered, l.high, q.high) },
  record { low = omega (arith, ints, l.low, l.ordered, p.low); high = omega (arith, ints, l.high, q.high) },
)

pub inside_part : (a part : GridBox) → LiesIn a part → IsGridPart part → IsGridPart a
inside_part a part l is = record {
  lies = λ axis. let u = l axis in record { low = omega (arith, ints); ordered = u.ordered; high = omega (arith, ints) };
  sizes = record { x = sized_in a.x part.x (l 0) is.sizes.x; y = sized_in a.y part.y (l 1) is.sizes.y; z = sized_in a.z part.z (l 2) is.sizes.z };
}

-- an answer of a kind
abbrev HasAnswer : Contractor → GridBox → Type 0
HasAnswer Run part = (answer : Option GridBox) × Run part answer

then_exists : (part : GridBox) (middle : Option GridBox) (Next : Contractor)
    → ((m : GridBox) → middle ≡ Some m → HasAnswer Next m)
    → (answer : Option GridBox) × Then middle Next answer
then_exists part None Next next = (None, refl)
then_exists part (Some m) Next next = next m refl

repeats_exist : (n : ℕ) (Run : Contractor) → ((c : GridBox) → IsGridPart c → HasAnswer Run c)
    → ((c a : GridBox) → IsGridPart c → Run c (Some a) → LiesIn a c) → (part : GridBox)
    → IsGridPart part → HasAnswer (Repeats n Run) part
repeats_exist zero Run run lies part is = (Some part, refl)
repeats_exist (suc n) Run run lies part is =
    let (middle, ran) = run part is in
    let (answer, then) = then_exists part middle (Repeats n Run) (λ m e. repeats_exist n Run run lies m (inside_part m part (lies part m is (subst (λ (a : Option GridBox). Run part a) e ran)) is)) in
    (answer, (middle, ran, then))

pub same_box : (x y z x' y' z' : Side) → x ≡ x' → y ≡ y' → z ≡ z'
    → (◌≡◌ {A = GridBox} (record { x = x; y = y; z = z }) (record { x = x'; y = y'; z = z' }))
same_box x y z x' y' z' e f g = rw (e, f, g) refl

ordered_side : (a b r : Side) → IsMeetOf a b r → SideLiesIn r r
ordered_side a b r m = record { low = omega (arith, ints); ordered = m.ordered; high = omega (arith, ints) }

meet_exists : (part box : GridBox) → (answer : Option GridBox) × IsMeet box part answer
meet_exists part box = elim (meet_or_none part.x box.x) [
  | inr d ↦ (None, λ p h k. apart part.x box.x p.x d (holds_at part p h 0) (holds_at box p k 0))
  | inl (x, mx) ↦ elim (meet_or_none part.y box.y) [
    | inr d ↦ (None, λ p h k. apart part.y box.y p.y d (holds_at part p h 1) (holds_at box p k 1))
    | inl (y, my) ↦ elim (meet_or_none part.z box.z) [
      | inr d ↦ (None, λ p h k. apart part.z box.z p.z d (holds_at part p h 2) (holds_at box p k 2))
      | inl (z, mz) ↦ (
        Some (record { x = x; y = y; z = z }),
        (
          same_box x y z (meet_side part.x box.x) (meet_side part.y box.y) (meet_side part.z box.z) (meet_is part.x box.x x mx) (meet_is part.y box.y y my) (meet_is part.z box.z z mz),
          λ axis. at axis x y z mx my mz,
        ),
      )
    ]
  ]
]
  where
    at : (axis : ℕ) (x y z : Side) → IsMeetOf part.x box.x x → IsMeetOf part.y box.y y
        → IsMeetOf part.z box.z z
        → SideLiesIn (side_at axis (record { x = x; y = y; z = z })) (side_at axis (record { x = x; y = y; z = z }))
    at zero x y z mx my mz = ordered_side part.x box.x x mx
    at (suc zero) x y z mx my mz = ordered_side part.y box.y y my
    at (suc (suc n)) x y z mx my mz = ordered_side part.z box.z z mz

hulls_exist : (answers : List (Option GridBox)) (need : ℕ) → 0 < need
    → (answer : Option GridBox) × IsRelaxedBox answers need answer
hulls_exist answers need some = elim (relaxed_hull (sides_of 0 answers) need some) [
  | inl e ↦ (None, (0, e))
  | inr (xl, xh, hx) ↦ elim (relaxed_hull (sides_of 1 answers) need some) [
    | inl e ↦ (None, (1, e))
    | inr (yl, yh, hy) ↦ elim (relaxed_hull (sides_of 2 answers) need some) [
      | inl e ↦ (None, (2, e))
      | inr (zl, zh, hz) ↦
          let a : GridBox = record { x = record { lo = xl; hi = xh }; y = record { lo = yl; hi = yh }; z = record { lo = zl; hi = zh } } in
          (Some a, relaxed_answer answers need (Some a) (hx, hy, hz))
    ]
  ]
]

mutual
  pub tied_exists : (t : TreeValue) (g slack : ℤ) (clock : Side) (part : GridBox) → pos 1 ≤ℤ g
      → g ≤ℤ pos 1048576 → slack ≡ pos 16 *ℤ g → IsGrainTree g t → IsGridPart part
      → (answer : Option GridBox) × IsTied t g slack clock part answer
  tied_exists (Sat leaf) g slack clock part one most e is grid =
      leaf_exists g slack leaf clock part one most e is.sized is.whole
      (record { x = is.x; y = is.y; z = is.z; part_x = (grid.lies 0).ordered; part_y = (grid.lies 1).ordered; part_z = (grid.lies 2).ordered }) grid.sizes
  tied_exists (All kids) g slack clock part one most e is grid = turn_exists kids g slack clock part one most e is grid
  tied_exists (Relaxed q kids) g slack clock part one most e is grid =
      let (answers, all) = answers_exist kids g slack clock part one most e is.1 grid in
      let (answer, hull) = hulls_exist answers (count_trees kids - q) (omega (arith, is.0)) in
      (answer, (answers, all, hull))
  tied_exists (Again rounds kid) g slack clock part one most e is grid =
      repeats_exist rounds (λ c a. IsTied kid g slack clock c a) (λ c at. tied_exists kid g slack clock c one most e is at)
      (λ c a at r. (keeps kid g slack clock c (Some a) at.lies r).0) part grid
  tied_exists (Within box) g slack clock part one most e is grid = meet_exists part box

  turn_exists : (kids : TreeList) (g slack : ℤ) (clock : Side) (part : GridBox) → pos 1 ≤ℤ g
      → g ≤ℤ pos 1048576 → slack ≡ pos 16 *ℤ g → AreGrainTrees g kids → IsGridPart part
      → (answer : Option GridBox) × InTurn kids g slack clock part answer
  turn_exists no_trees g slack clock part one most e is grid = (Some part, refl)
  turn_exists (tree t more) g slack clock part one most e is grid =
      let (middle, ran) = tied_exists t g slack clock part one most e is.0 grid in
      let (answer, then) = then_exists part middle (λ c a. InTurn more g slack clock c a) (λ m s. turn_exists more g slack clock m one most e is.1
      (inside_part m part (keeps t g slack clock part (Some m) grid.lies (subst (λ (a : Option GridBox). IsTied t g slack clock part a) s ran)).0 grid)) in
      (answer, (middle, ran, then))

  answers_exist : (kids : TreeList) (g slack : ℤ) (clock : Side) (part : GridBox) → pos 1 ≤ℤ g
      → g ≤ℤ pos 1048576 → slack ≡ pos 16 *ℤ g → AreGrainTrees g kids → IsGridPart part
      → (answers : List (Option GridBox)) × AreTied kids g slack clock part answers
  answers_exist no_trees g slack clock part one most e is grid = ([], tt)
  answers_exist (tree t more) g slack clock part one most e is grid =
      let (answer, ran) = tied_exists t g slack clock part one most e is.0 grid in
      let (answers, all) = answers_exist more g slack clock part one most e is.1 grid in
      (answer ∷ answers, (ran, all))
