-- A step that passes keeps what holds a point: the live boxes, and the piece that it takes off them.
use Rattle.std.proofs.Common.{◌≡◌, ℕ, zero, suc, ◌+◌, ◌<◌, arith, List, [], ◌∷◌, length, get_or, set, count_by, sum_by, Bool, true, false, cond, ◌&&◌, Option, None, Some, refl, sym, ap}
use Rattle.std.specs.Prelude.{ℤ, pos, ◌≤ℤ◌, ◌<ℤ◌, ◌-ℤ◌, ◌+ℤ◌}
use Rattle.std.proofs.lemmas.Int.{ints}
use Rattle.std.proofs.lemmas.List.Sums.{sum_by-cons, sum_by-append, sum_by-set}
use lib.Signed.{le_z}
use Rattle.grid_model.specs.declared.boxes.Pos.{Pos}
use Rattle.sat_model.specs.declared.rules.Rules.{Rules}
use Rattle.sat_model.specs.declared.steps.Step.{Step}
use Rattle.sat_model.specs.declared.steps.Step.TheVariants.{Cut, Split, Outside, Inside, Edge}
use Rattle.grid_model.specs.Boxes.{GridBox, Side, side_holds, box_holds, middle, low_half, high_half, side_at, with_side}
use Rattle.sat_model.specs.BoxTests.{BoxTest}
use Rattle.sat_model.specs.Cover.{Partitions}
use Rattle.sat_model.specs.Fold.{axis_of, is_low, side_left, side_cut, IsProperBound, left_by_cut, slab_of_cut, halves, boxes_after, ShownStep, shown, taken_by, pieces_from, pieces}
use Rattle.sat_model.specs.Events.{Event, Made, Renewed, RowsOver, steps_in}
use Rattle.sat_model.specs.Renewals.{LineFact}
use Rattle.sat_model.specs.Stages.{Stage, first_stage, after}
use Rattle.sat_model.specs.Verdicts.{StepPasses, EventsPass}
use Rattle.grid_model.proofs.AmountLemmas.{above_is}
use Rattle.sat_model.specs.Contractors.{SideLiesIn, LiesIn}

abbrev pub bit : Bool → ℕ
bit b = cond b 1 0

abbrev pub option_weight : Pos → Option GridBox → ℕ
option_weight p None = 0
option_weight p (Some part) = bit (box_holds part p)

-- how many live boxes hold p
abbrev pub weight : Pos → List (Option GridBox) → ℕ
weight p live = sum_by (λ o. option_weight p o) live

-- how many pieces hold p
abbrev pub held_by : Pos → List ShownStep → ℕ
held_by p parts = count_by (λ piece. box_holds piece.part p) parts

-- ---- two parts of a side, and of a box

-- each number of the side lies in one of the parts
abbrev IsHalved : Side → Side → Side → Type 0
IsHalved a b s = (n : ℤ) → bit (side_holds a n) + bit (side_holds b n) ≡ bit (side_holds s n)

split_at : (lo m k hi n : ℤ) → lo ≤ℤ k → m ≤ℤ hi → k ≡ m +ℤ pos 1
    → bit (le_z lo n && le_z n m) + bit (le_z k n && le_z n hi) ≡ bit (le_z lo n && le_z n hi)
split_at lo m k hi n h l e = grind (arith, ints)

pub middle_high : (s : Side) → s.lo ≤ℤ s.hi → middle s ≤ℤ s.hi
middle_high s h = omega (arith, ints, above_is s.hi s.lo)

side_halved : (s : Side) → s.lo ≤ℤ s.hi → IsHalved (low_half s) (high_half s) s
side_halved s h n = split_at s.lo (middle s) (middle s +ℤ pos 1) s.hi n (omega (arith, ints)) (middle_high s h) refl

cut_halved : (low : Bool) (s : Side) (bound : ℤ) → IsProperBound low s bound
    → IsHalved (side_left low s bound) (side_cut low s bound) s
cut_halved true s bound h n =
    omega (arith, split_at s.lo (bound -ℤ pos 1) bound s.hi n (omega (arith, ints)) (omega (arith, ints)) (omega (arith, ints)))
cut_halved false s bound h n = split_at s.lo bound (bound +ℤ pos 1) s.hi n (omega (arith, ints)) (omega (arith, ints)) refl

and_right : (a b s r : Bool) → bit a + bit b ≡ bit s → bit (a && r) + bit (b && r) ≡ bit (s && r)
and_right true true true r e = absurd (omega arith)
and_right true true false r e = absurd (omega arith)
and_right true false true r e = omega arith
and_right true false false r e = absurd (omega arith)
and_right false true true r e = omega arith
and_right false true false r e = absurd (omega arith)
and_right false false true r e = absurd (omega arith)
and_right false false false r e = omega arith

and_left : (a b s r : Bool) → bit a + bit b ≡ bit s → bit (r && a) + bit (r && b) ≡ bit (r && s)
and_left a b s true e = e
and_left a b s false e = omega arith

box_halved : (axis : ℕ) (part : GridBox) (a b : Side) (p : Pos) → IsHalved a b (side_at axis part)
    → bit (box_holds (with_side axis part a) p) + bit (box_holds (with_side axis part b) p) ≡ bit (box_holds part p)
box_halved zero part a b p h = and_right _ _ _ (side_holds part.y p.y && side_holds part.z p.z) (h p.x)
box_halved (suc zero) part a b p h = and_left _ _ _ (side_holds part.x p.x) (and_right _ _ _ (side_holds part.z p.z) (h p.y))
box_halved (suc (suc n)) part a b p h = and_left _ _ _ (side_holds part.x p.x) (and_left _ _ _ (side_holds part.y p.y) (h p.z))

-- ---- the list of live boxes

pub there : (live : List (Option GridBox)) (id : ℕ) (part : GridBox)
    → get_or live id None ≡ Some part → id < length live
there [] id part e = absurd cc
there (o ∷ live) zero part e = omega arith
there (o ∷ live) (suc id) part e = omega (arith, there live id part e)

-- another box, or none, comes in the place of a live one
replaced : (p : Pos) (live : List (Option GridBox)) (id : ℕ) (part : GridBox) (o : Option GridBox)
    → get_or live id None ≡ Some part
    → weight p (set live id o) + bit (box_holds part p) ≡ weight p live + option_weight p o
replaced p live id part o e =
    omega (arith, sum_by-set (λ o. option_weight p o) live id o None (there live id part e), ap (λ o. option_weight p o) e)

two_weights : (p : Pos) (a b : GridBox)
    → weight p (Some a ∷ Some b ∷ []) ≡ bit (box_holds a p) + bit (box_holds b p)
two_weights p a b = omega (arith, sum_by-cons (λ o. option_weight p o) (Some a) (Some b ∷ []), sum_by-cons (λ o. option_weight p o) (Some b) [])

pub one_held : (p : Pos) (step : Step) (part : GridBox)
    → held_by p (record { step = step; part = part } ∷ []) ≡ bit (box_holds part p)
one_held p step part = omega (arith, sum_by-cons (λ (piece : ShownStep). bit (box_holds piece.part p)) (record { step = step; part = part }) [])

long_ordered : (s : Side) (rules : Rules) → rules.width <ℤ (s.hi -ℤ s.lo) → s.lo ≤ℤ s.hi
long_ordered s rules h = omega (arith, ints, h, rules.wide)

closed_conserved : (p : Pos) (live : List (Option GridBox)) (id : ℕ) (step : Step) (part : GridBox)
    → get_or live id None ≡ Some part
    → weight p (set live id None) + held_by p (shown step (get_or live id None)) ≡ weight p live
closed_conserved p live id step part is = rw is (omega (arith, replaced p live id part None is, one_held p step part))

-- a step that passes keeps how often p is held by live boxes and by the piece that it takes
pub conserved : (rules : Rules) (stage : Stage) (step : Step) (p : Pos)
    → StepPasses rules stage step
    → weight p (boxes_after stage.boxes step).live + held_by p (taken_by stage.boxes step) ≡ weight p stage.boxes.live
conserved rules stage (Cut id face bound) p (part, is, (proper, empty)) = rw is
    (omega (
      arith,
      replaced p stage.boxes.live id part (Some (left_by_cut face bound part)) is,
      one_held p (Cut id face bound) (slab_of_cut face bound part),
      box_halved (axis_of face) part _ _ p (cut_halved (is_low face) (side_at (axis_of face) part) bound proper),
    ))
conserved rules stage (Split id axis) p (part, is, long, left) = rw is
    (omega (
      arith,
      sum_by-append (λ o. option_weight p o) (set stage.boxes.live id None) (halves axis (Some part)),
      two_weights p (with_side axis part (low_half (side_at axis part))) (with_side axis part (high_half (side_at axis part))),
      box_halved axis part _ _ p (side_halved (side_at axis part) (long_ordered (side_at axis part) rules long)),
      replaced p stage.boxes.live id part None is,
    ))
conserved rules stage (Outside id) p (part, is, empty) = closed_conserved p stage.boxes.live id (Outside id) part is
conserved rules stage (Inside id clock lo hi) p (part, is, inner, hull) = closed_conserved p stage.boxes.live id (Inside id clock lo hi) part is
conserved rules stage (Edge id lo hi) p (part, is, hull) = closed_conserved p stage.boxes.live id (Edge id lo hi) part is

pub nothing_live : (p : Pos) (live : List (Option GridBox))
    → ((id : ℕ) → get_or live id None ≡ None) → weight p live ≡ 0
nothing_live p [] h = refl
nothing_live p (o ∷ live) h =
    omega (arith, sum_by-cons (λ o. option_weight p o) o live, ap (λ o. option_weight p o) (h 0), nothing_live p live (λ id. h (suc id)))

pub root_weight : (root : GridBox) (p : Pos) → weight p (Some root ∷ []) ≡ bit (box_holds root p)
root_weight root p = omega arith

module _ (Meets : LineFact) (first : RowsOver) (rules : Rules) (done : ℕ) where
  -- a renewal changes no box
  held_from : (j : ℕ) (stage : Stage) (events : List Event) (p : Pos)
      → EventsPass Meets first rules done j stage events
      → held_by p (pieces_from stage.boxes (steps_in events)) ≡ weight p stage.boxes.live
  held_from j stage [] p h = sym (nothing_live p stage.boxes.live h.0)
  held_from j stage (Made step ∷ events) p h =
      omega (
        arith,
        sum_by-append (λ piece. bit (box_holds piece.part p)) (taken_by stage.boxes step) (pieces_from (boxes_after stage.boxes step) (steps_in events)),
        held_from j (after stage (Made step)) events p h.1,
        conserved rules stage step p h.0,
      )
  held_from j stage (Renewed new ∷ events) p h = held_from (suc j) (after stage (Renewed new)) events p h.1

  pub partitions : (test : BoxTest) (root : GridBox) (events : List Event)
      → EventsPass Meets first rules done 0 (first_stage test root) events
      → Partitions root (pieces root (steps_in events))
  partitions test root events h p = omega (arith, held_from 0 (first_stage test root) events p h, root_weight root p)

pub side_inside : (low : Bool) (s : Side) (bound : ℤ) → s.lo ≤ℤ s.hi → IsProperBound low s bound
    → SideLiesIn (side_left low s bound) s
side_inside true s bound o (h, k) = record { low = omega (arith, ints); ordered = k; high = omega (arith, ints) }
side_inside false s bound o (h, k) = record { low = omega (arith, ints); ordered = h; high = omega (arith, ints) }

pub with_inside : (axis : ℕ) (part : GridBox) (s : Side) → LiesIn part part
    → SideLiesIn s (side_at axis part) → LiesIn (with_side axis part s) part
with_inside zero part s l h zero = h
with_inside zero part s l h (suc zero) = l 1
with_inside zero part s l h (suc (suc n)) = l 2
with_inside (suc zero) part s l h zero = l 0
with_inside (suc zero) part s l h (suc zero) = h
with_inside (suc zero) part s l h (suc (suc n)) = l 2
with_inside (suc (suc m)) part s l h zero = l 0
with_inside (suc (suc m)) part s l h (suc zero) = l 1
with_inside (suc (suc m)) part s l h (suc (suc n)) = h
