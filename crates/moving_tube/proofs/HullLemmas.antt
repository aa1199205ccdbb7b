-- What a hull holds, and where it lies.
use Rattle.std.proofs.Common.{◌≡◌, zero, suc, arith, Bool, true, false, List, [], ◌∷◌, inl, inr, refl, Option, None, Some}
use Rattle.std.specs.Prelude.{ℤ}
use Rattle.std.specs.List.{AllByRecursion}
use Rattle.std.proofs.lemmas.Int.{ints, clamps}
use Rattle.grid_model.specs.Boxes.{Side, GridBox, box_holds}
use Rattle.sat_model.specs.Contractors.{SideLiesIn, LiesIn}
use Rattle.sat_model.specs.Cover.{SomeKeeps, is_kept}
use Rattle.sat_model.specs.Fold.{ShownStep}
use Rattle.grid_model.specs.declared.boxes.Pos.{Pos}
use Rattle.paving_log.specs.CoverBoxes.{kept_parts}
use Rattle.grid_model.specs.Hulls.{joined_side, joined_box}
use Rattle.moving_tube.specs.Hulls.{hull_with, hull_behind, HullHolds, HullLies}
use Rattle.moving_tube.proofs.HoldLemmas.{holds_first, holds_second}
use Rattle.sat_model.proofs.KeptLemmas.{kept_step}
use Rattle.paving_log.proofs.KeptParts.{kept_here, kept_later}

-- ---- what it holds

held_with : (hull : Option GridBox) (part : GridBox) (p : Pos) → HullHolds hull p
    → HullHolds (hull_with hull part) p
held_with None part p h = absurd h
held_with (Some hull) part p h = holds_first hull part p h

held_new : (hull : Option GridBox) (part : GridBox) (p : Pos) → box_holds part p ≡ true
    → HullHolds (hull_with hull part) p
held_new None part p h = h
held_new (Some hull) part p h = holds_second hull part p h

held_behind : (hull : Option GridBox) (parts : List GridBox) (p : Pos) → HullHolds hull p
    → HullHolds (hull_behind hull parts) p
held_behind hull [] p h = h
held_behind hull (part ∷ more) p h = held_behind (hull_with hull part) more p (held_with hull part p h)

-- what the hull of the later ones holds, whatever stands before them
later_held : (hull : Option GridBox) (piece : ShownStep) (more : List ShownStep) (p : Pos) (kept : Bool)
    → is_kept piece ≡ kept
    → ((h : Option GridBox) → HullHolds (hull_behind h (kept_parts more)) p)
    → HullHolds (hull_behind hull (kept_parts (piece ∷ more))) p
later_held hull piece more p true e later = rw (kept_here piece more e) (later (hull_with hull piece.part))
later_held hull piece more p false e later = rw (kept_later piece more e) (later hull)

-- the hull of the kept boxes holds what one of them keeps
pub kept_held : (hull : Option GridBox) (parts : List ShownStep) (p : Pos) (b : ℤ)
    → SomeKeeps p b parts → HullHolds (hull_behind hull (kept_parts parts)) p
kept_held hull [] p b some = absurd some
kept_held hull (piece ∷ more) p b (inl here) =
    rw (kept_here piece more (kept_step piece.step b here.1)) (held_behind (hull_with hull piece.part) (kept_parts more) p (held_new hull piece.part p here.0))
kept_held hull (piece ∷ more) p b (inr later) =
    later_held hull piece more p (is_kept piece) refl (λ h. kept_held h more p b later)

-- ---- where it lies

joined_lies_on : (a b s : Side) → SideLiesIn a s → SideLiesIn b s → SideLiesIn (joined_side a b) s
joined_lies_on a b s h k = record {
  low = omega (arith, ints, clamps, h.low, k.low);
  ordered = omega (arith, ints, clamps, h.ordered, k.ordered);
  high = omega (arith, ints, clamps, h.high, k.high);
}

joined_lies : (a b box : GridBox) → LiesIn a box → LiesIn b box → LiesIn (joined_box a b) box
joined_lies a b box h k zero = joined_lies_on a.x b.x box.x (h 0) (k 0)
joined_lies a b box h k (suc zero) = joined_lies_on a.y b.y box.y (h 1) (k 1)
joined_lies a b box h k (suc (suc n)) = joined_lies_on a.z b.z box.z (h 2) (k 2)

lies_with : (hull : Option GridBox) (part box : GridBox) → HullLies hull box → LiesIn part box
    → HullLies (hull_with hull part) box
lies_with None part box h k = k
lies_with (Some hull) part box h k = joined_lies hull part box h k

pub hull_lies : (hull : Option GridBox) (parts : List GridBox) (box : GridBox) → HullLies hull box
    → AllByRecursion (λ part. LiesIn part box) parts
    → HullLies (hull_behind hull parts) box
hull_lies hull [] box h all = h
hull_lies hull (part ∷ more) box h all = hull_lies (hull_with hull part) more box (lies_with hull part box h all.0) all.1
