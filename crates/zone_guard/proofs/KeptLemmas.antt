-- What holds of what bounds leave of all kept boxes holds at each point within the bounds that one of
-- the boxes keeps.
use Rattle.std.proofs.Common.{◌≡◌, Bool, true, false, List, [], ◌∷◌, inl, inr, refl}
use Rattle.std.specs.Prelude.{ℤ, Option, None, Some}
use Rattle.grid_model.specs.Boxes.{GridBox, box_holds}
use Rattle.grid_model.specs.declared.boxes.Pos.{Pos}
use Rattle.sat_model.specs.Cover.{SomeKeeps, is_kept}
use Rattle.sat_model.specs.Fold.{ShownStep}
use Rattle.paving_log.specs.CoverBoxes.{kept_parts}
use Rattle.zone_guard.specs.Answers.{AreApart, AreParts, IsApartWithin, IsOutOf, faces}
use Rattle.zone_guard.specs.Beyond.{IsSoOfOne}
use Rattle.zone_guard.specs.Findings.{IsReached}
use Rattle.zone_guard.specs.GroupAnswers.{AreOutOfAll, IsInOne, LieInOne, LiesInOne}
use Rattle.zone_guard.specs.Planes.{PlaneValue, IsInPrism, dot}
use Rattle.zone_guard.specs.PrismAnswers.{AreShutOut, AreEnclosed}
use Rattle.zone_guard.specs.Reaches.{AreHolding, IsReach}
use Rattle.zone_guard.specs.declared.planes.Extent.{Extent}
use Rattle.zone_guard.proofs.BeyondLemmas.{in_faces, in_point, no_less, out_point}
use Rattle.sat_model.proofs.KeptLemmas.{kept_step}
use Rattle.paving_log.proofs.KeptParts.{kept_here, kept_later}

holding_later : (piece : ShownStep) (more : List ShownStep) (p : Pos) (kept : Bool)
    → is_kept piece ≡ kept → AreHolding (kept_parts more) p
    → AreHolding (kept_parts (piece ∷ more)) p
holding_later piece more p true e h = rw (kept_here piece more e) (inr h)
holding_later piece more p false e h = rw (kept_later piece more e) h

pub holding : (parts : List ShownStep) (p : Pos) (b : ℤ) → SomeKeeps p b parts
    → AreHolding (kept_parts parts) p
holding [] p b some = absurd some
holding (piece ∷ more) p b (inl here) = rw (kept_here piece more (kept_step piece.step b here.1)) (inl here.0)
holding (piece ∷ more) p b (inr later) = holding_later piece more p (is_kept piece) refl (holding more p b later)

not_beyond_some : (zone part : GridBox) (bounds : List PlaneValue) (p : Pos)
    → IsSoOfOne (IsApartWithin zone part) bounds → box_holds part p ≡ true → IsInPrism bounds p
    → box_holds zone p ≡ true → ⊥
not_beyond_some zone part [] p some held within inside = absurd some
not_beyond_some zone part (h ∷ bounds) p (inl one) held within inside = no_less _ _ within.0 (one p held inside)
not_beyond_some zone part (h ∷ bounds) p (inr later) held within inside = not_beyond_some zone part bounds p later held within.1 inside

not_in_zone : (zone part : GridBox) (bounds : List PlaneValue) (p : Pos) → IsOutOf bounds zone part
    → box_holds part p ≡ true → IsInPrism bounds p → box_holds zone p ≡ true → ⊥
not_in_zone zone part bounds p (inl apart) held within inside = apart p held inside
not_in_zone zone part bounds p (inr some) held within inside = not_beyond_some zone part bounds p some held within inside

module _ (bounds : List PlaneValue) (p : Pos) (within : IsInPrism bounds p) where
  -- ---- a prism

  pub none_holds : (sides : List PlaneValue) (boxes : List GridBox) → AreShutOut bounds sides boxes
      → IsInPrism sides p → AreHolding boxes p → ⊥
  none_holds sides [] out inside h = absurd h
  none_holds sides (c ∷ boxes) out inside (inl here) = out_point bounds sides c p out.0 here within inside
  none_holds sides (c ∷ boxes) out inside (inr later) = none_holds sides boxes out.1 inside later

  pub in_prism : (sides : List PlaneValue) (boxes : List GridBox) → AreEnclosed bounds sides boxes
      → AreHolding boxes p → IsInPrism sides p
  in_prism sides [] all h = absurd h
  in_prism sides (c ∷ boxes) all (inl here) = in_point bounds sides c p all.0 here within
  in_prism sides (c ∷ boxes) all (inr later) = in_prism sides boxes all.1 later

  -- ---- a group

  pub none_in_group : (pieces : List (List PlaneValue)) (boxes : List GridBox)
      → AreOutOfAll bounds pieces boxes → IsInOne pieces p → AreHolding boxes p → ⊥
  none_in_group [] boxes out inside h = absurd inside
  none_in_group (sides ∷ pieces) boxes out (inl here) h = none_holds sides boxes out.0 here h
  none_in_group (sides ∷ pieces) boxes out (inr later) h = none_in_group pieces boxes out.1 later h

  point_in_one : (pieces : List (List PlaneValue)) (c : GridBox) → LiesInOne bounds pieces c
      → box_holds c p ≡ true → IsInOne pieces p
  point_in_one [] c lies held = absurd lies
  point_in_one (sides ∷ pieces) c (inl here) held = inl (in_point bounds sides c p here held within)
  point_in_one (sides ∷ pieces) c (inr later) held = inr (point_in_one pieces c later held)

  pub in_group : (pieces : List (List PlaneValue)) (boxes : List GridBox)
      → LieInOne bounds pieces boxes → AreHolding boxes p → IsInOne pieces p
  in_group pieces [] all h = absurd h
  in_group pieces (c ∷ boxes) all (inl here) = point_in_one pieces c all.0 here
  in_group pieces (c ∷ boxes) all (inr later) = in_group pieces boxes all.1 later

  -- ---- a zone that is a box

  pub in_zone : (zone : GridBox) (boxes : List GridBox) → AreParts bounds zone boxes
      → AreHolding boxes p → box_holds zone p ≡ true
  in_zone zone boxes all h = in_faces zone p (in_prism (faces zone) boxes all h)

  pub none_in_zone : (zone : GridBox) (boxes : List GridBox) → AreApart bounds zone boxes
      → box_holds zone p ≡ true → AreHolding boxes p → ⊥
  none_in_zone zone [] apart inside h = absurd h
  none_in_zone zone (c ∷ boxes) apart inside (inl here) = not_in_zone zone c bounds p apart.0 here within inside
  none_in_zone zone (c ∷ boxes) apart inside (inr later) = none_in_zone zone boxes apart.1 inside later

none_held : (boxes : List GridBox) (p : Pos) → boxes ≡ [] → AreHolding boxes p → ⊥
none_held [] p e h = absurd h
none_held (c ∷ boxes) p e h = absurd cc

pub reached : (a : Pos) (found : Option Extent) (boxes : List GridBox) (p : Pos)
    → IsReach a boxes found → AreHolding boxes p → IsReached found (dot a p)
reached a None boxes p none h = absurd (none_held boxes p none h)
reached a (Some e) boxes p extent h = extent.all p h
