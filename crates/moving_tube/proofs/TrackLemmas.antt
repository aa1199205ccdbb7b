-- A receiver that fits in each paved one of the first epochs, and comes no farther than its reach, is found in each of them.
use Rattle.std.proofs.Common.{◌≡◌, ℕ, Bool, true, List, [], ◌∷◌, refl, sym, subst, Option, None, Some}
use Rattle.std.specs.Prelude.{ℤ}
use Rattle.std.specs.List.{AllByRecursion}
use Rattle.grid_model.specs.Boxes.{GridBox, box_holds}
use Rattle.sat_model.specs.Events.{steps_in}
use Rattle.sat_model.specs.Fold.{pieces}
use Rattle.sat_model.specs.Logs.{Body}
use Rattle.grid_model.specs.declared.boxes.Pos.{Pos}
use Rattle.moving_tube.specs.Reach.{reach_of}
use Rattle.moving_tube.specs.Roots.{kept_of, kept_with, Before, handed_on, root_after, root_for, reached_box}
use Rattle.moving_tube.specs.Tracks.{Stay, Left, IsReached, ComesFrom, GoesOn, Visit, behind, AreRooted, HasRoot, IsKeptWith, AreKept, IsFoundWith, AreFound}
use Rattle.moving_tube.proofs.HoldLemmas.{holds_reached}
use Rattle.moving_tube.specs.Hulls.{HullHolds}
use Rattle.moving_tube.proofs.HullLemmas.{kept_held}

-- so it is in the root
in_root_after : (speed : ℕ) (search : GridBox) (from to : ℤ) (kept : Option GridBox) (root : GridBox) (p q : Pos)
    → HullHolds kept p
    → box_holds search q ≡ true → IsReached speed (Some (record { tag = from; at = p })) to q
    → root_after speed search from kept to ≡ Some root
    → box_holds root q ≡ true
in_root_after speed search from to None root p q held inside near e = absurd held
in_root_after speed search from to (Some kept) root p q held inside near e =
    let same : reached_box (reach_of speed from to) kept search ≡ root = cc in
    subst (λ (r : GridBox). box_holds r q ≡ true) same (holds_reached (reach_of speed from to) kept search p q held near inside)

in_root : (speed : ℕ) (search : GridBox) (before : Option Before) (left : Option Left) (tag : ℤ) (root : GridBox) (q : Pos)
    → ComesFrom before left
    → box_holds search q ≡ true → IsReached speed left tag q
    → root_for speed search before tag ≡ Some root → box_holds root q ≡ true
in_root speed search None left tag root q held inside near e =
    let same : search ≡ root = cc in
    subst (λ (r : GridBox). box_holds r q ≡ true) same inside
in_root speed search (Some before) None tag root q held inside near e = absurd held
in_root speed search (Some before) (Some left) tag root q held inside near e =
    in_root_after speed search before.tag tag before.kept root left.at q held.1 inside
    (subst (λ (t : ℤ). IsReached speed (Some (record { tag = t; at = left.at })) tag q) (sym held.0) near) e

-- and found there
found_with : (root : GridBox) (body : Option Body) (stay : Stay) → box_holds root stay.at ≡ true
    → IsKeptWith root body stay → IsFoundWith root body stay
found_with root None stay inside kept = inside
found_with root (Some body) stay inside kept = kept inside

held_with : (root : GridBox) (body : Option Body) (stay : Stay) → HasRoot root body
    → IsFoundWith root body stay → HullHolds (kept_with root body) stay.at
held_with root None stay is found = found
held_with root (Some body) stay is found = rw is (kept_held None (pieces root (steps_in body.events)) stay.at stay.offset found)

-- what an epoch hands on held it
handed_held : (restart : Bool) (tag : ℤ) (kept : Option GridBox) (p : Pos) → HullHolds kept p
    → ComesFrom (handed_on restart tag kept) (Some (record { tag = tag; at = p }))
handed_held restart tag None p held = absurd held
handed_held restart tag (Some kept) p held = (refl, held)

module _ (speed : ℕ) (restart : Bool) (search : GridBox) where
  -- each visit has its root in its block
  abbrev pub HaveRoots : List Visit → Type 0
  HaveRoots visits = AllByRecursion (λ v. HasRoot v.root v.block.body) visits

  -- the visits are at the first of these times
  abbrev pub AreTimed : List Visit → List ℤ → Type 0
  AreTimed [] tags = Unit {0}
  AreTimed (v ∷ more) [] = ⊥
  AreTimed (v ∷ more) (tag ∷ tags) = (v.tag ≡ tag) × AreTimed more tags

  -- A trajectory that comes from what was handed on, and that each paved one of its epochs keeps, where it is in its root, is
  -- found in each of them.
  pub track_found : (before : Option Before) (left : Option Left) (visits : List Visit) (tags : List ℤ) (path : List Stay)
      → ComesFrom before left
      → AreRooted speed restart search before visits → AreTimed visits tags → HaveRoots visits
      → GoesOn speed search left tags path → AreKept visits path
      → AreFound visits path
  track_found before left [] tags path held rooted timed roots goes kept = tt
  track_found before left (v ∷ more) [] path held rooted timed roots goes kept = absurd timed
  track_found before left (v ∷ more) (tag ∷ tags) [] held rooted timed roots goes kept = tt
  track_found before left (v ∷ more) (tag ∷ tags) (stay ∷ path) held rooted timed roots goes kept =
      let inside = in_root speed search before left v.tag v.root stay.at held goes.0 (subst (λ (t : ℤ). IsReached speed left t stay.at) (sym timed.0) goes.1) rooted.0 in
      let found = found_with v.root v.block.body stay inside kept.0 in
      let held = held_with v.root v.block.body stay roots.0 found in
      let handed = subst (λ (t : ℤ). ComesFrom (behind restart v) (Some (record { tag = t; at = stay.at }))) timed.0
      (handed_held restart v.tag (kept_of v.root v.block) stay.at held) in
      (found, track_found (behind restart v) (Some (record { tag = tag; at = stay.at })) more tags path handed rooted.1 timed.1 roots.1 goes.2 kept.1)
