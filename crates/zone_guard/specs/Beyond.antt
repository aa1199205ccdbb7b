-- Whether a box, as far as it lies within a bound, lies beyond a plane.
--
-- What fits lies in kept boxes, and within each bound. A box has no point within a bound and behind a
-- plane where it lies wholly beyond a sum of both: that is the easy half of Farkas' lemma
-- (A. Schrijver, Theory of Linear and Integer Programming, Wiley 1986, chapter 7). One such sum has
-- no part along one of the axes, or one of the two stands alone, if there is any.
use Rattle.std.specs.Prelude.{◌⊎◌, ℕ, ℤ, pos, neg_ℤ, nat_abs, ◌+ℤ◌, ◌*ℤ◌, List, [], ◌∷◌}
use Rattle.grid_model.specs.Boxes.{GridBox}
use Rattle.grid_model.specs.declared.boxes.Pos.{Pos}
use Rattle.zone_guard.specs.Planes.{PlaneValue, LiesBeyond}

-- it is so of one of them
abbrev pub IsSoOfOne : {X : Type 0} → (X → Type 0) → List X → Type 0
IsSoOfOne P [] = ⊥
IsSoOfOne P (x ∷ xs) = P x ⊎ IsSoOfOne P xs

-- ---- planes

-- behind it lies what lies beyond the other
abbrev pub opposite : PlaneValue → PlaneValue
opposite s = record {
  along = record { x = neg_ℤ s.along.x; y = neg_ℤ s.along.y; z = neg_ℤ s.along.z };
  most = neg_ℤ (s.most +ℤ pos 1);
}

-- one number n times, and another k times
abbrev pub both_times : ℕ → ℤ → ℕ → ℤ → ℤ
both_times n a k b = (pos n *ℤ a) +ℤ (pos k *ℤ b)

abbrev pub both_along : ℕ → Pos → ℕ → Pos → Pos
both_along n a k b = record {
  x = both_times n a.x k b.x;
  y = both_times n a.y k b.y;
  z = both_times n a.z k b.z;
}

-- behind it lies what lies behind both
abbrev pub sum_of : ℕ → PlaneValue → ℕ → PlaneValue → PlaneValue
sum_of n s k h = record {
  along = both_along n s.along k h.along;
  most = both_times n s.most k h.most;
}

-- ---- a box

-- it lies beyond their sum, each times the amount of what the other has on an axis
abbrev pub IsBeyondSum : GridBox → PlaneValue → PlaneValue → ℤ → ℤ → Type 0
IsBeyondSum part s h a b = LiesBeyond part (sum_of (nat_abs b) s (nat_abs a) h)

-- it lies beyond the bound, or beyond their sum by one of the axes
abbrev pub IsBeyondWith : GridBox → PlaneValue → PlaneValue → Type 0
IsBeyondWith part s h = LiesBeyond part h ⊎ (IsBeyondSum part s h s.along.x h.along.x
    ⊎ (IsBeyondSum part s h s.along.y h.along.y ⊎ IsBeyondSum part s h s.along.z h.along.z))

-- it lies beyond the plane, or does with one of the bounds
abbrev pub IsBeyond : List PlaneValue → GridBox → PlaneValue → Type 0
IsBeyond bounds part s = LiesBeyond part s ⊎ IsSoOfOne (IsBeyondWith part s) bounds
