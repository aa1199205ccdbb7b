-- The least of a linear function over a box, term by term.
use Rattle.std.proofs.Common.{◌≡◌, arith, refl, ap, ◌∙◌, false, true, Bool, subst}
use Rattle.std.specs.Prelude.{ℤ, pos, ◌+ℤ◌, ◌-ℤ◌, ◌*ℤ◌, ◌≤ℤ◌, ◌<ℤ◌}
use Rattle.std.proofs.lemmas.Int.{ints}
use lib.IntN.{*ℤ_comm}
use lib.Signed.{lt_z}
use Rattle.std.specs.Prelude.{IsTrue}
use Rattle.grid_model.specs.declared.boxes.Pos.{Pos}
use Rattle.grid_model.specs.Boxes.{Side, GridBox, box_holds, middle}
use Rattle.grid_model.proofs.AmountLemmas.{above_is}
use Rattle.grid_model.proofs.PointLemmas.{in_box, le_to}
use Rattle.grid_model.proofs.ProductLemmas.{mul_mono, mul_anti, less_mul as less_times}
use Rattle.row_pairs.specs.Leasts.{IsLeastTerm, IsLeastLead}
use Rattle.sat_model.specs.Pairs.{FormValue, tilt, IsBelow}
use Rattle.sat_model.proofs.FoldLemmas.{middle_high as to_high}

grows : (s m at n : ℤ) → pos 0 ≤ℤ s → at ≤ℤ n → (s *ℤ (at -ℤ m)) ≤ℤ (s *ℤ (n -ℤ m))
grows s m at n p h = rw (*ℤ_comm s (at -ℤ m), *ℤ_comm s (n -ℤ m)) (mul_mono (at -ℤ m) (n -ℤ m) s (omega (arith, ints)) p)

falls : (s m at n : ℤ) → s ≤ℤ pos 0 → n ≤ℤ at → (s *ℤ (at -ℤ m)) ≤ℤ (s *ℤ (n -ℤ m))
falls s m at n p h = rw (*ℤ_comm s (at -ℤ m), *ℤ_comm s (n -ℤ m)) (mul_anti (n -ℤ m) (at -ℤ m) s (omega (arith, ints)) p)

pub least_at_low : (s lo hi : ℤ) → lo ≤ℤ hi → pos 0 ≤ℤ s
    → IsLeastTerm s lo hi (s *ℤ (lo -ℤ middle (record { lo = lo; hi = hi })))
least_at_low s lo hi h p = record { at = lo; from = omega (arith, ints); to = h; is = refl; least = λ n k l. grows s _ lo n p k }

pub least_at_high : (s lo hi : ℤ) → lo ≤ℤ hi → s ≤ℤ pos 0
    → IsLeastTerm s lo hi (s *ℤ (hi -ℤ middle (record { lo = lo; hi = hi })))
least_at_high s lo hi h p = record { at = hi; from = h; to = omega (arith, ints); is = refl; least = λ n k l. falls s _ hi n p l }

-- ---- three terms

lead_atoms : (fx gx fy gy fz gz dx dy dz : ℤ) → dx ≡ fx -ℤ gx → dy ≡ fy -ℤ gy → dz ≡ fz -ℤ gz
    → (fx +ℤ fy +ℤ fz) -ℤ (gx +ℤ gy +ℤ gz) ≡ dx +ℤ dy +ℤ dz
lead_atoms fx gx fy gy fz gz dx dy dz e f g = omega (arith, ints)

lead_is : (f g : FormValue) (part : GridBox) (p : Pos)
    → tilt f part p -ℤ tilt g part p ≡ ((f.x -ℤ g.x) *ℤ (p.x -ℤ middle part.x)) +ℤ ((f.y -ℤ g.y) *ℤ (p.y -ℤ middle part.y)) +ℤ ((f.z -ℤ g.z) *ℤ (p.z -ℤ middle part.z))
lead_is f g part p = lead_atoms
    (f.x *ℤ (p.x -ℤ middle part.x)) (g.x *ℤ (p.x -ℤ middle part.x)) (f.y *ℤ (p.y -ℤ middle part.y)) (g.y *ℤ (p.y -ℤ middle part.y)) (f.z *ℤ (p.z -ℤ middle part.z)) (g.z *ℤ (p.z -ℤ middle part.z)) _ _ _ (less_times f.x g.x (p.x -ℤ middle part.x)) (less_times f.y g.y (p.y -ℤ middle part.y)) (less_times f.z g.z (p.z -ℤ middle part.z))

sum_at : (t x y z a b d : ℤ) → t ≡ x +ℤ y +ℤ z → x ≡ a → y ≡ b → z ≡ d → t ≡ a +ℤ b +ℤ d
sum_at t x y z a b d e f g h = cc

sum_up_to : (t x y z a b d : ℤ) → t ≡ x +ℤ y +ℤ z → a ≤ℤ x → b ≤ℤ y → d ≤ℤ z → (a +ℤ b +ℤ d) ≤ℤ t
sum_up_to t x y z a b d e f g h = omega (arith, ints)

pub least_lead_of : (part : GridBox) (f g : FormValue) (rx ry rz : ℤ)
    → IsLeastTerm (f.x -ℤ g.x) part.x.lo part.x.hi rx
    → IsLeastTerm (f.y -ℤ g.y) part.y.lo part.y.hi ry
    → IsLeastTerm (f.z -ℤ g.z) part.z.lo part.z.hi rz → IsLeastLead part f g (rx +ℤ ry +ℤ rz)
least_lead_of part f g rx ry rz h k l =
    let at : Pos = record { x = h.at; y = k.at; z = l.at } in
    record {
      at = at;
      inside = rw (le_to _ _ h.from, le_to _ _ h.to, le_to _ _ k.from, le_to _ _ k.to, le_to _ _ l.from, le_to _ _ l.to) refl;
      is = sum_at _ _ _ _ _ _ _ (lead_is f g part at) h.is k.is l.is;
      least = λ p i. let b = in_box part p i in sum_up_to _ _ _ _ _ _ _ (lead_is f g part p) (h.least p.x b.x.0 b.x.1) (k.least p.y b.y.0 b.y.1) (l.least p.z b.z.0 b.z.1);
    }

pub term_at : (s lo hi r s' lo' hi' : ℤ) → IsLeastTerm s lo hi r → s ≡ s' → lo ≡ lo' → hi ≡ hi'
    → IsLeastTerm s' lo' hi' r
term_at s lo hi r s' lo' hi' h e f g = subst (λ (t : ℤ). IsLeastTerm t lo' hi' r) e (subst (λ (t : ℤ). IsLeastTerm s t hi' r) f (subst (λ (t : ℤ). IsLeastTerm s lo t r) g h))

pub lt_from : (a b : ℤ) → IsTrue (lt_z a b) → a <ℤ b
lt_from a b h = grind (arith, ints)

pub lt_to : (a b : ℤ) → a <ℤ b → IsTrue (lt_z a b)
lt_to a b h = grind (arith, ints)

pub not_both : (b : Bool) → b ≡ false → IsTrue b → ⊥
not_both b e t = absurd (grind arith)

at_middle : GridBox → Pos
at_middle part = record { x = middle part.x; y = middle part.y; z = middle part.z }

from_low : (s : Side) → s.lo ≤ℤ s.hi → s.lo ≤ℤ middle s
from_low s h = omega (arith, ints, above_is s.hi s.lo)

holds_middle : (part : GridBox) → part.x.lo ≤ℤ part.x.hi → part.y.lo ≤ℤ part.y.hi
    → part.z.lo ≤ℤ part.z.hi → box_holds part (at_middle part) ≡ true
unfolding at_middle
holds_middle part x y z =
    rw (le_to _ _ (from_low part.x x), le_to _ _ (to_high part.x x), le_to _ _ (from_low part.y y), le_to _ _ (to_high part.y y), le_to _ _ (from_low part.z z), le_to _ _ (to_high part.z z)) refl

none_of : (n m : ℤ) → n *ℤ (m -ℤ m) ≡ pos 0
none_of n m = ap (λ (z : ℤ). n *ℤ z) (itself m) ∙ *ℤ_comm n (pos 0) ∙ nothing n
  where
    nothing : (n : ℤ) → pos 0 *ℤ n ≡ pos 0
    nothing n = omega (arith, ints)

    itself : (m : ℤ) → m -ℤ m ≡ pos 0
    itself m = omega (arith, ints)

no_tilt : (f : FormValue) (part : GridBox) → tilt f part (at_middle part) ≡ pos 0
unfolding at_middle
no_tilt f part = sum (none_of f.x (middle part.x)) (none_of f.y (middle part.y)) (none_of f.z (middle part.z))
  where
    sum : {a b d : ℤ} → a ≡ pos 0 → b ≡ pos 0 → d ≡ pos 0 → a +ℤ b +ℤ d ≡ pos 0
    sum e f g = rw (e, f, g) refl

-- at the middle of the box neither function tilts
pub below_at_middle : (part : GridBox) (f g : FormValue) → part.x.lo ≤ℤ part.x.hi
    → part.y.lo ≤ℤ part.y.hi → part.z.lo ≤ℤ part.z.hi → IsBelow part f g
    → (f.upper -ℤ g.lower) <ℤ pos 0
below_at_middle part f g x y z k =
    apart f.upper g.lower (tilt f part (at_middle part)) (tilt g part (at_middle part)) (no_tilt f part) (no_tilt g part) (k (at_middle part) (holds_middle part x y z))
  where
    apart : (u l t s : ℤ) → t ≡ pos 0 → s ≡ pos 0 → (u -ℤ t) <ℤ (l -ℤ s) → (u -ℤ l) <ℤ pos 0
    apart u l t s e f h = omega (arith, ints)

pub below_from : (part : GridBox) (f g : FormValue) (r : ℤ) → IsLeastLead part f g r
    → (f.upper -ℤ g.lower) <ℤ r → IsBelow part f g
below_from part f g r h k p i = apart f.upper g.lower (tilt f part p) (tilt g part p) r k (h.least p i)
  where
    apart : (u l t s r : ℤ) → (u -ℤ l) <ℤ r → r ≤ℤ (t -ℤ s) → (u -ℤ t) <ℤ (l -ℤ s)
    apart u l t s r h k = omega (arith, ints)

pub below_to : (part : GridBox) (f g : FormValue) (r : ℤ) → IsLeastLead part f g r
    → IsBelow part f g → (f.upper -ℤ g.lower) <ℤ r
below_to part f g r h k = apart f.upper g.lower (tilt f part h.at) (tilt g part h.at) r (k h.at h.inside) h.is
  where
    apart : (u l t s r : ℤ) → (u -ℤ t) <ℤ (l -ℤ s) → t -ℤ s ≡ r → (u -ℤ l) <ℤ r
    apart u l t s r h k = omega (arith, ints)
