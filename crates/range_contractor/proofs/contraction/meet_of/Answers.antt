use Rattle.std.proofs.Common.{◌≡◌, ℕ, zero, suc, arith, refl, subst, ◌∙◌}
use Rattle.std.specs.Prelude.{◌≤ℤ◌}
use Rattle.std.proofs.lemmas.Int.{ints}
use Rattle.grid_model.specs.Boxes.{Side, GridBox, grid_box, side_at}
use Rattle.sat_model.specs.Contractors.{SideLiesIn, meet_side}
use Rattle.range_contractor.specs.Sides.{IsMeetOf, DontMeet}
use Rattle.range_contractor.proofs.BoxLemmas.{holds_at}
use Rattle.range_contractor.proofs.MeetLemmas.{apart, meet_is}
use Rattle.range_contractor.proofs.contraction.meet_of.Goals as goal

apart_of : (a b a' b' : Side) → a ≡ a' → b ≡ b' → DontMeet a b → DontMeet a' b'
apart_of a b a' b' e f h = subst (λ (s : Side). DontMeet a' s) f (subst (λ (s : Side). DontMeet s b) e h)

met : (a b a' b' r : Side) → a ≡ a' → b ≡ b' → IsMeetOf a b r → r ≡ meet_side a' b'
met a b a' b' r e f h = meet_is a b r h ∙ rw (e, f) refl

pub returns-in_default : goal.returns-in_default
returns-in_default c = λ p h k. apart (side_at 0 (grid_box c.args.part.now)) (side_at 0 (grid_box c.args.other.now)) p.x
    (apart_of _ _ _ _ c.side_of.ensures.side c.side_of-2.ensures.side (c.in_default.ensures.none refl)) (holds_at _ p h 0) (holds_at _ p k 0)

pub returns-in_default-meet : goal.returns-in_default-meet
returns-in_default-meet c = λ p h k. apart (side_at 1 (grid_box c.args.part.now)) (side_at 1 (grid_box c.args.other.now)) p.y
    (apart_of _ _ _ _ c.side_of-3.ensures.side c.side_of-4.ensures.side (c.in_default-meet.ensures.none refl)) (holds_at _ p h 1) (holds_at _ p k 1)

pub returns-in_default-meet-2 : goal.returns-in_default-meet-2
returns-in_default-meet-2 c = λ p h k. apart (side_at 2 (grid_box c.args.part.now)) (side_at 2 (grid_box c.args.other.now)) p.z
    (apart_of _ _ _ _ c.side_of-5.ensures.side c.side_of-6.ensures.side (c.in_default-meet-2.ensures.none refl)) (holds_at _ p h 2) (holds_at _ p k 2)

same_box : (x y z x' y' z' : Side) → x ≡ x' → y ≡ y' → z ≡ z'
    → (◌≡◌ {A = GridBox} (record { x = x; y = y; z = z }) (record { x = x'; y = y'; z = z' }))
same_box x y z x' y' z' e f g = rw (e, f, g) refl

ordered_box : (b : GridBox) → b.x.lo ≤ℤ b.x.hi → b.y.lo ≤ℤ b.y.hi → b.z.lo ≤ℤ b.z.hi → (axis : ℕ)
    → SideLiesIn (side_at axis b) (side_at axis b)
ordered_box b x y z zero = record { low = omega (arith, ints); ordered = x; high = omega (arith, ints) }
ordered_box b x y z (suc zero) = record { low = omega (arith, ints); ordered = y; high = omega (arith, ints) }
ordered_box b x y z (suc (suc n)) = record { low = omega (arith, ints); ordered = z; high = omega (arith, ints) }

pub returns : goal.returns
returns c = (
  c.box_of.ensures ∙ same_box _ _ _ _ _ _
      (met _ _ _ _ _ c.side_of.ensures.side c.side_of-2.ensures.side c.in-Some.ensures.some)
      (met _ _ _ _ _ c.side_of-3.ensures.side c.side_of-4.ensures.side c.in-Some-meet.ensures.some)
      (met _ _ _ _ _ c.side_of-5.ensures.side c.side_of-6.ensures.side c.in-Some-meet-2.ensures.some),
  ordered_box (grid_box c.box_of.result) c.box_of.result.x_ordered c.box_of.result.y_ordered c.box_of.result.z_ordered,
)
