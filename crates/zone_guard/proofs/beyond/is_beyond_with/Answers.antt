use Rattle.std.proofs.Common.{inl, inr, refl, sym, ◌∙◌}
use Rattle.std.specs.Prelude.{◌↔◌, IsTrue}
use Rattle.std.proofs.lemmas.Bool.{false≢true}
use Rattle.grid_model.specs.Boxes.{grid_box}
use Rattle.zone_guard.specs.Beyond.{IsBeyondSum}
use Rattle.zone_guard.specs.Planes.{plane_value}
use Rattle.zone_guard.proofs.BeyondLemmas.{wide}
use Rattle.zone_guard.proofs.CornerLemmas.{uncast_factor}
use Rattle.zone_guard.proofs.beyond.is_beyond_with.Goals as goal

pub returns-then-lies_beyond : goal.returns-then-lies_beyond
returns-then-lies_beyond c = (λ h. inl (c.lies_beyond.ensures.0 c.if-lies_beyond.true), λ all. refl)

pub returns-then-is_beyond_sum : goal.returns-then-is_beyond_sum
returns-then-is_beyond_sum c =
    let s = c.args.side.now.along in
    let h = c.args.bound.now.along in
    let x : IsTrue c.is_beyond_sum.result ↔ IsBeyondSum (grid_box c.args.part.now) (plane_value c.args.side.now) (plane_value c.args.bound.now) s.vector.x h.vector.x =
    rw (uncast_factor s.vector.x (wide _ s.within.0), uncast_factor h.vector.x (wide _ h.within.0)) at c.is_beyond_sum.ensures in
    (λ so. inr (inl (x.0 c.if-is_beyond_sum.true)), λ all. refl)

pub returns-then-is_beyond_sum-2 : goal.returns-then-is_beyond_sum-2
returns-then-is_beyond_sum-2 c =
    let s = c.args.side.now.along in
    let h = c.args.bound.now.along in
    let y : IsTrue c.is_beyond_sum-2.result ↔ IsBeyondSum (grid_box c.args.part.now) (plane_value c.args.side.now) (plane_value c.args.bound.now) s.vector.y h.vector.y =
    rw (uncast_factor s.vector.y (wide _ s.within.1), uncast_factor h.vector.y (wide _ h.within.1)) at c.is_beyond_sum-2.ensures in
    (λ so. inr (inr (inl (y.0 c.if-is_beyond_sum-2.true))), λ all. refl)

pub returns : goal.returns
returns c =
    let s = c.args.side.now.along in
    let h = c.args.bound.now.along in
    let x : IsTrue c.is_beyond_sum.result ↔ IsBeyondSum (grid_box c.args.part.now) (plane_value c.args.side.now) (plane_value c.args.bound.now) s.vector.x h.vector.x =
    rw (uncast_factor s.vector.x (wide _ s.within.0), uncast_factor h.vector.x (wide _ h.within.0)) at c.is_beyond_sum.ensures in
    let y : IsTrue c.is_beyond_sum-2.result ↔ IsBeyondSum (grid_box c.args.part.now) (plane_value c.args.side.now) (plane_value c.args.bound.now) s.vector.y h.vector.y =
    rw (uncast_factor s.vector.y (wide _ s.within.1), uncast_factor h.vector.y (wide _ h.within.1)) at c.is_beyond_sum-2.ensures in
    let z : IsTrue c.is_beyond_sum-3.result ↔ IsBeyondSum (grid_box c.args.part.now) (plane_value c.args.side.now) (plane_value c.args.bound.now) s.vector.z h.vector.z =
    rw (uncast_factor s.vector.z (wide _ s.within.2), uncast_factor h.vector.z (wide _ h.within.2)) at c.is_beyond_sum-3.ensures in (
      λ so. inr (inr (inr (z.0 so))),
      λ all. elim all [
        | inl past ↦ absurd (false≢true (sym c.if-lies_beyond.false ∙ c.lies_beyond.ensures.1 past))
        | inr (inl by_x) ↦ absurd (false≢true (sym c.if-is_beyond_sum.false ∙ x.1 by_x))
        | inr (inr (inl by_y)) ↦ absurd (false≢true (sym c.if-is_beyond_sum-2.false ∙ y.1 by_y))
        | inr (inr (inr by_z)) ↦ z.1 by_z
      ],
    )
