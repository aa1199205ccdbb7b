use Rattle.std.proofs.Common.{arith, subst, ◌∙◌, ◌/◌, inl, inr}
use Rattle.std.proofs.lemmas.Bool.{cases_eq}
use Rattle.grid_model.specs.Boxes.{GridBox, grid_box, IsInside}
use Rattle.subpaving.proofs.GroupLemmas.{group_within, live_here, live_there, live_within}
use Rattle.subpaving.proofs.live.Live.all_inside.Goals as goal

pub returns-then-not-is_group_inside-clause-no : goal.returns-then-not-is_group_inside-clause-no
returns-then-not-is_group_inside-clause-no c = λ e.
    let (id, part, at, beyond) = c.is_group_inside.ensures.no c.if-not-is_group_inside.true in
    (id, grid_box part, live_here c.args.self.now.boxes.items id part (rw c.groups.invariant.0 at at), beyond)

pub groups-preserved : goal.groups-preserved
groups-preserved c = (
  c.is_group_inside.ensures.same ∙ c.groups.invariant.0,
  λ id less. elim (cases_eq (id / 512) c.groups.group) [
    | inl same ↦ rw c.groups.invariant.0 at (c.is_group_inside.ensures.yes c.if-not-is_group_inside.false id same)
    | inr other ↦ c.groups.invariant.1 id (omega (arith, less, other))
  ],
)

pub returns-clause-yes : goal.returns-clause-yes
returns-clause-yes c = λ t id live is.
    let boxes = c.args.self.now.boxes.items in
    let (part, at, same) = live_there boxes id live is in
    let near = group_within id _ c.groups.group (live_within boxes id part at) (omega (arith, c.groups-test.false, c.div_ceil-groups.ensures, c.len.ensures, c.args.self.now.boxes.ok)) in
    subst (λ (b : GridBox). IsInside b (grid_box c.args.whole.now)) same (c.groups.invariant.1 id near part at)
