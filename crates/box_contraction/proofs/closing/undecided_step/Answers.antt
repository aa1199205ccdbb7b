use Rattle.std.proofs.Common.{◌≡◌, arith, refl, inl, inr}
use Rattle.std.specs.Prelude.{ℤ}
use Rattle.std.proofs.lemmas.Int.{ints}
use Rattle.grid_model.specs.Boxes.{GridBox, grid_box}
use Rattle.sat_model.specs.BoxTests.{BoxTest, IsHull}
use Rattle.box_contraction.proofs.closing.undecided_step.Goals as goal
use Rattle.box_contraction.proofs.closing.undecided_step.Goals.{else-longest-rules-via-then-longest-rules+else-splits-rules, else-longest-rules-via-else-longest-rules}

-- the ends are read back from the step
hull_same : (test : BoxTest) (part : GridBox) (lo hi lo' hi' : ℤ) → lo ≡ lo' → hi ≡ hi'
    → IsHull test part lo hi → IsHull test part lo' hi'
hull_same test part lo hi lo' hi' e f h = rw (← e, ← f) h

pub returns-else-longest-rules : goal.returns-else-longest-rules
returns-else-longest-rules c = λ test undecided hull. (
  refl,
  undecided,
  elim c.else-longest-rules.branch [
    | else-longest-rules-via-then-longest-rules+else-splits-rules w ↦ inr w.if-splits-rules.false
    | else-longest-rules-via-else-longest-rules w ↦ inl (omega (arith, ints))
  ],
  hull_same test (grid_box c.args.part.now) c.args.hull.lo c.args.hull.hi _ _ (omega (arith, ints)) (omega (arith, ints)) hull,
)
