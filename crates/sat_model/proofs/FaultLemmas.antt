-- A log has one first fault: its line and its number are determined.
use Rattle.std.proofs.Common.{◌≡◌, ◌⊎◌, ℕ, zero, suc, arith, List, [], ◌∷◌, subst, sym, ap, inl, inr, refl, Option, None, Some, ◌∙◌}
use Rattle.std.specs.Prelude.{ℤ}
use Rattle.std.proofs.lemmas.Bool.{cases_lt}
use Rattle.sat_model.specs.declared.rows.Row.{Row}
use Rattle.sat_model.specs.declared.rules.Rules.{Rules}
use Rattle.sat_model.specs.declared.rows.SatEntry.{SatEntry}
use Rattle.sat_model.specs.declared.steps.Step.{Step}
use Rattle.sat_model.specs.declared.steps.Step.TheVariants.{Cut, Split, Outside, Inside, Edge}
use Rattle.grid_model.specs.Boxes.{GridBox}
use Rattle.sat_model.specs.BoxTests.{test_in, IsEmpty, IsInner, HoldsHull}
use Rattle.sat_model.specs.Events.{Event, Made, Renewed, RowsOver, steps_in}
use Rattle.sat_model.specs.Fold.{Subpaving, IsLive, pieces}
use Rattle.sat_model.specs.Bounds.{BoundValue}
use Rattle.sat_model.specs.Logs.{Body, Block, LogValue, first_rows}
use Rattle.sat_model.specs.KeptHulls.{kept_hull}
use Rattle.sat_model.specs.MovedFaces.{hull_under}
use Rattle.sat_model.specs.Renewals.{LineTests, no_tests, LineFails, LinesFail, RenewalFails}
use Rattle.sat_model.specs.ShownBounds.{IsFirstUnshownOver}
use Rattle.sat_model.specs.Stages.{Stage, first_stage, after}
use Rattle.sat_model.specs.Verdicts.{IsLong, CutsEmptySlab, LiveFails, NotLive, StepFails, DoneFails, EventsFail, BodyFailsBy, HeadFails, IsFirstRepeat, BlockFails, BlocksFail, FirstFault}
use Rattle.sat_model.proofs.VerdictLemmas.{not_gone, not_failing, step_not_both, AreExclusive, nothing_exclusive, line_not_both, renewal_not_both, events_not_both, head_not_both, block_not_both}

-- ---- a step

abbrev LaterFails : Stage → ℕ → (GridBox → Type 0) → ℕ → ℕ → Type 0
LaterFails stage id Meets test number = (part : GridBox) × IsLive stage.boxes id part × Meets part × (number ≡ test)

one_of_two : (stage : Stage) (id test n m : ℕ) (Meets : GridBox → Type 0)
    → NotLive stage id n ⊎ LiveFails stage id Meets test n
    → NotLive stage id m ⊎ LiveFails stage id Meets test m → n ≡ m
one_of_two stage id test n m Meets (inl (gone, e)) (inl (again, f)) = omega arith
one_of_two stage id test n m Meets (inl gone) (inr (part, is, fails, f)) = absurd (not_gone stage id n part is gone)
one_of_two stage id test n m Meets (inr (part, is, fails, e)) (inl gone) = absurd (not_gone stage id m part is gone)
one_of_two stage id test n m Meets (inr (part, is, fails, e)) (inr (other, live, again, f)) = omega arith

one_of_three : (stage : Stage) (id first second n m : ℕ) (Meets : GridBox → Type 0)
    → NotLive stage id n ⊎ (LiveFails stage id Meets first n ⊎ LaterFails stage id Meets second n)
    → NotLive stage id m ⊎ (LiveFails stage id Meets first m ⊎ LaterFails stage id Meets second m)
    → n ≡ m
one_of_three stage id first second n m Meets (inl (gone, e)) (inl (again, f)) = omega arith
one_of_three stage id first second n m Meets (inl gone) (inr (inl (part, is, fails, f))) = absurd (not_gone stage id n part is gone)
one_of_three stage id first second n m Meets (inl gone) (inr (inr (part, is, meets, f))) = absurd (not_gone stage id n part is gone)
one_of_three stage id first second n m Meets (inr (inl (part, is, fails, e))) (inl gone) = absurd (not_gone stage id m part is gone)
one_of_three stage id first second n m Meets (inr (inl (part, is, fails, e))) (inr (inl (other, live, again, f))) = omega arith
one_of_three stage id first second n m Meets (inr (inl fails)) (inr (inr (other, live, meets, f))) =
    absurd (not_failing stage id first n Meets other live meets fails)
one_of_three stage id first second n m Meets (inr (inr (part, is, meets, e))) (inl gone) = absurd (not_gone stage id m part is gone)
one_of_three stage id first second n m Meets (inr (inr (part, is, meets, e))) (inr (inl fails)) =
    absurd (not_failing stage id first m Meets part is meets fails)
one_of_three stage id first second n m Meets (inr (inr (part, is, meets, e))) (inr (inr (other, live, again, f))) = omega arith

later_split : (rules : Rules) (stage : Stage) (id axis n : ℕ)
    → StepFails rules stage (Split id axis) n
    → NotLive stage id n ⊎ (LiveFails stage id (IsLong rules axis) 61 n ⊎ LaterFails stage id (IsLong rules axis) 62 n)
later_split rules stage id axis n (inl gone) = inl gone
later_split rules stage id axis n (inr (inl short)) = inr (inl short)
later_split rules stage id axis n (inr (inr (part, is, long, full, e))) = inr (inr (part, is, long, e))

one_number : (rules : Rules) (stage : Stage) (step : Step) (n m : ℕ)
    → StepFails rules stage step n → StepFails rules stage step m → n ≡ m
one_number rules stage (Cut id face bound) n m f g = one_of_two stage id 57 n m (CutsEmptySlab stage.test face bound) f g
one_number rules stage (Split id axis) n m f g = one_of_three stage id 61 62 n m (IsLong rules axis) (later_split rules stage id axis n f) (later_split rules stage id axis m g)
one_number rules stage (Outside id) n m f g = one_of_two stage id 58 n m (λ part. IsEmpty stage.test part) f g
one_number rules stage (Inside id clock lo hi) n m f g =
    one_of_three stage id 59 60 n m (λ part. IsInner stage.test part clock)
    (later_inside rules stage id n clock lo hi f) (later_inside rules stage id m clock lo hi g)
  where
    later_inside : (rules : Rules) (stage : Stage) (id n : ℕ) (clock lo hi : ℤ)
        → StepFails rules stage (Inside id clock lo hi) n
        → NotLive stage id n
        ⊎ (LiveFails stage id (λ part. IsInner stage.test part clock) 59 n ⊎ LaterFails stage id (λ part. IsInner stage.test part clock) 60 n)
    later_inside rules stage id n clock lo hi (inl gone) = inl gone
    later_inside rules stage id n clock lo hi (inr (inl out)) = inr (inl out)
    later_inside rules stage id n clock lo hi (inr (inr (part, is, inner, narrow, e))) = inr (inr (part, is, inner, e))
one_number rules stage (Edge id lo hi) n m f g = one_of_two stage id 60 n m (λ part. HoldsHull stage.test part lo hi) f g

-- the same line, the same number
abbrev IsOne : ℕ → ℕ → ℕ → ℕ → Type 0
IsOne line number other_line other_number = (line ≡ other_line) × (number ≡ other_number)

-- ---- renewals and steps

-- of a line that fails one fault is told
pub record AreSharp {Fault : Type 0} (tests : LineTests Fault) (Same : Fault → Fault → Type 0) : Type 0 where
  pub exclusive : AreExclusive tests
  pub one : (j i : ℕ) (row : Row) (f g : Fault) → tests.fails j i row f → tests.fails j i row g
      → Same f g
  pub told : (f g : Fault) → tests.number f ≡ tests.number g → tests.plain f → tests.plain g
      → Same f g

nothing_sharp : AreSharp no_tests (λ n m. n ≡ m)
nothing_sharp = record {
  exclusive = nothing_exclusive;
  one = λ j i row f g a b. absurd a;
  told = λ f g e a b. e;
}

one_at_end : (done : ℕ) (stage : Stage) (n m : ℕ) → DoneFails done stage n → DoneFails done stage m
    → n ≡ m
one_at_end done stage n m (inl (live, e)) (inl (again, f)) = omega arith
one_at_end done stage n m (inl (live, e)) (inr (none, count, f)) = absurd (live.1 (none live.0))
one_at_end done stage n m (inr (none, count, e)) (inl (live, f)) = absurd (live.1 (none live.0))
one_at_end done stage n m (inr (none, count, e)) (inr (again, other, f)) = omega arith

module _ {Fault : Type 0} (tests : LineTests Fault) (Same : Fault → Fault → Type 0) (sharp : AreSharp tests Same) (first : RowsOver) where
  one_line : (j i : ℕ) (row : Row) (f g : Fault) → LineFails tests first j i row f
      → LineFails tests first j i row g → Same f g
  one_line j i row f g (inl (other, n, plain)) (inl (again, m, alone)) = sharp.told f g (n ∙ sym m) plain alone
  one_line j i row f g (inl (other, n, plain)) (inr (same, fails)) = absurd (other same)
  one_line j i row f g (inr (same, fails)) (inl (other, n, plain)) = absurd (other same)
  one_line j i row f g (inr (same, fails)) (inr (again, fail)) = sharp.one j i row f g fails fail

  one_in_lines : (j i : ℕ) (rows : List Row) (k : ℕ) (f : Fault) (m : ℕ) (g : Fault)
      → LinesFail tests first j i rows k f → LinesFail tests first j i rows m g → (k ≡ m) × Same f g
  one_in_lines j i [] k f m g a b = absurd a
  one_in_lines j i (row ∷ rows) zero f zero g a b = (refl, one_line j i row f g a b)
  one_in_lines j i (row ∷ rows) zero f (suc m) g a b = absurd (line_not_both tests sharp.exclusive first j i row f b.0 a)
  one_in_lines j i (row ∷ rows) (suc k) f zero g a b = absurd (line_not_both tests sharp.exclusive first j i row g a.0 b)
  one_in_lines j i (row ∷ rows) (suc k) f (suc m) g a b =
      let same = one_in_lines j (suc i) rows k f m g a.1 b.1 in
      (ap suc same.0, same.1)

  one_in_renewal : (j : ℕ) (boxes : Subpaving) (new : RowsOver) (k : ℕ) (f : Fault) (m : ℕ) (g : Fault)
      → RenewalFails tests first j boxes new k f → RenewalFails tests first j boxes new m g
      → (k ≡ m) × Same f g
  one_in_renewal j boxes new zero f zero g a b = (refl, sharp.told f g (a.1 ∙ sym b.1) a.2 b.2)
  one_in_renewal j boxes new zero f (suc m) g a b = absurd (a.0 b.0)
  one_in_renewal j boxes new (suc k) f zero g a b = absurd (b.0 a.0)
  one_in_renewal j boxes new (suc k) f (suc m) g a b =
      let same = one_in_lines j 0 new.rows k f m g a.1 b.1 in
      (ap suc same.0, same.1)

  pub one_in_events : (rules : Rules) (done j : ℕ) (stage : Stage) (events : List Event) (k : ℕ) (f : Fault) (m : ℕ) (g : Fault)
      → EventsFail tests first rules done j stage events k f
      → EventsFail tests first rules done j stage events m g → (k ≡ m) × Same f g
  one_in_events rules done j stage [] k f m g a b = (omega (arith, a.0, b.0), sharp.told f g (one_at_end done stage _ _ a.1 b.1) a.2 b.2)
  one_in_events rules done j stage (Made step ∷ events) zero f zero g a b = (refl, sharp.told f g (one_number rules stage step _ _ a.0 b.0) a.1 b.1)
  one_in_events rules done j stage (Made step ∷ events) zero f (suc m) g a b = absurd (step_not_both rules stage step _ b.0 a.0)
  one_in_events rules done j stage (Made step ∷ events) (suc k) f zero g a b = absurd (step_not_both rules stage step _ a.0 b.0)
  one_in_events rules done j stage (Made step ∷ events) (suc k) f (suc m) g a b =
      let same = one_in_events rules done j (after stage (Made step)) events k f m g a.1 b.1 in
      (ap suc same.0, same.1)
  one_in_events rules done j stage (Renewed new ∷ events) k f m g (inl a) (inl b) = one_in_renewal j stage.boxes new k f m g a b
  one_in_events rules done j stage (Renewed new ∷ events) k f m g (inl a) (inr (l, e, passes, later)) =
      absurd (renewal_not_both tests sharp.exclusive first j stage.boxes new k f passes a)
  one_in_events rules done j stage (Renewed new ∷ events) k f m g (inr (l, e, passes, later)) (inl b) =
      absurd (renewal_not_both tests sharp.exclusive first j stage.boxes new m g passes b)
  one_in_events rules done j stage (Renewed new ∷ events) k f m g (inr (l, e, passes, later)) (inr (h, d, pass, late)) =
      let same = one_in_events rules done (suc j) (after stage (Renewed new)) events l f h g later late in
      (omega (arith, e, d, same.0), same.1)

-- ---- a body

one_unshown : (q : ℕ) (first : RowsOver) (events : List Event) (hull : Option GridBox) (bounds : List BoundValue) (k m : ℕ)
    → IsFirstUnshownOver q first events hull bounds k → IsFirstUnshownOver q first events hull bounds m → k ≡ m
one_unshown q first events hull [] k m a b = absurd a
one_unshown q first events hull (bound ∷ more) k m (inl a) (inl b) = a.1 ∙ sym b.1
one_unshown q first events hull (bound ∷ more) k m (inl a) (inr b) = absurd (a.0 b.0)
one_unshown q first events hull (bound ∷ more) k m (inr a) (inl b) = absurd (b.0 a.0)
one_unshown q first events hull (bound ∷ more) k m (inr (shown, (i, e, later))) (inr (again, (j, f, late))) =
    omega (arith, e, f, one_unshown q first events (hull_under bound.half hull) more i j later late)

pub one_in_body : {Fault : Type 0} (tests : LineTests Fault) (Same : Fault → Fault → Type 0) → AreSharp tests Same
    → (rules : Rules) (block : Block) (body : Body) (k : ℕ) (f : Fault) (m : ℕ) (g : Fault)
    → BodyFailsBy tests rules block body k f → BodyFailsBy tests rules block body m g
    → (k ≡ m) × Same f g
one_in_body tests Same sharp rules block body k f m g (inl a) (inl b) =
    one_in_events tests Same sharp (first_rows block body) rules body.done
    0 (first_stage (test_in rules block) body.root) body.events k f m g a b
one_in_body tests Same sharp rules block body k f m g (inl a) (inr b) =
    absurd (events_not_both tests sharp.exclusive (first_rows block body) rules body.done
    0 (first_stage (test_in rules block) body.root) body.events k f b.events a)
one_in_body tests Same sharp rules block body k f m g (inr a) (inl b) =
    absurd (events_not_both tests sharp.exclusive (first_rows block body) rules body.done
    0 (first_stage (test_in rules block) body.root) body.events m g a.events b)
one_in_body tests Same sharp rules block body k f m g (inr a) (inr b) = (
  omega (
    arith,
    a.line,
    b.line,
    one_unshown rules.outliers (first_rows block body) body.events
        (kept_hull (pieces body.root (steps_in body.events))) body.bounds a.m b.m a.unshown b.unshown,
  ),
  sharp.told f g (a.number ∙ sym b.number) a.plain b.plain,
)

-- ---- a block, and the log

one_head : (rules : Rules) (before : Option ℕ) (block : Block) (n m : ℕ)
    → HeadFails rules before block n → HeadFails rules before block m → n ≡ m
one_head rules before block n m (inl (fails, e)) (inl (again, f)) = omega arith
one_head rules before block n m (inl (fails, e)) (inr (later, suits, count, f)) = absurd (fails (later, suits))
one_head rules before block n m (inr (later, suits, count, e)) (inl (fails, f)) = absurd (fails (later, suits))
one_head rules before block n m (inr (later, suits, count, e)) (inr (l, s, c, f)) = omega arith

pub one_repeat : (sats : List SatEntry) (j k : ℕ) → IsFirstRepeat sats j → IsFirstRepeat sats k
    → j ≡ k
one_repeat sats j k a b = elim (cases_lt j k) [
  | inl less ↦ absurd (b.first j less a.repeats)
  | inr not_less ↦ elim (cases_lt k j) [
    | inl less ↦ absurd (a.first k less b.repeats)
    | inr not_more ↦ omega arith
  ]
]

one_body : (o : Option Body) (a c : Body) → o ≡ Some a → o ≡ Some c → a ≡ c
one_body o a c e f = cc

one_in_block : (rules : Rules) (before : Option ℕ) (block : Block) (l n k m : ℕ)
    → BlockFails rules before block l n → BlockFails rules before block k m → IsOne l n k m
one_in_block rules before block l n k m (inl (head, e)) (inl (again, f)) = (e ∙ sym f, one_head rules before block n m head again)
one_in_block rules before block l n k m (inl (head, e)) (inr (inl (passes, repeat, f))) = absurd (head_not_both rules before block n passes head)
one_in_block rules before block l n k m (inl (head, e)) (inr (inr (passes, none, steps))) = absurd (head_not_both rules before block n passes head)
one_in_block rules before block l n k m (inr (inl (passes, repeat, e))) (inl (head, f)) = absurd (head_not_both rules before block m passes head)
one_in_block rules before block l n k m (inr (inl (passes, (i, first, at), e))) (inr (inl (again, (j, other, line), f))) =
    (omega (arith, one_repeat block.sats i j first other), omega arith)
one_in_block rules before block l n k m (inr (inl (passes, (i, first, at), e))) (inr (inr (again, none, steps))) = absurd (none i first.repeats)
one_in_block rules before block l n k m (inr (inr (passes, none, steps))) (inl (head, f)) = absurd (head_not_both rules before block m passes head)
one_in_block rules before block l n k m (inr (inr (passes, none, steps))) (inr (inl (again, (j, other, line), f))) = absurd (none j other.repeats)
one_in_block rules before block l n k m (inr (inr (passes, none, (body, i, paved, fails, at)))) (inr (inr (again, absent, (other, j, is, fail, line)))) =
    let from = subst (λ (c : Body). BodyFailsBy no_tests rules block c i n) (one_body block.body body other paved is) fails in
    let same = one_in_body no_tests (λ a b. a ≡ b) nothing_sharp rules block other i n j m from fail in
    (omega (arith, same.0), same.1)

one_in_blocks : (rules : Rules) (before : Option ℕ) (blocks : List Block) (l n k m : ℕ)
    → BlocksFail rules before blocks l n → BlocksFail rules before blocks k m → IsOne l n k m
one_in_blocks rules before [] l n k m f g = absurd f
one_in_blocks rules before (block ∷ more) l n k m (inl f) (inl g) = one_in_block rules before block l n k m f g
one_in_blocks rules before (block ∷ more) l n k m (inl f) (inr (passes, g)) = absurd (block_not_both rules before block l n passes f)
one_in_blocks rules before (block ∷ more) l n k m (inr (passes, f)) (inl g) = absurd (block_not_both rules before block k m passes g)
one_in_blocks rules before (block ∷ more) l n k m (inr (passes, f)) (inr (again, g)) = one_in_blocks rules (Some block.index) more l n k m f g

pub one_first_fault : (log : LogValue) (line number other_line other_number : ℕ)
    → FirstFault log line number → FirstFault log other_line other_number
    → (line ≡ other_line) × (number ≡ other_number)
one_first_fault log line number other_line other_number f g = one_in_blocks log.rules None log.blocks line number other_line other_number f g
