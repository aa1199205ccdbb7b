-- The own rows of renewals that are given for the lines before another.
use Rattle.std.proofs.Common.{◌≡◌, ℕ, zero, suc, ◌+◌, ◌-◌, arith, List, [], ◌∷◌, ◌++◌, length, subst, inl, inr, Option, None, Some}
use Rattle.std.specs.List.{AllByRecursion}
use Rattle.gnss_model.specs.declared.delays.Delays.{Delays}
use Rattle.grid_model.specs.Boxes.{GridBox}
use Rattle.sat_model.specs.Events.{Event, Made, Renewed, renewals_in, made_all}
use Rattle.sat_model.specs.Logs.{Body, Block}
use Rattle.sat_model.specs.Stages.{Stage, after}
use Rattle.sat_model.specs.declared.rows.Row.{Row}
use Rattle.sat_model.specs.declared.rules.Rules.{Rules}
use Rattle.sat_model.specs.declared.steps.Step.{Step}
use Rattle.sat_rows.specs.declared.bases.Base.{Base}
use Rattle.paving_log_check.specs.Epochs.{Counts, EpochFails}
use Rattle.paving_log_check.specs.Forming.{AreAsMany, AreManyBefore, IsManyBefore, own_lines}
use Rattle.paving_log_check.specs.OwnLines.{OwnLines, renewals_of, HaveEachRow, HaveRowsBefore, behind_root, HasRowsBefore, IsWholeBefore}
use Rattle.sat_rows.specs.declared.lines.SatLine.{SatLine}
use Rattle.paving_log_check.specs.Steps.{StepsFail}
use Rattle.paving_log_check.specs.declared.verdict.Fault.{Fault}

-- ---- as far as there are bases

module _ (bases : List Base) where
  -- before the first line there are none
  pub none_before : (k : ℕ) (events : List Event) (renewed : List (List Row)) → k ≡ 0
      → AreManyBefore bases k events renewed
  none_before k [] renewed is = tt
  none_before k (Made step ∷ events) renewed is = none_before (k - 1) events renewed (omega (arith, is))
  none_before k (Renewed new ∷ events) [] is = omega (arith, is)
  none_before k (Renewed new ∷ events) (given ∷ more) is =
      (omega (arith, is), none_before (k - (1 + length new.rows)) events more (omega (arith, is)))

  -- before any line there are as many as there are in all
  pub all_before : (k : ℕ) (events : List Event) (renewed : List (List Row)) → AreAsMany bases (renewals_in events) renewed
      → AreManyBefore bases k events renewed
  all_before k [] renewed many = tt
  all_before k (Made step ∷ events) renewed many = all_before (k - 1) events renewed many
  all_before k (Renewed new ∷ events) [] many = absurd many
  all_before k (Renewed new ∷ events) (given ∷ more) many =
      (omega (arith, many.0), all_before (k - (1 + length new.rows)) events more many.1)

  pub none_in_body : (k : ℕ) (body : Option Body) (renewed : List (List Row)) → k ≡ 0
      → IsManyBefore bases k body renewed
  none_in_body k None renewed is = tt
  none_in_body k (Some body) renewed is = none_before k body.events renewed is

  -- so many behind some steps
  pub many_behind : (steps : List Step) (events : List Event) (renewed : List (List Row)) (k : ℕ)
      → AreManyBefore bases k events renewed
      → AreManyBefore bases (length steps + k) (made_all steps ++ events) renewed
  many_behind [] events renewed k h = subst (λ (n : ℕ). AreManyBefore bases n events renewed) (omega arith) h
  many_behind (step ∷ steps) events renewed k h =
      subst (λ (n : ℕ). AreManyBefore bases n (made_all steps ++ events) renewed) (omega arith) (many_behind steps events renewed k h)

  -- none before a step of them
  pub many_among : (rules : Rules) (stage : Stage) (steps : List Step) (events : List Event) (renewed : List (List Row)) (k number : ℕ)
      → StepsFail rules stage steps k number → AreManyBefore bases k (made_all steps ++ events) renewed
  many_among rules stage [] events renewed k number f = absurd f
  many_among rules stage (step ∷ steps) events renewed zero number f = none_before 0 (made_all (step ∷ steps) ++ events) renewed (omega arith)
  many_among rules stage (step ∷ steps) events renewed (suc k) number f =
      subst (λ (n : ℕ). AreManyBefore bases n (made_all steps ++ events) renewed) (omega arith)
      (many_among rules (after stage (Made step)) steps events renewed k number f.1)

-- ---- for each line

rows_none : (k : ℕ) (events : List Event) (renewed : List (List Row)) → k ≡ 0
    → HaveRowsBefore k events renewed
rows_none k [] renewed is = tt
rows_none k (Made step ∷ events) renewed is = rows_none (k - 1) events renewed (omega (arith, is))
rows_none k (Renewed new ∷ events) [] is = omega (arith, is)
rows_none k (Renewed new ∷ events) (rows ∷ more) is =
    (omega (arith, is), rows_none (k - (1 + length new.rows)) events more (omega (arith, is)))

-- where each renewal has as many rows as there are bases
rows_before : (bases : List Base) (n k : ℕ) (events : List Event) (renewed : List (List Row))
    → length bases ≡ n → AllByRecursion (λ new. length new.rows ≡ n) (renewals_in events)
    → AreManyBefore bases k events renewed → HaveRowsBefore k events renewed
rows_before bases n k [] renewed same each many = tt
rows_before bases n k (Made step ∷ events) renewed same each many = rows_before bases n (k - 1) events renewed same each many
rows_before bases n k (Renewed new ∷ events) [] same each many = many
rows_before bases n k (Renewed new ∷ events) (rows ∷ more) same each many =
    (omega (arith, same, each.0, many.0), rows_before bases n (k - (1 + length new.rows)) events more same each.1 many.1)

-- where all are given
rows_each : (k : ℕ) (events : List Event) (renewed : List (List Row)) → HaveEachRow (renewals_in events) renewed
    → HaveRowsBefore k events renewed
rows_each k [] renewed each = tt
rows_each k (Made step ∷ events) renewed each = rows_each (k - 1) events renewed each
rows_each k (Renewed new ∷ events) [] each = absurd each
rows_each k (Renewed new ∷ events) (rows ∷ more) each =
    (omega (arith, each.0), rows_each (k - (1 + length new.rows)) events more each.1)

pub whole_before : (line : ℕ) (own : OwnLines) (block : Block) → HaveEachRow (renewals_of block.body) own.renewed
    → IsWholeBefore line own block
whole_before line own block each = in_body (behind_root line block) block.body own.renewed each
  where
    in_body : (k : ℕ) (body : Option Body) (renewed : List (List Row)) → HaveEachRow (renewals_of body) renewed
        → HasRowsBefore k body renewed
    in_body k None renewed each = tt
    in_body k (Some body) renewed each = rows_each k body.events renewed each

-- ---- a block that fails

body_none : (k : ℕ) (body : Option Body) (renewed : List (List Row)) → k ≡ 0 → HasRowsBefore k body renewed
body_none k None renewed is = tt
body_none k (Some body) renewed is = rows_none k body.events renewed is

body_rows : (bases : List Base) (n k : ℕ) (body : Option Body) (renewed : List (List Row))
    → length bases ≡ n → AllByRecursion (λ new. length new.rows ≡ n) (renewals_of body)
    → IsManyBefore bases k body renewed → HasRowsBefore k body renewed
body_rows bases n k None renewed same each many = tt
body_rows bases n k (Some body) renewed same each many = rows_before bases n k body.events renewed same each many

pub fails_whole : (delays : Delays) (rules : Rules) (root : GridBox) (lines : List SatLine) (bases : List Base) (block : Block) (renewed : List (List Row)) (fault : Fault)
    → (Counts lines block → length bases ≡ block.n)
    → EpochFails delays rules root (own_lines lines renewed) block fault
    → IsManyBefore bases (behind_root fault.line block) block.body renewed
    → IsWholeBefore fault.line (own_lines lines renewed) block
fails_whole delays rules root lines bases block renewed fault same (inl head) many =
    body_none (behind_root fault.line block) block.body renewed (omega (arith, head.line))
fails_whole delays rules root lines bases block renewed fault same (inr (inl f)) many =
    body_rows bases block.n (behind_root fault.line block) block.body renewed (same f.counts) f.counts.renewed many
fails_whole delays rules root lines bases block renewed fault same (inr (inr (inl f))) many =
    body_rows bases block.n (behind_root fault.line block) block.body renewed (same f.counts) f.counts.renewed many
fails_whole delays rules root lines bases block renewed fault same (inr (inr (inr f))) many =
    body_rows bases block.n (behind_root fault.line block) block.body renewed (same f.counts) f.counts.renewed many
