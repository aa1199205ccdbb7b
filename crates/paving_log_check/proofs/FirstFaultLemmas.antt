-- A log that is admitted has no fault, and for given own lines a first fault is the only one.
use Rattle.std.proofs.Common.{◌≡◌, ℕ, ◌+◌, arith, List, [], ◌∷◌, inl, inr, sym, ap, subst, ◌∙◌, Option, None, Some}
use Rattle.std.specs.Prelude.{ℤ, slice_get}
use Rattle.std.proofs.lemmas.Bool.{cases_order}
use Rattle.epoch_selection.specs.Searches.{Search}
use Rattle.grid_model.specs.Boxes.{Side, GridBox, span_side}
use Rattle.sat_model.specs.Logs.{Body, Block, LogValue, lines_in}
use Rattle.sat_model.specs.Relaxed.{ends}
use Rattle.sat_model.specs.declared.rows.Row.{Row}
use Rattle.sat_model.specs.declared.rules.Rules.{Rules}
use Rattle.sat_model.specs.declared.rows.SatEntry.{SatEntry}
use Rattle.sat_model.specs.declared.rows.SatEntry.TheVariants as entry
use Rattle.gnss_model.specs.declared.delays.Delays.{Delays}
use Rattle.sat_model.proofs.FaultLemmas.{AreSharp, one_in_body as one_behind_root}
use Rattle.sat_model.proofs.VerdictLemmas.{AreExclusive, body_not_both}
use Rattle.sat_rows.specs.declared.lines.SatLine.{SatLine}
use Rattle.sat_rows.specs.declared.lines.SatLine.TheVariants.{Usable, Skipped}
use Rattle.paving_log_check.specs.Admissible.{DueFails, AdmitsFrom, BlockFault, FailsFrom, Admits, FailsFirst}
use Rattle.paving_log_check.specs.Answers.{ShowsNoSpans}
use Rattle.paving_log_check.specs.Checked.{AreSameFault}
use Rattle.paving_log_check.specs.Epochs.{BodyPassesAt, EpochPasses, BodyFailsAt, BodyDiffers, EpochFails}
use Rattle.paving_log_check.specs.Lines.{HoldEach, compared, IsFirstNarrow, IsExpected, RowPasses, RowFails, LinePasses, LineFails, SatsPass, SatsFail}
use Rattle.paving_log_check.specs.OwnLines.{OwnLines}
use Rattle.paving_log_check.specs.Renewed.{IsGiven, own_tests}
use Rattle.paving_log_check.specs.declared.verdict.Fault.{Fault}
use Rattle.epoch_selection.proofs.SelectionLemmas.{same_some}

-- ---- rows

narrow_not_held : (pairs : List (Side × Side)) (theirs ours : Side) → HoldEach pairs
    → IsFirstNarrow pairs theirs ours → ⊥
narrow_not_held [] theirs ours h f = f
narrow_not_held (pair ∷ more) theirs ours h (inl f) = f.0 h.0
narrow_not_held (pair ∷ more) theirs ours h (inr f) = narrow_not_held more theirs ours h.1 f.1

one_narrow : (pairs : List (Side × Side)) (t o u v : Side) → IsFirstNarrow pairs t o
    → IsFirstNarrow pairs u v → (t ≡ u) × (o ≡ v)
one_narrow [] t o u v f g = absurd f
one_narrow (pair ∷ more) t o u v (inl f) (inl g) = (f.1 ∙ sym g.1, f.2 ∙ sym g.2)
one_narrow (pair ∷ more) t o u v (inl f) (inr g) = absurd (f.0 g.0)
one_narrow (pair ∷ more) t o u v (inr f) (inl g) = absurd (g.0 f.0)
one_narrow (pair ∷ more) t o u v (inr f) (inr g) = one_narrow more t o u v f.1 g.1

-- the same number and spans
record AreAlike (a b : Fault) : Type 0 where
  pub number : a.number ≡ b.number
  pub theirs : ends a.theirs ≡ ends b.theirs
  pub ours : ends a.ours ≡ ends b.ours

both_plain : (a b : Fault) → a.number ≡ b.number → ShowsNoSpans a → ShowsNoSpans b → AreAlike a b
both_plain a b number one other = record { number = number; theirs = one.0 ∙ sym other.0; ours = one.1 ∙ sym other.1 }

on_line : (a b : Fault) → a.line ≡ b.line → AreAlike a b → AreSameFault a b
on_line a b line alike = record { line = line; number = alike.number; theirs = alike.theirs; ours = alike.ours }

same_plain : (a b : Fault) → a.line ≡ b.line → a.number ≡ b.number → ShowsNoSpans a → ShowsNoSpans b
    → AreSameFault a b
same_plain a b line number one other = on_line a b line (both_plain a b number one other)

abbrev side_ends : Side → ℤ × ℤ
side_ends s = (s.lo, s.hi)

-- ---- the place of a block, and which line is expected

one_due : {rules : Rules} {next : ℕ} {before : Option ℕ} {searches : List Search} {blocks : List Block} (a b : Fault)
    → DueFails rules next before searches blocks a → DueFails rules next before searches blocks b
    → AreSameFault a b
one_due a b f g = same_plain a b (f.line ∙ sym g.line) (f.number ∙ sym g.number) f.no_spans g.no_spans

-- the expected line is one line
row_at : {sats : List SatEntry} {lines : List SatLine} {k : ℕ} (Meets : SatEntry → SatLine → Type 0) (e f : IsExpected sats lines k)
    → Meets e.theirs e.ours → Meets f.theirs f.ours
row_at {sats = sats} {lines = lines} {k = k} Meets e f h =
    subst (λ t. Meets t f.ours) (same_some (slice_get sats k) e.theirs f.theirs e.theirs_at f.theirs_at)
    (subst (λ o. Meets e.theirs o) (same_some (slice_get lines k) e.ours f.ours e.ours_at f.ours_at) h)

-- by the delays that are mapped
module _ (delays : Delays) where
  -- ---- rows

  row_not_both : (theirs : SatEntry) (ours : SatLine) (fault : Fault) → RowPasses delays theirs ours
      → RowFails delays theirs ours fault → ⊥
  row_not_both (entry.Row row) (Usable ours) fault h (inl f) = narrow_not_held (compared delays row ours) (span_side fault.theirs) (span_side fault.ours) h.0 f.0
  row_not_both (entry.Row row) (Usable ours) fault h (inr f) = f.1 h.1
  row_not_both (entry.Row row) (Skipped sat skip) fault h f = f
  row_not_both (entry.Skipped sat skip) (Usable ours) fault h f = f
  row_not_both (entry.Skipped sat skip) (Skipped other why) fault h f = f

  one_in_row : (theirs : SatEntry) (ours : SatLine) (a b : Fault) → RowFails delays theirs ours a
      → RowFails delays theirs ours b → AreAlike a b
  one_in_row (entry.Row row) (Usable ours) a b (inl f) (inl g) =
      let same = one_narrow (compared delays row ours) (span_side a.theirs) (span_side a.ours) (span_side b.theirs) (span_side b.ours) f.0 g.0 in
      record { number = f.1 ∙ sym g.1; theirs = ap side_ends same.0; ours = ap side_ends same.1 }
  one_in_row (entry.Row row) (Usable ours) a b (inl f) (inr g) = absurd (narrow_not_held (compared delays row ours) (span_side a.theirs) (span_side a.ours) g.0 f.0)
  one_in_row (entry.Row row) (Usable ours) a b (inr f) (inl g) = absurd (narrow_not_held (compared delays row ours) (span_side b.theirs) (span_side b.ours) f.0 g.0)
  one_in_row (entry.Row row) (Usable ours) a b (inr f) (inr g) = both_plain a b (f.2 ∙ sym g.2) f.3 g.3
  one_in_row (entry.Row row) (Skipped sat skip) a b f g = absurd f
  one_in_row (entry.Skipped sat skip) (Usable ours) a b f g = absurd f
  one_in_row (entry.Skipped sat skip) (Skipped other why) a b f g = absurd f

  -- ---- satellite lines

  line_not_both : {sats : List SatEntry} {lines : List SatLine} {k : ℕ} (fault : Fault)
      → LinePasses delays sats lines k → LineFails delays sats lines k fault → ⊥
  line_not_both fault h (inl f) = f.0 h.is_expected
  line_not_both fault h (inr f) =
      row_not_both f.is_expected.theirs f.is_expected.ours fault (row_at (RowPasses delays) h.is_expected f.is_expected h.passes) f.fails

  one_in_line : {sats : List SatEntry} {lines : List SatLine} {k : ℕ} (a b : Fault)
      → LineFails delays sats lines k a → LineFails delays sats lines k b → AreAlike a b
  one_in_line a b (inl f) (inl g) = both_plain a b (f.1 ∙ sym g.1) f.2 g.2
  one_in_line a b (inl f) (inr g) = absurd (f.0 g.is_expected)
  one_in_line a b (inr f) (inl g) = absurd (g.0 f.is_expected)
  one_in_line a b (inr f) (inr g) =
      one_in_row f.is_expected.theirs f.is_expected.ours a b f.fails (row_at (λ t o. RowFails delays t o b) g.is_expected f.is_expected g.fails)

  sats_not_both : {sats : List SatEntry} {lines : List SatLine} (k : ℕ) (fault : Fault)
      → SatsPass delays sats lines → SatsFail delays sats lines k fault → ⊥
  sats_not_both k fault h f = line_not_both fault (h k f.is_line) f.here

  one_in_sats : {sats : List SatEntry} {lines : List SatLine} (j k : ℕ) (a b : Fault)
      → SatsFail delays sats lines j a → SatsFail delays sats lines k b → (j ≡ k) × AreAlike a b
  one_in_sats {sats = sats} {lines = lines} j k a b f g = elim (cases_order j k) [
    | inl same ↦ (same, one_in_line a b f.here (subst (λ i. LineFails delays sats lines i b) (sym same) g.here))
    | inr other ↦ elim other [
      | inl less ↦ absurd (line_not_both a (g.before j less) f.here)
      | inr more ↦ absurd (line_not_both b (f.before k more) g.here)
    ]
  ]

  -- ---- lines of renewals

  -- at a place one own row is given
  one_given : (renewed : List (List Row)) (j i : ℕ) (ours other : Row) → IsGiven renewed j i ours
      → IsGiven renewed j i other → ours ≡ other
  one_given renewed j i ours other (rows, at, is) (again, here, there) =
      let same = same_some (slice_get renewed j) again rows here at in
      same_some (slice_get rows i) ours other is (subst (λ l. slice_get l i ≡ Some other) same there)

  own_exclusive : (renewed : List (List Row)) → AreExclusive (own_tests delays renewed)
  own_exclusive renewed j i row fault h (ours, given, fails) = row_not_both (entry.Row row) (Usable ours) fault (h ours given) fails

  own_sharp : (renewed : List (List Row)) → AreSharp (own_tests delays renewed) AreAlike
  own_sharp renewed = record {
    exclusive = own_exclusive renewed;
    one = λ j i row f g (ours, given, fails) (other, too, fail).
        one_in_row (entry.Row row) (Usable ours) f g fails
        (subst (λ r. RowFails delays (entry.Row row) (Usable r) g) (one_given renewed j i other ours too given) fail);
    told = both_plain;
  }

  -- ---- a block

  pub epoch_not_both : (rules : Rules) (root : GridBox) (own : OwnLines) (block : Block) (fault : Fault)
      → EpochPasses delays rules root own block → EpochFails delays rules root own block fault → ⊥
  epoch_not_both rules root own block fault h (inl head) = head.differs h.counts
  epoch_not_both rules root own block fault h (inr (inl sats)) = sats_not_both sats.k fault h.sats sats.fails
  epoch_not_both rules root own block fault h (inr (inr (inl missing))) = absurd (omega (arith, missing.missing, h.whole))
  epoch_not_both rules root own block fault h (inr (inr (inr b))) =
      let at = subst (λ (o : Option Body). BodyPassesAt delays rules root own.renewed block o) b.is_body h.body in
      elim b.fails [
        | inl differs ↦ differs.differs at.0
        | inr event ↦ body_not_both (own_tests delays own.renewed) (own_exclusive own.renewed) rules block b.body event.k fault at.1 event.fails
      ]

  one_in_body : (rules : Rules) (root : GridBox) (own : OwnLines) (block : Block) (a b : Fault)
      → BodyDiffers delays rules root own block a → BodyDiffers delays rules root own block b
      → AreSameFault a b
  one_in_body rules root own block a b f g =
      let same = same_some block.body g.body f.body g.is_body f.is_body in
      one_at rules root own.renewed block f.body a b f.fails (subst (λ t. BodyFailsAt delays rules root own.renewed block t b) same g.fails)
    where
      one_at : (rules : Rules) (root : GridBox) (renewed : List (List Row)) (block : Block) (body : Body) (a b : Fault)
          → BodyFailsAt delays rules root renewed block body a
          → BodyFailsAt delays rules root renewed block body b → AreSameFault a b
      one_at rules root renewed block body a b (inl f) (inl g) = same_plain a b (f.line ∙ sym g.line) (f.number ∙ sym g.number) f.no_spans g.no_spans
      one_at rules root renewed block body a b (inl f) (inr g) = absurd (f.differs g.same)
      one_at rules root renewed block body a b (inr f) (inl g) = absurd (g.differs f.same)
      one_at rules root renewed block body a b (inr f) (inr g) =
          let same = one_behind_root (own_tests delays renewed) AreAlike (own_sharp renewed) rules block body f.k a g.k b f.fails g.fails in
          on_line a b (omega (arith, f.line, g.line, same.0)) same.1

  pub one_in_epoch : (rules : Rules) (root : GridBox) (own : OwnLines) (block : Block) (a b : Fault)
      → EpochFails delays rules root own block a → EpochFails delays rules root own block b
      → AreSameFault a b
  one_in_epoch rules root own block a b (inl f) (inl g) = same_plain a b (f.line ∙ sym g.line) (f.number ∙ sym g.number) f.no_spans g.no_spans
  one_in_epoch rules root own block a b (inl f) (inr (inl g)) = absurd (f.differs g.counts)
  one_in_epoch rules root own block a b (inl f) (inr (inr (inl g))) = absurd (f.differs g.counts)
  one_in_epoch rules root own block a b (inl f) (inr (inr (inr g))) = absurd (f.differs g.counts)
  one_in_epoch rules root own block a b (inr (inl f)) (inl g) = absurd (g.differs f.counts)
  one_in_epoch rules root own block a b (inr (inl f)) (inr (inl g)) =
      let same = one_in_sats f.k g.k a b f.fails g.fails in
      on_line a b (omega (arith, f.line, g.line, same.0)) same.1
  one_in_epoch rules root own block a b (inr (inl f)) (inr (inr (inl g))) = absurd (sats_not_both f.k a g.sats f.fails)
  one_in_epoch rules root own block a b (inr (inl f)) (inr (inr (inr g))) = absurd (sats_not_both f.k a g.sats f.fails)
  one_in_epoch rules root own block a b (inr (inr (inl f))) (inl g) = absurd (g.differs f.counts)
  one_in_epoch rules root own block a b (inr (inr (inl f))) (inr (inl g)) = absurd (sats_not_both g.k b f.sats g.fails)
  one_in_epoch rules root own block a b (inr (inr (inl f))) (inr (inr (inl g))) = same_plain a b (f.line ∙ sym g.line) (f.number ∙ sym g.number) f.no_spans g.no_spans
  one_in_epoch rules root own block a b (inr (inr (inl f))) (inr (inr (inr g))) = absurd (omega (arith, f.missing, g.whole))
  one_in_epoch rules root own block a b (inr (inr (inr f))) (inl g) = absurd (g.differs f.counts)
  one_in_epoch rules root own block a b (inr (inr (inr f))) (inr (inl g)) = absurd (sats_not_both g.k b f.sats g.fails)
  one_in_epoch rules root own block a b (inr (inr (inr f))) (inr (inr (inl g))) = absurd (omega (arith, g.missing, f.whole))
  one_in_epoch rules root own block a b (inr (inr (inr f))) (inr (inr (inr g))) = one_in_body rules root own block a b f g

  -- ---- the blocks

  block_fault_not : (rules : Rules) (behind : ℕ) (own : OwnLines) (search : Search) (rest : List Search) (block : Block) (more : List Block) (fault : Fault)
      → EpochPasses delays rules search.root own block
      → BlockFault delays rules behind own search rest block more fault → ⊥
  block_fault_not rules behind own search rest block more fault h (inl f) = epoch_not_both rules search.root own block fault h f.0
  block_fault_not rules behind own search rest block more fault h (inr (due, (other, fails, line))) = epoch_not_both rules search.root own block other h fails

  one_block_fault : (rules : Rules) (behind : ℕ) (own : OwnLines) (search : Search) (rest : List Search) (block : Block) (more : List Block) (a b : Fault)
      → BlockFault delays rules behind own search rest block more a
      → BlockFault delays rules behind own search rest block more b → AreSameFault a b
  one_block_fault rules behind own search rest block more a b (inl f) (inl g) = one_in_epoch rules search.root own block a b f.0 g.0
  one_block_fault rules behind own search rest block more a b (inl f) (inr (due, (other, fails, line))) =
      absurd (due.fails (f.1 ((one_in_epoch rules search.root own block a other f.0 fails).line ∙ line)))
  one_block_fault rules behind own search rest block more a b (inr (due, (other, fails, line))) (inl g) =
      absurd (due.fails (g.1 ((one_in_epoch rules search.root own block b other g.0 fails).line ∙ line)))
  one_block_fault rules behind own search rest block more a b (inr (due, f)) (inr (again, g)) = one_due a b due again

  pub from_not_both : (rules : Rules) (next : ℕ) (before : Option ℕ) (owns : List OwnLines) (searches : List Search) (blocks : List Block) (fault : Fault)
      → AdmitsFrom delays rules before owns searches blocks
      → FailsFrom delays rules next before owns searches blocks fault → ⊥
  from_not_both rules next before [] searches blocks fault h f = f.fails h
  from_not_both rules next before (own ∷ owns) [] blocks fault h f = h
  from_not_both rules next before (own ∷ owns) (search ∷ rest) [] fault h f = h
  from_not_both rules next before (own ∷ owns) (search ∷ rest) (block ∷ more) fault h (inl f) = f.fails h.0
  from_not_both rules next before (own ∷ owns) (search ∷ rest) (block ∷ more) fault h (inr (inl f)) =
      block_fault_not rules (next + lines_in block) own search rest block more fault h.1 f.1
  from_not_both rules next before (own ∷ owns) (search ∷ rest) (block ∷ more) fault h (inr (inr f)) =
      from_not_both rules (next + lines_in block) (Some block.index) owns rest more fault h.2 f.2

  one_from : (rules : Rules) (next : ℕ) (before : Option ℕ) (owns : List OwnLines) (searches : List Search) (blocks : List Block) (a b : Fault)
      → FailsFrom delays rules next before owns searches blocks a
      → FailsFrom delays rules next before owns searches blocks b → AreSameFault a b
  one_from rules next before [] searches blocks a b f g = one_due a b f g
  one_from rules next before (own ∷ owns) [] blocks a b f g = one_due a b f g
  one_from rules next before (own ∷ owns) (search ∷ rest) [] a b f g = one_due a b f g
  one_from rules next before (own ∷ owns) (search ∷ rest) (block ∷ more) a b (inl f) (inl g) = one_due a b f g
  one_from rules next before (own ∷ owns) (search ∷ rest) (block ∷ more) a b (inl f) (inr (inl g)) = absurd (f.fails g.0)
  one_from rules next before (own ∷ owns) (search ∷ rest) (block ∷ more) a b (inl f) (inr (inr g)) = absurd (f.fails g.0)
  one_from rules next before (own ∷ owns) (search ∷ rest) (block ∷ more) a b (inr (inl f)) (inl g) = absurd (g.fails f.0)
  one_from rules next before (own ∷ owns) (search ∷ rest) (block ∷ more) a b (inr (inl f)) (inr (inl g)) =
      one_block_fault rules (next + lines_in block) own search rest block more a b f.1 g.1
  one_from rules next before (own ∷ owns) (search ∷ rest) (block ∷ more) a b (inr (inl f)) (inr (inr g)) =
      absurd (block_fault_not rules (next + lines_in block) own search rest block more a g.1 f.1)
  one_from rules next before (own ∷ owns) (search ∷ rest) (block ∷ more) a b (inr (inr f)) (inl g) = absurd (g.fails f.0)
  one_from rules next before (own ∷ owns) (search ∷ rest) (block ∷ more) a b (inr (inr f)) (inr (inl g)) =
      absurd (block_fault_not rules (next + lines_in block) own search rest block more b f.1 g.1)
  one_from rules next before (own ∷ owns) (search ∷ rest) (block ∷ more) a b (inr (inr f)) (inr (inr g)) =
      one_from rules (next + lines_in block) (Some block.index) owns rest more a b f.2 g.2

  -- ---- the log

  -- a log that is admitted by own lines has no fault for them
  pub not_both : (searches : List Search) (owns : List OwnLines) (rules : Rules) (log : LogValue) (fault : Fault)
      → FailsFirst delays searches owns rules log fault → Admits delays searches owns rules log → ⊥
  not_both searches owns rules log fault (inl f) h = f.differ h.same_rules
  not_both searches owns rules log fault (inr f) h = from_not_both rules 3 None owns searches log.blocks fault h.blocks f.1

  -- a first fault is the only one
  pub one_fault : (searches : List Search) (owns : List OwnLines) (rules : Rules) (log : LogValue) (a b : Fault)
      → FailsFirst delays searches owns rules log a → FailsFirst delays searches owns rules log b
      → AreSameFault a b
  one_fault searches owns rules log a b (inl f) (inl g) = same_plain a b (f.line ∙ sym g.line) (f.number ∙ sym g.number) f.no_spans g.no_spans
  one_fault searches owns rules log a b (inl f) (inr g) = absurd (f.differ g.0)
  one_fault searches owns rules log a b (inr f) (inl g) = absurd (g.differ f.0)
  one_fault searches owns rules log a b (inr f) (inr g) = one_from rules 3 None owns searches log.blocks a b f.1 g.1
