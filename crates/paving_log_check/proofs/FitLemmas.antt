-- Rows that hold own rows keep what fits the satellites, and what surely fits the rows fits the satellites.
use Rattle.std.proofs.Common.{◌≡◌, ℕ, zero, suc, ◌+◌, ◌<◌, ◌≤◌, arith, Bool, true, false, cond, List, [], ◌∷◌, ◌++◌, length, subst, inl, inr, refl, sym, ap, ◌∙◌, Option, None, Some}
use Rattle.std.specs.Prelude.{ℤ, pos, ◌-ℤ◌, ◌≤ℤ◌, slice_get, is_none}
use Rattle.std.specs.List.{AllByRecursion}
use Rattle.std.proofs.lemmas.Int.{ints}
use Rattle.std.proofs.lemmas.List.Sums.{sum_by-cons}
use Rattle.epoch_selection.specs.Searches.{Search, searches_in}
use Rattle.rinex_obs.specs.declared.obs.ObsEpoch.{ObsEpoch}
use Rattle.rinex_obs.specs.declared.obs.SatObs.{SatObs}
use Rattle.grid_model.specs.Boxes.{Side, GridBox, box_holds, span_side}
use Rattle.sat_model.specs.Cover.{SomeKeeps, IsSureInside, AreSureInside, AreSureFrom}
use Rattle.grid_model.specs.Ranges.{range_to}
use Rattle.sat_model.specs.Fitting.{RowValue, low_bounds, high_bounds, IsAllowed, IsSurelyAllowed, IsPossible, IsSure, AllBut}
use Rattle.sat_model.specs.Events.{Event, Made, Renewed, RowsOver, rows_over, steps_in, renewals_in}
use Rattle.sat_model.specs.Fold.{Subpaving, boxes_after, ShownStep, taken_by, pieces_from, pieces}
use Rattle.grid_model.specs.Intervals.{Between}
use Rattle.sat_model.specs.BoxTests.{test_in}
use Rattle.sat_model.specs.Logs.{Body, Block, is_few, rows_of}
use Rattle.sat_model.specs.Relaxed.{ends}
use Rattle.sat_model.specs.Renewals.{HoldsLive, LinesPass}
use Rattle.sat_model.specs.ShownBounds.{AreBoundsShown}
use Rattle.sat_model.specs.Stages.{Stage, first_stage, after}
use Rattle.sat_model.specs.Verdicts.{EventsPass}
use Rattle.grid_model.specs.SearchBoxes.{IsSearchBox}
use Rattle.grid_model.specs.declared.boxes.Pos.{Pos}
use Rattle.sat_model.specs.declared.rules.Rules.{Rules}
use Rattle.sat_model.specs.declared.rows.Row.{Row}
use Rattle.sat_model.specs.declared.rows.SatEntry.{SatEntry}
use Rattle.sat_model.specs.declared.rows.SatEntry.TheVariants as entry
use Rattle.gnss_model.specs.Delays.{is_plain}
use Rattle.gnss_model.specs.declared.delays.Delays.{Delays}
use Rattle.sat_model.specs.declared.steps.Step.{Step}
use Rattle.sat_model.specs.declared.steps.Step.TheVariants.{Cut, Split, Outside, Inside, Edge}
use Rattle.sat_model.proofs.CoverLemmas.{inside_holds, PossibleInEach, covers_each, epoch_cover, some_live}
use Rattle.sat_model.proofs.FoldLemmas.{weight, held_by, conserved, root_weight}
use Rattle.sat_rows.specs.Chains.{Chain}
use Rattle.sat_rows.specs.Fitting.{IsConsistent, Agrees, Fits, FitsEpoch}
use Rattle.sat_rows.specs.Meanings.{Meaning, IsSound}
use Rattle.sat_rows.specs.OwnRows.{HoldsChain, HasBounds, IsOwnRow, AreOwnLines, usable_in}
use Rattle.sat_rows.specs.declared.lines.SatLine.{SatLine}
use Rattle.sat_rows.specs.declared.lines.SatLine.TheVariants.{Usable, Skipped}
use Rattle.paving_log_check.specs.Admissible.{AdmitsFrom}
use Rattle.paving_log_check.specs.Epochs.{Counts, IsWhole, BodyPassesAt, EpochPasses}
use Rattle.paving_log_check.specs.FileCover.{FitsInside, AllFitInside, FitBodyCover, BlocksFitCover}
use Rattle.paving_log_check.specs.Lines.{expected, IsSameLine, HoldsSide, bounds_unless, HoldEach, HasBoundIf, HoldsOwn, HasBound, RowPasses, SatsPass}
use Rattle.paving_log_check.specs.OwnLines.{OwnLines, renewals_of, usable_of, AreOwnRows, AreRenewed, IsOwnOf, AreOwn, HaveEachRow, AreWhole}
use Rattle.paving_log_check.specs.Renewed.{HoldsGiven}
use Rattle.paving_log_check.proofs.BoundLemmas.{fit_bounds}
use Rattle.std.proofs.lemmas.Option.{same_Some as same_one}

-- ---- one row

within : (theirs ours : Side) (n : ℤ) → HoldsSide theirs ours → Between ours.lo ours.hi n
    → (theirs.lo ≤ℤ n) × (n ≤ℤ theirs.hi)
within theirs ours n h k = (omega (arith, ints, h.lo, k.from), omega (arith, ints, h.hi, k.to))

-- what the own row holds, the row holds
value_of : (delays : Delays) (row ours : Row) (c : Chain) → HoldsOwn delays row ours
    → HoldsChain ours c → RowValue row
value_of delays row ours c h k = record {
  x = c.x;
  y = c.y;
  z = c.z;
  measured = c.corrected;
  x_in = within (span_side row.x) (span_side ours.x) c.x h.0 k.x;
  y_in = within (span_side row.y) (span_side ours.y) c.y h.1.0 k.y;
  z_in = within (span_side row.z) (span_side ours.z) c.z h.1.1.0 k.z;
  measured_in = within (span_side row.range) (span_side ours.range) c.corrected h.1.1.1.0 k.corrected;
}

-- the row's ends of the error hold those of the own row
record HoldsBounds (row ours : Row) : Type 0 where
  pub low : HoldsSide (low_bounds row) (low_bounds ours)
  pub high : HoldsSide (high_bounds row) (high_bounds ours)

pub same_first : (a b c d : ℤ) → ◌≡◌ {A = ℤ × ℤ} (a, b) (c, d) → a ≡ c
same_first a b c d e = ap (λ (x : ℤ × ℤ). x.0) e

pub same_second : (a b c d : ℤ) → ◌≡◌ {A = ℤ × ℤ} (a, b) (c, d) → b ≡ d
same_second a b c d e = ap (λ (x : ℤ × ℤ). x.1) e

-- they are the same where both are the declared ones alone
same_bounds : (row ours : Row) (d : ℤ × ℤ) → HasBounds row (ends ours.err) → HasBounds ours d
    → HoldsBounds row ours
same_bounds row ours d theirs own =
    let lo = same_first row.err.lo row.err.hi ours.err.lo ours.err.hi theirs.err in
    let hi = same_second row.err.lo row.err.hi ours.err.lo ours.err.hi theirs.err in
    let sure = theirs.sure ∙ own.err ∙ sym own.sure in
    let sure_lo = same_first row.sure_lo row.sure_hi ours.sure_lo ours.sure_hi sure in
    let sure_hi = same_second row.sure_lo row.sure_hi ours.sure_lo ours.sure_hi sure in
    record {
      low = record { lo = omega (arith, ints, lo); hi = omega (arith, ints, sure_lo) };
      high = record { lo = omega (arith, ints, sure_hi); hi = omega (arith, ints, hi) };
    }

holds_by : (plain : Bool) (row ours : Row) (d : ℤ × ℤ) → HoldEach (bounds_unless plain row ours)
    → HasBoundIf plain row ours → (plain ≡ true → HasBounds ours d) → HoldsBounds row ours
holds_by true row ours d holds bound plain = same_bounds row ours d bound (plain refl)
holds_by false row ours d holds bound plain = record { low = holds.0; high = holds.1.0 }

holds_bounds : (delays : Delays) (row ours : Row) (d : ℤ × ℤ) → HoldsOwn delays row ours
    → HasBound delays row ours → (is_plain delays ≡ true → HasBounds ours d) → HoldsBounds row ours
holds_bounds delays row ours d holds bound plain = holds_by (is_plain delays) row ours d holds.1.1.1.1 bound plain

-- an error between ends that the own row holds is one that the row allows, and one that the row surely allows lies between them
allowed : (row ours : Row) (c : Chain) (b : ℤ) (s : ℕ) → HoldsBounds row ours → HoldsChain ours c
    → c.range ≡ s → Between c.lo c.hi (c.corrected -ℤ pos c.range -ℤ b)
    → IsAllowed row (c.corrected -ℤ pos s -ℤ b)
allowed row ours c b s h k same e =
    let moved : Between c.lo c.hi (c.corrected -ℤ pos s -ℤ b) = rw (sym same) e in
    (omega (arith, ints, h.low.lo, k.lo.from, moved.from), omega (arith, ints, h.high.hi, k.hi.to, moved.to))

surely_within : (row ours : Row) (c : Chain) (b : ℤ) (s : ℕ) → HoldsBounds row ours
    → HoldsChain ours c → c.range ≡ s → IsSurelyAllowed row (c.corrected -ℤ pos s -ℤ b)
    → Between c.lo c.hi (c.corrected -ℤ pos c.range -ℤ b)
surely_within row ours c b s h k same e =
    rw same (record { from = omega (arith, ints, h.low.hi, k.lo.to, e.0); to = omega (arith, ints, h.high.lo, k.hi.from, e.1) })

-- ---- the lines of a block against own lines, pair by pair

module _ (delays : Delays) where
  abbrev pub AreFair : SatEntry → SatLine → Type 0
  AreFair theirs ours = IsSameLine theirs ours × RowPasses delays theirs ours

  abbrev pub AllFair : List SatEntry → List SatLine → Type 0
  AllFair [] [] = Unit {0}
  AllFair [] (ours ∷ lines) = ⊥
  AllFair (theirs ∷ sats) [] = ⊥
  AllFair (theirs ∷ sats) (ours ∷ lines) = AreFair theirs ours × AllFair sats lines

  record FairAt (sats : List SatEntry) (lines : List SatLine) (k : ℕ) : Type 0 where
    pub theirs : SatEntry
    pub theirs_at : slice_get sats k ≡ Some theirs
    pub ours : SatLine
    pub ours_at : slice_get lines k ≡ Some ours
    pub fair : AreFair theirs ours

  fair_pair : (a b : SatEntry) (c d : SatLine) → a ≡ b → c ≡ d → AreFair b d → AreFair a c
  fair_pair a b c d e f h = rw (e, f) h

  all_fair : (sats : List SatEntry) (lines : List SatLine) → length lines ≤ length sats
      → ((k : ℕ) → k < length sats → FairAt sats lines k) → AllFair sats lines
  all_fair [] [] short each = tt
  all_fair [] (ours ∷ lines) short each = absurd (omega arith)
  all_fair (theirs ∷ sats) [] short each = absurd (let first = (each 0 (omega arith)).ours_at in cc)
  all_fair (theirs ∷ sats) (ours ∷ lines) short each =
      let first = each 0 (omega arith) in (
        fair_pair theirs first.theirs ours first.ours (same_one theirs first.theirs first.theirs_at) (same_one ours first.ours first.ours_at) first.fair,
        all_fair sats lines (omega arith) (λ k less.
            let later = each (suc k) (omega arith) in
            record { theirs = later.theirs; theirs_at = later.theirs_at; ours = later.ours; ours_at = later.ours_at; fair = later.fair }),
      )

  fair_at : (sats : List SatEntry) (lines : List SatLine) → SatsPass delays sats lines → (k : ℕ)
      → k < length sats → FairAt sats lines k
  fair_at sats lines pass k less =
      let p = pass k less in
      record { theirs = p.is_expected.theirs; theirs_at = p.is_expected.theirs_at; ours = p.is_expected.ours; ours_at = p.is_expected.ours_at; fair = (p.is_expected.same, p.passes) }

-- the lines of a paved block pass, and none is missing
pub fair_block : (delays : Delays) (block : Block) (body : Body) (lines : List SatLine)
    → block.body ≡ Some body
    → SatsPass delays block.sats (expected (is_few block) lines) → IsWhole lines block
    → AllFair delays block.sats lines
fair_block delays block body lines is sats whole =
    let few : is_few block ≡ false = ap is_none is in
    all_fair delays block.sats lines (rw few at whole) (fair_at delays block.sats lines (rw few at sats))

-- each row holds the own row in its place, and there are as many of both
abbrev pub AreHeld : Delays → List Row → List Row → Type 0
AreHeld delays [] [] = Unit {0}
AreHeld delays [] (ours ∷ given) = ⊥
AreHeld delays (row ∷ rows) [] = ⊥
AreHeld delays (row ∷ rows) (ours ∷ given) = (HoldsOwn delays row ours × HasBound delays row ours) × AreHeld delays rows given

-- the rows of the usable satellites among own lines
abbrev own_rows : List SatLine → List Row
own_rows [] = []
own_rows (Usable ours ∷ lines) = ours ∷ own_rows lines
own_rows (Skipped sat skip ∷ lines) = own_rows lines

fair_held : (delays : Delays) (sats : List SatEntry) (lines : List SatLine)
    → AllFair delays sats lines → AreHeld delays (rows_of sats) (own_rows lines)
fair_held delays [] [] fair = tt
fair_held delays [] (ours ∷ lines) fair = absurd fair
fair_held delays (theirs ∷ sats) [] fair = absurd fair
fair_held delays (entry.Row row ∷ sats) (Usable ours ∷ lines) fair = (fair.0.1, fair_held delays sats lines fair.1)
fair_held delays (entry.Row row ∷ sats) (Skipped sat skip ∷ lines) fair = absurd fair.0.0
fair_held delays (entry.Skipped sat skip ∷ sats) (Usable ours ∷ lines) fair = absurd fair.0.0
fair_held delays (entry.Skipped sat skip ∷ sats) (Skipped other why ∷ lines) fair = fair_held delays sats lines fair.1

-- ---- the lines of renewals

-- from renewal j on these rows are given
abbrev pub IsFrom : List (List Row) → ℕ → List (List Row) → Type 0
IsFrom renewed j left = (i : ℕ) → slice_get renewed (j + i) ≡ slice_get left i

pub from_next : (renewed : List (List Row)) (j : ℕ) (given : List Row) (left : List (List Row))
    → IsFrom renewed j (given ∷ left) → IsFrom renewed (suc j) left
from_next renewed j given left from i = subst (λ (k : ℕ). slice_get renewed k ≡ slice_get left i) (omega arith) (from (suc i))

pub given_first : (renewed : List (List Row)) (j : ℕ) (given : List Row) (left : List (List Row))
    → IsFrom renewed j (given ∷ left) → slice_get renewed j ≡ Some given
given_first renewed j given left from = subst (λ (k : ℕ). slice_get renewed k ≡ Some given) (omega arith) (from 0)

-- the lines from number i on hold what is given from there on
lines_held : (delays : Delays) (renewed : List (List Row)) (first : RowsOver) (j i : ℕ) (rows all given : List Row)
    → slice_get renewed j ≡ Some all
    → ((k : ℕ) → slice_get all (i + k) ≡ slice_get given k) → length given ≡ length rows
    → LinesPass (HoldsGiven delays renewed) first j i rows → AreHeld delays rows given
lines_held delays renewed first j i [] all [] is from same pass = tt
lines_held delays renewed first j i [] all (ours ∷ given) is from same pass = absurd (omega (arith, same))
lines_held delays renewed first j i (row ∷ rows) all [] is from same pass = absurd (omega (arith, same))
lines_held delays renewed first j i (row ∷ rows) all (ours ∷ given) is from same pass = (
  pass.0.1 ours (all, is, subst (λ (k : ℕ). slice_get all k ≡ Some ours) (omega arith) (from 0)),
  lines_held delays renewed first j (suc i) rows all given is
      (λ k. subst (λ (n : ℕ). slice_get all n ≡ slice_get given k) (omega arith) (from (suc k))) (omega (arith, same)) pass.1,
)

renewal_held : (delays : Delays) (renewed : List (List Row)) (first : RowsOver) (j : ℕ) (rows given : List Row)
    → slice_get renewed j ≡ Some given
    → length given ≡ length rows → LinesPass (HoldsGiven delays renewed) first j 0 rows
    → AreHeld delays rows given
renewal_held delays renewed first j rows given is same pass =
    lines_held delays renewed first j 0 rows given given is (λ k. ap (slice_get given) (omega arith)) same pass

-- ---- all but q

one_more : {A : Type 0} (q : ℕ) (Meets : A → Type 0) (xs : List A) → AllBut q Meets xs
    → AllBut (suc q) Meets xs
one_more q Meets [] h = tt
one_more zero Meets (x ∷ xs) h = inl (h.0, one_more zero Meets xs h.1)
one_more (suc q) Meets (x ∷ xs) h = elim h [
  | inl here ↦ inl (here.0, one_more (suc q) Meets xs here.1)
  | inr later ↦ inr (one_more q Meets xs later)
]

-- ---- live boxes

-- the box holds each point that a live box holds
abbrev HoldsLivePoints : GridBox → Subpaving → Type 0
HoldsLivePoints over boxes = (p : Pos) → 0 < weight p boxes.live → box_holds over p ≡ true

holds_renewed : (root : GridBox) (boxes : Subpaving) (part : GridBox) → HoldsLive root boxes part
    → HoldsLivePoints part boxes
holds_renewed root boxes part h p some =
    let (id, live, is, inside) = some_live p boxes.live some in
    inside_holds live part p (h.each_live id live is) inside

held_in_root : (n : ℕ) (t : Bool) → n ≡ cond t 1 0 → 0 < n → t ≡ true
held_in_root n true e some = refl
held_in_root n false e some = absurd (omega arith)

module _ (m : Meaning) (sound : IsSound m) (root : GridBox) (box : IsSearchBox root) (tag : ℤ) where
  -- ---- one row over a box

  bounds_held : (over : GridBox) (row ours : Row) (seen : SatObs) → HoldsOwn m.delays row ours
      → HasBound m.delays row ours → IsOwnRow m over tag seen ours → HoldsBounds row ours
  bounds_held over row ours seen holds bound own = holds_bounds m.delays row ours (m.declared seen.sat) holds bound own.plain

  possible : (over : GridBox) (row ours : Row) (seen : SatObs) (p : Pos) (b : ℤ)
      → HoldsOwn m.delays row ours → HasBound m.delays row ours → IsOwnRow m over tag seen ours
      → box_holds over p ≡ true → IsConsistent m root tag p b seen → IsPossible p b row
  unfolding value_of
  possible over row ours seen p b holds bound own inside k =
      let held = own.holds p k.values inside k.are in
      record {
        value = value_of m.delays row ours k.values holds held;
        allowed = allowed row ours k.values b (range_to k.values.x k.values.y k.values.z p) (bounds_held over row ours seen holds bound own) held
            (sound.range_is tag seen p k.values k.are) k.within;
      }

  consistent : (over : GridBox) (row ours : Row) (seen : SatObs) (p : Pos) (b : ℤ)
      → HoldsOwn m.delays row ours → HasBound m.delays row ours → IsOwnRow m over tag seen ours
      → box_holds over p ≡ true → box_holds root p ≡ true → m.judged root tag seen None
      → IsSure p b row → IsConsistent m root tag p b seen
  unfolding value_of
  consistent over row ours seen p b holds bound own inside within usable sure =
      let (c, are) = sound.allowed_exists root tag seen p box within usable in
      let held = own.holds p c inside are in
      let v = value_of m.delays row ours c holds held in
      record {
        values = c;
        are = are;
        within = surely_within row ours c b (range_to c.x c.y c.z p) (bounds_held over row ours seen holds bound own) held (sound.range_is tag seen p c are) (sure v);
      }

  -- ---- the usable satellites, and rows over a box

  possible_rows : (over : GridBox) (q : ℕ) (p : Pos) (b : ℤ) (sats : List SatObs) (rows given : List Row)
      → AreHeld m.delays rows given → AreOwnRows m over tag sats given
      → box_holds over p ≡ true → AllBut q (IsConsistent m root tag p b) sats
      → AllBut q (IsPossible p b) rows
  possible_rows over q p b sats [] given held own inside h = tt
  possible_rows over q p b sats (row ∷ rows) [] held own inside h = absurd held
  possible_rows over q p b [] (row ∷ rows) (ours ∷ given) held own inside h = absurd own
  possible_rows over zero p b (seen ∷ sats) (row ∷ rows) (ours ∷ given) held own inside h =
      (possible over row ours seen p b held.0.0 held.0.1 own.0 inside h.0, possible_rows over zero p b sats rows given held.1 own.1 inside h.1)
  possible_rows over (suc q) p b (seen ∷ sats) (row ∷ rows) (ours ∷ given) held own inside h = elim h [
    | inl here ↦ inl (possible over row ours seen p b held.0.0 held.0.1 own.0 inside here.0, possible_rows over (suc q) p b sats rows given held.1 own.1 inside here.1)
    | inr later ↦ inr (possible_rows over q p b sats rows given held.1 own.1 inside later)
  ]

  sure_rows : (over : GridBox) (q : ℕ) (p : Pos) (b : ℤ) (sats : List SatObs) (rows given : List Row)
      → AreHeld m.delays rows given → AreOwnRows m over tag sats given
      → length given ≡ length sats → AllByRecursion (λ seen. m.judged root tag seen None) sats
      → box_holds over p ≡ true → box_holds root p ≡ true → AllBut q (IsSure p b) rows
      → AllBut q (IsConsistent m root tag p b) sats
  sure_rows over q p b [] rows given held own same usable inside within h = tt
  sure_rows over q p b (seen ∷ sats) rows [] held own same usable inside within h = absurd (omega (arith, same))
  sure_rows over q p b (seen ∷ sats) [] (ours ∷ given) held own same usable inside within h = absurd held
  sure_rows over zero p b (seen ∷ sats) (row ∷ rows) (ours ∷ given) held own same usable inside within h = (
    consistent over row ours seen p b held.0.0 held.0.1 own.0 inside within usable.0 h.0,
    sure_rows over zero p b sats rows given held.1 own.1 (omega (arith, same)) usable.1 inside within h.1,
  )
  sure_rows over (suc q) p b (seen ∷ sats) (row ∷ rows) (ours ∷ given) held own same usable inside within h = elim h [
    | inl here ↦ inl (
      consistent over row ours seen p b held.0.0 held.0.1 own.0 inside within usable.0 here.0,
      sure_rows over (suc q) p b sats rows given held.1 own.1 (omega (arith, same)) usable.1 inside within here.1,
    )
    | inr later ↦ inr (sure_rows over q p b sats rows given held.1 own.1 (omega (arith, same)) usable.1 inside within later)
  ]

  -- ---- own lines

  lines_own : (seens : List SatObs) (lines : List SatLine) → AreOwnLines m root tag seens lines
      → AreOwnRows m root tag (usable_of seens lines) (own_rows lines)
  lines_own [] [] own = tt
  lines_own [] (line ∷ lines) own = absurd own
  lines_own (seen ∷ seens) [] own = absurd own
  lines_own (seen ∷ seens) (Usable ours ∷ lines) own = (own.0.2, lines_own seens lines own.1)
  lines_own (seen ∷ seens) (Skipped sat skip ∷ lines) own = lines_own seens lines own.1

  usable_judged : (seens : List SatObs) (lines : List SatLine) → AreOwnLines m root tag seens lines
      → AllByRecursion (λ seen. m.judged root tag seen None) (usable_of seens lines)
  usable_judged [] lines own = tt
  usable_judged (seen ∷ seens) [] own = tt
  usable_judged (seen ∷ seens) (Usable ours ∷ lines) own = (own.0.1, usable_judged seens lines own.1)
  usable_judged (seen ∷ seens) (Skipped sat skip ∷ lines) own = usable_judged seens lines own.1

  usable_many : (seens : List SatObs) (lines : List SatLine) → AreOwnLines m root tag seens lines
      → length (usable_of seens lines) ≡ usable_in lines
  usable_many [] [] own = refl
  usable_many [] (line ∷ lines) own = absurd own
  usable_many (seen ∷ seens) [] own = absurd own
  usable_many (seen ∷ seens) (Usable ours ∷ lines) own = omega (arith, usable_many seens lines own.1)
  usable_many (seen ∷ seens) (Skipped sat skip ∷ lines) own = omega (arith, usable_many seens lines own.1)

  agreed : (seen : SatObs) (p : Pos) (b : ℤ) → m.judged root tag seen None
      → Agrees m root tag p b seen → IsConsistent m root tag p b seen
  agreed seen p b usable a = elim a [
    | inl skipped ↦ absurd (let e = sound.one_judgement root tag seen None (Some skipped.0) usable skipped.1 in cc)
    | inr k ↦ k
  ]

  -- what fits all satellites but at most q fits the usable ones
  usable_fit : (q : ℕ) (p : Pos) (b : ℤ) (seens : List SatObs) (lines : List SatLine)
      → AreOwnLines m root tag seens lines
      → Fits m root tag q p b seens → AllBut q (IsConsistent m root tag p b) (usable_of seens lines)
  usable_fit q p b [] lines own h = tt
  usable_fit q p b (seen ∷ seens) [] own h = absurd own
  usable_fit zero p b (seen ∷ seens) (Usable ours ∷ lines) own h = (agreed seen p b own.0.1 h.0, usable_fit zero p b seens lines own.1 h.1)
  usable_fit (suc q) p b (seen ∷ seens) (Usable ours ∷ lines) own h = elim h [
    | inl here ↦ inl (agreed seen p b own.0.1 here.0, usable_fit (suc q) p b seens lines own.1 here.1)
    | inr later ↦ inr (usable_fit q p b seens lines own.1 later)
  ]
  usable_fit zero p b (seen ∷ seens) (Skipped sat skip ∷ lines) own h = usable_fit zero p b seens lines own.1 h.1
  usable_fit (suc q) p b (seen ∷ seens) (Skipped sat skip ∷ lines) own h = elim h [
    | inl here ↦ usable_fit (suc q) p b seens lines own.1 here.1
    | inr later ↦ one_more q (IsConsistent m root tag p b) (usable_of seens lines) (usable_fit q p b seens lines own.1 later)
  ]

  -- and back
  fits_usable : (q : ℕ) (p : Pos) (b : ℤ) (seens : List SatObs) (lines : List SatLine)
      → AreOwnLines m root tag seens lines
      → AllBut q (IsConsistent m root tag p b) (usable_of seens lines) → Fits m root tag q p b seens
  fits_usable q p b [] lines own h = tt
  fits_usable q p b (seen ∷ seens) [] own h = absurd own
  fits_usable zero p b (seen ∷ seens) (Usable ours ∷ lines) own h = (inr h.0, fits_usable zero p b seens lines own.1 h.1)
  fits_usable (suc q) p b (seen ∷ seens) (Usable ours ∷ lines) own h = elim h [
    | inl here ↦ inl (inr here.0, fits_usable (suc q) p b seens lines own.1 here.1)
    | inr later ↦ inr (fits_usable q p b seens lines own.1 later)
  ]
  fits_usable zero p b (seen ∷ seens) (Skipped sat skip ∷ lines) own h = (inl (skip, own.0.1), fits_usable zero p b seens lines own.1 h)
  fits_usable (suc q) p b (seen ∷ seens) (Skipped sat skip ∷ lines) own h = inl (inl (skip, own.0.1), fits_usable (suc q) p b seens lines own.1 h)

  -- ---- an epoch, by its usable satellites and the own rows that are given for its renewals

  module _ (renewed : List (List Row)) (first : RowsOver) (rules : Rules) (done : ℕ) (sats : List SatObs)
      (usable : AllByRecursion (λ seen. m.judged root tag seen None) sats) where
    -- what all usable satellites but at most q are consistent with is possible by the rows of each renewal
    each_possible : (q : ℕ) (p : Pos) (b : ℤ) (j : ℕ) (stage : Stage) (events : List Event) (left : List (List Row))
        → EventsPass (HoldsGiven m.delays renewed) first rules done j stage events
        → IsFrom renewed j left
        → AreRenewed m tag sats (renewals_in events) left → HaveEachRow (renewals_in events) left
        → AllBut q (IsConsistent m root tag p b) sats → PossibleInEach q p b (renewals_in events)
    each_possible q p b j stage [] left pass from own whole h = tt
    each_possible q p b j stage (Made step ∷ events) left pass from own whole h = each_possible q p b j (after stage (Made step)) events left pass.1 from own whole h
    each_possible q p b j stage (Renewed new ∷ events) [] pass from own whole h = absurd whole
    each_possible q p b j stage (Renewed new ∷ events) (given ∷ left) pass from own whole h = (
      λ inside. possible_rows new.part q p b sats new.rows given
          (renewal_held m.delays renewed first j new.rows given (given_first renewed j given left from) whole.0 pass.0.lines) own.0 inside h,
      each_possible q p b (suc j) (after stage (Renewed new)) events left pass.1 (from_next renewed j given left from) own.1 whole.1 h,
    )

    -- by rows over a box that hold own rows
    record IsInUse (over : GridBox) (rows : List Row) (boxes : Subpaving) : Type 0 where
      pub given : List Row
      pub held : AreHeld m.delays rows given
      pub own : AreOwnRows m over tag sats given
      pub many : length given ≡ length sats
      pub live : HoldsLivePoints over boxes
      pub within : (p : Pos) → box_holds over p ≡ true → box_holds root p ≡ true

    module _ (q : ℕ) (seens : List SatObs) (Same : (p : Pos) (b : ℤ) → AllBut q (IsConsistent m root tag p b) sats → Fits m root tag q p b seens) where
      fit_step : (over : GridBox) (rows : List Row) (boxes : Subpaving) (step : Step) (part : GridBox)
          → IsInUse over rows boxes
          → ((p : Pos) → box_holds part p ≡ true → 0 < weight p boxes.live)
          → IsSureInside rows q step part
          → FitsInside (λ p b. Fits m root tag q p b seens) step part
      fit_step over rows boxes (Cut id face bound) part by live h = tt
      fit_step over rows boxes (Split id axis) part by live h = tt
      fit_step over rows boxes (Outside id) part by live h = tt
      fit_step over rows boxes (Inside id clock lo hi) part by live h = λ p holds.
          let inside = by.live p (live p holds) in
          Same p clock (sure_rows over q p clock sats rows by.given by.held by.own by.many usable inside (by.within p inside) (h p holds))
      fit_step over rows boxes (Edge id lo hi) part by live h = tt

      fit_steps : (over : GridBox) (rows : List Row) (boxes : Subpaving) (parts : List ShownStep)
          → IsInUse over rows boxes
          → ((p : Pos) → held_by p parts ≤ weight p boxes.live)
          → AreSureInside rows q parts → AllFitInside (λ p b. Fits m root tag q p b seens) parts
      fit_steps over rows boxes [] by few h = tt
      fit_steps over rows boxes (piece ∷ more) by few h = (
        fit_step over rows boxes piece.step piece.part by (λ p holds. held_here p piece more (few p) holds) h.0,
        fit_steps over rows boxes more by (λ p. omega (arith, few p, sum_by-cons (λ (piece : ShownStep). cond (box_holds piece.part p) 1 0) piece more)) h.1,
      )
        where
          held_here : {n : ℕ} (p : Pos) (piece : ShownStep) (more : List ShownStep)
              → held_by p (piece ∷ more) ≤ n → box_holds piece.part p ≡ true → 0 < n
          held_here p piece more few holds =
              let counted = sum_by-cons (λ (piece : ShownStep). cond (box_holds piece.part p) 1 0) piece more in
              let here : ◌≡◌ {A = ℕ} (cond (box_holds piece.part p) 1 0) 1 = rw holds refl in
              omega (arith, counted, here, few)

      both_fit : (parts more : List ShownStep)
          → AllFitInside (λ p b. Fits m root tag q p b seens) parts
          → AllFitInside (λ p b. Fits m root tag q p b seens) more
          → AllFitInside (λ p b. Fits m root tag q p b seens) (parts ++ more)
      both_fit [] more h k = k
      both_fit (piece ∷ parts) more h k = (h.0, both_fit parts more h.1 k)

      fit_events : (over : GridBox) (rows : List Row) (j : ℕ) (stage : Stage) (events : List Event) (left : List (List Row))
          → EventsPass (HoldsGiven m.delays renewed) first rules done j stage events
          → IsFrom renewed j left
          → AreRenewed m tag sats (renewals_in events) left → HaveEachRow (renewals_in events) left
          → AllByRecursion (λ new. length new.rows ≡ length sats) (renewals_in events)
          → ((p : Pos) → box_holds first.part p ≡ true → box_holds root p ≡ true)
          → IsInUse over rows stage.boxes → AreSureFrom q rows stage.boxes events
          → AllFitInside (λ p b. Fits m root tag q p b seens) (pieces_from stage.boxes (steps_in events))
      fit_events over rows j stage [] left pass from own whole many inside by sure = tt
      fit_events over rows j stage (Made step ∷ events) left pass from own whole many inside by sure =
          let kept = λ (p : Pos). conserved rules stage step p pass.0 in
          both_fit (taken_by stage.boxes step) (pieces_from (boxes_after stage.boxes step) (steps_in events))
          (fit_steps over rows stage.boxes (taken_by stage.boxes step) by (λ p. omega (arith, kept p)) sure.0)
          (fit_events over rows j (after stage (Made step)) events left pass.1 from own whole many inside
          (record {
            given = by.given;
            held = by.held;
            own = by.own;
            many = by.many;
            live = λ p some. by.live p (omega (arith, kept p, some));
            within = by.within;
          }) sure.1)
      fit_events over rows j stage (Renewed new ∷ events) [] pass from own whole many inside by sure = absurd whole
      fit_events over rows j stage (Renewed new ∷ events) (given ∷ left) pass from own whole many inside by sure =
          fit_events new.part new.rows (suc j) (after stage (Renewed new)) events left pass.1 (from_next renewed j given left from) own.1 whole.1 many.1 inside
          (record {
            given = given;
            held = renewal_held m.delays renewed first j new.rows given (given_first renewed j given left from) whole.0 pass.0.lines;
            own = own.0;
            many = omega (arith, whole.0, many.0);
            live = holds_renewed first.part stage.boxes new.part pass.0.holds;
            within = λ p holds. inside p (inside_holds new.part first.part p pass.0.holds.in_root holds);
          }) sure

  -- ---- a block

  module _ (rules : Rules) (block : Block) (lines : List SatLine) (renewed : List (List Row)) (seens : List SatObs)
      (own : AreOwnLines m root tag seens lines) (fair : AllFair m.delays block.sats lines) (counts : Counts lines block) where
    body_cover : (body : Body) → block.body ≡ Some body
        → BodyPassesAt m.delays rules root renewed block (Some body)
        → AreRenewed m tag (usable_of seens lines) (renewals_in body.events) renewed
        → HaveEachRow (renewals_in body.events) renewed
        → FitBodyCover (λ p b. Fits m root tag rules.outliers p b seens) root (Some body)
    body_cover body is passes given whole =
        let firsts = rows_of block.sats in
        let usable = usable_of seens lines in
        let judged = usable_judged seens lines own in
        let held = fair_held m.delays block.sats lines fair in
        let over = lines_own seens lines own in
        let events : EventsPass (HoldsGiven m.delays renewed) (rows_over root firsts) rules body.done 0 (first_stage (test_in rules block) root) body.events = rw passes.0 at passes.1.events in
        let cover = epoch_cover (HoldsGiven m.delays renewed) rules body.done (test_in rules block) root body.events events in
        let start : IsFrom renewed 0 renewed = λ i. ap (slice_get renewed) (omega arith) in
        let fits = fit_events renewed (rows_over root firsts) rules body.done usable judged rules.outliers seens
        (λ p b h. fits_usable rules.outliers p b seens lines own h)
        root firsts 0 (first_stage (test_in rules block) root) body.events renewed events start given whole
        (each_many body is) (λ p h. h)
        (record {
          given = own_rows lines;
          held = held;
          own = over;
          many = rows_many seens lines own;
          live = λ p some. held_in_root (weight p (Some root ∷ [])) (box_holds root p) (root_weight root p) some;
          within = λ p h. h;
        }) cover.sure in
        let each : (p : Pos) (b : ℤ) → Fits m root tag rules.outliers p b seens → PossibleInEach rules.outliers p b (rows_over root firsts ∷ renewals_in body.events) =
        λ p b fit.
        let all = usable_fit rules.outliers p b seens lines own fit in (
          λ in_root. possible_rows root rules.outliers p b usable firsts (own_rows lines) held over in_root all,
          each_possible renewed (rows_over root firsts) rules body.done usable judged rules.outliers p b 0 (first_stage (test_in rules block) root) body.events renewed events start given whole all,
        ) in
        let covers : (p : Pos) (b : ℤ) → box_holds root p ≡ true → Fits m root tag rules.outliers p b seens → SomeKeeps p b (pieces root (steps_in body.events)) =
        λ p b inside fit. covers_each (HoldsGiven m.delays renewed) rules body.done (test_in rules block) root body.events events p b inside (each p b fit) in
        record {
          epoch = record { partition = cover.partition; covers = covers; fits_inside = fits };
          bounded = fit_bounds rules.outliers (rows_over root firsts) body.events (λ p b. Fits m root tag rules.outliers p b seens) each covers body.bounds
              (subst (λ (part : GridBox). AreBoundsShown rules.outliers (rows_over part firsts) body.events body.bounds) passes.0 passes.1.bounds);
        }
      where
        rows_many : (seens : List SatObs) (lines : List SatLine)
            → AreOwnLines m root tag seens lines
            → length (own_rows lines) ≡ length (usable_of seens lines)
        rows_many [] [] own = refl
        rows_many [] (line ∷ lines) own = absurd own
        rows_many (seen ∷ seens) [] own = absurd own
        rows_many (seen ∷ seens) (Usable ours ∷ lines) own = omega (arith, rows_many seens lines own.1)
        rows_many (seen ∷ seens) (Skipped sat skip ∷ lines) own = rows_many seens lines own.1

        each_many : (body : Body) → block.body ≡ Some body
            → AllByRecursion (λ new. length new.rows ≡ length (usable_of seens lines)) (renewals_in body.events)
        each_many body is =
            let many = usable_many seens lines own in
            let all : AllByRecursion (λ new. length new.rows ≡ block.n) (renewals_in body.events) = rw is at counts.renewed in
            subst (λ (n : ℕ). AllByRecursion (λ new. length new.rows ≡ n) (renewals_in body.events)) (counts.usable ∙ sym many) all

  block_cover : (rules : Rules) (block : Block) (body : Option Body) (own : OwnLines) (seens : List SatObs)
      → block.body ≡ body
      → EpochPasses m.delays rules root own block → AreOwnLines m root tag seens own.lines
      → AreRenewed m tag (usable_of seens own.lines) (renewals_of body) own.renewed
      → HaveEachRow (renewals_of body) own.renewed
      → FitBodyCover (λ p b. Fits m root tag rules.outliers p b seens) root body
  block_cover rules block None own seens is passes are given whole = tt
  block_cover rules block (Some body) own seens is passes are given whole =
      let fair = fair_block m.delays block body own.lines is passes.sats passes.whole in
      body_cover rules block own.lines own.renewed seens are fair passes.counts body is
      (subst (λ (o : Option Body). BodyPassesAt m.delays rules root own.renewed block o) is passes.body) given whole

-- each search is in a search box
abbrev pub AreInBoxes : List Search → Type 0
AreInBoxes searches = AllByRecursion (λ search. IsSearchBox search.root) searches

pub all_in_box : (root : GridBox) (epochs : List ObsEpoch) → IsSearchBox root
    → AreInBoxes (searches_in root epochs)
all_in_box root [] box = tt
all_in_box root (epoch ∷ more) box = (box, all_in_box root more box)

-- a log that is admitted by own lines of each search, which are all given, covers what fits
module _ (m : Meaning) (sound : IsSound m) where
  search_cover : (rules : Rules) (search : Search) → IsSearchBox search.root
      → (block : Block) (own : OwnLines)
      → EpochPasses m.delays rules search.root own block
      → IsOwnOf m search (renewals_of block.body) own
      → HaveEachRow (renewals_of block.body) own.renewed
      → FitBodyCover (FitsEpoch m rules.outliers search.root search.epoch) search.root block.body
  search_cover rules search box block own passes are whole =
      block_cover m sound search.root box search.epoch.tag rules block block.body own search.epoch.sats.items refl passes are.lines are.renewed whole

  pub fit_all : (rules : Rules) (before : Option ℕ) (owns : List OwnLines) (searches : List Search) (blocks : List Block)
      → AreInBoxes searches
      → AdmitsFrom m.delays rules before owns searches blocks → AreOwn m searches blocks owns
      → AreWhole owns blocks → length owns ≡ length searches
      → BlocksFitCover m rules.outliers searches blocks
  fit_all rules before [] [] [] boxes admits are whole each = tt
  fit_all rules before [] [] (block ∷ blocks) boxes admits are whole each = absurd admits
  fit_all rules before [] (search ∷ rest) blocks boxes admits are whole each = absurd (omega (arith, each))
  fit_all rules before (own ∷ owns) [] blocks boxes admits are whole each = absurd are
  fit_all rules before (own ∷ owns) (search ∷ rest) [] boxes admits are whole each = absurd admits
  fit_all rules before (own ∷ owns) (search ∷ rest) (block ∷ blocks) boxes admits are whole each = (
    search_cover rules search boxes.0 block own admits.1 are.0 whole.0,
    fit_all rules (Some block.index) owns rest blocks boxes.1 admits.2 are.1 whole.1 (omega (arith, each)),
  )
