-- A fault with number 53 is that of a row which is too narrow.
use Rattle.std.proofs.Common.{◌≡◌, ℕ, zero, suc, ◌+◌, arith, Bool, true, false, List, [], ◌∷◌, map, inl, inr, refl, sym, ap, subst, Option, None, Some, ◌∙◌}
use Rattle.std.specs.Prelude.{ℤ, pos, ◌-ℤ◌, ◌≤ℤ◌, Contains, slice_get}
use Rattle.std.proofs.lemmas.Int.{ints}
use Rattle.epoch_selection.specs.Searches.{Search}
use Rattle.rinex_obs.specs.declared.obs.SatObs.{SatObs}
use Rattle.grid_model.specs.Boxes.{Side, GridBox, span_side}
use Rattle.sat_model.specs.Fitting.{low_bounds, high_bounds}
use Rattle.sat_model.specs.Events.{Event, Made, Renewed, RowsOver, renewals_in}
use Rattle.sat_model.specs.Fold.{Subpaving}
use Rattle.sat_model.specs.Stages.{Stage, first_stage, after}
use Rattle.grid_model.specs.Intervals.{Between}
use Rattle.sat_model.specs.BoxTests.{test_in}
use Rattle.sat_model.specs.Logs.{Body, Block, is_few, rows_of, first_rows, lines_in}
use Rattle.sat_model.specs.Renewals.{IsOfPlace, LineFails, LinesFail, RenewalFails}
use Rattle.grid_model.specs.Lengths.{spare_of}
use Rattle.sat_model.specs.Verdicts.{StepFails, DoneFails, EventsFail}
use Rattle.gnss_model.specs.Delays.{is_plain, err_spare_of}
use Rattle.sat_model.specs.declared.rules.Rules.{Rules}
use Rattle.sat_model.specs.declared.rows.Row.{Row}
use Rattle.sat_model.specs.declared.rows.SatEntry.{SatEntry}
use Rattle.sat_model.specs.declared.rows.SatEntry.TheVariants as entry
use Rattle.sat_model.specs.declared.steps.Step.{Step}
use Rattle.sat_model.specs.declared.steps.Step.TheVariants.{Cut, Split, Outside, Inside, Edge}
use Rattle.sat_rows.specs.Chains.{Chain}
use Rattle.sat_rows.specs.Meanings.{Meaning}
use Rattle.sat_rows.specs.OwnRows.{HoldsChain, IsOwnRow, AreOwnLines, AreLinesOf}
use Rattle.sat_rows.specs.declared.lines.SatLine.{SatLine}
use Rattle.sat_rows.specs.declared.lines.SatLine.TheVariants.{Usable, Skipped}
use Rattle.paving_log_check.specs.Admissible.{FailsFrom}
use Rattle.paving_log_check.specs.Epochs.{EpochFails}
use Rattle.paving_log_check.specs.Lines.{skipped_in, expected, HoldsSide, bounds_unless, compared, IsFirstNarrow, IsSameLine, RowFails}
use Rattle.paving_log_check.specs.Narrow.{values, HoldsAround, IsTooNarrow, HasNarrowRow, HasNarrowBlock}
use Rattle.paving_log_check.specs.OwnLines.{OwnLines, renewals_of, usable_of, AreOwnRows, AreRenewed, IsOwnOf, AreOwn}
use Rattle.paving_log_check.specs.Renewed.{own_tests}
use Rattle.paving_log_check.specs.declared.verdict.Fault.{Fault}
use Rattle.paving_log_check.proofs.FitLemmas.{AllFair, fair_block, IsFrom, from_next, given_first}
use Rattle.std.proofs.lemmas.Option.{same_Some as same_item}

-- ---- a side

-- it is at most so wide, and holds the number
record IsTightRound (spare : ℕ) (side : Side) (n : ℤ) : Type 0 where
  pub tight : (side.hi -ℤ side.lo) ≤ℤ pos spare
  pub held : Between side.lo side.hi n

-- so it lies within as much of the number
around_holds : (theirs ours : Side) (n : ℤ) (spare : ℕ) → IsTightRound spare ours n
    → HoldsAround spare theirs n → HoldsSide theirs ours
around_holds theirs ours n spare round around = record {
  lo = omega (arith, ints, round.tight, round.held.to, around.lo);
  hi = omega (arith, ints, round.tight, round.held.from, around.hi);
}

record NarrowAt (pairs : List (Side × Side)) (theirs ours : Side) : Type 0 where
  pub place : ℕ
  pub shown : slice_get pairs place ≡ Some (theirs, ours)
  pub narrow : HoldsSide theirs ours → ⊥

narrow_at : (pairs : List (Side × Side)) (theirs ours : Side) → IsFirstNarrow pairs theirs ours
    → NarrowAt pairs theirs ours
narrow_at [] theirs ours f = absurd f
narrow_at (pair ∷ more) theirs ours (inl f) = rw (f.1, f.2) (record { place = 0; shown = refl; narrow = f.0 })
narrow_at (pair ∷ more) theirs ours (inr f) =
    let later = narrow_at more theirs ours f.1 in
    record { place = suc later.place; shown = later.shown; narrow = later.narrow }

-- what stands in a place is the side there, and the value there with its spare
abbrev IsShown : Side → Side → Side → Side → Type 0
IsShown a b theirs ours = ◌≡◌ {A = Option (Side × Side)} (Some (a, b)) (Some (theirs, ours))

abbrev IsKnown : ℤ → ℕ → ℤ → ℕ → Type 0
IsKnown value width n spare = ◌≡◌ {A = Option (ℤ × ℕ)} (Some (value, width)) (Some (n, spare))

tight_round : (a b theirs ours : Side) (value n : ℤ) (width spare : ℕ) → IsTightRound width b value
    → IsShown a b theirs ours → IsKnown value width n spare → IsTightRound spare ours n
tight_round a b theirs ours value n width spare round shown known =
    let pair = same_item (a, b) (theirs, ours) shown in
    let both = same_item (value, width) (n, spare) known in
    let same : b ≡ ours = ap (λ (x : Side × Side). x.1) pair in
    let is : value ≡ n = ap (λ (x : ℤ × ℕ). x.0) both in
    let wide : width ≡ spare = ap (λ (x : ℤ × ℕ). x.1) both in
    rw (sym same, sym is, sym wide) round

abbrev bound_values : ℕ → Chain → List (ℤ × ℕ)
bound_values width c = (c.lo, width) ∷ (c.hi, width) ∷ []

-- the ends of the error, where they are compared
bounds_at : (plain : Bool) (width : ℕ) (row ours : Row) (theirs own : Side) (c : Chain) (n : ℤ) (spare place : ℕ)
    → (ours.sure_lo -ℤ ours.err.lo) ≤ℤ pos width → (ours.err.hi -ℤ ours.sure_hi) ≤ℤ pos width
    → HoldsChain ours c
    → slice_get (bounds_unless plain row ours) place ≡ Some (theirs, own)
    → slice_get (bound_values width c) place ≡ Some (n, spare) → IsTightRound spare own n
bounds_at true width row ours theirs own c n spare place low high holds shown value = absurd cc
bounds_at false width row ours theirs own c n spare zero low high holds shown value =
    tight_round (low_bounds row) (low_bounds ours) theirs own c.lo n width spare (record { tight = low; held = holds.lo }) shown value
bounds_at false width row ours theirs own c n spare (suc zero) low high holds shown value =
    tight_round (high_bounds row) (high_bounds ours) theirs own c.hi n width spare (record { tight = high; held = holds.hi }) shown value
bounds_at false width row ours theirs own c n spare (suc (suc place)) low high holds shown value = absurd cc

-- the own side in a place is tight round the value in the same place
module _ (m : Meaning) (root : GridBox) (tag : ℤ) (sat : SatObs) where
  held_at : (row ours : Row) (theirs own : Side) (c : Chain) (n : ℤ) (spare place : ℕ)
      → IsOwnRow m root tag sat ours → HoldsChain ours c
      → slice_get (compared m.delays row ours) place ≡ Some (theirs, own)
      → slice_get (values root m.delays c) place ≡ Some (n, spare) → IsTightRound spare own n
  held_at row ours theirs own c n spare zero is holds shown value =
      tight_round (span_side row.x) (span_side ours.x) theirs own c.x n (spare_of root) spare (record { tight = is.x; held = holds.x }) shown value
  held_at row ours theirs own c n spare (suc zero) is holds shown value =
      tight_round (span_side row.y) (span_side ours.y) theirs own c.y n (spare_of root) spare (record { tight = is.y; held = holds.y }) shown value
  held_at row ours theirs own c n spare (suc (suc zero)) is holds shown value =
      tight_round (span_side row.z) (span_side ours.z) theirs own c.z n (spare_of root) spare (record { tight = is.z; held = holds.z }) shown value
  held_at row ours theirs own c n spare (suc (suc (suc zero))) is holds shown value =
      tight_round (span_side row.range) (span_side ours.range) theirs own c.corrected n (spare_of root) spare (record { tight = is.range; held = holds.corrected }) shown value
  held_at row ours theirs own c n spare (suc (suc (suc (suc place)))) is holds shown value =
      bounds_at (is_plain m.delays) (err_spare_of root m.delays) row ours theirs own c n spare place is.bounds.low is.bounds.high holds shown value

too_narrow : (m : Meaning) (over : GridBox) (tag : ℤ) (sat : SatObs) (row ours : Row) (fault : Fault)
    → IsOwnRow m over tag sat ours
    → IsFirstNarrow (compared m.delays row ours) (span_side fault.theirs) (span_side fault.ours)
    → IsTooNarrow m over tag sat row ours fault
too_narrow m over tag sat row ours fault is first =
    let theirs = span_side fault.theirs in
    let own = span_side fault.ours in
    let at = narrow_at (compared m.delays row ours) theirs own first in
    record {
      place = at.place;
      shown = at.shown;
      narrow = at.narrow;
      around = λ p c n spare inside allowed value around.
          at.narrow (around_holds theirs own n spare
          (held_at m over tag sat row ours theirs own c n spare at.place is (is.holds p c inside allowed) at.shown value) around);
    }

-- ---- the number of another fault

step_number : (rules : Rules) (stage : Stage) (step : Step) (number : ℕ)
    → StepFails rules stage step number → number ≡ 53 → ⊥
step_number rules stage (Cut id face bound) number (inl f) e = absurd (omega (arith, f.1))
step_number rules stage (Cut id face bound) number (inr (part, live, not, is)) e = absurd (omega (arith, is))
step_number rules stage (Split id axis) number (inl f) e = absurd (omega (arith, f.1))
step_number rules stage (Split id axis) number (inr (inl (part, live, not, is))) e = absurd (omega (arith, is))
step_number rules stage (Split id axis) number (inr (inr (part, live, meets, not, is))) e = absurd (omega (arith, is))
step_number rules stage (Outside id) number (inl f) e = absurd (omega (arith, f.1))
step_number rules stage (Outside id) number (inr (part, live, not, is)) e = absurd (omega (arith, is))
step_number rules stage (Inside id clock lo hi) number (inl f) e = absurd (omega (arith, f.1))
step_number rules stage (Inside id clock lo hi) number (inr (inl (part, live, not, is))) e = absurd (omega (arith, is))
step_number rules stage (Inside id clock lo hi) number (inr (inr (part, live, meets, not, is))) e = absurd (omega (arith, is))
step_number rules stage (Edge id lo hi) number (inl f) e = absurd (omega (arith, f.1))
step_number rules stage (Edge id lo hi) number (inr (part, live, not, is)) e = absurd (omega (arith, is))

done_number : (done : ℕ) (stage : Stage) (number : ℕ) → DoneFails done stage number → number ≡ 53
    → ⊥
done_number done stage number (inl live) e = absurd (omega (arith, live.1))
done_number done stage number (inr count) e = absurd (omega (arith, count.2))

-- ---- a block

in_front : {X : Type 0} (x : X) (xs : List X) → Contains (x ∷ xs) x
in_front x xs = (0, omega arith, refl)

behind : {X : Type 0} (first x : X) (xs : List X) → Contains xs x → Contains (first ∷ xs) x
behind first x xs (k, less, is) = (suc k, omega (arith, less), is)

contained : {X : Type 0} (xs : List X) (k : ℕ) (x : X) → slice_get xs k ≡ Some x → Contains xs x
contained [] k x e = absurd cc
contained (first ∷ xs) zero x e = let same : first ≡ x = cc in rw (sym same) (in_front first xs)
contained (first ∷ xs) (suc k) x e = behind first x xs (contained xs k x e)

none_usable : (own : List SatLine) (k : ℕ) (row : Row)
    → slice_get (skipped_in own) k ≡ Some (Usable row) → ⊥
none_usable [] k row e = absurd cc
none_usable (Usable other ∷ own) k row e = none_usable own k row e
none_usable (Skipped sat skip ∷ own) zero row e = absurd cc
none_usable (Skipped sat skip ∷ own) (suc k) row e = none_usable own k row e

-- a usable line among the expected ones is one of all
usable_at : (few : Bool) (own : List SatLine) (k : ℕ) (row : Row)
    → slice_get (expected few own) k ≡ Some (Usable row) → slice_get own k ≡ Some (Usable row)
usable_at true own k row e = absurd (none_usable own k row e)
usable_at false own k row e = e

module _ (m : Meaning) where
  record HasOwn (root : GridBox) (tag : ℤ) (sats : List SatObs) (ours : Row) : Type 0 where
    pub sat : SatObs
    pub is_seen : Contains sats sat
    pub same_sat : ours.sat ≡ sat.sat
    pub usable : m.judged root tag sat None
    pub is_own : IsOwnRow m root tag sat ours

  own_at : (root : GridBox) (tag : ℤ) (sats : List SatObs) (own : List SatLine) (k : ℕ) (ours : Row)
      → AreOwnLines m root tag sats own
      → slice_get own k ≡ Some (Usable ours) → HasOwn root tag sats ours
  own_at root tag [] [] k ours h e = absurd cc
  own_at root tag [] (line ∷ own) k ours h e = absurd h
  own_at root tag (sat ∷ sats) [] k ours h e = absurd h
  own_at root tag (sat ∷ sats) (Usable row ∷ own) zero ours h e =
      let same : row ≡ ours = cc in
      rw (sym same) (record { sat = sat; is_seen = in_front sat sats; same_sat = h.0.0; usable = h.0.1; is_own = h.0.2 })
  own_at root tag (sat ∷ sats) (Skipped other skip ∷ own) zero ours h e = absurd cc
  own_at root tag (sat ∷ sats) (line ∷ own) (suc k) ours h e =
      let later = own_at root tag sats own k ours h.1 e in
      record { sat = later.sat; is_seen = behind sat later.sat sats later.is_seen; same_sat = later.same_sat; usable = later.usable; is_own = later.is_own }

  -- ---- renewals

  -- the row in a place is an own row of the satellite there
  own_in : (part : GridBox) (tag : ℤ) (sats : List SatObs) (given : List Row) (i : ℕ) (ours : Row)
      → AreOwnRows m part tag sats given → slice_get given i ≡ Some ours
      → (seen : SatObs) × (slice_get sats i ≡ Some seen) × IsOwnRow m part tag seen ours
  own_in part tag sats [] i ours own e = absurd cc
  own_in part tag [] (row ∷ given) i ours own e = absurd own
  own_in part tag (seen ∷ sats) (row ∷ given) zero ours own e = let same : row ≡ ours = cc in (seen, refl, rw (sym same) own.0)
  own_in part tag (seen ∷ sats) (row ∷ given) (suc i) ours own e = own_in part tag sats given i ours own.1 e

  -- a line of one of these renewals is of the satellite in its place, and its row too narrow
  record HasNarrowLine (first : RowsOver) (tag : ℤ) (sats : List SatObs) (renewals : List RowsOver) (fault : Fault) : Type 0 where
    pub new : RowsOver
    pub is_new : Contains renewals new
    pub row : Row
    pub is_row : Contains new.rows row
    pub i : ℕ
    pub of_place : IsOfPlace first.rows i row
    pub sat : SatObs
    pub is_sat : slice_get sats i ≡ Some sat
    pub ours : Row
    pub is_own : IsOwnRow m new.part tag sat ours
    pub narrow : IsFirstNarrow (compared m.delays row ours) (span_side fault.theirs) (span_side fault.ours)

  module _ (renewed : List (List Row)) (first : RowsOver) (tag : ℤ) (sats : List SatObs) where
    line_narrow : (renewals : List RowsOver) (new : RowsOver) (j i : ℕ) (given : List Row) (row : Row) (fault : Fault)
        → Contains renewals new → Contains new.rows row
        → slice_get renewed j ≡ Some given → AreOwnRows m new.part tag sats given
        → LineFails (own_tests m.delays renewed) first j i row fault → fault.number ≡ 53
        → HasNarrowLine first tag sats renewals fault
    line_narrow renewals new j i given row fault among there at own (inl other) e = absurd (omega (arith, other.1))
    line_narrow renewals new j i given row fault among there at own (inr (place, (ours, (rows, here, is), inr f))) e = absurd (omega (arith, f.2))
    line_narrow renewals new j i given row fault among there at own (inr (place, (ours, (rows, here, is), inl f))) e =
        let same : rows ≡ given = same_item rows given (sym here ∙ at) in
        let (seen, is_seen, is_own) = own_in new.part tag sats given i ours own (rw same at is) in
        record {
          new = new;
          is_new = among;
          row = row;
          is_row = there;
          i = i;
          of_place = place;
          sat = seen;
          is_sat = is_seen;
          ours = ours;
          is_own = is_own;
          narrow = f.0;
        }

    lines_narrow : (renewals : List RowsOver) (new : RowsOver) (j i : ℕ) (given rows : List Row) (k : ℕ) (fault : Fault)
        → Contains renewals new
        → ((row : Row) → Contains rows row → Contains new.rows row)
        → slice_get renewed j ≡ Some given → AreOwnRows m new.part tag sats given
        → LinesFail (own_tests m.delays renewed) first j i rows k fault → fault.number ≡ 53
        → HasNarrowLine first tag sats renewals fault
    lines_narrow renewals new j i given [] k fault among there at own f e = absurd f
    lines_narrow renewals new j i given (row ∷ rows) zero fault among there at own f e =
        line_narrow renewals new j i given row fault among (there row (in_front row rows)) at own f e
    lines_narrow renewals new j i given (row ∷ rows) (suc k) fault among there at own f e =
        lines_narrow renewals new j (suc i) given rows k fault among (λ other is. there other (behind row other rows is)) at own f.1 e

    renewal_narrow : (renewals : List RowsOver) (boxes : Subpaving) (new : RowsOver) (j : ℕ) (given : List Row) (k : ℕ) (fault : Fault)
        → Contains renewals new
        → slice_get renewed j ≡ Some given → AreOwnRows m new.part tag sats given
        → RenewalFails (own_tests m.delays renewed) first j boxes new k fault → fault.number ≡ 53
        → HasNarrowLine first tag sats renewals fault
    renewal_narrow renewals boxes new j given zero fault among at own f e = absurd (omega (arith, f.1))
    renewal_narrow renewals boxes new j given (suc k) fault among at own f e =
        lines_narrow renewals new j 0 given new.rows k fault among (λ row is. is) at own f.1 e

    none_told : (j i : ℕ) (rows : List Row) (k : ℕ) (fault : Fault) → slice_get renewed j ≡ None
        → LinesFail (own_tests m.delays renewed) first j i rows k fault → fault.number ≡ 53 → ⊥
    none_told j i [] k fault none f e = f
    none_told j i (row ∷ rows) zero fault none (inl other) e = absurd (omega (arith, other.1))
    none_told j i (row ∷ rows) zero fault none (inr (place, (ours, (given, here, is), fails))) e = absurd (let some = sym none ∙ here in cc)
    none_told j i (row ∷ rows) (suc k) fault none f e = none_told j (suc i) rows k fault none f.1 e

    none_given : (boxes : Subpaving) (new : RowsOver) (j k : ℕ) (fault : Fault)
        → slice_get renewed j ≡ None
        → RenewalFails (own_tests m.delays renewed) first j boxes new k fault → fault.number ≡ 53
        → ⊥
    none_given boxes new j zero fault none f e = absurd (omega (arith, f.1))
    none_given boxes new j (suc k) fault none f e = none_told j 0 new.rows k fault none f.1 e

    later_line : (new : RowsOver) (renewals : List RowsOver) (fault : Fault)
        → HasNarrowLine first tag sats renewals fault
        → HasNarrowLine first tag sats (new ∷ renewals) fault
    later_line new renewals fault h = record {
      new = h.new;
      is_new = behind new h.new renewals h.is_new;
      row = h.row;
      is_row = h.is_row;
      i = h.i;
      of_place = h.of_place;
      sat = h.sat;
      is_sat = h.is_sat;
      ours = h.ours;
      is_own = h.is_own;
      narrow = h.narrow;
    }

    events_narrow : (rules : Rules) (done j : ℕ) (stage : Stage) (events : List Event) (left : List (List Row)) (k : ℕ) (fault : Fault)
        → IsFrom renewed j left
        → AreRenewed m tag sats (renewals_in events) left
        → EventsFail (own_tests m.delays renewed) first rules done j stage events k fault
        → fault.number ≡ 53 → HasNarrowLine first tag sats (renewals_in events) fault
    events_narrow rules done j stage [] left k fault from own f e = absurd (done_number done stage fault.number f.1 e)
    events_narrow rules done j stage (Made step ∷ events) left zero fault from own f e = absurd (step_number rules stage step fault.number f.0 e)
    events_narrow rules done j stage (Made step ∷ events) left (suc k) fault from own f e =
        events_narrow rules done j (after stage (Made step)) events left k fault from own f.1 e
    events_narrow rules done j stage (Renewed new ∷ events) [] k fault from own (inl f) e =
        absurd (none_given stage.boxes new j k fault (subst (λ (n : ℕ). slice_get renewed n ≡ None) (omega arith) (from 0)) f e)
    events_narrow rules done j stage (Renewed new ∷ events) [] k fault from own (inr (l, is, passes, f)) e =
        later_line new (renewals_in events) fault (events_narrow rules done (suc j) (after stage (Renewed new)) events [] l fault
        (λ i. subst (λ (n : ℕ). slice_get renewed n ≡ None) (omega arith) (from (suc i))) tt f e)
    events_narrow rules done j stage (Renewed new ∷ events) (given ∷ left) k fault from own (inl f) e =
        renewal_narrow (new ∷ renewals_in events) stage.boxes new j given k fault (in_front new (renewals_in events)) (given_first renewed j given left from) own.0 f e
    events_narrow rules done j stage (Renewed new ∷ events) (given ∷ left) k fault from own (inr (l, is, passes, f)) e =
        later_line new (renewals_in events) fault (events_narrow rules done (suc j) (after stage (Renewed new)) events left l fault (from_next renewed j given left from) own.1 f e)

  -- ---- the satellites of the first rows

  first_sats : (root : GridBox) (tag : ℤ) (seens : List SatObs) (sats : List SatEntry) (lines : List SatLine)
      → AllFair m.delays sats lines → AreOwnLines m root tag seens lines
      → map (λ (row : Row). row.sat) (rows_of sats) ≡ map (λ (seen : SatObs). seen.sat) (usable_of seens lines)
  first_sats root tag [] [] [] fair own = refl
  first_sats root tag (seen ∷ seens) [] [] fair own = absurd own
  first_sats root tag seens [] (line ∷ lines) fair own = absurd fair
  first_sats root tag seens (theirs ∷ sats) [] fair own = absurd fair
  first_sats root tag [] (theirs ∷ sats) (line ∷ lines) fair own = absurd own
  first_sats root tag (seen ∷ seens) (entry.Row row ∷ sats) (Usable ours ∷ lines) fair own =
      let here : row.sat ≡ seen.sat = fair.0.0 ∙ own.0.0 in
      let later = first_sats root tag seens sats lines fair.1 own.1 in
      cc
  first_sats root tag (seen ∷ seens) (entry.Row row ∷ sats) (Skipped sat skip ∷ lines) fair own = absurd fair.0.0
  first_sats root tag (seen ∷ seens) (entry.Skipped sat skip ∷ sats) (Usable ours ∷ lines) fair own = absurd fair.0.0
  first_sats root tag (seen ∷ seens) (entry.Skipped sat skip ∷ sats) (Skipped other why ∷ lines) fair own = first_sats root tag seens sats lines fair.1 own.1

  sat_at : (seens : List SatObs) (i : ℕ) (seen : SatObs) → slice_get seens i ≡ Some seen
      → slice_get (map (λ (seen : SatObs). seen.sat) seens) i ≡ Some seen.sat
  sat_at [] i seen e = absurd cc
  sat_at (first ∷ seens) zero seen e = let same : first ≡ seen = cc in rw same refl
  sat_at (first ∷ seens) (suc i) seen e = sat_at seens i seen e

  record IsUsable (root : GridBox) (tag : ℤ) (seens : List SatObs) (seen : SatObs) : Type 0 where
    pub is_seen : Contains seens seen
    pub judged : m.judged root tag seen None

  usable_seen : (root : GridBox) (tag : ℤ) (seens : List SatObs) (lines : List SatLine) (i : ℕ) (seen : SatObs)
      → AreOwnLines m root tag seens lines
      → slice_get (usable_of seens lines) i ≡ Some seen → IsUsable root tag seens seen
  usable_seen root tag [] lines i seen own e = absurd cc
  usable_seen root tag (first ∷ seens) [] i seen own e = absurd cc
  usable_seen root tag (first ∷ seens) (Usable ours ∷ lines) zero seen own e =
      let same : first ≡ seen = cc in
      rw (sym same) (record { is_seen = in_front first seens; judged = own.0.1 })
  usable_seen root tag (first ∷ seens) (Usable ours ∷ lines) (suc i) seen own e =
      let later = usable_seen root tag seens lines i seen own.1 e in
      record { is_seen = behind first seen seens later.is_seen; judged = later.judged }
  usable_seen root tag (first ∷ seens) (Skipped sat skip ∷ lines) i seen own e =
      let later = usable_seen root tag seens lines i seen own.1 e in
      record { is_seen = behind first seen seens later.is_seen; judged = later.judged }

  body_narrow : (rules : Rules) (search : Search) (own : OwnLines) (block : Block) (body : Body) (k : ℕ) (fault : Fault)
      → IsOwnOf m search (renewals_of block.body) own → AllFair m.delays block.sats own.lines
      → block.body ≡ Some body
      → EventsFail (own_tests m.delays own.renewed) (first_rows block body) rules body.done
      0 (first_stage (test_in rules block) body.root) body.events k fault
      → fault.number ≡ 53
      → HasNarrowRow m search block fault
  body_narrow rules search own block body k fault are fair is fails e =
      let seens = search.epoch.sats.items in
      let given = ap renewals_of is in
      let rows : AreRenewed m search.epoch.tag (usable_of seens own.lines) (renewals_in body.events) own.renewed = rw given at are.renewed in
      let h = events_narrow own.renewed (first_rows block body) search.epoch.tag (usable_of seens own.lines) rules body.done
      0 (first_stage (test_in rules block) body.root) body.events own.renewed k fault (λ i. ap (slice_get own.renewed) (omega arith)) rows fails e in
      let usable = usable_seen search.root search.epoch.tag seens own.lines h.i h.sat are.lines h.is_sat in
      let names = first_sats search.root search.epoch.tag seens block.sats own.lines fair are.lines in
      record {
        sat = h.sat;
        is_seen = usable.is_seen;
        usable = usable.judged;
        over = h.new.part;
        ours = h.ours;
        is_own = h.is_own;
        row = h.row;
        is_line = inr (h.new, rw (sym given) at h.is_new, refl, h.is_row);
        same_sat = same_item h.row.sat h.sat.sat (sym h.of_place ∙ ap (λ l. slice_get l h.i) names ∙ sat_at (usable_of seens own.lines) h.i h.sat h.is_sat);
        too_narrow = too_narrow m h.new.part search.epoch.tag h.sat h.row h.ours fault h.is_own h.narrow;
      }

  -- ---- satellite lines

  narrow_row : (search : Search) (own : List SatLine) (block : Block) (k : ℕ) (theirs : SatEntry) (line : SatLine) (fault : Fault)
      → AreLinesOf m search.root search.epoch own
      → slice_get block.sats k ≡ Some theirs → slice_get (expected (is_few block) own) k ≡ Some line
      → IsSameLine theirs line → RowFails m.delays theirs line fault
      → fault.number ≡ 53 → HasNarrowRow m search block fault
  narrow_row search own block k (entry.Row row) (Usable ours) fault are at other same (inl f) e =
      let has = own_at search.root search.epoch.tag search.epoch.sats.items own k ours are (usable_at (is_few block) own k ours other) in
      record {
        sat = has.sat;
        is_seen = has.is_seen;
        usable = has.usable;
        over = search.root;
        ours = ours;
        is_own = has.is_own;
        row = row;
        is_line = inl (refl, contained block.sats k (entry.Row row) at);
        same_sat = same ∙ has.same_sat;
        too_narrow = too_narrow m search.root search.epoch.tag has.sat row ours fault has.is_own f.0;
      }
  narrow_row search own block k (entry.Row row) (Usable ours) fault are at other same (inr f) e = absurd (omega (arith, f.2))
  narrow_row search own block k (entry.Row row) (Skipped sat skip) fault are at other same f e = absurd f
  narrow_row search own block k (entry.Skipped sat skip) (Usable ours) fault are at other same f e = absurd f
  narrow_row search own block k (entry.Skipped sat skip) (Skipped name why) fault are at other same f e = absurd f

  pub epoch_narrow : (rules : Rules) (search : Search) (own : OwnLines) (block : Block) (fault : Fault)
      → IsOwnOf m search (renewals_of block.body) own
      → EpochFails m.delays rules search.root own block fault
      → fault.number ≡ 53 → HasNarrowRow m search block fault
  epoch_narrow rules search own block fault are (inl head) e = absurd (omega (arith, head.number))
  epoch_narrow rules search own block fault are (inr (inl differs)) e = elim differs.fails.here [
    | inl other ↦ absurd (omega (arith, other.1))
    | inr has ↦ narrow_row search own.lines block differs.k has.is_expected.theirs has.is_expected.ours fault are.lines
        has.is_expected.theirs_at has.is_expected.ours_at has.is_expected.same has.fails e
  ]
  epoch_narrow rules search own block fault are (inr (inr (inl missing))) e = absurd (omega (arith, missing.number))
  epoch_narrow rules search own block fault are (inr (inr (inr b))) e = elim b.fails [
    | inl differs ↦ absurd (omega (arith, differs.number))
    | inr event ↦ elim event.fails [
      | inl fails ↦ body_narrow rules search own block b.body event.k fault are
          (fair_block m.delays block b.body own.lines b.is_body b.sats b.whole) b.is_body fails e
      | inr bound ↦ let number : fault.number ≡ 66 = bound.number in absurd (omega (arith, number, e))
    ]
  ]

  -- ---- the log

  later_block : (first : Search) (searches : List Search) (block : Block) (blocks : List Block) (fault : Fault)
      → HasNarrowBlock m searches blocks fault
      → HasNarrowBlock m (first ∷ searches) (block ∷ blocks) fault
  later_block first searches block blocks fault h = record {
    search = h.search;
    is_search = behind first h.search searches h.is_search;
    block = h.block;
    is_block = behind block h.block blocks h.is_block;
    same_index = h.same_index;
    has_row = h.has_row;
  }

  pub log_narrow : (rules : Rules) (next : ℕ) (before : Option ℕ) (owns : List OwnLines) (searches : List Search) (blocks : List Block) (fault : Fault)
      → AreOwn m searches blocks owns
      → FailsFrom m.delays rules next before owns searches blocks fault
      → fault.number ≡ 53 → HasNarrowBlock m searches blocks fault
  log_narrow rules next before [] searches blocks fault are f e = absurd (omega (arith, f.number))
  log_narrow rules next before (own ∷ owns) [] blocks fault are f e = absurd (omega (arith, f.number))
  log_narrow rules next before (own ∷ owns) (search ∷ rest) [] fault are f e = absurd (omega (arith, f.number))
  log_narrow rules next before (own ∷ owns) (search ∷ rest) (block ∷ more) fault are (inl due) e = absurd (omega (arith, due.number))
  log_narrow rules next before (own ∷ owns) (search ∷ rest) (block ∷ more) fault are (inr (inl (is_of, inl f))) e = record {
    search = search;
    is_search = in_front search rest;
    block = block;
    is_block = in_front block more;
    same_index = is_of.index;
    has_row = epoch_narrow rules search own block fault are.0 f.0 e;
  }
  log_narrow rules next before (own ∷ owns) (search ∷ rest) (block ∷ more) fault are (inr (inl (is_of, inr f))) e = absurd (omega (arith, f.0.number))
  log_narrow rules next before (own ∷ owns) (search ∷ rest) (block ∷ more) fault are (inr (inr (is_of, passes, f))) e =
      later_block search rest block more fault (log_narrow rules (next + lines_in block) (Some block.index) owns rest more fault are.1 f e)
