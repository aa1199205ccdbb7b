-- What clock spans show, a test shows, with pairs or without.
use Rattle.std.proofs.Common.{◌≡◌, ℕ, List, Bool, true, false, inl, refl}
use Rattle.grid_model.specs.declared.boxes.Box3.{Box3}
use Rattle.grid_model.specs.declared.spans.Span.{Span}
use Rattle.grid_model.specs.Boxes.{GridBox, grid_box}
use Rattle.sat_model.specs.declared.rows.Row.{Row}
use Rattle.sat_model.specs.BoxTests.{BoxTest, IsEmptyBy, IsEmpty}
use Rattle.sat_model.specs.ClockSpans.{IsShownEmpty}
use Rattle.row_pairs.proofs.DecideLemmas.{inner_not_empty}
use Rattle.relaxed_meet.specs.declared.shown.BoxState.{BoxState}
use Rattle.relaxed_meet.specs.declared.shown.BoxState.TheVariants.{Empty, Inner, Undecided}
use Rattle.relaxed_meet.specs.BoxStates.{IsBoxState, span_test}

by_spans : (pairs : Bool) (rows : List Row) (part : GridBox) (q : ℕ) → IsShownEmpty rows part q
    → IsEmptyBy pairs rows part q
by_spans false rows part q empty = empty
by_spans true rows part q empty = inl empty

pub empty_by_spans : (test : BoxTest) (part : GridBox) → IsShownEmpty test.rows part test.q
    → IsEmpty test part
empty_by_spans test part empty = by_spans test.pairs test.rows part test.q empty

-- a state by clock spans is that of the test, unless it is undecided
pub decided_by_spans : (test : BoxTest) (part : Box3) (state : BoxState)
    → IsBoxState (span_test test.rows test.q) (grid_box part) state
    → ((hull : Span) → state ≡ Undecided hull → ⊥) → IsBoxState test (grid_box part) state
decided_by_spans test part Empty is decided = empty_by_spans test (grid_box part) is
decided_by_spans test part (Inner clock hull) (none, least, ends) decided = (inner_not_empty test part clock least.shown, least, ends)
decided_by_spans test part (Undecided hull) is decided = absurd (decided hull refl)

pub undecided_by_both : (test : BoxTest) (part : Box3) (state : BoxState) (hull : Span)
    → state ≡ Undecided hull
    → IsBoxState (span_test test.rows test.q) (grid_box part) state
    → (IsEmpty test (grid_box part) → ⊥) → IsBoxState test (grid_box part) state
undecided_by_both test part Empty hull e is none = absurd (none (empty_by_spans test (grid_box part) is))
undecided_by_both test part (Inner clock found) hull e (not, least, ends) none = (none, least, ends)
undecided_by_both test part (Undecided found) hull e (not, inner, ends) none = (none, inner, ends)

-- an undecided one isn't shown empty by clock spans
pub not_by_spans : (test : BoxTest) (part : Box3) (state : BoxState) (hull : Span)
    → state ≡ Undecided hull
    → IsBoxState (span_test test.rows test.q) (grid_box part) state
    → IsShownEmpty test.rows (grid_box part) test.q → ⊥
not_by_spans test part Empty hull e is empty = absurd cc
not_by_spans test part (Inner clock found) hull e is empty = absurd cc
not_by_spans test part (Undecided found) hull e (not, inner, ends) empty = not empty
