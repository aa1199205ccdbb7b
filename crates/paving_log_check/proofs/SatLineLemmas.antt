-- Satellite lines against the expected ones.
use Rattle.std.proofs.Common.{◌≡◌, ℕ, ◌<◌, Bool, true, false, List, length, get_or, subst, ap, inl, inr, refl, Option, None, Some}
use Rattle.std.specs.Prelude.{IsTrue, ◌↔◌, MatchOption, slice_get}
use Rattle.std.proofs.lemmas.Bool.{cases_order}
use Rattle.std.proofs.lemmas.Option.{slice_get_read}
use Rattle.grid_model.specs.Boxes.{Side}
use Rattle.sat_model.specs.Fitting.{low_bounds, high_bounds}
use Rattle.sat_model.specs.Verdicts.{IsRepeat, NoneRepeats, IsFirstRepeat}
use Rattle.sat_model.specs.declared.rows.Row.{Row}
use Rattle.sat_model.specs.declared.rows.SatEntry.{SatEntry}
use Rattle.gnss_model.specs.declared.delays.Delays.{Delays}
use Rattle.sat_rows.specs.declared.lines.SatLine.{SatLine}
use Rattle.paving_log_check.specs.Lines.{HoldsSide, bounds_unless, HoldEach, IsFirstNarrow, IsSameLine, IsExpected, RowPasses, RowFails, LinePasses, LineFails}
use Rattle.paving_log_check.specs.declared.verdict.Fault.{Fault}
use Rattle.epoch_selection.proofs.SelectionLemmas.{same_some}

-- ---- the ends of the error

-- where a delay is mapped both sides are compared
module _ (row ours : Row) (low own_low high own_high : Side) (is_low : low ≡ low_bounds row) (is_own_low : own_low ≡ low_bounds ours)
    (is_high : high ≡ high_bounds row) (is_own_high : own_high ≡ high_bounds ours) (held : HoldsSide low own_low) where
  pub bounds_held : (plain : Bool) → plain ≡ false → HoldsSide high own_high
      → HoldEach (bounds_unless plain row ours)
  bounds_held true there also = tt
  bounds_held false there also = (rw (is_low, is_own_low) at held, (rw (is_high, is_own_high) at also, tt))

  pub high_narrow : (plain : Bool) → plain ≡ false → (HoldsSide high own_high → ⊥)
      → IsFirstNarrow (bounds_unless plain row ours) high own_high
  high_narrow true there not = absurd cc
  high_narrow false there not = inr (rw (is_low, is_own_low) at held, inl (rw (is_high, is_own_high) at not, is_high, is_own_high))

-- ---- one line

abbrev expected_here : (sats : List SatEntry) (lines : List SatLine) (k : ℕ) (theirs : SatEntry) (ours : SatLine)
    → k < length sats → theirs ≡ get_or sats k theirs → k < length lines
    → ours ≡ get_or lines k ours
    → IsSameLine theirs ours → (IsRepeat sats k → ⊥) → IsExpected sats lines k
expected_here sats lines k theirs ours within is below are same once = record {
  theirs = theirs;
  theirs_at = slice_get_read sats (length sats) k theirs refl within is;
  ours = ours;
  ours_at = slice_get_read lines (length lines) k ours refl below are;
  same = same;
  once = once;
}

-- what stands at a place is one value
pub same_item : {X : Type 0} (xs : List X) (k : ℕ) (x y : X) → k < length xs → x ≡ get_or xs k x
    → y ≡ get_or xs k y → x ≡ y
same_item xs k x y within is are =
    same_some (slice_get xs k) x y (slice_get_read xs (length xs) k x refl within is) (slice_get_read xs (length xs) k y refl within are)

-- a row that passes or fails against the expected line decides
pub line_decided : (delays : Delays) (sats : List SatEntry) (lines : List SatLine) (k : ℕ) (theirs : SatEntry) (ours : SatLine) (found : Option Fault) (line : ℕ)
    → k < length sats → theirs ≡ get_or sats k theirs → k < length lines
    → ours ≡ get_or lines k ours
    → IsSameLine theirs ours → (IsRepeat sats k → ⊥)
    → MatchOption found (RowPasses delays theirs ours) (λ fault. RowFails delays theirs ours fault × (fault.line ≡ line))
    → MatchOption found (LinePasses delays sats lines k) (λ fault. LineFails delays sats lines k fault × (fault.line ≡ line))
line_decided delays sats lines k theirs ours None line within is below are same once row =
    record { is_expected = expected_here sats lines k theirs ours within is below are same once; passes = row }
line_decided delays sats lines k theirs ours (Some fault) line within is below are same once row =
    (inr (record { is_expected = expected_here sats lines k theirs ours within is below are same once; fails = row.0 }), row.1)

-- the lines were read twice
pub line_decided_again : (delays : Delays) (sats : List SatEntry) (lines : List SatLine) (k : ℕ) (theirs them : SatEntry) (ours us : SatLine) (found : Option Fault) (line : ℕ)
    → k < length sats → theirs ≡ get_or sats k theirs → them ≡ get_or sats k them → k < length lines
    → ours ≡ get_or lines k ours → us ≡ get_or lines k us
    → IsSameLine theirs ours → (IsRepeat sats k → ⊥)
    → MatchOption found (RowPasses delays them us) (λ fault. RowFails delays them us fault × (fault.line ≡ line))
    → MatchOption found (LinePasses delays sats lines k) (λ fault. LineFails delays sats lines k fault × (fault.line ≡ line))
line_decided_again delays sats lines k theirs them ours us found line within is too below are also same once row =
    line_decided delays sats lines k them us found line within too below also
    (subst (λ t. IsSameLine t us) (same_item sats k theirs them within is too) (subst (λ o. IsSameLine theirs o) (same_item lines k ours us below are also) same))
    once row

-- ---- the first repeat

-- where no line before it repeats, line k does where it is the first that does
pub repeats_here : {delays : Delays} {sats : List SatEntry} {lines : List SatLine} (found : Option ℕ) (k : ℕ) (t : Bool)
    → MatchOption found (NoneRepeats sats) (λ r. IsFirstRepeat sats r)
    → ((j : ℕ) → j < k → LinePasses delays sats lines j) → (IsTrue t ↔ (found ≡ Some k))
    → IsTrue t ↔ IsRepeat sats k
repeats_here None k t none passed at = (λ h. absurd (let e = at.0 h in cc), λ r. absurd (none k r))
repeats_here {sats = sats} (Some r) k t first passed at = (
  λ h. subst (λ j. IsRepeat sats j) (same_some (Some r) r k refl (at.0 h)) first.repeats,
  λ again. elim (cases_order r k) [
    | inl same ↦ at.1 (ap Some same)
    | inr other ↦ elim other [
      | inl earlier ↦ absurd ((passed r earlier).is_expected.once first.repeats)
      | inr later ↦ absurd (first.first k later again)
    ]
  ],
)
