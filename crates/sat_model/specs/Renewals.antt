-- The tests of renewed rows: of the box over which they hold, and of their satellite lines.
use Rattle.std.specs.Prelude.{◌≡◌, ℕ, zero, suc, ◌⊎◌, List, [], ◌∷◌, map, Some, slice_get}
use Rattle.sat_model.specs.declared.rows.Row.{Row}
use Rattle.grid_model.specs.Boxes.{GridBox, IsInside}
use Rattle.sat_model.specs.Events.{RowsOver}
use Rattle.sat_model.specs.Fold.{Subpaving, IsLive}

-- ---- the box

-- it lies in the root, and each live box lies in it
pub record HoldsLive (root : GridBox) (boxes : Subpaving) (part : GridBox) : Type 0 where
  pub in_root : IsInside part root
  pub each_live : (id : ℕ) (live : GridBox) → IsLive boxes id live → IsInside live part

-- ---- the satellite lines

-- what may be asked of line i of renewal j, both from 0, beside its satellite
abbrev pub LineFact : Type 1
LineFact = ℕ → ℕ → Row → Type 0

-- nothing is asked
abbrev pub AnyLine : LineFact
AnyLine j i row = Unit {0}

-- the row is of the satellite of the i-th of the first rows, from 0
abbrev pub IsOfPlace : List Row → ℕ → Row → Type 0
IsOfPlace firsts i row = slice_get (map (λ first. first.sat) firsts) i ≡ Some row.sat

-- ---- what passes, by the first rows, whose box is the root

module _ (Meets : LineFact) (first : RowsOver) where
  abbrev pub LinePasses : ℕ → ℕ → Row → Type 0
  LinePasses j i row = IsOfPlace first.rows i row × Meets j i row

  -- the lines from number i on
  abbrev pub LinesPass : ℕ → ℕ → List Row → Type 0
  LinesPass j i [] = Unit {0}
  LinesPass j i (row ∷ rows) = LinePasses j i row × LinesPass j (suc i) rows

  -- no line of renewal j fails a test, where these boxes are live
  pub record RenewalPasses (j : ℕ) (boxes : Subpaving) (new : RowsOver) : Type 0 where
    pub holds : HoldsLive first.part boxes new.part
    pub lines : LinesPass j 0 new.rows

-- ---- what fails

-- How lines are tested beside their satellites, and how a fault is told: by its number, and plain
-- where nothing else is told of it.
pub record LineTests (Fault : Type 0) : Type 1 where
  pub number : Fault → ℕ
  pub plain : Fault → Type 0
  pub passes : LineFact
  pub fails : ℕ → ℕ → Row → Fault → Type 0

-- no further test
abbrev pub no_tests : LineTests ℕ
no_tests = record {
  number = λ number. number;
  plain = λ number. Unit {0};
  passes = AnyLine;
  fails = λ j i row number. ⊥;
}

module _ {Fault : Type 0} (tests : LineTests Fault) (first : RowsOver) where
  -- the least number of a test of the line that fails
  abbrev pub LineFails : ℕ → ℕ → Row → Fault → Type 0
  LineFails j i row fault =
      ((IsOfPlace first.rows i row → ⊥) × (tests.number fault ≡ 52) × tests.plain fault)
      ⊎ (IsOfPlace first.rows i row × tests.fails j i row fault)

  -- the first line that fails is k lines on
  abbrev pub LinesFail : ℕ → ℕ → List Row → ℕ → Fault → Type 0
  LinesFail j i [] k fault = ⊥
  LinesFail j i (row ∷ rows) zero fault = LineFails j i row fault
  LinesFail j i (row ∷ rows) (suc k) fault =
      LinePasses tests.passes first j i row × LinesFail j (suc i) rows k fault

  -- ... behind the line of the box
  abbrev pub RenewalFails : ℕ → Subpaving → RowsOver → ℕ → Fault → Type 0
  RenewalFails j boxes new zero fault =
      (HoldsLive first.part boxes new.part → ⊥) × (tests.number fault ≡ 65) × tests.plain fault
  RenewalFails j boxes new (suc k) fault =
      HoldsLive first.part boxes new.part × LinesFail j 0 new.rows k fault
