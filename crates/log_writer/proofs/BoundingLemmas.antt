-- The bounds and the last renewal of a run: that they fit, are shown, and have few lines.
use Rattle.std.proofs.Common.{◌≡◌, ℕ, ◌+◌, ◌≤◌, Bool, true, false, List, [], ◌++◌, length, Option, None, Some, refl, ap, subst, arith}
use Rattle.std.specs.Prelude.{is_some}
use Rattle.std.specs.List.{flat_map, AllByRecursion}
use Rattle.bound_directions.specs.declared.directions.Directions.{Directions}
use Rattle.sat_model.specs.Bounds.{BoundValue}
use Rattle.sat_model.specs.Events.{Event, RowsOver, steps_in, lines_of_all}
use Rattle.sat_model.specs.Fold.{pieces}
use Rattle.sat_model.specs.KeptHulls.{kept_hull}
use Rattle.sat_model.specs.ShownBounds.{AreBoundsShown}
use Rattle.paving.specs.Renewing.{Maker, GivesFrom}
use Rattle.log_lines.specs.Text.{bound_lines, BoundFits, BoundsFit}
use Rattle.log_writer.specs.Bounding.{AreBoundsFor}
use Rattle.log_writer.specs.LastRenewals.{RenewsLast, last_events}
use Rattle.log_writer.specs.Sizes.{most_lines_behind}
use Rattle.log_writer.proofs.AlongLemmas.{along_few, bound_count}

-- there may be no bounds, whether or not there may be some
none_fit : (may : Bool) (bounds : List BoundValue) → bounds ≡ [] → BoundsFit may bounds
none_fit true bounds none = rw none tt
none_fit false bounds none = none

some_fit : (may : Bool) (bounds : List BoundValue) → may ≡ true → AllByRecursion BoundFits bounds
    → BoundsFit may bounds
some_fit true bounds is fit = fit
some_fit false bounds is fit = absurd cc

-- there are some only where they are asked for, and then there may be some
pub asked_fit : (directions : Option Directions) (may : Bool) (q : ℕ) (first : RowsOver) (events : List Event) (bounds : List BoundValue)
    → (is_some directions ≡ true → may ≡ true)
    → AreBoundsFor directions q first events bounds → BoundsFit may bounds
asked_fit None may q first events bounds asks none = none_fit may bounds none
asked_fit (Some d) may q first events bounds asks are = some_fit may bounds (asks refl) are.fit

-- each fits
pub each_fit : (directions : Option Directions) (q : ℕ) (first : RowsOver) (events : List Event) (bounds : List BoundValue)
    → AreBoundsFor directions q first events bounds → AllByRecursion BoundFits bounds
each_fit None q first events bounds none = rw none tt
each_fit (Some d) q first events bounds are = are.fit

pub each_shown : (directions : Option Directions) (q : ℕ) (first : RowsOver) (events : List Event) (bounds : List BoundValue)
    → AreBoundsFor directions q first events bounds → AreBoundsShown q first events bounds
each_shown None q first events bounds none = rw none tt
each_shown (Some d) q first events bounds are = are.shown

-- what stands behind the events has few lines
pub few_behind : (directions : Option Directions) (maker : Maker) (q : ℕ) (first : RowsOver) (events : List Event) (last : Option RowsOver) (bounds : List BoundValue)
    → length first.rows ≤ 64 → RenewsLast directions maker first events last
    → AreBoundsFor directions q first (events ++ last_events last) bounds
    → lines_of_all (last_events last) + length (flat_map bound_lines bounds) ≤ most_lines_behind (is_some directions)
few_behind None maker q first events last bounds few none are =
    omega (arith, ap (λ (o : Option RowsOver). lines_of_all (last_events o)) none, ap (λ (l : List BoundValue). length (flat_map bound_lines l)) are)
few_behind (Some d) maker q first events None bounds few renews are =
    omega (arith, bound_count bounds are.fit, along_few (are.axes ++ are.list) bounds are.along, are.few)
few_behind (Some d) maker q first events (Some new) bounds few (active, is, shorter, same, gives) are =
    omega (arith, same, few, bound_count bounds are.fit, along_few (are.axes ++ are.list) bounds are.along, are.few)

no_rows : (o : Option RowsOver) (new : RowsOver) → o ≡ None → o ≡ Some new → ⊥
no_rows o new none some = cc

some_rows : (x y : RowsOver) → Some x ≡ Some y → x ≡ y
some_rows x y e = cc

-- the last renewal is the maker's, over the hull of what is kept
pub last_is : (directions : Option Directions) (maker : Maker) (first : RowsOver) (events : List Event) (last : Option RowsOver)
    → RenewsLast directions maker first events last → (new : RowsOver) → last ≡ Some new
    → (maker.active ≡ true) × (kept_hull (pieces first.part (steps_in events)) ≡ Some new.part)
    × (length new.rows ≡ length first.rows) × GivesFrom maker 0 new.part new.rows
last_is None maker first events last none new some = absurd (no_rows last new none some)
last_is (Some d) maker first events None renews new some = absurd cc
last_is (Some d) maker first events (Some last) (active, is, shorter, same, gives) new some =
    subst (λ (x : RowsOver). (maker.active ≡ true) × (kept_hull (pieces first.part (steps_in events)) ≡ Some x.part)
    × (length x.rows ≡ length first.rows) × GivesFrom maker 0 x.part x.rows) (some_rows last new some) (active, is, same, gives)
