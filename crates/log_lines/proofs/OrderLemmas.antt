-- What may come where, by the first word and by the whole line.
use Rattle.std.proofs.Common.{◌≡◌, Bool, true, false, Some, refl, ap}
use Rattle.sat_model.specs.declared.rows.SatEntry.TheVariants as entry
use Rattle.log_lines.specs.declared.line.LogLine.{LogLine}
use Rattle.log_lines.specs.declared.line.LogLine.TheVariants as line
use Rattle.log_lines.specs.declared.line.Place.{Place}
use Rattle.log_lines.specs.declared.line.Place.TheVariants as place
use Rattle.log_lines.specs.Lines.{name_of}
use Rattle.log_lines.specs.Order.{may_come, only_if, next}

-- ---- a place that a test gives

pub only_true : (test : Bool) (after to : Place) → only_if test after ≡ Some to → test ≡ true
only_true true after to e = refl
only_true false after to e = cc

pub only_place : (test : Bool) (after to : Place) → only_if test after ≡ Some to → to ≡ after
only_place true after to e = cc
only_place false after to e = cc

pub given : (test : Bool) (after : Place) → test ≡ true → only_if test after ≡ Some after
given test after e = ap (λ (b : Bool). only_if b after) e

-- ---- a line that may come here has a first word that may

pub next_named : (at : Place) (l : LogLine) (to : Place) → next at l ≡ Some to
    → may_come at (name_of l) ≡ true
next_named (place.First k) (line.Version version) to e = refl
next_named (place.Second f) (line.Rules l) to e = refl
next_named (place.Between f) (line.Epoch h) to e = refl
next_named (place.Between f) (line.Few h) to e = refl
next_named (place.Few f count) (line.Epoch h) to e = refl
next_named (place.Few f count) (line.Few h) to e = refl
next_named (place.Few f count) (line.Sat (entry.Skipped sat skip)) to e = only_true _ _ to e
next_named (place.Few f count) (line.Sat (entry.Row row)) to e = cc
next_named (place.Satellites f n count) (line.Sat (entry.Row row)) to e = only_true _ _ to e
next_named (place.Satellites f n count) (line.Sat (entry.Skipped sat skip)) to e = only_true _ _ to e
next_named (place.Satellites f n count) (line.Root c) to e = refl
next_named (place.Steps f n left) (line.Step s) to e = only_true _ _ to e
next_named (place.Steps f n left) (line.Renew c) to e = only_true _ _ to e
next_named (place.Steps f n left) (line.Sat (entry.Row row)) to e = only_true _ _ to e
next_named (place.Steps f n left) (line.Sat (entry.Skipped sat skip)) to e = cc
next_named (place.Steps f n left) (line.Done splits) to e = only_true _ _ to e
next_named (place.Bounds f left) (line.Bound half sums) to e = only_true _ _ to e
next_named (place.Bounds f left) (line.By sum) to e = only_true _ _ to e
next_named (place.Bounds f left) (line.Epoch h) to e = only_true _ _ to e
next_named (place.Bounds f left) (line.Few h) to e = only_true _ _ to e
next_named _ _ to e = cc
