-- Which lines may follow one another.
use Rattle.std.specs.Prelude.{ℕ, ◌≡◌, ◌+◌, ◌-◌, Bool, true, false, ◌&&◌, ◌||◌}
use Rattle.std.specs.Prelude.{if◌then◌else◌, nat_eq}
use Rattle.std.specs.Prelude.{nat_lt, List, [], ◌∷◌, Option, None, Some}
use Rattle.sat_model.specs.declared.rows.SatEntry.TheVariants as entry
use Rattle.log_lines.specs.declared.line.Form.{Form}
use Rattle.log_lines.specs.declared.line.Form.TheVariants as form
use Rattle.log_lines.specs.declared.line.Kind.{Kind}
use Rattle.log_lines.specs.declared.line.Kind.TheVariants as kind
use Rattle.log_lines.specs.declared.line.LineName.{LineName}
use Rattle.log_lines.specs.declared.line.LineName.TheVariants as name
use Rattle.log_lines.specs.declared.line.LogForm.{LogForm}
use Rattle.log_lines.specs.declared.line.LogLine.{LogLine}
use Rattle.log_lines.specs.declared.line.LogLine.TheVariants as line
use Rattle.log_lines.specs.declared.line.Place.{Place}
use Rattle.log_lines.specs.declared.line.Place.TheVariants as place
use Rattle.log_lines.specs.Lines.{LineFits}

-- ---- the versions

-- In versions 3 and 4 pairs of rows show boxes empty too, and in versions 1 and 2 they don't.
abbrev pub has_pairs : ℕ → Bool
has_pairs version = nat_lt 2 version

-- in version 1 no rows are renewed
abbrev pub may_renew : ℕ → Bool
may_renew version = nat_lt 1 version

-- in version 4 there may be bounds
abbrev pub may_bound : ℕ → Bool
may_bound version = nat_lt 3 version

-- Versions 2 and 4 tell that rows may be renewed and that there may be bounds, and no more, so no
-- rows alone have them.
abbrev pub has_version : Kind → ℕ → Bool
has_version kind.Log version = true
has_version kind.Rows version = nat_eq version 1 || nat_eq version 3

abbrev pub log_form : ℕ → LogForm
log_form version = record { renews = may_renew version; bounds = may_bound version }

abbrev pub form_of : Kind → ℕ → Form
form_of kind.Log version = form.Log (log_form version)
form_of kind.Rows version = form.Rows

-- ---- by the first word

-- a line with this first word may come here
abbrev pub may_come : Place → LineName → Bool
may_come (place.First k) name.Gpscover = true
may_come (place.Second f) name.Rules = true
may_come (place.Between f) name.Epoch = true
may_come (place.Between f) name.Few = true
may_come (place.Few f count) name.Epoch = true
may_come (place.Few f count) name.Few = true
may_come (place.Few f count) name.Skip = nat_lt count 64
may_come (place.Satellites f n count) name.Sat = nat_lt count 64
may_come (place.Satellites f n count) name.Skip = nat_lt count 64
may_come (place.Satellites f n count) name.Root = true
may_come (place.Steps f n left) (name.Step kind) = nat_eq left 0
may_come (place.Steps f n left) name.Renew = f.renews && nat_eq left 0
may_come (place.Steps f n left) name.Done = nat_eq left 0
may_come (place.Steps f n left) name.Sat = nat_lt 0 left
may_come (place.Bounds f left) name.Bound = nat_eq left 0
may_come (place.Bounds f left) name.By = nat_lt 0 left
may_come (place.Bounds f left) name.Epoch = nat_eq left 0
may_come (place.Bounds f left) name.Few = nat_eq left 0
may_come _ _ = false

-- ---- by the whole line

-- the place, where the test says so
abbrev pub only_if : Bool → Place → Option Place
only_if test after = if test then Some after else None

-- the steps of a log stand behind its root, and the next block where there are no steps
abbrev pub place_behind_root : Form → ℕ → Place
place_behind_root (form.Log f) n = place.Steps f n 0
place_behind_root form.Rows n = place.Between form.Rows

-- the bounds stand behind the number of splits, and the next block where there may be none
abbrev pub place_behind_done : LogForm → Place
place_behind_done f = if f.bounds then place.Bounds f 0 else place.Between (form.Log f)

-- The place behind a line, where the line may come. A block has at most 64 satellite lines before
-- its root. Behind the box of a renewal come as many rows as the block has usable satellites, and
-- behind a bound as many sums as its line says.
abbrev pub next : Place → LogLine → Option Place
next (place.First k) (line.Version version) =
    only_if (has_version k version) (place.Second (form_of k version))
next (place.Second f) (line.Rules l) = Some (place.Between f)
next (place.Between f) (line.Epoch h) = Some (place.Satellites f h.n 0)
next (place.Between f) (line.Few h) = Some (place.Few f 0)
next (place.Few f count) (line.Epoch h) = Some (place.Satellites f h.n 0)
next (place.Few f count) (line.Few h) = Some (place.Few f 0)
next (place.Few f count) (line.Sat (entry.Skipped sat skip)) =
    only_if (nat_lt count 64) (place.Few f (count + 1))
next (place.Satellites f n count) (line.Sat e) =
    only_if (nat_lt count 64) (place.Satellites f n (count + 1))
next (place.Satellites f n count) (line.Root c) = Some (place_behind_root f n)
next (place.Steps f n left) (line.Step s) = only_if (nat_eq left 0) (place.Steps f n 0)
next (place.Steps f n left) (line.Renew c) =
    only_if (f.renews && nat_eq left 0) (place.Steps f n n)
next (place.Steps f n left) (line.Sat (entry.Row row)) =
    only_if (nat_lt 0 left) (place.Steps f n (left - 1))
next (place.Steps f n left) (line.Done splits) = only_if (nat_eq left 0) (place_behind_done f)
next (place.Bounds f left) (line.Bound half sums) = only_if (nat_eq left 0) (place.Bounds f sums)
next (place.Bounds f left) (line.By sum) = only_if (nat_lt 0 left) (place.Bounds f (left - 1))
next (place.Bounds f left) (line.Epoch h) =
    only_if (nat_eq left 0) (place.Satellites (form.Log f) h.n 0)
next (place.Bounds f left) (line.Few h) = only_if (nat_eq left 0) (place.Few (form.Log f) 0)
next _ _ = None

-- the text may end here
abbrev pub may_end : Place → Bool
may_end (place.Between f) = true
may_end (place.Few f count) = true
may_end (place.Bounds f left) = nat_eq left 0
may_end _ = false

-- Each of the lines fits and may come behind the one before. They lead from one place to another.
abbrev pub Leads : Place → List LogLine → Place → Type 0
Leads at [] to = at ≡ to
Leads at (l ∷ more) to =
    LineFits l × (behind : Place) × (next at l ≡ Some behind) × Leads behind more to
