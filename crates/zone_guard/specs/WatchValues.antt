-- What was read, as plain values.
use Rattle.std.specs.Prelude.{ℕ, List, map}
use Rattle.zone_guard.specs.GroupAnswers.{pieces_of}
use Rattle.zone_guard.specs.Planes.{PlaneValue, plane_values}
use Rattle.zone_guard.specs.Watched.{Kind, Corners, Sides, Pieces, Along, WatchLine, Named, FormValue}
use Rattle.zone_guard.specs.Watched.{BoxValue, PrismValue, GroupValue, ReachValue, WatchValue}
use Rattle.zone_guard.specs.declared.opening.Opening.{Opening}
use Rattle.zone_guard.specs.declared.opening.OpeningKind.{OpeningKind}
use Rattle.zone_guard.specs.declared.opening.OpeningKind.TheVariants as opening
use Rattle.zone_guard.specs.declared.pieces.Group.{Group}
use Rattle.zone_guard.specs.declared.watch.Form.{Form}
use Rattle.zone_guard.specs.declared.watch.Form.TheVariants as form
use Rattle.zone_guard.specs.declared.watch.Watch.{Watch}

abbrev pub group_value : Group → FormValue
group_value g = GroupValue g.sizes.pieces g.sizes.each (plane_values g.sides.items)

abbrev pub form_value : Form → FormValue
form_value (form.Box part) = BoxValue part.lo part.hi
form_value (form.Prism sides) = PrismValue (plane_values sides.items)
form_value (form.Group group) = group_value group
form_value (form.Reach along) = ReachValue along.vector

abbrev pub watch_value : Watch → WatchValue
watch_value w = record { name = w.name.bytes; form = form_value w.form }

abbrev pub watch_values : List Watch → List WatchValue
watch_values watches = map watch_value watches

abbrev pub watch_names : List Watch → List (List ℕ)
watch_names watches = map (λ w. w.name.bytes) watches

-- the sides of each piece
abbrev pub group_pieces : Group → List (List PlaneValue)
group_pieces g = pieces_of g.sizes.pieces g.sizes.each (plane_values g.sides.items)

-- ---- a line with a name

abbrev pub kind_value : OpeningKind → Kind
kind_value (opening.Box part) = Corners part.lo part.hi
kind_value (opening.Prism count) = Sides count
kind_value (opening.Group sizes) = Pieces sizes.pieces sizes.each
kind_value (opening.Reach along) = Along along.vector

abbrev pub opening_line : Opening → WatchLine
opening_line o = Named o.name.bytes (kind_value o.kind)
