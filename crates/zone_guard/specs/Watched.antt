-- What a file of zones names, as plain values, and the lines of the second form.
use Rattle.std.specs.Prelude.{◌≡◌, ℕ, pos, ◌≤ℤ◌, List, [], ◌∷◌, ◌++◌, map, length, codes}
use Rattle.std.specs.Fmt.{decimal, signed_decimal}
use Rattle.log_tokens.specs.Fields.{pos_words, IsPosWithin, IsCountFromTo}
use Rattle.grid_model.specs.Sizes.{IsWithin}
use Rattle.grid_model.specs.declared.boxes.Pos.{Pos}
use Rattle.zone_guard.specs.Lines.{IsName, ZoneValue}
use Rattle.zone_guard.specs.Planes.{PlaneValue}

-- ---- lines

-- what a line with a name is of: a box by its corners, a prism by the number of its sides, a group by
-- that of its pieces and of the sides of each, or a direction
pub data Kind : Type 0 where
  Corners : Pos → Pos → Kind
  Sides : ℕ → Kind
  Pieces : (count each : ℕ) → Kind
  Along : Pos → Kind

pub data WatchLine : Type 0 where
  Named : List ℕ → Kind → WatchLine
  Side : PlaneValue → WatchLine

-- each coordinate within 10^13 um, and the low end of each side at most its high end
pub record AreCorners (lo hi : Pos) : Type 0 where
  pub lo_within : IsPosWithin 10000000000000 lo
  pub hi_within : IsPosWithin 10000000000000 hi
  pub x_ordered : lo.x ≤ℤ hi.x
  pub y_ordered : lo.y ≤ℤ hi.y
  pub z_ordered : lo.z ≤ℤ hi.z

-- each coordinate within 2^20, and not all of them zero
pub record IsDirection (a : Pos) : Type 0 where
  pub within : IsPosWithin 1048576 a
  pub some : a.x ≡ pos 0 → a.y ≡ pos 0 → a.z ≡ pos 0 → ⊥

abbrev pub KindFits : Kind → Type 0
KindFits (Corners lo hi) = AreCorners lo hi
KindFits (Sides count) = IsCountFromTo 1 16 count
KindFits (Pieces count each) = IsCountFromTo 1 64 count × IsCountFromTo 1 16 each
KindFits (Along a) = IsDirection a

pub record IsSide (s : PlaneValue) : Type 0 where
  pub along : IsDirection s.along
  pub most : IsWithin 100000000000000000000 s.most

abbrev pub kind_word : Kind → List ℕ
kind_word (Corners lo hi) = codes "zone"
kind_word (Sides count) = codes "prism"
kind_word (Pieces count each) = codes "group"
kind_word (Along a) = codes "reach"

-- the words behind the name
abbrev pub kind_words : Kind → List (List ℕ)
kind_words (Corners lo hi) = pos_words lo ++ pos_words hi
kind_words (Sides count) = decimal count ∷ []
kind_words (Pieces count each) = decimal count ∷ decimal each ∷ []
kind_words (Along a) = pos_words a

-- the words behind the first
abbrev pub side_words : PlaneValue → List (List ℕ)
side_words s = pos_words s.along ++ signed_decimal s.most ∷ []

abbrev pub LineFits : WatchLine → Type 0
LineFits (Named name kind) = IsName name × KindFits kind
LineFits (Side s) = IsSide s

abbrev pub line_words : WatchLine → List (List ℕ)
line_words (Named name kind) = kind_word kind ∷ name ∷ kind_words kind
line_words (Side s) = codes "side" ∷ side_words s

-- ---- values

pub data FormValue : Type 0 where
  BoxValue : Pos → Pos → FormValue
  PrismValue : List PlaneValue → FormValue
  GroupValue : (count each : ℕ) → List PlaneValue → FormValue
  ReachValue : Pos → FormValue

pub record WatchValue : Type 0 where
  pub name : List ℕ
  pub form : FormValue

-- one line, and behind that of a prism or a group one for each side
abbrev pub form_lines : List ℕ → FormValue → List WatchLine
form_lines name (BoxValue lo hi) = Named name (Corners lo hi) ∷ []
form_lines name (PrismValue sides) = Named name (Sides (length sides)) ∷ map Side sides
form_lines name (GroupValue count each sides) =
    Named name (Pieces count each) ∷ map Side sides
form_lines name (ReachValue a) = Named name (Along a) ∷ []

abbrev pub watch_lines : List WatchValue → List WatchLine
watch_lines [] = []
watch_lines (w ∷ more) = form_lines w.name w.form ++ watch_lines more

-- a zone of the first form
abbrev pub zone_watch : ZoneValue → WatchValue
zone_watch z = record { name = z.name; form = BoxValue z.lo z.hi }
