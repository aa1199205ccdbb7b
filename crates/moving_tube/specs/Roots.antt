-- The box in which a moving receiver is searched, by the boxes that an epoch before kept.
use Rattle.std.specs.Prelude.{ℕ, ℤ, Bool, true, false, pos, ◌+ℤ◌, ◌-ℤ◌, Option, None, Some}
use Rattle.grid_model.specs.Boxes.{Side, GridBox}
use Rattle.sat_model.specs.Contractors.{meet_box}
use Rattle.sat_model.specs.Logs.{Body, Block}
use Rattle.paving_log.specs.CoverBoxes.{cover_of}
use Rattle.moving_tube.specs.Hulls.{hull_of}
use Rattle.moving_tube.specs.Reach.{reach_of}

abbrev pub grown_side : ℤ → Side → Side
grown_side reach s = record { lo = s.lo -ℤ reach; hi = s.hi +ℤ reach }

-- so much wider on each side
abbrev pub grown_box : ℤ → GridBox → GridBox
grown_box reach c = record {
  x = grown_side reach c.x;
  y = grown_side reach c.y;
  z = grown_side reach c.z;
}

-- what the search box has of a box that is grown by the reach
abbrev pub reached_box : ℕ → GridBox → GridBox → GridBox
reached_box reach kept search = meet_box search (grown_box (pos reach) kept)

-- ---- from epoch to epoch

-- where the receiver was in an epoch that was searched in this root: in the hull of the in and edge
-- boxes, none where there are none; and in a block of few satellites in the root
abbrev pub kept_with : GridBox → Option Body → Option GridBox
kept_with root None = Some root
kept_with root (Some body) = hull_of (cover_of (Some body))

abbrev pub kept_of : GridBox → Block → Option GridBox
kept_of root block = kept_with root block.body

-- the time of the epoch before, and where the receiver was
pub record Before : Type 0 where
  pub tag : ℤ
  pub kept : Option GridBox

-- What an epoch of this time that kept this hands on to the next. A track that restarts hands on
-- nothing where none was kept, so that the next epoch is searched like the first.
abbrev pub handed_on : (restart : Bool) → ℤ → Option GridBox → Option Before
handed_on restart tag (Some kept) = Some (record { tag = tag; kept = Some kept })
handed_on true tag None = None
handed_on false tag None = Some (record { tag = tag; kept = None })

-- the root of an epoch: the search box for the first; none where the receiver is lost
abbrev pub root_after : ℕ → GridBox → ℤ → Option GridBox → ℤ → Option GridBox
root_after speed search from None to = None
root_after speed search from (Some kept) to =
    Some (reached_box (reach_of speed from to) kept search)

abbrev pub root_for : ℕ → GridBox → Option Before → ℤ → Option GridBox
root_for speed search None tag = Some search
root_for speed search (Some before) tag = root_after speed search before.tag before.kept tag
