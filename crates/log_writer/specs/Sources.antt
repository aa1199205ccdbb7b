-- Blocks that come one after another, each when the one before is finished.
use Rattle.std.specs.Prelude.{◌≡◌, ℕ, ◌+◌, ◌≤◌, Bool, true, List, [], ◌∷◌, map, Option, None, Some}
use Rattle.std.specs.Prelude.{is_some}
use Rattle.bound_directions.specs.declared.directions.Directions.{Directions}
use Rattle.sat_model.specs.declared.rules.Rules.{Rules}
use Rattle.gnss_model.specs.declared.satellites.Sat.{Sat}
use Rattle.grid_model.specs.Boxes.{GridBox}
use Rattle.sat_model.specs.Logs.{Body, Block, rows_of}
use Rattle.paving.specs.Renewing.{Maker}
use Rattle.log_lines.specs.declared.line.Form.TheVariants as form
use Rattle.paving_log.specs.RowsText.{OwnPasses}
use Rattle.log_lines.specs.Text.{BlockFits}
use Rattle.log_writer.specs.Kept.{hull_kept}
use Rattle.log_writer.specs.Pavings.{Paves, Begins}
use Rattle.log_writer.specs.Pieces.{version_of}

-- Where a source stands: by which rules its blocks are paved, the index of the block that it gave
-- last, and how many it gives at most.
pub record Standing : Type 0 where
  pub rules : Rules
  pub before : Option ℕ
  pub most : ℕ

-- The next block may come behind the one before, and has a rows form.
pub record Follows (old : Standing) (next : Block) (new : Standing) : Type 0 where
  pub fits : BlockFits form.Rows next
  pub passes : OwnPasses old.rules old.before next
  pub rules : new.rules ≡ old.rules
  pub before : new.before ≡ Some next.index
  pub most : new.most + 1 ≤ old.most

-- where there is one
abbrev pub FollowsAny : Standing → Option Block → Standing → Type 0
FollowsAny old None new = Unit {0}
FollowsAny old (Some next) new = Follows old next new

-- A maker with these satellites and this search box can renew the rows of the block.
abbrev pub Serves : List Sat → GridBox → Block → Type 0
Serves sats root block = (body : Body) → block.body ≡ Some body
    → (root ≡ body.root) × (sats ≡ map (λ row. row.sat) (rows_of block.sats))

-- where there is one, and the maker is active
abbrev pub ServesAny : Maker → List Sat → GridBox → Option Block → Type 0
ServesAny maker sats root None = Unit {0}
ServesAny maker sats root (Some next) = maker.active ≡ true → Serves sats root next

-- What a source gives: itself before, the hull of the boxes kept of the block before, the next
-- block, none behind the last, and itself after.
abbrev pub Gives : Type 0 → Type 1
Gives B = B → Option GridBox → Option Block → B → Type 0

-- what it gives, who renews the rows of the block that it gave last, and in which directions bounds
-- are asked for, if any are
pub record Source (B : Type 0) : Type 1 where
  pub gives : Gives B
  pub maker : B → Maker
  pub directions : Option Directions

abbrev pub source_of : {B : Type 0} → Gives B → (B → Maker) → Option Directions → Source B
source_of gives maker directions = record { gives = gives; maker = maker; directions = directions }

-- whether bounds are asked for
abbrev pub is_bounded : {B : Type 0} → Source B → Bool
is_bounded source = is_some source.directions

-- the version of its log
abbrev pub version_from : {B : Type 0} → Source B → Rules → B → ℕ
version_from source rules first =
    version_of rules (source.maker first).active (is_bounded source)

-- These finished blocks came from it, one after another: each paves the block that was given for
-- it.
abbrev pub Came : {B : Type 0} → Source B → Rules → B → Option GridBox → List Block → B → Type 0
Came source rules first hull [] last = first ≡ last
Came {B} source rules first hull (block ∷ more) last = (given : Block) × (next : B)
    × source.gives first hull (Some given) next
    × Paves source.directions (source.maker next) rules given block
    × Came source rules next (hull_kept block.body) more last

-- The next block came from it, and was begun, where one was in hand.
abbrev pub IsInHand : {B : Type 0} → Source B → Rules → B → Option GridBox → Option Block → Type 0
IsInHand source rules behind hull None = Unit {0}
IsInHand {B} source rules behind hull (Some block) = (given : Block) × (next : B)
    × source.gives behind hull (Some given) next × Begins (source.maker next) rules given block
