-- A log that is solved by the rows of searches leaves nothing clear.
use Rattle.std.specs.Prelude.{pos}
use Rattle.std.proofs.Common.{◌≡◌, ℕ, Bool, List, [], ◌∷◌, length, map, suc, refl, sym, ap, subst, ◌∙◌, Option, None, Some}
use Rattle.bound_directions.specs.declared.directions.Directions.{Directions}
use Rattle.box_contraction.proofs.BoxLemmas.{grid_part}
use Rattle.grid_model.specs.Boxes.{GridBox, grid_box}
use Rattle.epoch_selection.specs.Searches.{Search, search_in, searches_in}
use Rattle.range_contractor.proofs.TreeExists.{IsGridPart}
use Rattle.rinex_obs.specs.declared.obs.ObsEpoch.{ObsEpoch}
use Rattle.grid_model.specs.Lengths.{spare_of}
use Rattle.grid_model.specs.SearchBoxes.{IsSearchBox}
use Rattle.gnss_model.specs.Delays.{err_spare_of}
use Rattle.gnss_model.specs.declared.delays.Delays.{Delays}
use Rattle.sat_model.specs.BoxTests.{test_in}
use Rattle.sat_model.specs.Logs.{Body, Block, rows_of}
use Rattle.sat_model.specs.declared.rows.SatEntry.{SatEntry}
use Rattle.sat_model.specs.declared.rules.Rules.{Rules}
use Rattle.sat_rows.specs.Meanings.{Meaning, IsSound}
use Rattle.sat_rows.specs.declared.lines.SatLine.{SatLine}
use Rattle.epoch_rows.proofs.CameLemmas.{first_kept, made_of, next_kept, next_searches, whole_solved}
use Rattle.epoch_rows.specs.EpochsLeft.{EpochsLeft, GivesNext, IsKept, source_of}
use Rattle.epoch_rows.specs.Grown.{HasBody, AreGrownLines, IsGrownBlock}
use Rattle.epoch_rows.specs.Ready.{AreWritable}
use Rattle.epoch_rows.specs.Renewed.{hand_of, maker_of}
use Rattle.epoch_rows.specs.Solved.{IsSolved, IsSolvedFirst, AreSolved}
use Rattle.sharpness_laws.specs.Left.{maker_in, NothingClearIn, BodyLeavesNothingClear, HandLeavesNothingClear, BlocksLeaveNothingClear, LogLeavesNothingClear}
use Rattle.sharpness_laws.specs.UsableRows.{AreRowsOver, AreDistinctIf, AllDistinctIf}
use Rattle.log_writer.specs.Kept.{hull_kept, hull_of_last}
use Rattle.log_writer.specs.Pavings.{BodyExtends, HasRun, HasBegun, Paves, Begins}
use Rattle.log_writer.specs.Sources.{Source, Came, IsInHand}
use Rattle.log_writer.specs.Texts.{IsWhole, IsBegun}
use Rattle.log_writer.specs.declared.fault.WriteFault.{WriteFault}
use Rattle.paving.specs.Renewing.{Maker}
use Rattle.sharpness_laws.proofs.RunLemmas.{run_clear, first_clear}
use Rattle.sharpness_laws.proofs.UsableLemmas.{first_over, renewed_over}

-- ---- a block of a search over a box of the grid that isn't empty, whose satellites have names of
-- their own where rows are renewed

-- it has the root and the run that are asked of it
root_and_run : (delays : Delays) (root : GridBox) (own : List SatLine) (sats : List SatEntry) (Runs : Block → Body → Type 0) (block : Block) (given : Option Body) (body : Body)
    → HasBody delays root own sats given → BodyExtends Runs block given (Some body)
    → AreGrownLines (pos (spare_of root)) (pos (err_spare_of root delays)) own sats × (body.root ≡ root) × Runs block body
root_and_run delays root own sats Runs block None body has extends = absurd extends
root_and_run delays root own sats Runs block (Some given) body has extends =
    (has.0, extends.0 ∙ ap (λ (b : Body). b.root) has.1, extends.1)

module _ (m : Meaning) (sound : IsSound m) (renews : Bool) (directions : Option Directions) (rules : Rules) where
  module _ (search : Search) (box : IsSearchBox search.root) (grid : IsGridPart search.root) (distinct : AreDistinctIf renews search.epoch.sats.items) (given block : Block)
      (grown : IsGrownBlock m rules.outliers search given) (sats : block.sats ≡ given.sats) where
    abbrev maker : Maker
    maker = maker_in m renews search block

    module _ (lines : AreGrownLines (pos (spare_of search.root)) (pos (err_spare_of search.root m.delays)) grown.own given.sats) (body : Body) (root : body.root ≡ search.root) where
      rows_are : AreRowsOver m search search.root (rows_of block.sats)
      rows_are = rw sats (first_over m search grown.own given.sats grown.are_own lines)

      run_leaves : (paved : HasRun directions maker rules block body)
          → NothingClearIn m rules search body.done paved.shown
      run_leaves paved = rw paved.done (run_clear m sound rules search box grid maker (length (rows_of block.sats)) (renewed_over m search renews (rows_of block.sats) distinct rows_are)
          (test_in rules block) refl refl rows_are refl body.root root paved.shown paved.run)

      hand_leaves : (first : HasBegun maker rules block body)
          → NothingClearIn m rules search first.begun.paving.splits first.shown
      hand_leaves first = first_clear m sound rules search box grid maker (length (rows_of block.sats)) (renewed_over m search renews (rows_of block.sats) distinct rows_are)
          (test_in rules block) refl refl rows_are refl body.root root first.shown first.begun

    body_of : (theirs ours : Option Body) → HasBody m.delays search.root grown.own given.sats theirs
        → BodyExtends (HasRun directions maker rules) block theirs ours
        → BodyLeavesNothingClear m renews directions rules search block ours
    body_of theirs None has extends = tt
    body_of theirs (Some body) has extends =
        let (lines, root, paved) = root_and_run m.delays search.root grown.own given.sats (HasRun directions maker rules) block theirs body has extends in
        (root, paved, run_leaves lines body root paved)

    hand_of_body : (theirs ours : Option Body)
        → HasBody m.delays search.root grown.own given.sats theirs
        → BodyExtends (HasBegun maker rules) block theirs ours
        → HandLeavesNothingClear m renews directions rules search block ours
    hand_of_body theirs None has extends = tt
    hand_of_body theirs (Some body) has extends =
        let (lines, root, first) = root_and_run m.delays search.root grown.own given.sats (HasBegun maker rules) block theirs body has extends in
        (root, first, hand_leaves lines body root first)

  -- the maker goes by the rows of the block that was given, which are those of the block
  same_maker : (search : Search) (given block : Block) → block.sats ≡ given.sats
      → maker_of m renews (Some (hand_of search given)) ≡ maker_in m renews search block
  same_maker search given block sats = ap (λ (entries : List SatEntry). maker_of m renews (Some (record { search = search; sats = map (λ row. row.sat) (rows_of entries) }))) (sym sats)

  module _ (search : Search) (box : IsSearchBox search.root) (grid : IsGridPart search.root) (distinct : AreDistinctIf renews search.epoch.sats.items) (block : Block) where
    pub body_clear : IsSolved m renews directions rules search block
        → BodyLeavesNothingClear m renews directions rules search block block.body
    body_clear s =
        let body = subst (λ (maker : Maker). BodyExtends (HasRun directions maker rules) block s.given.body block.body) (same_maker search s.given block s.made.sats) s.made.body in
        body_of search box grid distinct s.given block s.grown s.made.sats s.given.body block.body s.grown.body body

    pub hand_clear : IsSolvedFirst m renews directions rules search block
        → HandLeavesNothingClear m renews directions rules search block block.body
    hand_clear s =
        let body = subst (λ (maker : Maker). BodyExtends (HasBegun maker rules) block s.given.body block.body) (same_maker search s.given block s.made.sats) s.made.body in
        hand_of_body search box grid distinct s.given block s.grown s.made.sats s.given.body block.body s.grown.body body

  -- each search has a block
  pub as_many : (searches : List Search) (blocks : List Block)
      → AreSolved m renews directions rules searches blocks → length blocks ≡ length searches
  as_many [] [] solved = refl
  as_many [] (block ∷ blocks) solved = absurd solved
  as_many (search ∷ searches) [] solved = absurd solved
  as_many (search ∷ searches) (block ∷ blocks) solved = ap suc (as_many searches blocks solved.1)

  -- ---- blocks of epochs that are searched in one box

  module _ (root : GridBox) (box : IsSearchBox root) (grid : IsGridPart root) where
    blocks_clear : (epochs : List ObsEpoch) (blocks : List Block) → AllDistinctIf renews epochs
        → AreSolved m renews directions rules (searches_in root epochs) blocks
        → BlocksLeaveNothingClear m renews directions rules (searches_in root epochs) blocks None
    blocks_clear epochs [] distinct solved = tt
    blocks_clear [] (block ∷ blocks) distinct solved = absurd solved
    blocks_clear (epoch ∷ epochs) (block ∷ blocks) distinct solved =
        (body_clear (search_in root epoch) box grid distinct.0 block solved.0, blocks_clear epochs blocks distinct.1 solved.1)

    pub log_clear : (epochs : List ObsEpoch) (blocks : List Block) → AllDistinctIf renews epochs
        → AreSolved m renews directions rules (searches_in root epochs) blocks
        → LogLeavesNothingClear m renews directions rules (searches_in root epochs) blocks
    log_clear epochs blocks distinct solved = (as_many (searches_in root epochs) blocks solved, blocks_clear epochs blocks distinct solved)

  -- ---- what came from a source of epochs, also where it has more of them

  abbrev source : Source EpochsLeft
  source = source_of m rules.outliers renews directions

  distinct_of : (left : EpochsLeft) (hull : Option GridBox) (given : Block) (next : EpochsLeft) (gave : GivesNext m rules.outliers left hull given next)
      → AllDistinctIf renews left.epochs
      → AreDistinctIf renews gave.epoch.sats.items × AllDistinctIf renews next.epochs
  distinct_of left hull given next gave distinct =
      let both : AllDistinctIf renews (gave.epoch ∷ next.epochs) = subst (AllDistinctIf renews) gave.first distinct in
      (both.0, both.1)

  hand_came : (behind : EpochsLeft) (hull : Option GridBox) (hand : Option Block)
      → IsKept behind.last hull → AllDistinctIf renews behind.epochs
      → IsInHand source rules behind hull hand
      → BlocksLeaveNothingClear m renews directions rules (behind.searches hull []) [] hand
  hand_came behind hull None kept distinct in_hand = tt
  hand_came behind hull (Some block) kept distinct (given, next, gave, begins) =
      subst (λ (l : List Search). BlocksLeaveNothingClear m renews directions rules l [] (Some block)) (sym (gave.is_first kept).ends.1)
      (hand_clear (search_in (grid_box gave.root) gave.epoch) gave.box (grid_part gave.root) (distinct_of behind hull given next gave distinct).0 block
      (made_of m renews directions rules Begins behind hull given block next gave begins))

  pub came_clear : (left : EpochsLeft) (hull : Option GridBox) (blocks : List Block) (behind : EpochsLeft) (hand : Option Block)
      → IsKept left.last hull → AllDistinctIf renews left.epochs
      → Came source rules left hull blocks behind
      → IsInHand source rules behind (hull_of_last hull blocks) hand
      → BlocksLeaveNothingClear m renews directions rules (left.searches hull blocks) blocks hand
  came_clear left hull [] behind hand kept distinct came in_hand =
      hand_came left hull hand kept distinct (subst (λ (l : EpochsLeft). IsInHand source rules l hull hand) (sym came) in_hand)
  came_clear left hull (block ∷ blocks) behind hand kept distinct (given, next, gave, paves, came) in_hand =
      let (here, later) = distinct_of left hull given next gave distinct in
      subst (λ (l : List Search). BlocksLeaveNothingClear m renews directions rules l (block ∷ blocks) hand) (sym (next_searches m renews directions rules left hull given block next gave paves kept blocks)) (
        body_clear (search_in (grid_box gave.root) gave.epoch) gave.box (grid_part gave.root) here block (made_of m renews directions rules (Paves directions) left hull given block next gave paves),
        came_clear next (hull_kept block.body) blocks behind hand (next_kept m renews directions rules left hull given block next gave paves) later came in_hand,
      )

  module _ (left : EpochsLeft) (first : left.last ≡ None) (distinct : AllDistinctIf renews left.epochs) (limit : ℕ) (bytes said : List ℕ) where
    -- the whole log
    pub whole_clear : (last : EpochsLeft) (w : IsWhole source rules left last limit bytes said)
        → LogLeavesNothingClear m renews directions rules (left.searches None w.log.blocks) w.log.blocks
    whole_clear last w = (
      as_many (left.searches None w.log.blocks) w.log.blocks (whole_solved m sound renews directions rules left last first limit bytes said w),
      came_clear left None w.log.blocks w.behind None (first_kept left.last first) distinct w.came tt,
    )

    -- what a fault left of it
    pub begun_clear : (fault : WriteFault) (b : IsBegun fault source rules left limit bytes said)
        → BlocksLeaveNothingClear m renews directions rules (left.searches None b.blocks) b.blocks b.hand
    begun_clear fault b = came_clear left None b.blocks b.behind b.hand (first_kept left.last first) distinct b.came b.in_hand

-- ---- epochs that can stand in a log

-- their satellites have names of their own
pub writable_distinct : (renews : Bool) (before : Option ℕ) (epochs : List ObsEpoch)
    → AreWritable before epochs → AllDistinctIf renews epochs
writable_distinct renews before [] writable = tt
writable_distinct renews before (epoch ∷ epochs) writable =
    (λ active. writable.1.distinct, writable_distinct renews (Some epoch.index) epochs writable.2)
