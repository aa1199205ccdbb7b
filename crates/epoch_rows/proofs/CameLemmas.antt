-- A log of what came from the epochs of a file, against the files.
use Rattle.std.proofs.Common.{◌≡◌, ℕ, Bool, List, [], ◌∷◌, map, refl, sym, subst, Option, None, Some}
use Rattle.std.specs.Prelude.{slice_get}
use Rattle.range_contractor.proofs.BoxLemmas.{box_lies}
use Rattle.bound_directions.specs.declared.directions.Directions.{Directions}
use Rattle.epoch_selection.specs.Searches.{Search, search_in}
use Rattle.log_writer.proofs.LogLemmas.{same_few}
use Rattle.log_writer.specs.Kept.{hull_kept, hull_of_last}
use Rattle.log_writer.specs.Pavings.{BodyExtends, HasRun, Paves}
use Rattle.log_writer.specs.Sources.{Came}
use Rattle.log_writer.specs.Texts.{IsWhole}
use Rattle.moving_tube.specs.Hulls.{HullLies}
use Rattle.paving.proofs.TurnLemmas.{Suits}
use Rattle.paving.specs.Renewing.{Maker}
use Rattle.paving_log_check.proofs.FitLemmas.{fit_all}
use Rattle.paving_log_check.specs.Admissible.{Admits}
use Rattle.paving_log_check.specs.Checked.{IsAccepted}
use Rattle.paving_log_check.specs.FileCover.{FileCover}
use Rattle.paving_log_check.specs.OwnLines.{OwnLines, AreOwn}
use Rattle.grid_model.proofs.PointLemmas.{low_corner}
use Rattle.grid_model.specs.Boxes.{GridBox, grid_box}
use Rattle.grid_model.specs.SearchBoxes.{IsSearchBox}
use Rattle.grid_model.specs.declared.boxes.Box3.{Box3}
use Rattle.sat_model.specs.Cover.{kept_boxes}
use Rattle.sat_model.specs.Logs.{Block, rows_of}
use Rattle.sat_model.specs.Verdicts.{BlocksPass}
use Rattle.sat_model.specs.declared.rows.SatEntry.{SatEntry}
use Rattle.sat_model.specs.declared.rules.Rules.{Rules}
use Rattle.sat_rows.specs.Meanings.{Meaning, IsSound}
use Rattle.epoch_rows.proofs.AdmitLemmas.{HavePoints, boxes_of, admits_from, owns_of}
use Rattle.epoch_rows.proofs.AgreeLemmas.{HasPoint}
use Rattle.epoch_rows.proofs.HullLemmas.{told_lies}
use Rattle.epoch_rows.proofs.NextLemmas.{given_root}
use Rattle.epoch_rows.specs.EpochsLeft.{Last, EpochsLeft, IsKept, IsEnded, GivesNext, kept_told, source_of}
use Rattle.epoch_rows.specs.Renewed.{Hand, hand_of, maker_of}
use Rattle.epoch_rows.specs.Solved.{IsMade, IsSolved, AreSolved}

has_point : (root : Box3) → IsSearchBox (grid_box root) → HasPoint (grid_box root)
has_point root box = record { box = box; point = root.lo; inside = low_corner root }

-- the maker of a block's rows gives each of the satellite in its place
suits_rows : (m : Meaning) (renews : Bool) (search : Search) (given : Block) (sats : List SatEntry)
    → sats ≡ given.sats → Suits (maker_of m renews (Some (hand_of search given))) (rows_of sats)
suits_rows m renews search given sats same active i part row gives =
    subst (λ (entries : List SatEntry). slice_get (map (λ first. first.sat) (rows_of entries)) i ≡ Some row.sat) (sym same) gives.0

module _ (m : Meaning) (renews : Bool) (directions : Option Directions) (rules : Rules) where
  -- the blocks are solved of the searches that were made, and there are no more of them
  record CameOf (left : EpochsLeft) (hull : Option GridBox) (blocks : List Block) : Type 0 where
    solved : AreSolved m renews directions rules (left.searches hull blocks) blocks
    points : HavePoints (left.searches hull blocks)

  -- what is made of a block that was given is made for its search
  pub made_of : (Makes : Maker → Rules → Block → Block → Type 0) (left : EpochsLeft) (hull : Option GridBox) (given block : Block) (next : EpochsLeft)
      (gave : GivesNext m rules.outliers left hull given next)
      → Makes (maker_of m renews next.hand) rules given block
      → IsMade m renews directions rules Makes (search_in (grid_box gave.root) gave.epoch) block
  made_of Makes left hull given block next gave made = record {
    given = given;
    grown = gave.grown;
    made = subst (λ (hand : Option Hand). Makes (maker_of m renews hand) rules given block) gave.hand made;
  }

  module _ (left : EpochsLeft) (hull : Option GridBox) (given block : Block) (next : EpochsLeft) (gave : GivesNext m rules.outliers left hull given next)
      (paves : Paves directions (maker_of m renews next.hand) rules given block) where
    abbrev here : Search
    here = search_in (grid_box gave.root) gave.epoch

    abbrev maker : Maker
    maker = maker_of m renews (Some (hand_of here given))

    solved : IsSolved m renews directions rules here block
    solved = made_of (Paves directions) left hull given block next gave paves

    extends : BodyExtends (HasRun directions maker rules) block given.body block.body
    extends = (subst (λ (hand : Option Hand). Paves directions (maker_of m renews hand) rules given block) gave.hand paves).body

    -- the hull of its boxes lies in its root
    pub next_kept : IsKept next.last (hull_kept block.body)
    next_kept =
        let root = grid_box gave.root in
        let few = same_few (HasRun directions maker rules) block given.body block.body extends in
        let lies = told_lies directions maker rules block (suits_rows m renews here given block.sats paves.sats) root given.body (box_lies gave.root)
        (given_root m.delays root gave.grown.own given.sats given.body gave.grown.body) extends in
        subst (λ (l : Option Last). IsKept l (hull_kept block.body)) (sym gave.last)
        (subst (λ (f : Bool). HullLies (kept_told f root (hull_kept block.body)) root) few lies)

    module _ (kept : IsKept left.last hull) where
      pub next_searches : (blocks : List Block)
          → left.searches hull (block ∷ blocks) ≡ here ∷ next.searches (hull_kept block.body) blocks
      next_searches blocks =
          (gave.is_first kept).goes_on block blocks (same_few (HasRun directions maker rules) block given.body block.body extends)

      more_came : (blocks : List Block) → CameOf next (hull_kept block.body) blocks
          → CameOf left hull (block ∷ blocks)
      more_came blocks later = record {
        solved = rw (next_searches blocks) (solved, later.solved);
        points = rw (next_searches blocks) (has_point gave.root gave.box, later.points);
      }

  came_of : (left : EpochsLeft) (hull : Option GridBox) (blocks : List Block) (behind last : EpochsLeft)
      → IsKept left.last hull
      → Came (source_of m rules.outliers renews directions) rules left hull blocks behind
      → IsEnded behind (hull_of_last hull blocks) last → CameOf left hull blocks
  came_of left hull [] behind last kept came ended =
      let none : left.searches hull [] ≡ [] = subst (λ (l : EpochsLeft). l.searches hull [] ≡ []) (sym came) (ended.over (subst (λ (l : EpochsLeft). IsKept l.last hull) came kept) []) in
      record { solved = rw none tt; points = rw none tt }
  came_of left hull (block ∷ blocks) behind last kept (given, next, gave, paves, came) ended =
      more_came left hull given block next gave paves kept blocks
      (came_of next (hull_kept block.body) blocks behind last (next_kept left hull given block next gave paves) came ended)

-- before the first block nothing has to be kept
pub first_kept : (last : Option Last) → last ≡ None → IsKept last None
first_kept last first = rw first tt

-- the whole log, from the first epoch on
module _ (m : Meaning) (sound : IsSound m) (renews : Bool) (directions : Option Directions) (rules : Rules) (left last : EpochsLeft) (first : left.last ≡ None) (limit : ℕ) (bytes said : List ℕ)
    (w : IsWhole (source_of m rules.outliers renews directions) rules left last limit bytes said) where
  abbrev pub whole_searches : List Search
  whole_searches = left.searches None w.log.blocks

  whole_came : CameOf m renews directions rules left None w.log.blocks
  whole_came = came_of m renews directions rules left None w.log.blocks w.behind last (first_kept left.last first) w.came w.no_more

  -- each block is solved of its search
  pub whole_solved : AreSolved m renews directions rules whole_searches w.log.blocks
  whole_solved = whole_came.solved

  whole_passes : BlocksPass rules None w.log.blocks
  whole_passes = rw w.same_rules at w.judged

  -- all own lines admit it, also those of the first epochs alone
  pub whole_admits : (owns : List OwnLines) → AreOwn m whole_searches w.log.blocks owns
      → Admits m.delays whole_searches owns rules w.log
  whole_admits owns are = record {
    same_rules = rw w.same_rules (record { outliers = refl; bisections = refl; width = refl; pairs = refl });
    blocks = admits_from m sound renews directions rules None whole_searches w.log.blocks whole_came.points whole_solved whole_passes owns are;
  }

  -- and in each paved epoch it covers what fits
  pub whole_covers : FileCover m rules.outliers whole_searches w.log
  whole_covers =
      let (owns, are, each, whole) = owns_of m sound renews directions rules None whole_searches w.log.blocks whole_came.points whole_solved whole_passes in
      fit_all m sound rules None owns whole_searches w.log.blocks (boxes_of whole_searches whole_came.points) (whole_admits owns are).blocks are whole each

  -- they accept it
  pub whole_accepted : IsAccepted m whole_searches rules w.log (kept_boxes w.log)
  whole_accepted =
      let (owns, are, each, whole) = owns_of m sound renews directions rules None whole_searches w.log.blocks whole_came.points whole_solved whole_passes in
      record { owns = owns; are_own = are; admissible = record { each = each; whole = whole; admits = whole_admits owns are }; cover = whole_covers; boxes_are = refl }
