-- What came from a source, said of another source that stands alike, where the first keeps what the
-- second leaves out.
use Rattle.std.proofs.Common.{◌≡◌, ℕ, Bool, true, List, [], ◌∷◌, Option, None, Some, Result, Ok, Err, refl, ap, sym, subst, ◌∙◌}
use Rattle.bound_directions.specs.declared.directions.Directions.{Directions}
use Rattle.epoch_rows.specs.EpochsLeft.{EpochsLeft, with_hand, IsEnded, GivesNext, source_of}
use Rattle.epoch_rows.specs.Makers.{IsMakerFor, GivesBlock, GivesAny}
use Rattle.epoch_rows.specs.Renewed.{Hand, IsGrownFrom, maker_from, maker_of}
use Rattle.epoch_rows.specs.declared.maker.RowMaker.{RowMaker}
use Rattle.gnss_model.specs.declared.delays.Delays.{Delays}
use Rattle.log_writer.specs.Breaks.{BrokeOff}
use Rattle.log_writer.specs.Kept.{hull_kept, hull_of_last}
use Rattle.log_writer.specs.Pavings.{Paves}
use Rattle.log_writer.specs.Pieces.{pieces_with}
use Rattle.log_writer.specs.Sources.{Source, version_from, Came, IsInHand}
use Rattle.log_writer.specs.Texts.{IsText}
use Rattle.log_writer.specs.declared.fault.WriteFault.{WriteFault}
use Rattle.grid_model.specs.Boxes.{GridBox, grid_box}
use Rattle.sat_model.specs.Logs.{Block}
use Rattle.sat_model.specs.declared.rows.Row.{Row}
use Rattle.sat_model.specs.declared.rules.Rules.{Rules}
use Rattle.sat_rows.specs.Meanings.{Meaning}
use Rattle.sat_rows.specs.declared.bases.Base.{Base}
use Rattle.epoch_rows.proofs.BaseLemmas.{renewed_row}
use Rattle.epoch_rows.proofs.MakerLemmas.{GoesAs, paves_as, begins_as}

module _ {B C : Type 0} (source : Source B) (others : Source C) (same_directions : source.directions ≡ others.directions) (Stands : B → C → Type 0) where
  -- the second gives the block too, and both stand alike behind it
  pub record GivesToo (was : C) (hull : Option GridBox) (block : Block) (new : B) : Type 0 where
    pub is : C
    pub stands : Stands new is
    pub gave : others.gives was hull (Some block) is
    pub goes : GoesAs (source.maker new) (others.maker is)

  -- and where the first has no more, neither has the second, which then stands so
  module _ (ended : B → C) (each : (old : B) (was : C) (hull : Option GridBox) (block : Block) (new : B) → Stands old was → source.gives old hull (Some block) new → GivesToo was hull block new)
      (ends : (old : B) (was : C) (hull : Option GridBox) (new : B) → Stands old was → source.gives old hull None new → others.gives was hull None (ended new)) (rules : Rules) where
    came_kept : (first last : B) (was : C) (hull : Option GridBox) (blocks : List Block)
        → Stands first was → Came source rules first hull blocks last
        → (is : C) × Came others rules was hull blocks is × Stands last is
    came_kept first last was hull [] stands came = (was, refl, subst (λ (b : B). Stands b was) came stands)
    came_kept first last was hull (block ∷ blocks) stands (given, next, gave, paves, later) =
        let g = each first was hull given next stands gave in
        let (is, came, still) = came_kept next last g.is (hull_kept block.body) blocks g.stands later in
        let made = paves_as (source.maker next) (others.maker g.is) g.goes rules source.directions given block paves in
        let same_made = subst (λ (directions : Option Directions). Paves directions (others.maker g.is) rules given block) same_directions made in
        (is, (given, g.is, g.gave, same_made, came), still)

    in_hand_kept : (behind : B) (is : C) (hull : Option GridBox) (hand : Option Block)
        → Stands behind is → IsInHand source rules behind hull hand
        → IsInHand others rules is hull hand
    in_hand_kept behind is hull None stands in_hand = tt
    in_hand_kept behind is hull (Some block) stands (given, next, gave, begins) =
        let g = each behind is hull given next stands gave in
        (given, g.is, g.gave, begins_as (source.maker next) (others.maker g.is) g.goes rules given block begins)

    same_version : (first : B) (was : C)
        → (source.maker first).active ≡ (others.maker was).active
        → version_from source rules first ≡ version_from others rules was
    same_version first was same = rw (same, same_directions) refl

    pub text_kept : {T : Type 0} (first last : B) (was : C) (limit : ℕ) (r : Result T WriteFault) (bytes said : List ℕ)
        → Stands first was
        → (source.maker first).active ≡ (others.maker was).active
        → IsText source rules first last limit r bytes said
        → IsText others rules was (ended last) limit r bytes said
    text_kept first last was limit (Ok done) bytes said stands same w =
        let (is, came, still) = came_kept first w.behind was None w.log.blocks stands w.came in
        record {
          log = w.log;
          version = w.version ∙ same_version first was same;
          same_rules = w.same_rules;
          behind = is;
          came = came;
          no_more = ends w.behind is (hull_of_last None w.log.blocks) last still w.no_more;
          text = w.text;
          report = w.report;
          judged = w.judged;
          cover = w.cover;
          fits = w.fits;
        }
    text_kept first last was limit (Err fault) bytes said stands same w =
        let (is, came, still) = came_kept first w.behind was None w.blocks stands w.came in
        record {
          blocks = w.blocks;
          behind = is;
          came = came;
          hand = w.hand;
          in_hand = in_hand_kept w.behind is (hull_of_last None w.blocks) w.hand still w.in_hand;
          broke = subst (λ (version : ℕ). BrokeOff limit (pieces_with (record { version = version; rules = rules; blocks = w.blocks }) w.hand) fault bytes said) (same_version first was same) w.broke;
        }

-- ---- the maker of a block's rows

-- the values of a maker are those of the block in hand
goes_from : (m : Meaning) (hand : Hand) (renews asked : Bool) (delays : Delays) (root : GridBox) (bases : List Base)
    → asked ≡ renews
    → (asked ≡ true → (delays ≡ m.delays) × (root ≡ hand.search.root) × ((i : ℕ) (part : GridBox) (row : Row) → IsGrownFrom m.delays hand.search.root bases i part row → (maker_of m renews (Some hand)).gives i part row))
    → GoesAs (maker_from asked delays root bases) (maker_of m renews (Some hand))
goes_from m hand renews asked delays root bases same are = record {
  active = same;
  gives = λ active i part row g. let (delays_are, root_is, all) = are active in all i part row (rw (delays_are, root_is) at g);
}

pub maker_goes : (m : Meaning) (hand : Hand) (renews : Bool) (maker : RowMaker)
    → maker.renews ≡ renews → (renews ≡ true → IsMakerFor m hand maker)
    → GoesAs (maker_from maker.renews maker.delays (grid_box maker.root) maker.bases.items) (maker_of m renews (Some hand))
maker_goes m hand renews maker same is =
    goes_from m hand renews maker.renews maker.delays (grid_box maker.root) maker.bases.items same
    (λ active. let k = is (sym same ∙ active) in (k.delays, k.root, renewed_row m hand maker.bases.items k.bases))

-- ---- the epochs of a file

-- what is in hand doesn't count for what comes next
any_hand : (m : Meaning) (q : ℕ) (hand : Option Hand) (left : EpochsLeft) (hull : Option GridBox) (block : Block) (new : EpochsLeft)
    → GivesNext m q left hull block new → GivesNext m q (with_hand hand left) hull block new
any_hand m q hand left hull block new g = record {
  epoch = g.epoch;
  root = g.root;
  first = g.first;
  box = g.box;
  is_first = g.is_first;
  grown = g.grown;
  last = g.last;
  hand = g.hand;
}

any_end : (hand : Option Hand) (left : EpochsLeft) (hull : Option GridBox) (new : EpochsLeft)
    → IsEnded left hull new → IsEnded (with_hand hand left) hull new
any_end hand left hull new e = record { over = e.over; lost = e.lost }

-- What came from blocks that have a source of rows, rules, epochs that are left and a maker of rows came from these epochs.
module _ {B S : Type 0} (rows_in : B → S) (rules_in : B → Rules) (left_in : B → EpochsLeft) (maker_in : B → RowMaker) (meaning : S → Meaning) (directions : Option Directions) where
  abbrev pub of_blocks : Source B
  of_blocks = record {
    gives = λ (old : B) (hull : Option GridBox) (next : Option Block) (new : B). (rows_in new ≡ rows_in old) × (rules_in new ≡ rules_in old) × ((maker_in new).renews ≡ (maker_in old).renews)
        × GivesAny (meaning (rows_in old)) (rules_in old).outliers (maker_in old).renews (left_in old) hull next (left_in new) (maker_in new);
    maker = λ (b : B). maker_from (maker_in b).renews (maker_in b).delays (grid_box (maker_in b).root) (maker_in b).bases.items;
    directions = directions;
  }

  module _ (first : B) where
    abbrev Others : Source EpochsLeft
    Others = source_of (meaning (rows_in first)) (rules_in first).outliers (maker_in first).renews directions

    -- the source, the rules and the maker are those of the first, and the same epochs are left
    record Stands (b : B) (left : EpochsLeft) : Type 0 where
      rows : rows_in b ≡ rows_in first
      rules : rules_in b ≡ rules_in first
      renews : (maker_in b).renews ≡ (maker_in first).renews
      left_is : left ≡ with_hand left.hand (left_in b)

    given_here : (old : B) (hull : Option GridBox) (block : Block) (new : B)
        → rows_in old ≡ rows_in first → rules_in old ≡ rules_in first
        → (maker_in old).renews ≡ (maker_in first).renews
        → GivesBlock (meaning (rows_in old)) (rules_in old).outliers (maker_in old).renews (left_in old) hull block (left_in new) (maker_in new)
        → GivesBlock (meaning (rows_in first)) (rules_in first).outliers (maker_in first).renews (left_in old) hull block (left_in new) (maker_in new)
    given_here old hull block new rows rules renews g =
        subst (λ (s : S). GivesBlock (meaning s) (rules_in first).outliers (maker_in first).renews (left_in old) hull block (left_in new) (maker_in new)) rows
        (subst (λ (r : Rules). GivesBlock (meaning (rows_in old)) r.outliers (maker_in first).renews (left_in old) hull block (left_in new) (maker_in new)) rules
        (subst (λ (b : Bool). GivesBlock (meaning (rows_in old)) (rules_in old).outliers b (left_in old) hull block (left_in new) (maker_in new)) renews g))

    each : (old : B) (was : EpochsLeft) (hull : Option GridBox) (block : Block) (new : B)
        → Stands old was → of_blocks.gives old hull (Some block) new
        → GivesToo of_blocks Others refl Stands was hull block new
    each old was hull block new stands (rows, rules, renews, gave) =
        let m = meaning (rows_in first) in
        let q = (rules_in first).outliers in
        let g = given_here old hull block new stands.rows stands.rules stands.renews gave in
        let same = renews ∙ stands.renews in
        record {
          is = with_hand (Some g.hand) (left_in new);
          stands = record { rows = rows ∙ stands.rows; rules = rules ∙ stands.rules; renews = same; left_is = refl };
          gave = subst (λ (l : EpochsLeft). GivesNext m q l hull block (with_hand (Some g.hand) (left_in new))) (sym stands.left_is)
              (any_hand m q was.hand (left_in old) hull block (with_hand (Some g.hand) (left_in new)) g.next);
          goes = maker_goes m g.hand (maker_in first).renews (maker_in new) same g.is_maker;
        }

    ends : (old : B) (was : EpochsLeft) (hull : Option GridBox) (new : B) → Stands old was
        → of_blocks.gives old hull None new → Others.gives was hull None (left_in new)
    ends old was hull new stands (rows, rules, renews, ended) =
        subst (λ (l : EpochsLeft). IsEnded l hull (left_in new)) (sym stands.left_is) (any_end was.hand (left_in old) hull (left_in new) ended)

    pub text_of_epochs : {T : Type 0} (last : B) (rules : Rules) (limit : ℕ) (r : Result T WriteFault) (bytes said : List ℕ)
        → IsText of_blocks rules first last limit r bytes said
        → IsText (source_of (meaning (rows_in first)) (rules_in first).outliers (maker_in first).renews directions) rules (left_in first) (left_in last) limit r bytes said
    text_of_epochs last rules limit r bytes said text =
        text_kept of_blocks Others refl Stands left_in each ends rules first last (left_in first) limit r bytes said
        (record { rows = refl; rules = refl; renews = refl; left_is = refl }) refl text
