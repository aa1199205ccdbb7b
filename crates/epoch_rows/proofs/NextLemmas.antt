-- The next block of a file's epochs.
use Rattle.std.proofs.Common.{◌≡◌, ℕ, Bool, List, [], ◌∷◌, length, map, refl, sym, ap, subst, ◌∙◌, arith}
use Rattle.std.specs.Prelude.{ℤ, Option, None, Some}
use Rattle.epoch_selection.specs.Searches.{Search, search_in}
use Rattle.epoch_selection.specs.Walks.{IsFirst}
use Rattle.log_writer.specs.Kept.{hull_kept}
use Rattle.log_writer.specs.Sources.{Follows, Serves}
use Rattle.log_lines.specs.declared.line.Form.TheVariants as form
use Rattle.log_lines.specs.Text.{BlockFits}
use Rattle.moving_tube.specs.Hulls.{HullLies}
use Rattle.moving_tube.specs.Tracks.{HasRoot}
use Rattle.rinex_obs.specs.declared.obs.ObsEpoch.{ObsEpoch}
use Rattle.gnss_model.specs.declared.delays.Delays.{Delays}
use Rattle.grid_model.specs.Boxes.{GridBox, grid_box}
use Rattle.sat_model.specs.Contractors.{LiesIn}
use Rattle.sat_model.specs.Logs.{Body, Block, is_few}
use Rattle.sat_model.specs.Verdicts.{IsLater}
use Rattle.sat_model.specs.declared.rows.SatEntry.{SatEntry}
use Rattle.sat_model.specs.declared.rules.Rules.{Rules}
use Rattle.sat_rows.specs.Meanings.{Meaning}
use Rattle.sat_rows.specs.declared.lines.SatLine.{SatLine}
use Rattle.epoch_rows.specs.EpochsLeft.{kept_told, ComesFirst}
use Rattle.epoch_rows.specs.Grown.{HasBody, IsGrownBlock}
use Rattle.epoch_rows.specs.Makers.{IsMakerFor}
use Rattle.epoch_rows.specs.Renewed.{hand_of}
use Rattle.epoch_rows.specs.declared.maker.RowMaker.{RowMaker}
use Rattle.epoch_rows.specs.Ready.{IsWritable, AreWritable, CanGive}
use Rattle.epoch_rows.proofs.PassLemmas.{grown_passes}

-- a block of a search has its root, or no body
pub given_root : (delays : Delays) (root : GridBox) (own : List SatLine) (sats : List SatEntry) (body : Option Body)
    → HasBody delays root own sats body → HasRoot root body
given_root delays root own sats None is = tt
given_root delays root own sats (Some body) is = ap (λ (b : Body). b.root) is.1

-- ---- the searches of a walk

-- what may be kept of a root is any part of it
pub keeps_part : (Keeps : Option GridBox → Type 0) (root : GridBox)
    → ((part : GridBox) → LiesIn part root → Keeps (Some part)) → Keeps None
    → (kept : Option GridBox) → HullLies kept root → Keeps kept
keeps_part Keeps root part nothing None lies = nothing
keeps_part Keeps root part nothing (Some hull) lies = part hull lies

-- the first search of a walk, which goes on from what it is told as from what the block keeps
pub comes_first : (keeps : GridBox → Block → Option GridBox) (behind : ℤ → Option GridBox → List Block → List Search)
    → ((tag : ℤ) (root : GridBox) (block : Block) (blocks : List Block) → behind tag (keeps root block) blocks ≡ behind tag (kept_told (is_few block) root (hull_kept block.body)) blocks)
    → (walked searches : List Block → List Search)
    → ((blocks : List Block) → walked blocks ≡ searches blocks)
    → (epoch : ObsEpoch) (root : GridBox) (few is : Bool) → few ≡ is
    → IsFirst walked keeps behind epoch root
    → ComesFirst searches (search_in root epoch) is (λ (hull : Option GridBox) (blocks : List Block). behind epoch.tag (kept_told few root hull) blocks)
comes_first keeps behind told walked searches same epoch root few is e first = record {
  goes_on = λ block blocks its. sym (same (block ∷ blocks)) ∙ first.goes_on block blocks
      ∙ ap (λ (later : List Search). search_in root epoch ∷ later)
      (told epoch.tag root block blocks ∙ ap (λ (f : Bool). behind epoch.tag (kept_told f root (hull_kept block.body)) blocks) (its ∙ sym e));
  ends = (first.ends.0, sym (same []) ∙ first.ends.1);
}

-- ---- its epoch

-- the epoch was taken from those that can stand in a log
module _ (m : Meaning) (before : Option ℕ) (old new : List ObsEpoch) (epoch : ObsEpoch) (first : old ≡ epoch ∷ new) (can : CanGive m before old) where
  pub first_writable : IsLater before epoch.index × IsWritable epoch × AreWritable (Some epoch.index) new
  first_writable = rw first at can.epochs_are

  pub rest_ready : CanGive m (Some epoch.index) new
  rest_ready = record { skips = can.skips; epochs_are = first_writable.2 }

  -- and this block was formed of it
  module _ (rules : Rules) (root : GridBox) (block : Block) (grown : IsGrownBlock m rules.outliers (search_in root epoch) block) where
    pub follows : BlockFits form.Rows block
        → Follows (record { rules = rules; before = before; most = length old }) block
        (record { rules = rules; before = Some epoch.index; most = length new })
    follows fits = record {
      fits = fits;
      passes = grown_passes m rules before (search_in root epoch) block first_writable.0 first_writable.1.distinct grown;
      rules = refl;
      before = ap (λ (n : ℕ). Some n) (sym grown.index);
      most = omega (arith, ap length first);
    }

    -- its root and the satellites of its rows are those of the maker
    pub serves : (maker : RowMaker) → IsMakerFor m (hand_of (search_in root epoch) block) maker
        → Serves (map (λ base. base.sat) maker.bases.items) (grid_box maker.root) block
    serves maker is body has =
        let its : body.root ≡ root = subst (HasRoot root) has (given_root m.delays root grown.own block.sats block.body grown.body) in
        (is.root ∙ sym its, is.bases.sats)
