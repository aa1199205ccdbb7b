-- Which epochs the blocks of a log may be formed of, and from where a walk over them goes on.
use Rattle.std.specs.Prelude.{◌≡◌, ℕ, ℤ, List, [], ◌∷◌, Option, None, Some}
use Rattle.epoch_selection.specs.Searches.{Search}
use Rattle.epoch_selection.specs.Selections.{first_epoch, last_epoch}
use Rattle.log_tokens.specs.Fields.{IsCountFromTo, SkipFits}
use Rattle.rinex_obs.specs.Facts.{AreDistinct, AreNamedSats}
use Rattle.rinex_obs.specs.declared.obs.ObsEpoch.{ObsEpoch}
use Rattle.rinex_obs.specs.declared.obs.SatObs.{SatObs}
use Rattle.grid_model.specs.Boxes.{GridBox, grid_box}
use Rattle.log_writer.specs.Kept.{hull_kept}
use Rattle.moving_tube.specs.Hulls.{HullLies}
use Rattle.sat_model.specs.Logs.{Block, is_few}
use Rattle.sat_model.specs.Verdicts.{IsLater}
use Rattle.gnss_model.specs.declared.satellites.Skip.{Skip}
use Rattle.sat_rows.specs.Meanings.{Meaning}
use Rattle.epoch_rows.specs.EpochsLeft.{kept_told}
use Rattle.epoch_rows.specs.declared.given.Given.{Given}

-- each reason not to use a satellite can stand in a log
abbrev pub SkipsFit : Meaning → Type 0
SkipsFit m = (root : GridBox) (tag : ℤ) (seen : SatObs) (skip : Skip)
    → m.judged root tag seen (Some skip) → SkipFits skip

-- its number is one of an epoch, and it has GPS satellites, none of them twice
pub record IsWritable (epoch : ObsEpoch) : Type 0 where
  pub index : IsCountFromTo first_epoch last_epoch epoch.index
  pub distinct : AreDistinct epoch.sats.items
  pub named : AreNamedSats epoch.sats.items

-- each may stand in a log, behind the one before
abbrev pub AreWritable : Option ℕ → List ObsEpoch → Type 0
AreWritable before [] = Unit {0}
AreWritable before (epoch ∷ more) =
    IsLater before epoch.index × IsWritable epoch × AreWritable (Some epoch.index) more

pub record CanGive (m : Meaning) (before : Option ℕ) (epochs : List ObsEpoch) : Type 0 where
  pub skips : SkipsFit m
  pub epochs_are : AreWritable before epochs

-- the walk is ready before the first block, and the last one may keep any part of its root
abbrev pub CanGoOn : Type 0 → (Option GridBox → Type 0) → Option Given → Type 0
CanGoOn ready may_keep None = ready
CanGoOn ready may_keep (Some g) =
    (kept : Option GridBox) → HullLies kept (grid_box g.root) → may_keep kept

-- Walks, by what they ask of a block and by the searches that they make behind one, go on from the
-- hull that a paving tells, or all of the root of a block of few satellites, as from what they ask.
abbrev pub GoesByHull : {W : Type 0} → (GridBox → Block → Option GridBox)
    → (W → ℤ → Option GridBox → List Block → List Search) → Type 0
GoesByHull {W} keeps behind = (walk : W) (tag : ℤ) (root : GridBox) (block : Block)
    (blocks : List Block) → behind walk tag (keeps root block) blocks
    ≡ behind walk tag (kept_told (is_few block) root (hull_kept block.body)) blocks
