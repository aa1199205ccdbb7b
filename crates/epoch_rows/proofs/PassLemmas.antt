-- The block of an epoch passes the tests of its own lines.
use Rattle.std.proofs.Common.{◌≡◌, ℕ, ◌+◌, Bool, true, false, List, sym, subst, ◌∙◌, arith}
use Rattle.std.specs.Prelude.{pos, nat_lt, Option, None, Some, is_none}
use Rattle.std.proofs.lemmas.Bool.{ltb-true, ltb-false}
use Rattle.epoch_rows.specs.Grown.{skips_of, HasBody, IsGrownBlock}
use Rattle.epoch_selection.specs.Searches.{Search}
use Rattle.paving_log.specs.RowsText.{OwnPasses}
use Rattle.rinex_obs.specs.Facts.{AreDistinct}
use Rattle.rinex_obs.specs.declared.obs.ObsEpoch.{ObsEpoch}
use Rattle.grid_model.specs.Boxes.{GridBox}
use Rattle.grid_model.specs.Lengths.{spare_of}
use Rattle.sat_model.specs.Logs.{Body, Block, is_few}
use Rattle.gnss_model.specs.Delays.{err_spare_of}
use Rattle.sat_model.specs.Verdicts.{IsLater, SuitsNumber, CountsRows, NoneRepeats}
use Rattle.sat_model.specs.declared.rules.Rules.{Rules}
use Rattle.sat_model.specs.declared.rows.SatEntry.{SatEntry}
use Rattle.sat_rows.specs.Meanings.{Meaning}
use Rattle.sat_rows.specs.OwnRows.{AreLinesOf, usable_in}
use Rattle.sat_rows.specs.declared.lines.SatLine.{SatLine}
use Rattle.epoch_rows.proofs.ApartLemmas.{none_repeats}
use Rattle.epoch_rows.proofs.LineLemmas.{grown_rows, skips_apart, lines_apart}

-- ---- a block

suits : (few : Bool) (q n usable : ℕ) → few ≡ nat_lt usable (q + 4) → n ≡ usable
    → SuitsNumber few q n
suits true q n usable few same = omega (arith, same, ltb-true usable (q + 4) (sym few))
suits false q n usable few same = omega (arith, same, ltb-false usable (q + 4) (sym few))

module _ (m : Meaning) (root : GridBox) (own : List SatLine) (sats : List SatEntry) where
  counts : (n : ℕ) (body : Option Body) → n ≡ usable_in own → HasBody m.delays root own sats body
      → CountsRows (is_none body) n sats
  counts n None same is = tt
  counts n (Some body) same is = grown_rows (pos (spare_of root)) (pos (err_spare_of root m.delays)) own sats is.0 ∙ sym same

  once : (body : Option Body) (seen : ObsEpoch) → AreDistinct seen.sats.items
      → AreLinesOf m root seen own → HasBody m.delays root own sats body → NoneRepeats sats
  once None seen distinct are is =
      rw is (none_repeats (skips_of own) (skips_apart m root seen.tag seen.sats.items own distinct are))
  once (Some body) seen distinct are is =
      none_repeats sats (lines_apart m root seen.tag (pos (spare_of root)) (pos (err_spare_of root m.delays)) seen.sats.items own sats distinct are is.0)

-- it passes the tests of its own lines
pub grown_passes : (m : Meaning) (rules : Rules) (before : Option ℕ) (search : Search) (block : Block)
    → IsLater before search.epoch.index
    → AreDistinct search.epoch.sats.items → IsGrownBlock m rules.outliers search block
    → OwnPasses rules before block
grown_passes m rules before search block later distinct g = record {
  head = record {
    later = subst (IsLater before) (sym g.index) later;
    suits = suits (is_few block) rules.outliers block.n (usable_in g.own) g.few g.n;
    counts = counts m search.root g.own block.sats block.n block.body g.n g.body;
  };
  sats = once m search.root g.own block.sats block.body search.epoch distinct g.are_own g.body;
}
