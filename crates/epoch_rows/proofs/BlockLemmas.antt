-- The blocks that are made of own lines.
use Rattle.std.proofs.Common.{◌≡◌, ℕ, ◌≤◌, List, [], length, refl, ap, arith}
use Rattle.std.specs.Prelude.{ℤ, pos, ◌≤ℤ◌, ◌<ℤ◌}
use Rattle.std.specs.List.{AllByRecursion}
use Rattle.std.proofs.lemmas.Int.{ints}
use Rattle.epoch_rows.specs.Grown.{bare_body, AreGrownLines, skips_of}
use Rattle.epoch_rows.specs.Ready.{SkipsFit}
use Rattle.epoch_selection.specs.Selections.{first_epoch, last_epoch}
use Rattle.log_tokens.specs.Fields.{IsCountFromTo}
use Rattle.log_lines.specs.Lines.{HeaderFits}
use Rattle.log_lines.specs.Rows.{EntryFits, CornersFit, corners_of}
use Rattle.log_lines.specs.Text.{IsSkipped}
use Rattle.rinex_obs.specs.Facts.{AreNamedSats}
use Rattle.rinex_obs.specs.declared.obs.ObsEpoch.{ObsEpoch}
use Rattle.log_writer.proofs.GridSizes.{box3_fits}
use Rattle.grid_model.specs.Boxes.{GridBox, grid_box}
use Rattle.grid_model.specs.declared.boxes.Box3.{Box3}
use Rattle.sat_model.specs.Logs.{Body}
use Rattle.sat_model.specs.declared.rows.SatEntry.{SatEntry}
use Rattle.sat_rows.specs.Meanings.{Meaning}
use Rattle.sat_rows.specs.OwnRows.{AreLinesOf, usable_in}
use Rattle.sat_rows.specs.declared.lines.SatLine.{SatLine}
use Rattle.epoch_rows.proofs.LineLemmas.{usable_le, skips_le, grown_count, all_skipped, own_count, skips_fit, lines_fit}

-- ---- first lines

pub header_fits : (index n : ℕ) (ps tag : ℤ) → ps ≡ tag → IsCountFromTo first_epoch last_epoch index
    → pos 0 ≤ℤ tag → tag <ℤ pos 4000000000000000000000 → n ≤ 64
    → HeaderFits (record { index = index; ps = ps; n = n })
header_fits index n ps tag same counted from under few = record { index = counted; ps = (omega (arith, ints, from), omega (arith, ints, under)); n = (omega arith, few) }

-- ---- roots

pub bare_fits : (body : Body) (root : Box3) → body ≡ bare_body (grid_box root)
    → CornersFit (corners_of body.root) × ((body.events ≡ []) × (body.done ≡ 0) × (body.bounds ≡ []))
bare_fits body root is = rw is (box3_fits root, (refl, refl, refl))

-- ---- satellite lines

module _ (m : Meaning) (root : GridBox) (seen : ObsEpoch) (own given : List SatLine) (are : AreLinesOf m root seen own) (same : given ≡ own) where
  pub few_usable : (n : ℕ) → n ≡ usable_in own → n ≤ 64
  few_usable n is = omega (arith, usable_le own, own_count m root seen.tag seen.sats.items own are, seen.few)

  pub few_skips : (items : List SatEntry) → items ≡ skips_of given → length items ≤ 64
  few_skips items is = rw (is, same) (omega (arith, skips_le own, own_count m root seen.tag seen.sats.items own are, seen.few))

  pub skips_skipped : (items : List SatEntry) → items ≡ skips_of given
      → AllByRecursion IsSkipped items
  skips_skipped items is = rw (is, same) (all_skipped own)

  pub few_grown : (by err_by : ℤ) (items : List SatEntry) → AreGrownLines by err_by given items
      → length items ≤ 64
  few_grown by err_by items grown =
      omega (arith, grown_count by err_by given items grown, ap length same, own_count m root seen.tag seen.sats.items own are, seen.few)

  module _ (skips : SkipsFit m) (named : AreNamedSats seen.sats.items) where
    pub skip_entries : (items : List SatEntry) → items ≡ skips_of given
        → AllByRecursion EntryFits items
    skip_entries items is = rw (is, same) (skips_fit m root seen.tag skips seen.sats.items own named are)

    pub grown_entries : (by err_by : ℤ) (items : List SatEntry)
        → AreGrownLines by err_by given items → AllByRecursion EntryFits items
    grown_entries by err_by items grown = lines_fit m root seen.tag skips by err_by seen.sats.items own items named are (rw same at grown)
