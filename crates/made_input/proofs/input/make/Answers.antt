use Rattle.std.proofs.Common.{◌≤◌, ℕ, List, map, length, ◌∙◌, ap, sym, subst, arith, None, false}
use Rattle.std.proofs.lemmas.Int.{ints}
use Rattle.rinex_nav.specs.Files.{IsNavFile}
use Rattle.rinex_nav.specs.Records.{Broadcast}
use Rattle.rinex_obs.specs.Files.{IsObsFile}
use Rattle.gnss_model.specs.declared.satellites.Signal.TheVariants.{Single}
use Rattle.made_texts.specs.NavText.{nav_lines, broadcast_of}
use Rattle.made_texts.specs.ObsText.{AreEpochs, obs_lines, observed_from, code_c1c}
use Rattle.made_texts.specs.TextLines.{text_of}
use Rattle.made_texts.specs.declared.ephemeris.Ephemeris.{Ephemeris}
use Rattle.made_texts.specs.declared.sat_codes.EpochCodes.{EpochCodes}
use Rattle.made_texts.proofs.NavLemmas.{nav_read}
use Rattle.made_input.specs.MadeCodes.{place_x, place_y, place_z, centre_x, centre_y, centre_z}
use Rattle.made_input.specs.MadeRecords.{made_records}
use Rattle.made_input.proofs.EpochLemmas.{all_can_be_written}
use Rattle.made_input.proofs.MakeLemmas.{place_made, centre_moved}
use Rattle.made_input.proofs.input.make.Goals as goal

pub obs_text-requires-clause-are : goal.obs_text-requires-clause-are
obs_text-requires-clause-are c =
    subst (λ (es : List EpochCodes). AreEpochs es) (sym c.as_slice-2.ensures.value)
    (all_can_be_written c.args.seed 0 c.in_ok-epochs.epochs.items c.in_ok-epochs.ensures.epochs (omega (arith, c.in_ok-epochs.ensures.count, c.requires.to)))

pub returns : goal.returns
returns c =
    let at = c.draw_place-at.ensures in
    let seed = c.new-draws.ensures.seed in
    let x = at.x ∙ ap place_x seed in
    let y = at.y ∙ ap place_y seed in
    let z = at.z ∙ ap place_z seed in
    let records = c.in_ok-records.records.items in
    let are = c.in_ok-records.ensures.records ∙ ap made_records (at.seed ∙ seed) in
    let nav = c.in_ok-nav.ensures.text ∙ ap (λ (rs : List Ephemeris). text_of (nav_lines rs)) c.as_slice.ensures.value in
    let few : length records ≤ 200000 = omega (arith, c.in_ok-records.ensures.count) in
    let file = nav_read records c.in_ok-records.ensures.named few in
    let centre = c.in_ok-settings.ensures in
    let moved = centre_moved _ _ _ _ (centre_x c.args.seed) (centre_y c.args.seed) (centre_z c.args.seed) centre.text centre.accepted
    (omega (arith, ints, c.from.ensures, at.x_most, x)) (omega (arith, ints, c.from-2.ensures, at.y_most, y)) (omega (arith, ints, c.from-3.ensures, at.z_most, z)) in
    record {
      place = place_made c.args.seed _ _ _ _ _ _ x y z (omega (arith, at.x_most)) (omega (arith, at.y_most)) (omega (arith, at.z_most)) c.in_um.ensures c.in_um-2.ensures c.in_um-3.ensures;
      records = records;
      records_are = are;
      well_written = c.in_ok-records.ensures.written;
      nav = nav;
      nav_accepted = subst (λ (bs : List Broadcast). IsNavFile c.in_ok-nav.nav.items bs) are (subst (λ (text : List ℕ). IsNavFile text (map broadcast_of records)) (sym nav) file);
      epochs = c.in_ok-epochs.epochs.items;
      count_is = c.in_ok-epochs.ensures.count;
      epochs_are = c.in_ok-epochs.ensures.epochs;
      obs = c.in_ok-obs.ensures.text ∙ ap (λ (es : List EpochCodes). text_of (obs_lines es)) c.as_slice-2.ensures.value;
      obs_accepted = subst (λ (es : List EpochCodes). IsObsFile (Single code_c1c) false c.in_ok-obs.obs.items (record { position = None; epochs = observed_from 1 es })) c.as_slice-2.ensures.value c.in_ok-obs.ensures.accepted;
      settings = moved.0;
      settings_accepted = moved.1;
    }
