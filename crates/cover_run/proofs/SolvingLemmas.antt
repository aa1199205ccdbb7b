-- The log that `solve` writes, against the files.
use Rattle.std.proofs.Common.{◌≡◌, ℕ, Bool, List, Option, None, Some, Ok, Err, inl, inr, refl, ap, subst, ◌∙◌, arith}
use Rattle.std.specs.Prelude.{option_map}
use Rattle.bound_directions.specs.declared.directions.Directions.{Directions}
use Rattle.sharpness_laws.proofs.LogLemmas.{begun_clear, whole_clear}
use Rattle.sharpness_laws.specs.UsableRows.{AllDistinctIf}
use Rattle.epoch_rows.proofs.CameLemmas.{whole_admits, whole_covers}
use Rattle.epoch_rows.specs.EpochsLeft.{EpochsLeft, source_of}
use Rattle.epoch_rows.specs.Ready.{SkipsFit}
use Rattle.epoch_selection.specs.Searches.{searches_in}
use Rattle.epoch_selection.specs.declared.selection.Selection.{Selection}
use Rattle.error_bounds.specs.declared.settings.Settings.{Settings}
use Rattle.gnss_model.specs.declared.delays.Delays.{Delays}
use Rattle.input_files.specs.declared.inputs.Inputs.{Inputs}
use Rattle.log_writer.specs.Texts.{IsText}
use Rattle.grid_model.specs.Boxes.{GridBox}
use Rattle.sat_model.specs.declared.rules.Rules.{Rules}
use Rattle.gnss_model.specs.declared.satellites.Skip.{Skip}
use Rattle.log_tokens.specs.Fields.{SkipFits}
use Rattle.paving_log_check.specs.Admissible.{Admits}
use Rattle.rinex_nav.specs.declared.record.NavRecord.{NavRecord}
use Rattle.sat_rows.specs.Meanings.{IsSound, Meaning}
use Rattle.station_epochs.specs.Stations.{Station, station_of}
use Rattle.station_rows.specs.Laws.{rows_sound}
use Rattle.station_rows.specs.Stations.{IsJudgedByBoth, rows_meaning}
use Rattle.station_rows.specs.declared.sources.FileRows.{FileRows}
use Rattle.usable_sats.specs.Usability.{Sighting, IsJudged}
use Rattle.cover_run.specs.Solving.{IsRootOf, IsSolution, epoch_source, epochs_of, meaning_of, standing, station_in}
use Rattle.cover_run.specs.Writing.{Answer}

-- what the files say keeps the laws of a source, and its delays are those of the settings
pub files_sound : (i : Inputs) → IsSound (meaning_of i)
files_sound i = rows_sound i.nav i.settings (option_map station_in i.station)

rows_delays : (records : List NavRecord) (settings : Settings) (station : Option Station)
    → (rows_meaning records settings station).delays ≡ settings.delays
rows_delays records settings None = refl
rows_delays records settings (Some station) = refl

pub files_delays : (i : Inputs) → (meaning_of i).delays ≡ i.settings.delays
files_delays i = rows_delays i.nav i.settings (option_map station_in i.station)

-- each reason not to use a satellite can stand in a log
alone_fits : (delays : Delays) (root : GridBox) (a : Sighting) (skip : Skip)
    → IsJudged delays root a (Some skip) → SkipFits skip
alone_fits delays root a skip (inl (inl k)) = inl (inl (omega (arith, k.0), omega (arith, k.0)), k.1)
alone_fits delays root a skip (inl (inr (inl k))) = inl (inl (omega (arith, k.0), omega (arith, k.0)), k.1)
alone_fits delays root a skip (inl (inr (inr (inl k)))) = inl (inl (omega (arith, k.0), omega (arith, k.0)), k.1)
alone_fits delays root a skip (inl (inr (inr (inr (inl k))))) = inl (inl (omega (arith, k.0), omega (arith, k.0)), k.1)
alone_fits delays root a skip (inl (inr (inr (inr (inr (inl k)))))) = inl (inl (omega (arith, k.0), omega (arith, k.0)), k.1)
alone_fits delays root a skip (inl (inr (inr (inr (inr (inr k)))))) =
    inr (k.0, (omega (arith, k.1.first.from), omega (arith, k.1.first.to)))
alone_fits delays root a skip (inr low) = inl (inr (omega (arith, low.number), omega (arith, low.number)), low.field)

both_fits : (delays : Delays) (root : GridBox) (station : Station) (a : Sighting) (skip : Skip)
    → IsJudgedByBoth delays root station a (Some skip) → SkipFits skip
both_fits delays root station a skip (inl alone) = alone_fits delays root a skip alone
both_fits delays root station a skip (inr (inl lacks)) =
    inl (inr (omega (arith, lacks.number), omega (arith, lacks.number)), lacks.field)
both_fits delays root station a skip (inr (inr far)) =
    inl (inr (omega (arith, far.number), omega (arith, far.number)), far.field)

pub rows_skips : (records : List NavRecord) (settings : Settings) (station : Option Station)
    → SkipsFit (rows_meaning records settings station)
rows_skips records settings None = λ root tag seen skip judged. alone_fits settings.delays root _ skip judged
rows_skips records settings (Some station) =
    λ root tag seen skip judged. both_fits settings.delays root station _ skip judged

-- a source of their rows says what they say
pub rows_mean : (i : Inputs) (rows : FileRows) → rows.nav.now ≡ i.nav → rows.settings.now ≡ i.settings
    → option_map station_of rows.station ≡ option_map station_in i.station
    → rows_meaning rows.nav.now rows.settings.now (option_map station_of rows.station) ≡ meaning_of i
rows_mean i rows nav settings station =
    let known = option_map station_of rows.station in
    ap (λ (n : List NavRecord). rows_meaning n rows.settings.now known) nav
    ∙ ap (λ (s : Settings). rows_meaning i.nav s known) settings
    ∙ ap (λ (o : Option Station). rows_meaning i.nav i.settings o) station

-- by a source, rules and a key that are known
pub text_known : (m n : Meaning) (given rules : Rules) (asked renews : Bool)
    (directions : Option Directions)
    (first here last : EpochsLeft) (limit : ℕ) (answer : Answer) (bytes said : List ℕ)
    → n ≡ m → given ≡ rules → asked ≡ renews → first ≡ here
    → IsText (source_of n given.outliers asked directions) rules first last limit answer bytes said
    → IsText (source_of m rules.outliers renews directions) rules here last limit answer bytes said
text_known m n given rules asked renews directions first here last limit answer bytes said same are is begins
    text = subst (λ (l : EpochsLeft).
    IsText (source_of m rules.outliers renews directions) rules l last limit answer bytes said) begins
    (subst (λ (b : Bool).
    IsText (source_of m rules.outliers b directions) rules first last limit answer bytes said) is
    (subst (λ (r : Rules).
    IsText (source_of m r.outliers asked directions) rules first last limit answer bytes said) are
    (subst (λ (k : Meaning).
    IsText (source_of k given.outliers asked directions) rules first last limit answer bytes said) same text)))

-- its text is that of a log that all own lines admit, that covers what fits, and that leaves nothing
-- clear
pub solution_of : (chosen : Selection) (i : Inputs) (root : GridBox) (last : EpochsLeft) (limit : ℕ)
    (answer : Answer) (bytes said : List ℕ) → IsRootOf i root
    → AllDistinctIf i.settings.renew (epochs_of chosen i)
    → IsText (epoch_source i) i.settings.rules (standing chosen i root) last limit answer bytes said
    → IsSolution chosen i limit answer bytes said
solution_of chosen i root last limit (Ok done) bytes said is_root distinct text =
    let m = meaning_of i in
    let rules = i.settings.rules in
    let renews = i.settings.renew in
    let directions = i.settings.directions in
    let sound = files_sound i in
    let left = standing chosen i root in
    record {
      root = root;
      is_root = is_root;
      last = last;
      whole = text;
      admits = λ owns are. subst (λ (delays : Delays).
          Admits delays (searches_in root (epochs_of chosen i)) owns rules text.log) (files_delays i)
          (whole_admits m sound renews directions rules left last refl limit bytes said text owns are);
      cover = whole_covers m sound renews directions rules left last refl limit bytes said text;
      nothing_clear = whole_clear m sound renews directions rules left refl distinct limit bytes said last text;
    }
solution_of chosen i root last limit (Err fault) bytes said is_root distinct text = record {
  root = root;
  is_root = is_root;
  begun = text;
  nothing_clear = begun_clear (meaning_of i) (files_sound i) i.settings.renew
      i.settings.directions i.settings.rules (standing chosen i root) refl distinct limit bytes said fault text;
}
