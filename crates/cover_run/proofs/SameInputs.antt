-- What the files say of a log is said by the values that are read from them.
use Rattle.std.proofs.Common.{◌≡◌, ℕ, Bool, List, [], ◌∷◌, Option, None, Some}
use Rattle.std.proofs.Common.{refl, sym, ap, subst, ◌∙◌}
use Rattle.std.specs.Prelude.{ℤ, ◌≤ℤ◌}
use Rattle.std.specs.Option.{option_map}
use mathlib.Core.HLevel.{is_prop→PathP}
use Rattle.epoch_selection.specs.Searches.{Search, searches_in}
use Rattle.epoch_selection.proofs.KeptLemmas.{same_selected}
use Rattle.epoch_selection.specs.declared.selection.Selection.{Selection}
use Rattle.error_bounds.specs.Reading.{centre_with, IsRoot, value_of_settings}
use Rattle.error_bounds.specs.Texts.{SettingsValue}
use Rattle.input_files.specs.Inputs.{InputsValue, inputs_value}
use Rattle.input_files.specs.declared.inputs.Inputs.{Inputs}
use Rattle.moving_tube.specs.Endings.{before_value}
use Rattle.moving_tube.specs.Roots.{Before, handed_on, kept_of, root_for}
use Rattle.log_lines.proofs.ValueLemmas.{same_rules}
use Rattle.paving_log_check.specs.Admissible.{Admits, AdmitsFrom, IsDue, IsOf}
use Rattle.paving_log_check.specs.Epochs.{EpochPasses}
use Rattle.paving_log_check.specs.OwnLines.{OwnLines, AreOwn, AreRenewed, IsOwnOf, renewals_of}
use Rattle.paving_log_check.specs.OwnLines.{usable_of}
use Rattle.rinex_nav.specs.Reading.{plain_record, records_of}
use Rattle.rinex_nav.specs.declared.record.NavRecord.{NavRecord}
use Rattle.rinex_obs.specs.Epochs.{Observed}
use Rattle.rinex_obs.specs.Reading.{plain_epoch, plain_epochs}
use Rattle.rinex_obs.specs.declared.obs.ObsEpoch.{ObsEpoch}
use Rattle.grid_model.specs.Boxes.{GridBox}
use Rattle.sat_model.specs.Events.{RowsOver}
use Rattle.sat_model.specs.Logs.{Block, LogValue}
use Rattle.sat_model.specs.Relaxed.{ends}
use Rattle.sat_model.specs.declared.rules.Rules.{Rules}
use Rattle.gnss_model.specs.declared.delays.Delays.{Delays}
use Rattle.grid_model.specs.declared.spans.Span.{Span}
use Rattle.sat_rows.specs.Meanings.{Meaning}
use Rattle.sat_rows.specs.OwnRows.{AreOwnLines}
use Rattle.tube_searches.specs.Tubes.{from_root, searches_from, tube_searches}
use Rattle.station_epochs.specs.Stations.{Station}
use Rattle.cover_run.proofs.SameStations.{by_values, meaning_by, station_moved}
use Rattle.cover_run.specs.Solving.{IsRootOf, epochs_of, meaning_of, station_in}
use Rattle.cover_run.specs.Tracking.{tube_of}
use Rattle.grid_model.proofs.OrderLemmas.{le_prop as from_prop}
use Rattle.made_input.proofs.FitLemmas.{same_record}

-- ---- values with proofs in them

record IsCons {A : Type 0} (a b : A) (xs ys : List A) : Type 0 where
  head : a ≡ b
  tail : xs ≡ ys

cons : {A : Type 0} (a b : A) (xs ys : List A) → a ∷ xs ≡ b ∷ ys → IsCons a b xs ys
cons a b xs ys e = record { head = cc; tail = cc }

same_records : (xs ys : List NavRecord) → records_of xs ≡ records_of ys → xs ≡ ys
same_records [] [] e = refl
same_records [] (b ∷ ys) e = cc
same_records (a ∷ xs) [] e = cc
same_records (a ∷ xs) (b ∷ ys) e =
    let both = cons (plain_record a) (plain_record b) (records_of xs) (records_of ys) e in
    ap (λ (r : NavRecord). r ∷ xs) (same_record a b both.head)
    ∙ ap (λ (rs : List NavRecord). b ∷ rs) (same_records xs ys both.tail)

same_span : (a b : Span) → ends a ≡ ends b → a ≡ b
same_span a b e =
    let lo : a.lo ≡ b.lo = ap (λ (p : ℤ × ℤ). p.0) e in
    let hi : a.hi ≡ b.hi = ap (λ (p : ℤ × ℤ). p.1) e in λ i. record {
      lo = lo i;
      hi = hi i;
      ordered = is_prop→PathP (λ j. lo j ≤ℤ hi j) (λ j. from_prop (lo j) (hi j)) a.ordered
          b.ordered i;
    }

same_spans : (a b : Option Span) → option_map ends a ≡ option_map ends b → a ≡ b
same_spans None None e = refl
same_spans None (Some b) e = cc
same_spans (Some a) None e = cc
same_spans (Some a) (Some b) e =
    let both : ends a ≡ ends b = cc in ap (λ (s : Span). Some s) (same_span a b both)

same_delays : (a b : Delays) → option_map ends a.zenith ≡ option_map ends b.zenith
    → option_map ends a.vertical ≡ option_map ends b.vertical → a ≡ b
same_delays a b e f =
    let zenith = same_spans a.zenith b.zenith e in
    let vertical = same_spans a.vertical b.vertical f in
    λ i. record { zenith = zenith i; vertical = vertical i }

-- ---- epochs

heads : (a b : ObsEpoch) (xs ys : List ObsEpoch) → plain_epochs (a ∷ xs) ≡ plain_epochs (b ∷ ys)
    → IsCons (plain_epoch a) (plain_epoch b) (plain_epochs xs) (plain_epochs ys)
heads a b xs ys e = cons (plain_epoch a) (plain_epoch b) (plain_epochs xs) (plain_epochs ys) e

-- ---- searches

-- in the same roots, of epochs that stand for the same
abbrev pub AreSameSearches : List Search → List Search → Type 0
AreSameSearches [] [] = Unit {0}
AreSameSearches [] (b ∷ ys) = ⊥
AreSameSearches (a ∷ xs) [] = ⊥
AreSameSearches (a ∷ xs) (b ∷ ys) = (a.root ≡ b.root) × (plain_epoch a.epoch ≡ plain_epoch b.epoch)
    × AreSameSearches xs ys

pub searches_same : (root : GridBox) (xs ys : List ObsEpoch) → plain_epochs xs ≡ plain_epochs ys
    → AreSameSearches (searches_in root xs) (searches_in root ys)
searches_same root [] [] e = tt
searches_same root [] (b ∷ ys) e = cc
searches_same root (a ∷ xs) [] e = cc
searches_same root (a ∷ xs) (b ∷ ys) e =
    let both = heads a b xs ys e in (refl, both.head, searches_same root xs ys both.tail)

-- those of a tube, up to a root that isn't there
rooted_same : (o : Option GridBox) (a b : ObsEpoch) (xs ys : GridBox → List Search)
    → plain_epoch a ≡ plain_epoch b → ((root : GridBox) → AreSameSearches (xs root) (ys root))
    → AreSameSearches (from_root o a xs) (from_root o b ys)
rooted_same None a b xs ys e later = tt
rooted_same (Some root) a b xs ys e later = (refl, e, later root)

module _ (speed : ℕ) (restart : Bool) (search : GridBox) where
  -- at the time of the one or of the other
  abbrev later_at : ℤ → List ObsEpoch → Block → List Block → GridBox → List Search
  later_at tag more block blocks root =
      searches_from speed restart search (handed_on restart tag (kept_of root block)) more blocks

  pub tube_same : (before : Option Before) (xs ys : List ObsEpoch) (blocks : List Block)
      → plain_epochs xs ≡ plain_epochs ys
      → AreSameSearches (searches_from speed restart search before xs blocks)
      (searches_from speed restart search before ys blocks)
  tube_same before [] [] blocks e = tt
  tube_same before [] (b ∷ ys) blocks e = cc
  tube_same before (a ∷ xs) [] blocks e = cc
  tube_same before (a ∷ xs) (b ∷ ys) [] e =
      let both = heads a b xs ys e in
      subst (λ (tag : ℤ).
      AreSameSearches (from_root (root_for speed search before a.tag) a (λ root. []))
      (from_root (root_for speed search before tag) b (λ root. [])))
      (ap (λ (o : Observed). o.tag) both.head)
      (rooted_same (root_for speed search before a.tag) a b (λ root. []) (λ root. []) both.head
      (λ root. tt))
  tube_same before (a ∷ xs) (b ∷ ys) (block ∷ blocks) e =
      let both = heads a b xs ys e in
      subst (λ (tag : ℤ).
      AreSameSearches
      (from_root (root_for speed search before a.tag) a (later_at a.tag xs block blocks))
      (from_root (root_for speed search before tag) b (later_at tag ys block blocks)))
      (ap (λ (o : Observed). o.tag) both.head)
      (rooted_same (root_for speed search before a.tag) a b (later_at a.tag xs block blocks)
      (later_at a.tag ys block blocks) both.head
      (λ root.
      tube_same (handed_on restart a.tag (kept_of root block)) xs ys blocks both.tail))

-- ---- own lines

-- those of a search, whose epochs stand for the same
own_of_same : (m : Meaning) (a b : Search) (renewals : List RowsOver) (own : OwnLines)
    → a.root ≡ b.root → plain_epoch a.epoch ≡ plain_epoch b.epoch → IsOwnOf m a renewals own
    → IsOwnOf m b renewals own
own_of_same m a b renewals own root epoch is = record {
  lines = subst (λ (r : GridBox).
      AreOwnLines m r b.epoch.tag b.epoch.sats.items own.lines) root
      (subst (λ (o : Observed). AreOwnLines m a.root o.tag o.sats own.lines) epoch is.lines);
  renewed = subst (λ (o : Observed).
      AreRenewed m o.tag (usable_of o.sats own.lines) renewals own.renewed) epoch is.renewed;
}

own_same : (m : Meaning) (xs ys : List Search) (blocks : List Block) (owns : List OwnLines)
    → AreSameSearches xs ys → AreOwn m xs blocks owns → AreOwn m ys blocks owns
own_same m xs ys blocks [] same are = tt
own_same m [] [] blocks (own ∷ owns) same are = absurd are
own_same m [] (b ∷ ys) blocks (own ∷ owns) same are = absurd same
own_same m (a ∷ xs) [] blocks (own ∷ owns) same are = absurd same
own_same m (a ∷ xs) (b ∷ ys) [] (own ∷ owns) (root, epoch, more) are =
    (own_of_same m a b [] own root epoch are.0, own_same m xs ys [] owns more are.1)
own_same m (a ∷ xs) (b ∷ ys) (block ∷ blocks) (own ∷ owns) (root, epoch, more) are = (
  own_of_same m a b (renewals_of block.body) own root epoch are.0,
  own_same m xs ys blocks owns more are.1,
)

-- ---- the log

of_same : (rules : Rules) (before : Option ℕ) (a b : ObsEpoch) (block : Block)
    → plain_epoch a ≡ plain_epoch b → IsOf rules before a block → IsOf rules before b block
of_same rules before a b block e is = record {
  later = is.later;
  suits = is.suits;
  index = is.index ∙ ap (λ (o : Observed). o.index) e;
  tag = is.tag ∙ ap (λ (o : Observed). o.tag) e;
}

due_same : (rules : Rules) (before : Option ℕ) (xs ys : List Search) (blocks : List Block)
    → AreSameSearches xs ys → IsDue rules before xs blocks → IsDue rules before ys blocks
due_same rules before [] [] blocks same due = due
due_same rules before [] (b ∷ ys) blocks same due = absurd same
due_same rules before (a ∷ xs) [] blocks same due = absurd same
due_same rules before (a ∷ xs) (b ∷ ys) [] same due = absurd due
due_same rules before (a ∷ xs) (b ∷ ys) (block ∷ blocks) same due =
    of_same rules before a.epoch b.epoch block same.1 due

admits_same : (delays : Delays) (rules : Rules) (before : Option ℕ)
    (owns : List OwnLines) (xs ys : List Search) (blocks : List Block)
    → AreSameSearches xs ys → AdmitsFrom delays rules before owns xs blocks
    → AdmitsFrom delays rules before owns ys blocks
admits_same delays rules before [] xs ys blocks same admits =
    due_same rules before xs ys blocks same admits
admits_same delays rules before (own ∷ owns) [] ys blocks same admits = absurd admits
admits_same delays rules before (own ∷ owns) (a ∷ xs) [] blocks same admits = absurd same
admits_same delays rules before (own ∷ owns) (a ∷ xs) (b ∷ ys) [] same admits = absurd admits
admits_same delays rules before (own ∷ owns) (a ∷ xs) (b ∷ ys) (block ∷ blocks)
    (root, epoch, more) admits = (
      of_same rules before a.epoch b.epoch block epoch admits.0,
      subst (λ (r : GridBox). EpochPasses delays rules r own block) root admits.1,
      admits_same delays rules (Some block.index) owns xs ys blocks more admits.2,
    )

-- ---- inputs

module _ (i j : Inputs) (same : inputs_value i ≡ inputs_value j) where
  settings_same : value_of_settings i.settings ≡ value_of_settings j.settings
  settings_same = ap (λ (v : InputsValue). v.settings) same

  delays_same : i.settings.delays ≡ j.settings.delays
  delays_same = same_delays i.settings.delays j.settings.delays
      (ap (λ (v : SettingsValue). v.zenith) settings_same)
      (ap (λ (v : SettingsValue). v.vertical) settings_same)

  pub epochs_same : (chosen : Selection)
      → plain_epochs (epochs_of chosen i) ≡ plain_epochs (epochs_of chosen j)
  epochs_same chosen = same_selected chosen i.obs.epochs.items j.obs.epochs.items
      (ap (λ (v : InputsValue). v.obs.epochs) same)

  -- and so are the searches of a track
  pub tracks_same : (chosen : Selection) (search : GridBox) (speed : ℕ) (blocks : List Block)
      → AreSameSearches (tube_searches (tube_of chosen i search speed) blocks)
      (tube_searches (tube_of chosen j search speed) blocks)
  tracks_same chosen search speed blocks =
      let restart = i.settings.restart in
      let before = before_value i.after in
      subst (λ (b : Option Before).
      AreSameSearches (searches_from speed restart search before (epochs_of chosen i) blocks)
      (searches_from speed j.settings.restart search b (epochs_of chosen j) blocks))
      (ap (λ (v : InputsValue). v.after) same)
      (subst (λ (r : Bool).
      AreSameSearches (searches_from speed restart search before (epochs_of chosen i) blocks)
      (searches_from speed r search before (epochs_of chosen j) blocks))
      (ap (λ (v : SettingsValue). v.restart) settings_same)
      (tube_same speed restart search before (epochs_of chosen i) (epochs_of chosen j) blocks
      (epochs_same chosen)))

  pub root_there : (root : GridBox) → IsRootOf j root → IsRootOf i root
  root_there root is = subst
      (λ (v : InputsValue).
      IsRoot (centre_with v.obs.position v.settings.centre) v.settings.half root) (sym same) is

  abbrev OwnBy : List NavRecord → SettingsValue → Delays → Option Station → List Search
      → List Block → List OwnLines → Type 0
  OwnBy records v delays station searches blocks owns =
      AreOwn (meaning_by records v delays station) searches blocks owns

  pub own_there : (xs ys : List Search) (blocks : List Block) (owns : List OwnLines)
      → AreSameSearches ys xs → AreOwn (meaning_of j) ys blocks owns
      → AreOwn (meaning_of i) xs blocks owns
  own_there xs ys blocks owns alike are =
      let v = value_of_settings i.settings in
      let w = value_of_settings j.settings in
      let above = j.settings.delays in
      let station = option_map station_in j.station in
      let nav = same_records i.nav j.nav (ap (λ (v : InputsValue). v.nav) same) in
      let known = subst (λ (m : Meaning). AreOwn m ys blocks owns)
      (by_values j.nav j.settings station) are in
      let here = subst (λ (records : List NavRecord). OwnBy records w above station ys blocks owns)
      (sym nav) known in
      let by = subst (λ (v : SettingsValue). OwnBy i.nav v above station ys blocks owns)
      (sym settings_same) here in
      let under = subst (λ (z : Delays). OwnBy i.nav v z station ys blocks owns)
      (sym delays_same) by in
      let moved = station_moved i.nav v i.settings.delays j.station i.station
      (sym (ap (λ (v : InputsValue). v.station) same)) ys blocks owns under in
      own_same (meaning_of i) ys xs blocks owns alike
      (subst (λ (m : Meaning). AreOwn m ys blocks owns)
      (sym (by_values i.nav i.settings (option_map station_in i.station))) moved)

  pub admits_there : (xs ys : List Search) (owns : List OwnLines) (log : LogValue)
      → AreSameSearches xs ys → Admits i.settings.delays xs owns i.settings.rules log
      → Admits j.settings.delays ys owns j.settings.rules log
  admits_there xs ys owns log alike admits =
      let rules = same_rules i.settings.rules j.settings.rules
      (ap (λ (v : SettingsValue). v.outliers) settings_same)
      (ap (λ (v : SettingsValue). v.bisections) settings_same)
      (ap (λ (v : SettingsValue). v.width) settings_same)
      (ap (λ (v : SettingsValue). v.pairs) settings_same) in
      subst (λ (r : Rules). Admits j.settings.delays ys owns r log) rules
      (subst (λ (z : Delays). Admits z ys owns i.settings.rules log) delays_same
      (record {
        same_rules = admits.same_rules;
        blocks = admits_same i.settings.delays i.settings.rules None owns xs ys log.blocks alike
            admits.blocks;
      }))
