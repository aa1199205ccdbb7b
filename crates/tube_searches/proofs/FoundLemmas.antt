-- By an accepted log a moving receiver is found.
use Rattle.std.proofs.Common.{◌≡◌, ◌⊎◌, ℕ, zero, suc, ℤ, Bool, true, false, List, [], ◌∷◌, length, map, drop, inl, inr, refl, sym, ap, subst, arith, Option, None, Some}
use Rattle.epoch_selection.specs.Searches.{Search}
use Rattle.moving_tube.specs.Hulls.{hull_of}
use Rattle.moving_tube.specs.Roots.{Before, handed_on, kept_with, kept_of, root_for}
use Rattle.moving_tube.specs.Tracks.{Stay, Left, ComesFrom, AreRooted, HasRoot, IsKeptWith, AreKept}
use Rattle.moving_tube.proofs.TrackLemmas.{HaveRoots, AreTimed, track_found}
use Rattle.paving_log_check.specs.Admissible.{AdmitsFrom}
use Rattle.paving_log_check.specs.Checked.{IsAccepted}
use Rattle.paving_log_check.specs.Epochs.{BodyPassesAt}
use Rattle.paving_log_check.specs.FileCover.{FitBodyCover, BlocksFitCover}
use Rattle.paving_log_check.specs.OwnLines.{OwnLines}
use Rattle.rinex_obs.specs.declared.obs.ObsEpoch.{ObsEpoch}
use Rattle.grid_model.specs.Boxes.{GridBox}
use Rattle.sat_model.specs.Logs.{Body, Block, LogValue}
use Rattle.sat_model.specs.declared.rows.Row.{Row}
use Rattle.sat_model.specs.declared.rules.Rules.{Rules}
use Rattle.gnss_model.specs.declared.delays.Delays.{Delays}
use Rattle.sat_rows.specs.Fitting.{FitsEpoch}
use Rattle.sat_rows.specs.Meanings.{Meaning}
use Rattle.tube_searches.specs.Tubes.{TubeValue, from_root, searches_from, tube_searches}
use Rattle.tube_searches.specs.Found.{visits_of, IsLost, BeginsPiece, IsPath, StayFits, PathFits, IsFoundIn}

-- ---- the visits of a tube's searches

module _ (speed : ℕ) (restart : Bool) (search : GridBox) where
  -- what an epoch hands on by its block
  abbrev handed : ObsEpoch → Block → GridBox → Option Before
  handed epoch block root = handed_on restart epoch.tag (kept_of root block)

  abbrev later : ObsEpoch → List ObsEpoch → Block → List Block → GridBox → List Search
  later epoch more block blocks root = searches_from speed restart search (handed epoch block root) more blocks

  -- an epoch's root, where there is one, and what holds of the later visits
  rooted_here : (before : Option Before) (epoch : ObsEpoch) (more : List ObsEpoch) (block : Block) (blocks : List Block) (o : Option GridBox)
      → root_for speed search before epoch.tag ≡ o
      → ((root : GridBox) → AreRooted speed restart search (handed epoch block root) (visits_of (later epoch more block blocks root) blocks))
      → AreRooted speed restart search before (visits_of (from_root o epoch (later epoch more block blocks)) (block ∷ blocks))
  rooted_here before epoch more block blocks None e rest = tt
  rooted_here before epoch more block blocks (Some root) e rest = (e, rest root)

  rooted_last : (before : Option Before) (epoch : ObsEpoch) (o : Option GridBox)
      → AreRooted speed restart search before (visits_of (from_root o epoch (λ root. [])) [])
  rooted_last before epoch None = tt
  rooted_last before epoch (Some root) = tt

  pub rooted : (before : Option Before) (epochs : List ObsEpoch) (blocks : List Block)
      → AreRooted speed restart search before (visits_of (searches_from speed restart search before epochs blocks) blocks)
  rooted before [] blocks = tt
  rooted before (epoch ∷ more) [] = rooted_last before epoch (root_for speed search before epoch.tag)
  rooted before (epoch ∷ more) (block ∷ blocks) =
      rooted_here before epoch more block blocks (root_for speed search before epoch.tag) refl
      (λ root. rooted (handed epoch block root) more blocks)

  timed_here : (epoch : ObsEpoch) (more : List ObsEpoch) (block : Block) (blocks : List Block) (o : Option GridBox)
      → ((root : GridBox) → AreTimed speed restart search (visits_of (later epoch more block blocks root) blocks) (map (λ e. e.tag) more))
      → AreTimed speed restart search (visits_of (from_root o epoch (later epoch more block blocks)) (block ∷ blocks)) (map (λ e. e.tag) (epoch ∷ more))
  timed_here epoch more block blocks None rest = tt
  timed_here epoch more block blocks (Some root) rest = (refl, rest root)

  timed_last : (epoch : ObsEpoch) (more : List ObsEpoch) (o : Option GridBox)
      → AreTimed speed restart search (visits_of (from_root o epoch (λ root. [])) []) (map (λ e. e.tag) (epoch ∷ more))
  timed_last epoch more None = tt
  timed_last epoch more (Some root) = tt

  pub timed : (before : Option Before) (epochs : List ObsEpoch) (blocks : List Block)
      → AreTimed speed restart search (visits_of (searches_from speed restart search before epochs blocks) blocks) (map (λ e. e.tag) epochs)
  timed before [] blocks = tt
  timed before (epoch ∷ more) [] = timed_last epoch more (root_for speed search before epoch.tag)
  timed before (epoch ∷ more) (block ∷ blocks) =
      timed_here epoch more block blocks (root_for speed search before epoch.tag)
      (λ root. timed (handed epoch block root) more blocks)

-- ---- roots and covers of an accepted log

root_of : (delays : Delays) (rules : Rules) (root : GridBox) (renewed : List (List Row)) (block : Block) (theirs : Option Body)
    → BodyPassesAt delays rules root renewed block theirs → HasRoot root theirs
root_of delays rules root renewed block None body = tt
root_of delays rules root renewed block (Some theirs) body = body.0

pub have_roots : (delays : Delays) (rules : Rules) (speed : ℕ) (restart : Bool) (search : GridBox) (before : Option ℕ) (owns : List OwnLines) (searches : List Search) (blocks : List Block)
    → length owns ≡ length searches → AdmitsFrom delays rules before owns searches blocks
    → HaveRoots speed restart search (visits_of searches blocks)
have_roots delays rules speed restart search before [] [] blocks each admits = tt
have_roots delays rules speed restart search before [] (s ∷ rest) blocks each admits = absurd (omega (arith, each))
have_roots delays rules speed restart search before (own ∷ owns) [] blocks each admits = absurd (omega (arith, each))
have_roots delays rules speed restart search before (own ∷ owns) (s ∷ rest) [] each admits = tt
have_roots delays rules speed restart search before (own ∷ owns) (s ∷ rest) (block ∷ more) each admits = (
  root_of delays rules s.root own.renewed block block.body admits.1.body,
  have_roots delays rules speed restart search (Some block.index) owns rest more (omega (arith, each)) admits.2,
)

module _ (m : Meaning) (q : ℕ) where
  kept_here : (s : Search) (body : Option Body) (stay : Stay)
      → FitBodyCover (FitsEpoch m q s.root s.epoch) s.root body
      → StayFits body (FitsEpoch m q s.root s.epoch) stay → IsKeptWith s.root body stay
  kept_here s None stay cover fits = tt
  kept_here s (Some body) stay cover fits = λ inside. cover.epoch.covers stay.at stay.offset inside fits

  pub are_kept : (searches : List Search) (blocks : List Block) (path : List Stay)
      → BlocksFitCover m q searches blocks → PathFits m q searches blocks path
      → AreKept (visits_of searches blocks) path
  are_kept [] blocks path cover fits = tt
  are_kept (s ∷ rest) [] path cover fits = tt
  are_kept (s ∷ rest) (block ∷ more) [] cover fits = tt
  are_kept (s ∷ rest) (block ∷ more) (stay ∷ path) cover fits = (
    kept_here s block.body stay cover.0 fits.0,
    are_kept rest more path cover.1 fits.1,
  )

-- ---- where a piece of the track begins

-- what a lost epoch keeps
lost_keeps : (root : GridBox) (body : Option Body) → IsLost body → kept_with root body ≡ None
lost_keeps root None lost = absurd lost
lost_keeps root (Some body) lost = ap hull_of lost

module _ (speed : ℕ) (restart : Bool) (search : GridBox) where
  abbrev From : Option Before → List ObsEpoch → List Block → List Search
  From before epochs blocks = searches_from speed restart search before epochs blocks

  -- no search is left of these, or those of a track that begins here
  abbrev BeginsAnew : List Search → List ObsEpoch → List Block → Type 0
  BeginsAnew searches epochs blocks = (searches ≡ []) ⊎ (searches ≡ From None epochs blocks)

  -- behind an epoch that hands on that it kept none
  none_behind : (tag : ℤ) (epochs : List ObsEpoch) (blocks : List Block)
      → From (Some (record { tag = tag; kept = None })) epochs blocks ≡ []
  none_behind tag [] blocks = refl
  none_behind tag (epoch ∷ more) [] = refl
  none_behind tag (epoch ∷ more) (block ∷ blocks) = refl

  lost_hands : (r : Bool) (tag : ℤ) (epochs : List ObsEpoch) (blocks : List Block)
      → BeginsAnew (From (handed_on r tag None) epochs blocks) epochs blocks
  lost_hands true tag epochs blocks = inr refl
  lost_hands false tag epochs blocks = inl (none_behind tag epochs blocks)

  behind_lost : (epoch : ObsEpoch) (more : List ObsEpoch) (block : Block) (blocks : List Block) (root : GridBox)
      → IsLost block.body
      → BeginsAnew (later speed restart search epoch more block blocks root) more blocks
  behind_lost epoch more block blocks root lost =
      subst (λ (kept : Option GridBox). BeginsAnew (From (handed_on restart epoch.tag kept) more blocks) more blocks)
      (sym (lost_keeps root block.body lost)) (lost_hands restart epoch.tag more blocks)

  -- the same so many epochs further on
  abbrev BeginsAfter : ℕ → List Search → List ObsEpoch → List Block → Type 0
  BeginsAfter k searches epochs blocks = BeginsAnew (drop k searches) (drop k epochs) (drop k blocks)

  after_root : (k : ℕ) (epoch : ObsEpoch) (more : List ObsEpoch) (block : Block) (blocks : List Block) (o : Option GridBox)
      → ((root : GridBox) → BeginsAfter k (later speed restart search epoch more block blocks root) more blocks)
      → BeginsAfter (suc k) (from_root o epoch (later speed restart search epoch more block blocks)) (epoch ∷ more) (block ∷ blocks)
  after_root k epoch more block blocks None rest = inl refl
  after_root k epoch more block blocks (Some root) rest = rest root

  later_piece : (first : Option Before) (left : Option Left) (k : ℕ) (before : Option Before) (epochs : List ObsEpoch) (blocks : List Block)
      → BeginsPiece first left blocks (suc k)
      → BeginsAfter (suc k) (From before epochs blocks) epochs blocks
  later_piece first left k before [] blocks begins = inl refl
  later_piece first left k before (epoch ∷ more) [] begins = absurd begins
  later_piece first left zero before (epoch ∷ more) (block ∷ blocks) begins =
      after_root zero epoch more block blocks (root_for speed search before epoch.tag)
      (λ root. behind_lost epoch more block blocks root begins)
  later_piece first left (suc k) before (epoch ∷ more) (block ∷ blocks) begins =
      after_root (suc k) epoch more block blocks (root_for speed search before epoch.tag)
      (λ root. later_piece first left k (handed speed restart search epoch block root) more blocks begins)

  -- no search is left of these, or those of a track that begins here, to which a receiver comes from there
  abbrev BeginsFrom : Option Left → List Search → List ObsEpoch → List Block → Type 0
  BeginsFrom left searches epochs blocks =
      (searches ≡ []) ⊎ ((before : Option Before) × ComesFrom before left × (searches ≡ From before epochs blocks))

  from_anywhere : (left : Option Left) (searches : List Search) (epochs : List ObsEpoch) (blocks : List Block)
      → BeginsAnew searches epochs blocks → BeginsFrom left searches epochs blocks
  from_anywhere left searches epochs blocks (inl none) = inl none
  from_anywhere left searches epochs blocks (inr anew) = inr (None, tt, anew)

  pub piece_begins : (k : ℕ) (before : Option Before) (left : Option Left) (epochs : List ObsEpoch) (blocks : List Block)
      → BeginsPiece before left blocks k
      → BeginsFrom left (drop k (From before epochs blocks)) (drop k epochs) (drop k blocks)
  piece_begins zero before left epochs blocks begins = inr (before, begins, refl)
  piece_begins (suc k) before left epochs blocks begins =
      from_anywhere left (drop (suc k) (From before epochs blocks)) (drop (suc k) epochs) (drop (suc k) blocks)
      (later_piece before left k before epochs blocks begins)

  -- ---- what is known of all visits is known of those of a piece

  roots_after : (k : ℕ) (searches : List Search) (blocks : List Block)
      → HaveRoots speed restart search (visits_of searches blocks)
      → HaveRoots speed restart search (visits_of (drop k searches) (drop k blocks))
  roots_after zero searches blocks roots = roots
  roots_after (suc k) [] blocks roots = tt
  roots_after (suc k) (s ∷ rest) [] roots = no_visits (drop k rest)
    where
      no_visits : (searches : List Search) → HaveRoots speed restart search (visits_of searches [])
      no_visits [] = tt
      no_visits (s ∷ rest) = tt
  roots_after (suc k) (s ∷ rest) (block ∷ more) roots = roots_after k rest more roots.1

cover_after : (m : Meaning) (q k : ℕ) (searches : List Search) (blocks : List Block)
    → BlocksFitCover m q searches blocks → BlocksFitCover m q (drop k searches) (drop k blocks)
cover_after m q zero searches blocks cover = cover
cover_after m q (suc k) [] [] cover = tt
cover_after m q (suc k) [] (block ∷ more) cover = absurd cover
cover_after m q (suc k) (s ∷ rest) [] cover = absurd cover
cover_after m q (suc k) (s ∷ rest) (block ∷ more) cover = cover_after m q k rest more cover.1

-- ---- by an accepted log

module _ (m : Meaning) (q speed : ℕ) (restart : Bool) (search : GridBox) where
  found_in : (left : Option Left) (searches : List Search) (epochs : List ObsEpoch) (blocks : List Block) (path : List Stay)
      → BeginsFrom speed restart search left searches epochs blocks
      → HaveRoots speed restart search (visits_of searches blocks)
      → BlocksFitCover m q searches blocks
      → IsPath speed search left epochs path → PathFits m q searches blocks path
      → IsFoundIn searches blocks path
  found_in left searches epochs blocks path (inl none) roots cover goes fits =
      subst (λ (l : List Search). IsFoundIn l blocks path) (sym none) tt
  found_in left searches epochs blocks path (inr (before, comes, anew)) roots cover goes fits =
      track_found speed restart search before left (visits_of searches blocks) _ path comes
      (subst (λ (l : List Search). AreRooted speed restart search before (visits_of l blocks)) (sym anew) (rooted speed restart search before epochs blocks))
      (subst (λ (l : List Search). AreTimed speed restart search (visits_of l blocks) (map (λ e. e.tag) epochs)) (sym anew) (timed speed restart search before epochs blocks))
      roots goes (are_kept m q searches blocks path cover fits)

pub found_by : (m : Meaning) (t : TubeValue) (rules : Rules) (log : LogValue) (boxes k : ℕ) (left : Option Left) (path : List Stay)
    → IsAccepted m (tube_searches t log.blocks) rules log boxes
    → BeginsPiece t.before left log.blocks k
    → IsPath t.speed t.search left (drop k t.epochs) path
    → PathFits m rules.outliers (drop k (tube_searches t log.blocks)) (drop k log.blocks) path
    → IsFoundIn (drop k (tube_searches t log.blocks)) (drop k log.blocks) path
found_by m t rules log boxes k left path accepted begins goes fits =
    let blocks = log.blocks in
    let searches = tube_searches t blocks in
    found_in m rules.outliers t.speed t.restart t.search left (drop k searches) (drop k t.epochs) (drop k blocks) path
    (piece_begins t.speed t.restart t.search k t.before left t.epochs blocks begins)
    (roots_after t.speed t.restart t.search k searches blocks
    (have_roots m.delays rules t.speed t.restart t.search None accepted.owns searches blocks accepted.admissible.each accepted.admissible.admits.blocks))
    (cover_after m rules.outliers k searches blocks accepted.cover) goes fits
