-- The totals of `guard` are true where its answers in each epoch are.
use Rattle.std.proofs.Common.{◌≡◌, ◌⊎◌, ℕ, zero, suc, ◌+◌, arith, Bool, true, false, cond, List, [], ◌∷◌, Option, None, Some, inl, inr, refl, sym, ap, subst, ◌∙◌, Vec, Global}
use Rattle.std.specs.Prelude.{ℤ}
use Rattle.std.specs.List.{count_by, slice_get}
use Rattle.std.proofs.lemmas.Int.{ints, clamps}
use Rattle.std.proofs.lemmas.List.Sums.{sum_by-cons}
use Rattle.epoch_selection.specs.Searches.{Search}
use Rattle.grid_model.specs.Boxes.{GridBox, box_holds}
use Rattle.grid_model.specs.declared.boxes.Pos.{Pos}
use Rattle.sat_rows.specs.Fitting.{FitsEpoch}
use Rattle.sat_rows.specs.Meanings.{Meaning}
use Rattle.zone_guard.specs.Counted.{count_of, finding_at, found_at, is_answer, item_at, same_answer}
use Rattle.zone_guard.specs.Findings.{IsReached, corner_box}
use Rattle.zone_guard.specs.GroupAnswers.{IsInOne, pieces_of}
use Rattle.zone_guard.specs.Planes.{IsInPrism, dot}
use Rattle.zone_guard.specs.Totals.{joined}
use Rattle.zone_guard.specs.Watched.{BoxValue, FormValue, GroupValue, PrismValue, ReachValue, WatchValue}
use Rattle.zone_guard.specs.declared.found.EpochFindings.{EpochFindings}
use Rattle.zone_guard.specs.declared.found.Finding.{Finding}
use Rattle.zone_guard.specs.declared.found.Finding.TheVariants.{Zone, Reach}
use Rattle.zone_guard.specs.declared.planes.Extent.{Extent}
use Rattle.zone_guard.specs.declared.zone.ZoneAnswer.{ZoneAnswer}
use Rattle.zone_guard.specs.declared.zone.ZoneAnswer.TheVariants.{Outside, Inside, Open}
use Rattle.cover_run.specs.ZoneClaims.{AreEpochsTrue, AreTotalsTrue, AreTrueOf, FitsPaved, FitsSome, IsEpochTrue, IsSo, IsTotalTrueAt, IsTrueAt}
use Rattle.cover_run.specs.ZoneTexts.{reach_from, reach_in, reach_of}

-- ---- the reach over epochs

still_reached : (before found : Option Extent) (n : ℤ) → IsReached before n
    → IsReached (joined before found) n
still_reached None found n is = absurd is
still_reached (Some d) None n is = is
still_reached (Some d) (Some e) n is = (omega (arith, ints, clamps, is.0), omega (arith, ints, clamps, is.1))

now_reached : (before found : Option Extent) (n : ℤ) → IsReached found n
    → IsReached (joined before found) n
now_reached None found n is = is
now_reached (Some d) None n is = absurd is
now_reached (Some d) (Some e) n is = (omega (arith, ints, clamps, is.0), omega (arith, ints, clamps, is.1))

kept_reached : (before : Option Extent) (place : ℕ) (epochs : List EpochFindings) (n : ℤ)
    → IsReached before n → IsReached (reach_from before place epochs) n
kept_reached before place [] n is = is
kept_reached before place (e ∷ epochs) n is = kept_reached (joined before (reach_in place e)) place epochs n (still_reached before (reach_in place e) n is)

-- ---- what is found in one of the epochs, and is true of a point

abbrev SomeTrue : FormValue → ℕ → Pos → List EpochFindings → Type 0
SomeTrue form place p [] = ⊥
SomeTrue form place p (e ∷ epochs) = ((f : Finding) × (finding_at place e ≡ Some f) × IsTrueAt form f p) ⊎ SomeTrue form place p epochs

reached_in : (a : Pos) (place : ℕ) (e : EpochFindings) (p : Pos) (f : Finding)
    → finding_at place e ≡ Some f → IsTrueAt (ReachValue a) f p
    → IsReached (reach_in place e) (dot a p)
reached_in a place e p (Zone found) is so = absurd so
reached_in a place e p (Reach found) is so = subst (λ (x : Option Finding). IsReached (reach_of x) (dot a p)) (sym is) so

reach_true : (before : Option Extent) (a : Pos) (place : ℕ) (p : Pos) (epochs : List EpochFindings)
    → SomeTrue (ReachValue a) place p epochs → IsReached (reach_from before place epochs) (dot a p)
reach_true before a place p [] some = absurd some
reach_true before a place p (e ∷ epochs) (inl (f, is, so)) =
    kept_reached (joined before (reach_in place e)) place epochs (dot a p) (now_reached before (reach_in place e) (dot a p) (reached_in a place e p f is so))
reach_true before a place p (e ∷ epochs) (inr later) = reach_true (joined before (reach_in place e)) a place p epochs later

-- ---- the counts of a zone

no_one : (t : Bool) → ◌≡◌ {A = ℕ} (cond t 1 0) 0 → t ≡ false
no_one true none = absurd (omega (arith, none))
no_one false none = refl

none_of : {X : Type 0} (passes : X → Bool) (x : X) (xs : List X) → count_by passes (x ∷ xs) ≡ 0
    → (passes x ≡ false) × (count_by passes xs ≡ 0)
none_of passes x xs none =
    let sum : cond (passes x) 1 0 + count_by passes xs ≡ 0 = sym (sum_by-cons (λ y. cond (passes y) 1 0) x xs) ∙ none in
    (no_one (passes x) (omega (arith, sum)), omega (arith, sum))

none_found : (wanted : ZoneAnswer) (place : ℕ) (e : EpochFindings) (epochs : List EpochFindings)
    → count_of wanted place (e ∷ epochs) ≡ 0
    → (is_answer wanted (finding_at place e) ≡ false) × (count_of wanted place epochs ≡ 0)
none_found wanted place e epochs none = none_of (λ (x : EpochFindings). is_answer wanted (finding_at place x)) e epochs none

so_out : (answer : ZoneAnswer) (IsIn : Type 0) → IsSo answer IsIn
    → same_answer Inside answer ≡ false → same_answer Open answer ≡ false → IsIn → ⊥
so_out Outside IsIn so inside undecided lies = so lies
so_out Inside IsIn so inside undecided lies = cc
so_out Open IsIn so inside undecided lies = cc

so_in : (answer : ZoneAnswer) (IsIn : Type 0) → IsSo answer IsIn
    → same_answer Outside answer ≡ false → same_answer Open answer ≡ false → IsIn
so_in Outside IsIn so outside undecided = absurd cc
so_in Inside IsIn so outside undecided = so
so_in Open IsIn so outside undecided = absurd cc

module _ (form : FormValue) (IsIn : Type 0) (p : Pos) (place : ℕ) (of_zone : (answer : ZoneAnswer) → IsTrueAt form (Zone answer) p → IsSo answer IsIn)
    (no_reach : (found : Option Extent) → IsTrueAt form (Reach found) p → ⊥) where
  out_at : (f : Finding) → IsTrueAt form f p → is_answer Inside (Some f) ≡ false
      → is_answer Open (Some f) ≡ false → IsIn → ⊥
  out_at (Zone answer) is inside undecided = so_out answer IsIn (of_zone answer is) inside undecided
  out_at (Reach found) is inside undecided = absurd (no_reach found is)

  in_at : (f : Finding) → IsTrueAt form f p → is_answer Outside (Some f) ≡ false
      → is_answer Open (Some f) ≡ false → IsIn
  in_at (Zone answer) is outside undecided = so_in answer IsIn (of_zone answer is) outside undecided
  in_at (Reach found) is outside undecided = absurd (no_reach found is)

  out_true : (epochs : List EpochFindings) → SomeTrue form place p epochs
      → count_of Inside place epochs ≡ 0 → count_of Open place epochs ≡ 0 → IsIn → ⊥
  out_true [] some inside undecided = absurd some
  out_true (e ∷ epochs) (inl (f, is, so)) inside undecided =
      out_at f so (sym (ap (is_answer Inside) is) ∙ (none_found Inside place e epochs inside).0) (sym (ap (is_answer Open) is) ∙ (none_found Open place e epochs undecided).0)
  out_true (e ∷ epochs) (inr later) inside undecided = out_true epochs later (none_found Inside place e epochs inside).1 (none_found Open place e epochs undecided).1

  in_true : (epochs : List EpochFindings) → SomeTrue form place p epochs
      → count_of Outside place epochs ≡ 0 → count_of Open place epochs ≡ 0 → IsIn
  in_true [] some outside undecided = absurd some
  in_true (e ∷ epochs) (inl (f, is, so)) outside undecided =
      in_at f so (sym (ap (is_answer Outside) is) ∙ (none_found Outside place e epochs outside).0) (sym (ap (is_answer Open) is) ∙ (none_found Open place e epochs undecided).0)
  in_true (e ∷ epochs) (inr later) outside undecided = in_true epochs later (none_found Outside place e epochs outside).1 (none_found Open place e epochs undecided).1

total_true : (form : FormValue) (place : ℕ) (p : Pos) (epochs : List EpochFindings)
    → SomeTrue form place p epochs → IsTotalTrueAt form place epochs p
total_true (BoxValue lo hi) place p epochs some = record {
  outside = out_true (BoxValue lo hi) (box_holds (corner_box lo hi) p ≡ true) p place (λ answer is. is) (λ found none. none) epochs some;
  inside = in_true (BoxValue lo hi) (box_holds (corner_box lo hi) p ≡ true) p place (λ answer is. is) (λ found none. none) epochs some;
}
total_true (PrismValue sides) place p epochs some = record {
  outside = out_true (PrismValue sides) (IsInPrism sides p) p place (λ answer is. is) (λ found none. none) epochs some;
  inside = in_true (PrismValue sides) (IsInPrism sides p) p place (λ answer is. is) (λ found none. none) epochs some;
}
total_true (GroupValue m k sides) place p epochs some = record {
  outside = out_true (GroupValue m k sides) (IsInOne (pieces_of m k sides) p) p place (λ answer is. is) (λ found none. none) epochs some;
  inside = in_true (GroupValue m k sides) (IsInOne (pieces_of m k sides) p) p place (λ answer is. is) (λ found none. none) epochs some;
}
total_true (ReachValue a) place p epochs some = reach_true None a place p epochs some

-- ---- the epoch in which the point fits

module _ (FitsAt : Pos → ℤ → Type 0) (root : GridBox) (p : Pos) (b : ℤ) (inside : box_holds root p ≡ true) (fits : FitsAt p b) where
  true_there : (ws : List WatchValue) (found : List Finding) (place : ℕ) (w : WatchValue)
      → AreTrueOf FitsAt root ws found → slice_get ws place ≡ Some w
      → (f : Finding) × (item_at place found ≡ Some f) × IsTrueAt w.form f p
  true_there [] found place w are is = absurd cc
  true_there (v ∷ ws) [] place w are is = absurd are
  true_there (v ∷ ws) (f ∷ found) zero w are is =
      let e : v ≡ w = cc in
      (f, refl, subst (λ (x : WatchValue). IsTrueAt x.form f p) e (are.0 p b inside fits))
  true_there (v ∷ ws) (f ∷ found) (suc place) w are is = true_there ws found place w are.1 is

module _ (m : Meaning) (q : ℕ) (ws : List WatchValue) (place : ℕ) (w : WatchValue) (is : slice_get ws place ≡ Some w) (p : Pos) (b : ℤ) where
  true_here : (s : Search) (found : Option (Vec Finding Global))
      → IsEpochTrue (FitsEpoch m q s.root s.epoch) s.root ws found → FitsPaved m q s found p b
      → (f : Finding) × (found_at place found ≡ Some f) × IsTrueAt w.form f p
  true_here s None holds fits = absurd fits
  true_here s (Some found) holds fits = true_there (FitsEpoch m q s.root s.epoch) s.root p b fits.0 fits.1 ws found.items place w holds is

  some_true : (searches : List Search) (epochs : List EpochFindings)
      → AreEpochsTrue m q ws searches epochs → FitsSome m q searches epochs p b
      → SomeTrue w.form place p epochs
  some_true [] epochs holds fits = absurd fits
  some_true (s ∷ rest) [] holds fits = absurd fits
  some_true (s ∷ rest) (e ∷ epochs) holds (inl here) = inl (true_here s e.found holds.0 here)
  some_true (s ∷ rest) (e ∷ epochs) holds (inr later) = inr (some_true rest epochs holds.1 later)

pub totals_true : (m : Meaning) (q : ℕ) (ws : List WatchValue) (searches : List Search) (epochs : List EpochFindings)
    → AreEpochsTrue m q ws searches epochs → AreTotalsTrue m q ws searches epochs
totals_true m q ws searches epochs holds =
    λ place w is p b fits. total_true w.form place p epochs (some_true m q ws place w is p b searches epochs holds fits)
