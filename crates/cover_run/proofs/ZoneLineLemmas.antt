-- Lines that are written one behind another, and the first bytes of them.
use Rattle.std.proofs.Common.{◌≡◌, ℕ, zero, suc, ◌+◌, ◌<◌, ◌≤◌, Bool, true, false, List, [], ◌∷◌, ◌++◌, length, map, take, get_or, Option, None, Result, Ok, Err, refl, sym, ap, subst, ◌∙◌, append_assoc, append-nil, length-append, arith}
use Rattle.std.specs.Prelude.{OnOk, OnErr}
use Rattle.std.specs.List.{AllByRecursion}
use Rattle.std.proofs.lemmas.List.{take_more, take_all}
use Rattle.outer_io.proofs.Appending.{taking-none}
use Rattle.outer_io.specs.Causes.{HasCause, SucceedsWhile}
use Rattle.outer_io.specs.Taken.{SinkState, TakenBy, TakenPrefix}
use Rattle.outer_io.specs.declared.failed.Failed.{Failed}
use Rattle.zone_guard.specs.Counted.{item_at}
use Rattle.zone_guard.specs.Texts.{finding_text}
use Rattle.zone_guard.specs.Totals.{joined}
use Rattle.zone_guard.specs.Watched.{WatchValue}
use Rattle.zone_guard.specs.WatchValues.{watch_value, watch_values}
use Rattle.zone_guard.specs.declared.found.EpochFindings.{EpochFindings}
use Rattle.zone_guard.specs.declared.found.Finding.{Finding}
use Rattle.zone_guard.specs.declared.planes.Extent.{Extent}
use Rattle.zone_guard.specs.declared.watch.Watch.{Watch}
use Rattle.cover_run.specs.ZoneTexts.{IsCutOff, IsWritten, WritesText, finding_lines, reach_from, reach_in}
use Rattle.cover_run.specs.ZoneTexts.{text_of, total_lines, total_text, text_with, epochs_text, totals_text}
use Rattle.cover_run.proofs.TrackingLemmas.{taken_both as taken_then}
use Rattle.log_writer.proofs.WritingLemmas.{rose_behind as rose_since}

-- ---- the front of a text

take_none : (xs : List ℕ) → take 0 xs ≡ []
take_none [] = refl
take_none (x ∷ xs) = refl

front_of : (xs rest : List ℕ) (k : ℕ) → k ≤ length xs → take k (xs ++ rest) ≡ take k xs
front_of [] rest zero le = take_none rest ∙ sym (take_none [])
front_of [] rest (suc k) le = absurd (omega (arith, le))
front_of (x ∷ xs) rest zero le = refl
front_of (x ∷ xs) rest (suc k) le = ap (λ (l : List ℕ). x ∷ l) (front_of xs rest k (omega (arith, le)))

front_behind : (xs ys rest : List ℕ) (k : ℕ) → k ≤ length ys
    → take (length xs + k) (xs ++ (ys ++ rest)) ≡ xs ++ take k ys
front_behind [] ys rest k le =
    let e : 0 + k ≡ k = omega arith in
    subst (λ (n : ℕ). take n (ys ++ rest) ≡ take k ys) (sym e) (front_of ys rest k le)
front_behind (x ∷ xs) ys rest k le =
    let e : length (x ∷ xs) + k ≡ suc (length xs + k) = omega arith in
    rw e (ap (λ (l : List ℕ). x ∷ l) (front_behind xs ys rest k le))

-- ---- a text behind another

pub written_then : (a b c : SinkState) (p q r : Type 0) (xs ys : List ℕ) → IsWritten a b p q xs
    → IsWritten b c q r ys → IsWritten a c p r (xs ++ ys)
written_then a b c p q r xs ys x y = record {
  taken = taken_then a b c xs ys x.taken y.taken;
  later = omega (arith, x.later, y.later);
  reliable = λ after.
      let there = y.reliable after in
      let here = x.reliable there.0 in
      (here.0, there.1 ∙ here.1);
}

-- a text that is cut off behind one that was written, whatever comes behind it
pub cut_then : (a b c : SinkState) (p q r : Type 0) (xs ys rest : List ℕ) → IsWritten a b p q xs
    → IsCutOff b c r ys → IsCutOff a c r (xs ++ (ys ++ rest))
cut_then a b c p q r xs ys rest x y =
    let (k, le, taken) = y.prefix in
    let long : length (xs ++ (ys ++ rest)) ≡ length xs + (length ys + length rest) = length-append xs (ys ++ rest) ∙ ap (λ (n : ℕ). length xs + n) (length-append ys rest) in
    record {
      prefix = (
        length xs + k,
        omega (arith, le, long),
        subst (λ (l : List ℕ). TakenBy a c l) (sym (front_behind xs ys rest k le)) (taken_then a b c xs (take k ys) x.taken taken),
      );
      rose = rose_since a.faults b.faults c.faults x.later y.rose;
      unreliable = y.unreliable;
    }

pub cut_last : (a b c : SinkState) (p q r : Type 0) (xs ys : List ℕ) → IsWritten a b p q xs
    → IsCutOff b c r ys → IsCutOff a c r (xs ++ ys)
cut_last a b c p q r xs ys x y = subst (λ (l : List ℕ). IsCutOff a c r (xs ++ l)) (append-nil ys) (cut_then a b c p q r xs ys [] x y)

pub cut_first : (a b : SinkState) (r : Type 0) (xs rest : List ℕ) → IsCutOff a b r xs
    → IsCutOff a b r (xs ++ rest)
cut_first a b r xs rest x =
    let (k, le, taken) = x.prefix in
    record {
      prefix = (k, omega (arith, le, length-append xs rest), subst (λ (l : List ℕ). TakenBy a b l) (sym (front_of xs rest k le)) taken);
      rose = x.rose;
      unreliable = x.unreliable;
    }

pub writes_then : (a b c : SinkState) (p q r : Type 0) (xs ys : List ℕ) (result : Result (Unit {0}) Failed)
    → IsWritten a b p q xs → WritesText b c q r ys result → WritesText a c p r (xs ++ ys) result
writes_then a b c p q r xs ys (Ok done) x writes = written_then a b c p q r xs ys x writes
writes_then a b c p q r xs ys (Err fault) x writes = cut_last a b c p q r xs ys x writes

-- ---- one line

pub writes_line : (a b : SinkState) (p q : Type 0) (line : List ℕ) (result : Result (Unit {0}) Failed)
    → OnOk result (TakenBy a b line) → OnErr result (TakenPrefix a b line)
    → HasCause a.faults b.faults result → SucceedsWhile p q a.faults b.faults result
    → WritesText a b p q line result
writes_line a b p q line (Ok done) all prefix cause sure =
    record { taken = all; later = cause.later; reliable = λ after. ((sure after).0, (sure after).2) }
writes_line a b p q line (Err fault) all prefix cause sure =
    record { prefix = prefix; rose = cause.failed; unreliable = λ after. let e : false ≡ true = (sure after).1 in cc }

-- ---- lines in turn

text_append : (xs ys : List (List ℕ)) → text_of (xs ++ ys) ≡ text_of xs ++ text_of ys
text_append [] ys = refl
text_append (x ∷ xs) ys = ap (λ (l : List ℕ). x ++ l) (text_append xs ys) ∙ sym (append_assoc x (text_of xs) (text_of ys))

text_more : (lines : List (List ℕ)) (i : ℕ) (line : List ℕ) → i < length lines
    → line ≡ get_or lines i line → text_of (take (i + 1) lines) ≡ text_of (take i lines) ++ line
text_more lines i line within is =
    ap text_of (take_more lines i line within ∙ ap (λ (x : List ℕ). take i lines ++ x ∷ []) (sym is))
    ∙ text_append (take i lines) (line ∷ []) ∙ ap (λ (x : List ℕ). text_of (take i lines) ++ x) (append-nil line)

text_split : (lines : List (List ℕ)) (i : ℕ) (line : List ℕ) → i < length lines
    → line ≡ get_or lines i line
    → (rest : List ℕ) × (text_of lines ≡ text_of (take i lines) ++ (line ++ rest))
text_split [] i line within is = absurd (omega arith)
text_split (l ∷ ls) zero line within is = (text_of ls, ap (λ (x : List ℕ). x ++ text_of ls) (sym is))
text_split (l ∷ ls) (suc i) line within is =
    let (rest, e) = text_split ls i line (omega (arith, within)) is in
    (rest, ap (λ (t : List ℕ). l ++ t) e ∙ sym (append_assoc l (text_of (take i ls)) (line ++ rest)))

none_yet : (lines : List (List ℕ)) → text_of (take 0 lines) ≡ []
none_yet [] = refl
none_yet (l ∷ ls) = refl

-- the first i of the lines were written
abbrev pub Flows : (old new : SinkState) → (before after : Type 0) → List (List ℕ) → ℕ → Type 0
Flows old new before after lines i = IsWritten old new before after (text_of (take i lines))

pub flows_first : (a : SinkState) (p : Type 0) (lines : List (List ℕ)) → Flows a a p p lines 0
flows_first a p lines = subst (λ (l : List ℕ). IsWritten a a p p l) (sym (none_yet lines))
    (record { taken = taking-none a.told; later = omega arith; reliable = λ after. (after, refl) })

module _ (a b c : SinkState) (p q r : Type 0) (lines : List (List ℕ)) (i : ℕ) (line : List ℕ) (within : i < length lines) (is : line ≡ get_or lines i line) (so : Flows a b p q lines i) where
  pub flows_more : IsWritten b c q r line → Flows a c p r lines (i + 1)
  flows_more here = subst (λ (l : List ℕ). IsWritten a c p r l) (sym (text_more lines i line within is)) (written_then a b c p q r (text_of (take i lines)) line so here)

  pub flows_cut : IsCutOff b c r line → IsCutOff a c r (text_of lines)
  flows_cut here =
      let (rest, e) = text_split lines i line within is in
      subst (λ (l : List ℕ). IsCutOff a c r l) (sym e) (cut_then a b c p q r (text_of (take i lines)) line rest so here)

pub flows_all : (a b : SinkState) (p q : Type 0) (lines : List (List ℕ)) (i : ℕ) → length lines ≤ i
    → Flows a b p q lines i → IsWritten a b p q (text_of lines)
flows_all a b p q lines i ended so = subst (λ (ls : List (List ℕ)). IsWritten a b p q (text_of ls)) (take_all i lines ended) so

-- ---- which line stands at a place

pub finding_line_at : (index : ℕ) (watches : List Watch) (found : List Finding) (i : ℕ) (w : Watch) (f : Finding) (line : List ℕ)
    → length found ≡ length watches → i < length watches
    → w ≡ get_or watches i w → f ≡ get_or found i f → line ≡ finding_text index w.name.bytes f
    → line ≡ get_or (finding_lines index (watch_values watches) found) i line
finding_line_at index [] found i w f line same within w_is f_is is = absurd (omega arith)
finding_line_at index (v ∷ watches) [] i w f line same within w_is f_is is = absurd (omega (arith, same))
finding_line_at index (v ∷ watches) (g ∷ found) zero w f line same within w_is f_is is = is ∙ λ j. finding_text index (w_is j).name.bytes (f_is j)
finding_line_at index (v ∷ watches) (g ∷ found) (suc i) w f line same within w_is f_is is =
    finding_line_at index watches found i w f line (omega (arith, same)) (omega (arith, within)) w_is f_is is

pub finding_count : (index : ℕ) (watches : List Watch) (found : List Finding)
    → length found ≡ length watches
    → length (finding_lines index (watch_values watches) found) ≡ length watches
finding_count index [] found same = refl
finding_count index (v ∷ watches) [] same = absurd (omega (arith, same))
finding_count index (v ∷ watches) (g ∷ found) same = ap suc (finding_count index watches found (omega (arith, same)))

pub mapped_at : {X : Type 0} (f : X → List ℕ) (xs : List X) (i : ℕ) (x : X) (line : List ℕ)
    → i < length xs → x ≡ get_or xs i x → line ≡ f x → line ≡ get_or (map f xs) i line
mapped_at f [] i x line within x_is is = absurd (omega arith)
mapped_at f (y ∷ xs) zero x line within x_is is = is ∙ ap f x_is
mapped_at f (y ∷ xs) (suc i) x line within x_is is = mapped_at f xs i x line (omega (arith, within)) x_is is

pub mapped_count : {X : Type 0} (f : X → List ℕ) (xs : List X) → length (map f xs) ≡ length xs
mapped_count f [] = refl
mapped_count f (x ∷ xs) = ap suc (mapped_count f xs)

total_line_at : (place : ℕ) (epochs : List EpochFindings) (watches : List Watch) (i : ℕ) (w : Watch) (line : List ℕ)
    → i < length watches → w ≡ get_or watches i w
    → line ≡ total_text (place + i) epochs (watch_value w)
    → line ≡ get_or (total_lines place epochs (watch_values watches)) i line
total_line_at place epochs [] i w line within w_is is = absurd (omega arith)
total_line_at place epochs (v ∷ watches) zero w line within w_is is =
    let e : place + 0 ≡ place = omega arith in
    is ∙ ap (λ (n : ℕ). total_text n epochs (watch_value w)) e ∙ ap (λ (x : Watch). total_text place epochs (watch_value x)) w_is
total_line_at place epochs (v ∷ watches) (suc i) w line within w_is is =
    let e : place + suc i ≡ (place + 1) + i = omega arith in
    total_line_at (place + 1) epochs watches i w line (omega (arith, within)) w_is (is ∙ ap (λ (n : ℕ). total_text n epochs (watch_value w)) e)

pub total_line_first : (epochs : List EpochFindings) (watches : List Watch) (i : ℕ) (w : Watch) (line : List ℕ)
    → i < length watches → w ≡ get_or watches i w
    → line ≡ total_text i epochs (watch_value w)
    → line ≡ get_or (total_lines 0 epochs (watch_values watches)) i line
total_line_first epochs watches i w line within w_is is =
    let e : i ≡ 0 + i = omega arith in
    total_line_at 0 epochs watches i w line within w_is (is ∙ ap (λ (n : ℕ). total_text n epochs (watch_value w)) e)

pub total_count : (place : ℕ) (epochs : List EpochFindings) (watches : List Watch)
    → length (total_lines place epochs (watch_values watches)) ≡ length watches
total_count place epochs [] = refl
total_count place epochs (w ∷ watches) = ap suc (total_count (place + 1) epochs watches)

-- ---- the reach over epochs

pub no_item : (place : ℕ) (found : List Finding) → length found ≤ place → item_at place found ≡ None
no_item place [] ended = refl
no_item zero (g ∷ found) ended = absurd (omega (arith, ended))
no_item (suc place) (g ∷ found) ended = no_item place found (omega (arith, ended))

reach_last : (before : Option Extent) (place : ℕ) (epochs : List EpochFindings) (e : EpochFindings)
    → reach_from before place (epochs ++ e ∷ []) ≡ joined (reach_from before place epochs) (reach_in place e)
reach_last before place [] e = refl
reach_last before place (x ∷ epochs) e = reach_last (joined before (reach_in place x)) place epochs e

pub reach_more : (place : ℕ) (epochs : List EpochFindings) (i : ℕ) (e : EpochFindings)
    → i < length epochs → e ≡ get_or epochs i e
    → reach_from None place (take (i + 1) epochs) ≡ joined (reach_from None place (take i epochs)) (reach_in place e)
reach_more place epochs i e within is =
    ap (reach_from None place) (take_more epochs i e within ∙ ap (λ (x : EpochFindings). take i epochs ++ x ∷ []) (sym is)) ∙ reach_last None place (take i epochs) e

pub reach_all : (place : ℕ) (epochs : List EpochFindings) (i : ℕ) → length epochs ≤ i
    → reach_from None place (take i epochs) ≡ reach_from None place epochs
reach_all place epochs i ended = ap (reach_from None place) (take_all i epochs ended)

-- what holds of all holds of one
pub each_at : {X : Type 0} (P : X → Type 0) (xs : List X) (i : ℕ) (x : X) → i < length xs
    → x ≡ get_or xs i x → AllByRecursion P xs → P x
each_at P [] i x within is all = absurd (omega arith)
each_at P (y ∷ xs) zero x within is all = subst P (sym is) all.0
each_at P (y ∷ xs) (suc i) x within is all = each_at P xs i x (omega (arith, within)) is all.1

-- ---- the totals behind the epochs

module _ (a b : SinkState) (p q : Type 0) (watches : List WatchValue) (epochs : List EpochFindings) where
  pub zones_cut : (second : Bool) → IsCutOff a b q (epochs_text watches epochs)
      → IsCutOff a b q (text_with second watches epochs)
  zones_cut false cut = cut
  zones_cut true cut = cut_first a b q (epochs_text watches epochs) (totals_text watches epochs) cut

  pub totals_too : (second : Bool) (c : SinkState) (r : Type 0) (result : Result (Unit {0}) Failed)
      → second ≡ true → IsWritten a b p q (epochs_text watches epochs)
      → WritesText b c q r (totals_text watches epochs) result
      → WritesText a c p r (text_with second watches epochs) result
  totals_too false c r result is x writes = absurd cc
  totals_too true c r result is x writes = writes_then a b c p q r (epochs_text watches epochs) (totals_text watches epochs) result x writes
