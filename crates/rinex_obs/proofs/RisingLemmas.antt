-- The epochs of a station rise.
use Rattle.std.proofs.Common.{◌≡◌, ℕ, zero, suc, ◌+◌, ◌<◌, Bool, true, List, [], ◌∷◌, ◌++◌, length, slice_get, subst, arith, Option, None, Some, Result, Ok, Err, IfOk}
use Rattle.std.specs.Prelude.{ℤ, ◌<ℤ◌}
use Rattle.std.proofs.lemmas.Int.{ints}
use Rattle.std.proofs.lemmas.List.{append-nil}
use Rattle.std.proofs.lemmas.Option.{same_Some, none-some}
use Rattle.rinex_text.specs.Bodies.{counted}
use Rattle.rinex_text.specs.Headers.{Behind, version_by}
use Rattle.rinex_text.specs.Lines.{TextLine, lines_of}
use Rattle.rinex_text.specs.declared.fault.ReadError.{ReadError}
use Rattle.rinex_obs.specs.Header.{Wanted, are_both, have_both, header_lines}
use Rattle.rinex_obs.specs.Epochs.{Observed, Block, in_order, head_line, satellites_from, event_from, block_from, last_time, time_before, epochs_from}
use Rattle.rinex_obs.specs.Facts.{AreRising}
use Rattle.rinex_obs.specs.Files.{Observations, unread, IsStationFile}
use Rattle.rinex_obs.specs.Reading.{observations_of, plain_epochs}
use Rattle.rinex_obs.specs.declared.head.Head.{Head}
use Rattle.rinex_obs.specs.declared.head.Head.TheVariants.{Epoch, Event}
use Rattle.rinex_obs.specs.declared.obs.Obs.{Obs}
use Rattle.rinex_obs.specs.declared.obs.ObsEpoch.{ObsEpoch}
use Rattle.rinex_obs.specs.declared.sought.Sought.{Sought}
use Rattle.rinex_obs.proofs.FactLemmas.{Give, given, on_test, on_where, on_read, on_then, on_line}

-- later than a time, where one is told
abbrev IsLater : Option ℤ → ℤ → Type 0
IsLater None tag = Unit {0}
IsLater (Some before) tag = before <ℤ tag

-- each is later than the one before
abbrev Rise : Option ℤ → List Observed → Type 0
Rise before [] = Unit {0}
Rise before (epoch ∷ more) = IsLater before epoch.tag × Rise (Some epoch.tag) more

rise_more : (before : Option ℤ) (epochs : List Observed) (epoch : Observed) → Rise before epochs
    → IsLater (last_time before epochs) epoch.tag → Rise before (epochs ++ epoch ∷ [])
rise_more before [] epoch rise later = (later, tt)
rise_more before (first ∷ epochs) epoch rise later = (rise.0, rise_more (Some first.tag) epochs epoch rise.1 later)

-- ---- a file

abbrev IsLaterHead : Option ℤ → Head → Type 0
IsLaterHead before (Epoch tag lines) = IsLater before tag
IsLaterHead before (Event labelled lines) = Unit {0}

order_later : (before : Option ℤ) (tag : ℤ) (lines : ℕ)
    → Give (IsLaterHead before) (in_order before tag lines)
order_later None tag lines = given (IsLaterHead None) (Epoch tag lines) tt
order_later (Some before) tag lines =
    on_test (IsLaterHead (Some before)) _ _ _ (λ (later : before <ℤ tag). given (IsLaterHead (Some before)) (Epoch tag lines) later)

head_later : (count : ℕ) (before : Option ℤ) (line : TextLine)
    → Give (IsLaterHead before) (head_line count before line)
head_later count before line =
    let Meets : Head → Type 0 = IsLaterHead before in
    on_test Meets _ _ _ (λ short. on_test Meets _ _ _ (λ ascii. on_test Meets _ _ _ (λ mark. on_test Meets _ _ _ (λ flag.
    on_read Meets _ _ _ (λ lines is. on_where Meets _ _ _
    (λ epoch. on_read Meets _ _ _ (λ tag time. on_test Meets _ _ _ (λ few. order_later before tag lines)))
    (given Meets (Event _ lines) tt))))))

block_rises : (wanted : Wanted) (epochs : List Observed) (head : Head) (from : Behind)
    → IsLaterHead (last_time None epochs) head → Rise None epochs
    → Give (λ (block : Block). Rise None (epochs ++ block.epochs)) (block_from wanted (length epochs) head from)
block_rises wanted epochs (Epoch tag lines) from later rise =
    let Meets : Block → Type 0 = λ block. Rise None (epochs ++ block.epochs) in
    on_then Meets (satellites_from wanted lines [] from) _ (λ sats l. given Meets _ (rise_more None epochs (record { index = length epochs + 1; tag = tag; sats = sats }) rise later))
block_rises wanted epochs (Event labelled lines) from later rise =
    let Meets : Block → Type 0 = λ block. Rise None (epochs ++ block.epochs) in
    on_then Meets (event_from (have_both wanted) labelled lines from) _ (λ none l. given Meets _ (rw append-nil rise))

epochs_rise : (wanted : Wanted) (epochs : List Observed) (number skip : ℕ) (lines : List TextLine)
    → Rise None epochs → Give (Rise None) (epochs_from true wanted epochs number skip lines)
epochs_rise wanted epochs number skip [] rise = given (Rise None) epochs rise
epochs_rise wanted epochs number (suc skip) (line ∷ more) rise = epochs_rise wanted epochs (number + 1) skip more rise
epochs_rise wanted epochs number zero (line ∷ more) rise =
    on_line (Rise None) (head_line (length epochs) (time_before true epochs) line) number _ (λ head is. on_then (Rise None) (block_from wanted (length epochs) head (record { number = number + 1; lines = more })) _ (λ block l.
    epochs_rise wanted (epochs ++ block.epochs) (number + 1) block.lines more (block_rises wanted epochs head (record { number = number + 1; lines = more }) (head_later (length epochs) (time_before true epochs) line (Ok head) is) rise (Ok block) l)))

file_rises : (sought : Sought) (position : Bool) (text : List ℕ) (observations : Observations)
    → IsStationFile sought position text observations → Rise None observations.epochs
file_rises sought position text observations file =
    let Meets : Observations → Type 0 = λ observations. Rise None observations.epochs in
    on_then Meets (version_by (are_both sought) 79 (lines_of text)) _ (λ version v. on_then Meets (header_lines sought position unread version.number version.lines) _ (λ start s.
    on_then Meets (epochs_from true start.wanted [] start.behind.number 0 (counted start.behind.lines)) _ (λ epochs e.
    given Meets (record { position = start.position; epochs = epochs })
    (epochs_rise start.wanted [] start.behind.number 0 (counted start.behind.lines) tt (Ok epochs) e)))) (Ok observations) file

-- ---- what is read

all_later : (before : ℤ) (items : List ObsEpoch) (i : ℕ) (e : ObsEpoch)
    → Rise (Some before) (plain_epochs items) → slice_get items i ≡ Some e → before <ℤ e.tag
all_later before [] i e rise at = absurd (none-some e at)
all_later before (first ∷ items) zero e rise at = subst (λ (x : ObsEpoch). before <ℤ x.tag) (same_Some first e at) rise.0
all_later before (first ∷ items) (suc i) e rise at =
    let more = all_later first.tag items i e rise.1 at in
    omega (arith, ints, rise.0, more)

items_later : (before : Option ℤ) (items : List ObsEpoch) → Rise before (plain_epochs items)
    → (i j : ℕ) (e f : ObsEpoch) → slice_get items i ≡ Some e → slice_get items j ≡ Some f → i < j
    → e.tag <ℤ f.tag
items_later before [] rise i j e f a b less = absurd (none-some e a)
items_later before (first ∷ items) rise i zero e f a b less = absurd (omega (arith, less))
items_later before (first ∷ items) rise zero (suc j) e f a b less = subst (λ (x : ObsEpoch). x.tag <ℤ f.tag) (same_Some first e a) (all_later first.tag items j f rise.1 b)
items_later before (first ∷ items) rise (suc i) (suc j) e f a b less = items_later (Some first.tag) items rise.1 i j e f a b (omega (arith, less))

pub rising_read : (sought : Sought) (position : Bool) (text : List ℕ) (read : Result Obs ReadError)
    → IfOk read (λ obs. IsStationFile sought position text (observations_of obs))
    → IfOk read (λ obs. AreRising obs.epochs.items)
rising_read sought position text (Ok obs) file = record { later = items_later None obs.epochs.items (file_rises sought position text (observations_of obs) file) }
rising_read sought position text (Err e) file = tt
