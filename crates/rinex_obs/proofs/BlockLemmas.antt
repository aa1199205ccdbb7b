-- The epochs of a body, one behind another.
use Rattle.std.proofs.Common.{◌≡◌, ℕ, zero, suc, ◌+◌, ◌≤◌, ◌<◌, List, [], ◌∷◌, ◌++◌, length, drop, Bool, true, false, arith, refl, sym, ◌∙◌, ap, subst, inl, inr, Option, None, Some, Result, Ok, Err}
use Rattle.std.specs.Prelude.{ℤ, pos, ◌≤ℤ◌, ◌<ℤ◌}
use Rattle.std.specs.List.{filter}
use Rattle.std.proofs.lemmas.List.{append-nil}
use Rattle.std.proofs.lemmas.List.Elements.{filter-append}
use Rattle.grid_model.proofs.ListLemmas.{filter_yes, filter_no}
use Rattle.rinex_text.proofs.OnlyLemmas.{ok_same, not_both}
use Rattle.rinex_text.specs.Headers.{Behind}
use Rattle.rinex_text.specs.Faults.{refusal}
use Rattle.rinex_text.specs.Lines.{TextLine}
use Rattle.rinex_text.specs.declared.fault.Fault.{Fault}
use Rattle.rinex_text.specs.declared.fault.Refusal.{Refusal}
use Rattle.rinex_obs.specs.Header.{Wanted}
use Rattle.rinex_obs.specs.Epochs.{Observed, Block, head_line, block_from, last_time, time_before, epochs_from}
use Rattle.rinex_obs.specs.Files.{is_between}
use Rattle.rinex_obs.specs.Reading.{IsHeadBehind, block_of, plain_epoch, plain_epochs}
use Rattle.rinex_obs.specs.declared.head.Head.{Head}
use Rattle.rinex_obs.specs.declared.head.Head.TheVariants.{Epoch, Event}
use Rattle.rinex_obs.specs.declared.obs.ObsEpoch.{ObsEpoch}
use Rattle.rinex_obs.specs.declared.obs.SatObs.{SatObs}

pub behind_epoch : (count : ℕ) (head : Head) (tag : ℤ) (lines : ℕ) → head ≡ Epoch tag lines
    → IsHeadBehind count head
    → (pos 0 ≤ℤ tag) × (tag <ℤ pos 4000000000000000000000) × (count < 200000)
behind_epoch count head tag lines e h = rw e at h

abbrev with_tag : ℕ → ℤ → List SatObs → ℕ → Result Block Refusal
with_tag index tag sats lines = Ok (record { epochs = record { index = index; tag = tag; sats = sats } ∷ []; lines = lines })

pub epoch_is : (index : ℕ) (tag other : ℤ) (sats : List SatObs) (lines : ℕ) → other ≡ tag
    → with_tag index other sats lines ≡ with_tag index tag sats lines
epoch_is index tag other sats lines e = rw e refl

-- the lines of what was read are passed over
skipped : (k n : ℕ) (rising : Bool) (wanted : Wanted) (epochs : List Observed) (lines : List TextLine) (answer : Result (List Observed) Refusal)
    → k ≤ length lines
    → epochs_from rising wanted epochs (n + k) 0 (drop k lines) answer
    → epochs_from rising wanted epochs n k lines answer
skipped zero n rising wanted epochs lines answer enough h = let same : n + 0 ≡ n = omega arith in (rw same at h)
skipped (suc k) n rising wanted epochs [] answer enough h = absurd (omega arith)
skipped (suc k) n rising wanted epochs (line ∷ lines) answer enough h =
    let same : n + suc k ≡ n + 1 + k = omega arith in
    skipped k (n + 1) rising wanted epochs lines answer (omega arith) (rw same at h)

module _ (rising : Bool) (wanted : Wanted) (epochs : List Observed) (count n number : ℕ) (before : Option ℤ) (lines more : List TextLine) (line : TextLine) (l : lines ≡ line ∷ more) (e : count ≡ length epochs) (o : before ≡ time_before rising epochs) (next : number ≡ n + 1) where
  pub head_fault : (f : Fault) → head_line count before line (Err f)
      → epochs_from rising wanted epochs n 0 lines (Err (refusal f n))
  head_fault f is = rw l (inr (f, (rw (e, o) at is), refl))

  module _ (head : Head) (is : head_line count before line (Ok head)) where
    pub block_fault : (refused : Refusal)
        → block_from wanted count head (record { number = number; lines = more }) (Err refused)
        → epochs_from rising wanted epochs n 0 lines (Err refused)
    block_fault refused from = rw l (inl (head, (rw (e, o) at is), inr (refused, (rw (e, next) at from), refl)))

    pub block_step : (block : Block) (behind m : ℕ) (after : List TextLine) (answer : Result (List Observed) Refusal)
        → block_from wanted count head (record { number = number; lines = more }) (Ok block)
        → block.lines ≡ behind → behind ≤ length more → m ≡ number + behind
        → after ≡ drop behind more
        → epochs_from rising wanted (epochs ++ block.epochs) m 0 after answer
        → epochs_from rising wanted epochs n 0 lines answer
    block_step block behind m after answer from same enough place there h =
        let ends : m ≡ n + 1 + behind = omega arith in
        rw l (inl (head, (rw (e, o) at is), inl (block, (rw (e, next) at from), rw same (skipped behind (n + 1) rising wanted (epochs ++ block.epochs) more answer enough (rw (ends, there) at h)))))

map_more : (epochs : List ObsEpoch) (epoch : ObsEpoch)
    → plain_epochs (epochs ++ epoch ∷ []) ≡ plain_epochs epochs ++ plain_epoch epoch ∷ []
map_more [] epoch = refl
map_more (first ∷ epochs) epoch = ap (λ (l : List Observed). plain_epoch first ∷ l) (map_more epochs epoch)

-- ---- the epochs that are kept

module _ (from to : ℕ) where
  -- those among the epochs so far and one more
  module _ (all : List Observed) (epoch : ObsEpoch) where
    pub one_kept : (kept items : List ObsEpoch) → items ≡ kept ++ epoch ∷ []
        → plain_epochs kept ≡ filter (is_between from to) all
        → is_between from to (plain_epoch epoch) ≡ true
        → plain_epochs items ≡ filter (is_between from to) (all ++ plain_epoch epoch ∷ [])
    one_kept kept items more are is =
        ap plain_epochs more ∙ map_more kept epoch ∙ ap (λ (l : List Observed). l ++ plain_epoch epoch ∷ []) are
        ∙ sym (filter-append (is_between from to) all (plain_epoch epoch ∷ [])
        ∙ ap (λ (l : List Observed). filter (is_between from to) all ++ l) (filter_yes (is_between from to) (plain_epoch epoch) [] is))

    pub none_kept : (kept : List ObsEpoch) → plain_epochs kept ≡ filter (is_between from to) all
        → is_between from to (plain_epoch epoch) ≡ false
        → plain_epochs kept ≡ filter (is_between from to) (all ++ plain_epoch epoch ∷ [])
    none_kept kept are other =
        are ∙ sym (filter-append (is_between from to) all (plain_epoch epoch ∷ [])
        ∙ ap (λ (l : List Observed). filter (is_between from to) all ++ l) (filter_no (is_between from to) (plain_epoch epoch) [] other)
        ∙ append-nil (filter (is_between from to) all))

-- with what was read, an epoch or none
pub with_epoch : (all : List Observed) (found : Option ObsEpoch) (epoch : ObsEpoch) (lines : ℕ)
    → found ≡ Some epoch → all ++ (block_of found lines).epochs ≡ all ++ plain_epoch epoch ∷ []
with_epoch all found epoch lines e = rw e refl

pub without_epoch : (all : List Observed) (found : Option ObsEpoch) (lines : ℕ) → found ≡ None
    → all ++ (block_of found lines).epochs ≡ all
without_epoch all found lines e = rw e (append-nil all)

abbrev index_in : List Observed → ℕ
index_in [] = 0
index_in (epoch ∷ more) = epoch.index

-- the number of an epoch is one more than there were before
epoch_index : (wanted : Wanted) (count : ℕ) (head : Head) (from : Behind) (epoch : ObsEpoch) (lines : ℕ)
    → block_from wanted count head from (Ok (block_of (Some epoch) lines)) → epoch.index ≡ count + 1
epoch_index wanted count (Epoch tag n) from epoch lines (inl (sats, is, e)) = ap (λ (b : Block). index_in b.epochs) (ok_same _ _ e)
epoch_index wanted count (Epoch tag n) from epoch lines (inr (f, is, e)) = absurd (not_both _ f e)
epoch_index wanted count (Event labelled n) from epoch lines (inl (none, is, e)) = absurd (omega (arith, ap (λ (b : Block). length b.epochs) (ok_same _ _ e)))
epoch_index wanted count (Event labelled n) from epoch lines (inr (f, is, e)) = absurd (not_both _ f e)

pub found_index : (wanted : Wanted) (count : ℕ) (head : Head) (from : Behind) (found : Option ObsEpoch) (epoch : ObsEpoch) (lines : ℕ)
    → found ≡ Some epoch → block_from wanted count head from (Ok (block_of found lines)) → epoch.index ≡ count + 1
found_index wanted count head from found epoch lines e h =
    epoch_index wanted count head from epoch lines (subst (λ (o : Option ObsEpoch). block_from wanted count head from (Ok (block_of o lines))) e h)

pub one_longer : (all : List Observed) (epoch : Observed) → length (all ++ epoch ∷ []) ≡ length all + 1
one_longer [] epoch = refl
one_longer (first ∷ all) epoch = omega (arith, one_longer all epoch)

last_is : (before : Option ℤ) (all : List Observed) (epoch : Observed)
    → last_time before (all ++ epoch ∷ []) ≡ Some epoch.tag
last_is before [] epoch = refl
last_is before (first ∷ all) epoch = last_is (Some first.tag) all epoch

-- behind one more epoch its time is the one before
pub time_behind : (rising : Bool) (all : List Observed) (epoch : Observed)
    → time_before rising (epoch ∷ []) ≡ time_before rising (all ++ epoch ∷ [])
time_behind false all epoch = refl
time_behind true all epoch = sym (last_is None all epoch)

pub lines_of_block : (found : Option ObsEpoch) (lines : ℕ) → (block_of found lines).lines ≡ lines
lines_of_block None lines = refl
lines_of_block (Some epoch) lines = refl

pub in_body : (rising : Bool) (wanted : Wanted) (n m : ℕ) (lines others : List TextLine) (answer : Result (List Observed) Refusal)
    → n ≡ m → lines ≡ others → epochs_from rising wanted [] n 0 lines answer
    → epochs_from rising wanted [] m 0 others answer
in_body rising wanted n m lines others answer e f h = rw (e, f) at h
