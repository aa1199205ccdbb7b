-- Satellites and epochs one behind another, and that they can be written.
use Rattle.std.proofs.Common.{◌≡◌, ℕ, suc, ◌+◌, ◌^◌, ◌<◌, ◌≤◌, List, [], ◌∷◌, ◌++◌, length, sym, subst, ◌∙◌, arith, length-append}
use Rattle.std.specs.Prelude.{nat_abs}
use Rattle.std.proofs.lemmas.Int.{ints}
use Rattle.made_texts.specs.ObsText.{AreSeenFrom, IsEpoch, AreEpochs}
use Rattle.made_texts.specs.declared.sat_codes.SatCode.{SatCode}
use Rattle.made_texts.specs.declared.sat_codes.EpochCodes.{EpochCodes}
use Rattle.made_input.specs.MadeCodes.{IsMadeCode, AreMadeSats, IsMadeEpoch, AreMadeEpochs}

next_one : (k n : ℕ) → k + suc n ≡ k + 1 + n
next_one k n = omega arith

pub sats_push : (seed j k n : ℕ) (sats next : List SatCode) (s : SatCode)
    → AreMadeSats seed j k sats → k + length sats ≡ n → s.number ≡ n → IsMadeCode seed j n s.code
    → next ≡ sats ++ s ∷ [] → AreMadeSats seed j k next
sats_push seed j k n sats next s made at number code is = rw is (push k sats made at) where
  push : (k : ℕ) (sats : List SatCode) → AreMadeSats seed j k sats → k + length sats ≡ n
      → AreMadeSats seed j k (sats ++ s ∷ [])
  push k [] made at =
      let same : n ≡ k = omega (arith, at) in
      (number ∙ same, subst (λ (m : ℕ). IsMadeCode seed j m s.code) same code, tt)
  push k (t ∷ sats) made at = (made.0, made.1, push (k + 1) sats made.2 (sym (next_one k (length sats)) ∙ at))

pub epochs_push : (seed j n : ℕ) (epochs next : List EpochCodes) (e : EpochCodes)
    → AreMadeEpochs seed j epochs → j + length epochs ≡ n → IsMadeEpoch seed n e
    → next ≡ epochs ++ e ∷ [] → AreMadeEpochs seed j next
epochs_push seed j n epochs next e made at is same = rw same (push j epochs made at) where
  push : (j : ℕ) (epochs : List EpochCodes) → AreMadeEpochs seed j epochs → j + length epochs ≡ n
      → AreMadeEpochs seed j (epochs ++ e ∷ [])
  push j [] made at =
      let here : n ≡ j = omega (arith, at) in
      (subst (λ (m : ℕ). IsMadeEpoch seed m e) here is, tt)
  push j (d ∷ epochs) made at = (made.0, push (j + 1) epochs made.1 (sym (next_one j (length epochs)) ∙ at))

-- ---- they can be written

can_be_seen : (seed j k : ℕ) (sats : List SatCode) → AreMadeSats seed j k sats
    → k + length sats ≤ 100 → AreSeenFrom k sats
can_be_seen seed j k [] made few = tt
can_be_seen seed j k (s ∷ sats) made few =
    let number = made.0 in
    let code = made.1 in
    let small : nat_abs s.code < 10 ^ 11 = omega (arith, ints, code.from, code.to) in
    let more = can_be_seen seed j (k + 1) sats made.2 (omega (arith, few)) in
    (omega (arith, number), omega (arith, number, few), small, subst (λ (m : ℕ). AreSeenFrom (m + 1) sats) (sym number) more)

can_be_written : (seed j : ℕ) (epoch : EpochCodes) → IsMadeEpoch seed j epoch → j < 240
    → IsEpoch epoch
can_be_written seed j epoch is few = record {
  hour = omega (arith, is.hour, few);
  minute = omega (arith, is.minute);
  second = omega (arith, is.second);
  few = omega (arith, is.eight);
  sats = can_be_seen seed j 1 epoch.sats.items is.sats (omega (arith, is.eight));
}

pub all_can_be_written : (seed j : ℕ) (epochs : List EpochCodes) → AreMadeEpochs seed j epochs
    → j + length epochs ≤ 240 → AreEpochs epochs
all_can_be_written seed j [] made few = tt
all_can_be_written seed j (e ∷ epochs) made few = (can_be_written seed j e made.0 (omega (arith, few)), all_can_be_written seed (j + 1) epochs made.1 (omega (arith, few)))

-- ---- how many they are

pub one_more_sat : (sats next : List SatCode) (s : SatCode) (n : ℕ) → 1 + length sats ≡ n
    → next ≡ sats ++ s ∷ [] → 1 + length next ≡ n + 1
one_more_sat sats next s n count is = rw is (omega (arith, count, length-append sats (s ∷ [])))

pub one_more_epoch : (epochs next : List EpochCodes) (e : EpochCodes) (n : ℕ) → length epochs ≡ n
    → next ≡ epochs ++ e ∷ [] → length next ≡ n + 1
one_more_epoch epochs next e n count is = rw is (omega (arith, count, length-append epochs (e ∷ [])))
