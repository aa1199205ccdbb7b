-- A text of either form, or its first line that doesn't fit.
use Rattle.std.proofs.Common.{◌≡◌, ℕ, List, [], ◌∷◌, get_or, inl, inr, refl, sym, ap, arith, ◌∙◌, Result, Ok, Err, Bool, true, false}
use Rattle.std.specs.Prelude.{IfOk, IfErr}
use Rattle.zone_guard.specs.Lines.{ZoneValue}
use Rattle.zone_guard.specs.Text.{lines, first_line, AreZonesIn}
use Rattle.zone_guard.specs.Told.{IsToldIn, IsTaken, TellsBad}
use Rattle.zone_guard.specs.Watched.{WatchValue, watch_lines}
use Rattle.zone_guard.specs.WatchText.{second_line, FailsAt, BeginsSecond, AreWatchesIn, FailsSecond, IsWatchesText, IsFirstUnfit}
use Rattle.zone_guard.specs.WatchValues.{watch_values}
use Rattle.zone_guard.specs.declared.watch.Watches.{Watches}
use Rattle.zone_guard.specs.declared.zone.ZoneError.{ZoneError}
use Rattle.zone_guard.specs.declared.zone.ZoneError.TheVariants.{BadZones, NoMemory}
use Rattle.zone_guard.proofs.LineLemmas.{lines_some}
use Rattle.zone_guard.proofs.TextLemmas.{text_not_both, text_one_line, same_told}
use Rattle.zone_guard.proofs.WatchLemmas.{not_both, one_line}

-- ---- the head

begun : (first : List ℕ) (rest : List (List ℕ)) → (rest ≡ [] → ⊥) → first ≡ second_line
    → BeginsSecond (first ∷ rest)
begun first [] some is = absurd (some refl)
begun first (next ∷ more) some is = is

pub second_fault : (bytes rest : List ℕ) (k : ℕ) → lines bytes ≡ second_line ∷ lines rest
    → FailsAt [] 0 2 (lines rest) k → IsFirstUnfit bytes k
second_fault bytes rest k cut fails = inl (rw cut (begun second_line (lines rest) (lines_some rest) refl, fails))

-- ---- one reading

pub other_heads : (first : List ℕ) → first ≡ first_line → first ≡ second_line → ⊥
other_heads first e f =
    let last : 49 ≡ 50 = ap (λ (bytes : List ℕ). get_or bytes 9 0) (sym e ∙ f) in
    omega (arith, last)

second_not_both : (ls : List (List ℕ)) (watches : List WatchValue) (k : ℕ) → AreWatchesIn ls watches
    → FailsSecond ls k → ⊥
second_not_both [] watches k are fails = absurd are
second_not_both (first ∷ rest) watches k are fails = not_both [] 0 2 rest (watch_lines watches) k are.1 fails

are_begun : (ls : List (List ℕ)) (watches : List WatchValue) → AreWatchesIn ls watches
    → BeginsSecond ls
are_begun [] watches are = absurd are
are_begun (first ∷ []) watches are = absurd are.1
are_begun (first ∷ next ∷ more) watches are = are.0

zones_not_begun : (ls : List (List ℕ)) (zones : List ZoneValue) → AreZonesIn ls zones
    → BeginsSecond ls → ⊥
zones_not_begun [] zones are begins = absurd are
zones_not_begun (first ∷ []) zones are begins = absurd begins
zones_not_begun (first ∷ next ∷ more) zones are begins = other_heads first are.0 begins

either_not_both : (second : Bool) (watches : List WatchValue) (bytes : List ℕ) (k : ℕ)
    → IsWatchesText second watches bytes → IsFirstUnfit bytes k → ⊥
either_not_both true watches bytes k are (inl fails) = second_not_both (lines bytes) watches k are fails.1
either_not_both true watches bytes k are (inr fails) = fails.0 (are_begun (lines bytes) watches are)
either_not_both false watches bytes k are (inl fails) = zones_not_begun (lines bytes) are.0 are.2 fails.0
either_not_both false watches bytes k are (inr fails) = text_not_both (lines bytes) are.0 k are.2 fails.1

second_one_line : (ls : List (List ℕ)) (j k : ℕ) → FailsSecond ls j → FailsSecond ls k → j ≡ k
second_one_line [] j k a b = absurd a
second_one_line (first ∷ rest) j k a b = one_line [] 0 2 rest j k a b

either_one_line : (bytes : List ℕ) (j k : ℕ) → IsFirstUnfit bytes j → IsFirstUnfit bytes k → j ≡ k
either_one_line bytes j k (inl a) (inl b) = second_one_line (lines bytes) j k a.1 b.1
either_one_line bytes j k (inl a) (inr b) = absurd (b.0 a.0)
either_one_line bytes j k (inr a) (inl b) = absurd (a.0 b.0)
either_one_line bytes j k (inr a) (inr b) = text_one_line (lines bytes) j k a.1 b.1

-- ---- what is answered

pub never_refused : {T : Type 0} (result : Result T ZoneError) (bytes : List ℕ) (second : Bool) (watches : List WatchValue)
    → IsWatchesText second watches bytes
    → IfErr result (IsToldIn (IsFirstUnfit bytes)) → IsTaken result
never_refused (Ok read) bytes second watches are told = tt
never_refused (Err NoMemory) bytes second watches are told = tt
never_refused (Err (BadZones line)) bytes second watches are told = elim told [
  | inl e ↦ absurd cc
  | inr (k, e, fails) ↦ either_not_both second watches bytes k are fails
]

pub always_refused : (result : Result Watches ZoneError) (bytes : List ℕ) (line : ℕ)
    → IsFirstUnfit bytes line
    → IfOk result (λ found. IsWatchesText found.is_second (watch_values found.list.items) bytes)
    → IfErr result (IsToldIn (IsFirstUnfit bytes)) → TellsBad line result
always_refused (Ok read) bytes line fails value told = either_not_both read.is_second (watch_values read.list.items) bytes line value fails
always_refused (Err NoMemory) bytes line fails value told = tt
always_refused (Err (BadZones k)) bytes line fails value told = elim told [
  | inl e ↦ absurd cc
  | inr (j, e, also) ↦ same_told k j e ∙ either_one_line bytes j line also fails
]
