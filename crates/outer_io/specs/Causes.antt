-- When a call to the outside may fail, and when it does.
use Rattle.std.specs.Prelude.{◌≡◌, ◌≤◌, ◌↔◌, ℕ, ◌+◌, ◌-◌, ◌^◌, min, Bool, true, false, Result}
use Rattle.std.specs.Prelude.{OnErr, is_ok}

-- the count is greater, or stands at the last value of a real counter
abbrev pub Rose : ℕ → ℕ → Type 0
Rose before now = min (before + 1) (2 ^ 64 - 1) ≤ now

-- the count never falls, and a call that fails was counted
pub record HasCause {T E : Type 0} (before now : ℕ) (result : Result T E) : Type 0 where
  pub later : before ≤ now
  pub failed : OnErr result (Rose before now)

-- the same, but for a file that is known to be missing: then the count stays
pub record HasCauseUnless {T E : Type 0} (missing : Bool) (before now : ℕ)
    (result : Result T E) : Type 0 where
  pub later : before ≤ now
  pub failed : missing ≡ false → OnErr result (Rose before now)
  pub stays : missing ≡ true → now ≡ before

-- The call succeeds, and counts no fault, where the object is reliable after it. Then it was
-- reliable before.
abbrev pub SucceedsWhile : {T E : Type 0} → (before after : Type 0) → (count now : ℕ)
    → Result T E → Type 0
SucceedsWhile before after count now result =
    after → before × (is_ok result ≡ true) × (now ≡ count)

-- the same, where a condition holds too
abbrev pub SucceedsWhileAnd : {T E : Type 0} → (before after condition : Type 0)
    → (count now : ℕ) → Result T E → Type 0
SucceedsWhileAnd before after condition count now result =
    after → before × (condition → (is_ok result ≡ true) × (now ≡ count))

-- Calls to come are numbered from 1. The call fails where number 1 was to fail, and then each
-- number means the call after it.
pub record CountsCall {T E : Type 0} (before after : ℕ → Type 0)
    (result : Result T E) : Type 0 where
  pub fails : before 1 → is_ok result ≡ false
  pub later : (k : ℕ) → after k ↔ before (k + 1)
