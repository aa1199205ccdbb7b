-- What `check` and `guard` read may be broken off as what any reading reads.
use Rattle.std.proofs.Common.{ℕ, Bool, List}
use Rattle.command_words.specs.Commands.{Files}
use Rattle.input_files.proofs.InputLemmas.{inputs_fair}
use Rattle.input_files.proofs.ReadingLemmas.{IsFair, named_fair, return_fair, then_fair}
use Rattle.input_files.specs.Inputs.{InputsValue, ReadsFor}
use Rattle.input_files.specs.Logs.{log_text}
use Rattle.input_files.specs.Reading.{Named, Returns}
use Rattle.input_files.specs.declared.limits.Limits.{Limits}
use Rattle.input_files.specs.Zones.{ZonesValue, zones_text}
use Rattle.cover_run.specs.Checking.{ReadsCheckedFor, ReadsLog}
use Rattle.cover_run.specs.Guarding.{ReadsLogBehind, ReadsZones, guarded_by}

module _ (limits : Limits) (names : Files) where
  pub log_fair : (log : List ℕ) (i : InputsValue) → IsFair (ReadsLog limits log i)
  log_fair log i = then_fair (Named limits log_text log)
      (λ value. Returns (record { inputs = i; log = value })) (named_fair limits log_text log)
      (λ value. return_fair (record { inputs = i; log = value }))

  pub checked_fair : (moving : Bool) → IsFair (ReadsCheckedFor moving limits names)
  checked_fair moving =
      then_fair (ReadsFor moving limits names) (ReadsLog limits names.log)
      (inputs_fair limits names moving) (log_fair names.log)

-- ---- with zones

module _ (limits : Limits) (log : List ℕ) where
  pub behind_fair : (i : InputsValue) (z : ZonesValue) → IsFair (ReadsLogBehind limits log i z)
  behind_fair i z = then_fair (Named limits log_text log) (λ l. Returns (guarded_by i z l))
      (named_fair limits log_text log) (λ l. return_fair (guarded_by i z l))

  pub zones_fair : (zones : List ℕ) (i : InputsValue) → IsFair (ReadsZones limits zones log i)
  zones_fair zones i = then_fair (Named limits zones_text zones) (ReadsLogBehind limits log i)
      (named_fair limits zones_text zones) (behind_fair i)
