-- How a verdict that was printed is told.
use Rattle.std.proofs.Common.{◌≡◌, ◌⊎◌, ℕ, List, Result, Ok, Err, inl, inr, refl, sym, subst}
use Rattle.std.specs.Prelude.{◌≢◌, IfOk}
use Rattle.grid_model.specs.declared.memory.NoMemory.{NoMemory}
use Rattle.input_files.specs.Reading.{IsBrokenOff}
use Rattle.input_files.specs.declared.status.Status.{Status}
use Rattle.input_files.specs.declared.status.Status.TheVariants as status
use Rattle.paving_log_check.specs.Answers.{IfYes, IfNo}
use Rattle.paving_log_check.specs.declared.verdict.Fault.{Fault}
use Rattle.paving_log_check.specs.declared.verdict.Verdict.{Verdict}
use Rattle.paving_log_check.specs.declared.verdict.Verdict.TheVariants as verdict
use Rattle.sat_model.specs.Logs.{LogValue}
use Rattle.cover_run.specs.CheckTexts.{fault_text}
use Rattle.cover_run.specs.Checking.{SaysYes, SaysNo}
use Rattle.cover_run.specs.Judging.{IsJudgedAs, SaysJudged, SaysFault}
use Rattle.cover_run.specs.Runs.{IsVerdict}
use Rattle.cover_run.specs.Telling.{Sinks, Tells, TellsLine}
use Rattle.cover_run.specs.Texts.{yes_text}

module _ (Yes No : List ℕ → Type 0) (before after : Sinks) (reliable : Type 0) where
  abbrev Told : Status → Type 0
  Told = Tells Yes No before after reliable

  pub tells_yes : (line : List ℕ) (s : Status) → Yes line
      → TellsLine status.Done line before after reliable s → Told s
  tells_yes line s says (inl (is, prints)) = subst Told (sym is) (line, says, prints)
  tells_yes line s says (inr (is, breaks)) = subst Told (sym is) (line, inl says, breaks)

  pub tells_no : (line : List ℕ) (s : Status) → No line
      → TellsLine status.No line before after reliable s → Told s
  tells_no line s says (inl (is, prints)) = subst Told (sym is) (line, says, prints)
  tells_no line s says (inr (is, breaks)) = subst Told (sym is) (line, inr says, breaks)

  -- each verdict has its status
  told_suits : (Suits : Status → Type 0) → ((line : List ℕ) → Yes line → Suits status.Done)
      → ((line : List ℕ) → No line → Suits status.No)
      → (s : Status) → Told s → IsBrokenOff s ⊎ Suits s
  told_suits Suits done denied status.Done told = inr (done told.0 told.1)
  told_suits Suits done denied status.No told = inr (denied told.0 told.1)
  told_suits Suits done denied status.WriteFault told = inl (inr (inl refl))
  told_suits Suits done denied status.NoMemory told = inl (inr (inr refl))
  told_suits Suits done denied status.Usage told = absurd told
  told_suits Suits done denied status.Refused told = absurd told
  told_suits Suits done denied status.ReadFault told = absurd told
  told_suits Suits done denied status.LogFull told = absurd told

  pub verdict_suits : (s : Status) → Told s → IsBrokenOff s ⊎ IsVerdict s
  verdict_suits = told_suits IsVerdict (λ line says. inl refl) (λ line says. inr refl)

pub judged_suits : (log : LogValue) (before after : Sinks) (reliable : Type 0) (s : Status)
    → Tells (SaysJudged log) (SaysFault log) before after reliable s
    → IsBrokenOff s ⊎ IsJudgedAs log s
judged_suits log before after reliable =
    told_suits (SaysJudged log) (SaysFault log) before after reliable (IsJudgedAs log)
    (λ line says. inl (refl, says.0)) (λ line says. inr (refl, says.0))

pub verdict_known : (s : Status) → IsVerdict s → s ≢ status.Usage
verdict_known s (inl e) usage = cc
verdict_known s (inr e) usage = cc

pub judged_known : (log : LogValue) (s : Status) → IsJudgedAs log s → s ≢ status.Usage
judged_known log s (inl (e, right)) usage = cc
judged_known log s (inr (e, wrong)) usage = cc

-- ---- a verdict of a checker

module _ (Yes No Said Denied : List ℕ → Type 0) (before after : Sinks) (reliable : Type 0) (yes : (line : List ℕ) → Yes line → Said line) (no : (line : List ℕ) → No line → Denied line) where
  pub tells_as : (s : Status) → Tells Yes No before after reliable s
      → Tells Said Denied before after reliable s
  tells_as status.Done told = (told.0, yes told.0 told.1, told.2)
  tells_as status.No told = (told.0, no told.0 told.1, told.2)
  tells_as status.WriteFault (line, inl says, breaks) = (line, inl (yes line says), breaks)
  tells_as status.WriteFault (line, inr says, breaks) = (line, inr (no line says), breaks)
  tells_as status.NoMemory told = told
  tells_as status.Usage told = told
  tells_as status.Refused told = told
  tells_as status.ReadFault told = told
  tells_as status.LogFull told = told

-- a verdict of which more is known
yes_as_of : (v : Verdict) (P Q : ℕ → Type 0) → ((boxes : ℕ) → P boxes → Q boxes) → IfYes v P
    → IfYes v Q
yes_as_of (verdict.Yes boxes) P Q on holds = on boxes holds
yes_as_of (verdict.No fault) P Q on holds = tt

pub yes_as : (told : Result Verdict NoMemory) (P Q : ℕ → Type 0) → ((boxes : ℕ) → P boxes → Q boxes)
    → IfOk told (λ v. IfYes v P) → IfOk told (λ v. IfYes v Q)
yes_as (Ok v) P Q on holds = yes_as_of v P Q on holds
yes_as (Err e) P Q on holds = tt

no_as_of : (v : Verdict) (P Q : Fault → Type 0) → ((fault : Fault) → P fault → Q fault) → IfNo v P
    → IfNo v Q
no_as_of (verdict.Yes boxes) P Q on holds = tt
no_as_of (verdict.No fault) P Q on holds = on fault holds

pub no_as : (told : Result Verdict NoMemory) (P Q : Fault → Type 0)
    → ((fault : Fault) → P fault → Q fault) → IfOk told (λ v. IfNo v P) → IfOk told (λ v. IfNo v Q)
no_as (Ok v) P Q on holds = no_as_of v P Q on holds
no_as (Err e) P Q on holds = tt

-- what holds of each yes and of each no, of the lines that say so
module _ (verdict : Result Verdict NoMemory) where
  pub said_yes : (Accepts : ℕ → Type 0) → IfOk verdict (λ v. IfYes v Accepts) → (line : List ℕ)
      → SaysYes verdict line
      → (boxes : ℕ) × Accepts boxes × (line ≡ yes_text boxes)
  said_yes Accepts holds line (boxes, is, e) =
      (boxes, subst (λ (r : Result Verdict NoMemory). IfOk r (λ v. IfYes v Accepts)) is holds, e)

  pub said_no : (Refuses : Fault → Type 0) → IfOk verdict (λ v. IfNo v Refuses) → (line : List ℕ)
      → SaysNo verdict line
      → (fault : Fault) × Refuses fault × (line ≡ fault_text fault)
  said_no Refuses holds line (fault, is, e) =
      (fault, subst (λ (r : Result Verdict NoMemory). IfOk r (λ v. IfNo v Refuses)) is holds, e)
