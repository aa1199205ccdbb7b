-- The lines of an epoch or an event, one behind another.
use Rattle.std.proofs.Common.{◌≡◌, ℕ, suc, ◌+◌, Bool, List, refl, Option, Result, Err}
use Rattle.rinex_text.specs.Reading.{body_behind, Takes, Fails, Leaves}
use Rattle.rinex_text.specs.Lines.{TextLine}
use Rattle.rinex_text.specs.declared.body.Body.{Body}
use Rattle.rinex_text.specs.declared.fault.Fault.{Fault}
use Rattle.rinex_text.specs.declared.fault.Refusal.{Refusal}
use Rattle.rinex_text.proofs.TakeLemmas.{needs_took, needs_failed, leaves_next}
use Rattle.rinex_obs.specs.Header.{Wanted}
use Rattle.rinex_obs.specs.Epochs.{satellite_line, satellites_from, event_line, event_from}
use Rattle.rinex_obs.specs.Reading.{with_found}
use Rattle.rinex_obs.specs.declared.obs.SatObs.{SatObs}

pub satellite_step : (wanted : Wanted) (missing rest : ℕ) (sats given more : List SatObs) (found : Option SatObs) (old new : Body) (answer : Result (List SatObs) Refusal)
    → missing ≡ suc rest
    → given ≡ sats → more ≡ with_found sats found
    → Takes (satellite_line wanted given) old (with_found given found) new
    → satellites_from wanted rest more (body_behind new) answer
    → satellites_from wanted missing sats (body_behind old) answer
satellite_step wanted missing rest sats given more found old new answer e f g t h =
    rw e (needs_took _ old (with_found sats found) new _ answer (rw f at t) (rw g at h))

pub satellite_fault : (wanted : Wanted) (missing rest : ℕ) (sats given : List SatObs) (old : Body) (refused : Refusal)
    → missing ≡ suc rest
    → given ≡ sats → Fails (satellite_line wanted given) old refused
    → satellites_from wanted missing sats (body_behind old) (Err refused)
satellite_fault wanted missing rest sats given old refused e f t = rw e (needs_failed _ old refused _ _ (rw f at t) refl)

pub event_step : (both labelled : Bool) (missing rest : ℕ) (old new : Body) (none : Unit {0}) (answer : Result (Unit {0}) Refusal)
    → missing ≡ suc rest
    → Takes (event_line both labelled) old none new
    → event_from both labelled rest (body_behind new) answer
    → event_from both labelled missing (body_behind old) answer
event_step both labelled missing rest old new none answer e t h = rw e (needs_took _ old none new _ answer t h)

pub event_fault : (both labelled : Bool) (missing rest : ℕ) (old : Body) (refused : Refusal)
    → missing ≡ suc rest
    → Fails (event_line both labelled) old refused
    → event_from both labelled missing (body_behind old) (Err refused)
event_fault both labelled missing rest old refused e f = rw e (needs_failed _ old refused _ _ f refl)

pub leaves_more : {V : Type 0} (first : Body) (k next : ℕ) (line : TextLine → Result V Fault → Type 0) (old : Body) (v : V) (new : Body)
    → next ≡ k + 1 → Leaves first k old → Takes line old v new → Leaves first next new
leaves_more first k next line old v new e l t = rw e (leaves_next first k line old v new l t)
