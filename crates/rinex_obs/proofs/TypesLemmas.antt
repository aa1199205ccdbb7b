-- The types of a line, one behind another.
use Rattle.std.proofs.Common.{◌≡◌, ℕ, suc, ◌+◌, ◌-◌, ◌<◌, min, List, [], ◌∷◌, ◌++◌, length, refl, inl, inr, Option, None, Some, Result, Ok, Err, arith}
use Rattle.rinex_text.specs.declared.fault.Fault.{Fault}
use Rattle.rinex_text.specs.declared.fault.Fault.TheVariants.{BadCount}
use Rattle.gnss_model.specs.declared.satellites.Signal.{Signal}
use Rattle.gnss_model.specs.declared.satellites.Signal.TheVariants.{Single, Dual}
use Rattle.rinex_obs.specs.Types.{Code, Types, IsSolid, code_at, codes_from, more_codes, first_codes, IsOf, GoesOn, types_line}
use Rattle.rinex_obs.specs.Reading.{Stands, second_place, IsFound, MayBeFound}
use Rattle.rinex_obs.specs.declared.found.Found.{Found}

pub code_step : (text : List ℕ) (place left next rest : ℕ) (codes : List Code) (code : Code) (answer : Result (List Code) Fault)
    → left ≡ suc rest → next ≡ place + 1
    → code ≡ code_at text place → IsSolid code
    → codes_from text next rest (codes ++ code ∷ []) answer
    → codes_from text place left codes answer
code_step text place left next rest codes code answer e f is solid h = rw e (inl ((rw is at solid), rw (f, is) at h))

pub code_fault : (text : List ℕ) (place left rest : ℕ) (codes : List Code) (code : Code)
    → left ≡ suc rest
    → code ≡ code_at text place → (IsSolid code → ⊥)
    → codes_from text place left codes (Err BadCount)
code_fault text place left rest codes code e is blank = rw e (inr ((rw is at blank), refl))

pub codes_fault : (text : List ℕ) (types : Types) (missing : ℕ) (f : Fault)
    → missing ≡ min 13 (types.count - length types.codes)
    → codes_from text 0 missing types.codes (Err f) → more_codes text types (Err f)
codes_fault text types missing f e h = inr (f, (rw e at h), refl)

-- ---- the line

pub stands_on : {X Y E : Type 0} (For : X → Y → Type 0) (inner outer : Result X E → Type 0)
    → ((answer : Result X E) → inner answer → outer answer)
    → (kept : Result Y E) → Stands For inner kept → Stands For outer kept
stands_on For inner outer on (Ok kept) s = (s.0, on (Ok s.0) s.1, s.2)
stands_on For inner outer on (Err e) h = on (Err e) h

pub none_second : (signal : Signal) → None ≡ second_place signal []
none_second (Single code) = refl
none_second (Dual first second) = refl

pub line_first : (letter : ℕ) (signal : Signal) (text : List ℕ) (types : Option Types) (known : Option Found) (first : Found)
    → known ≡ None → MayBeFound signal types known → IsOf letter text
    → Stands {E = Fault} (IsFound signal) (first_codes text) (Ok first)
    → Stands {E = Fault} (MayBeFound signal) (types_line letter types text) (Ok (Some first))
line_first letter signal text None None first none m gps s = (Some s.0, inl (gps, inl (s.0, s.1, refl)), s.2)
line_first letter signal text (Some types) None first none m gps s = absurd m
line_first letter signal text types (Some known) first none m gps s = absurd cc

on_line : (letter : ℕ) (signal : Signal) (text : List ℕ) (types : Option Types) (found more : Found)
    → MayBeFound signal types (Some found) → found.seen < found.count → GoesOn text
    → ((t : Types) → IsFound signal t found → Stands {E = Fault} (IsFound signal) (more_codes text t) (Ok more))
    → Stands {E = Fault} (MayBeFound signal) (types_line letter types text) (Ok (Some more))
on_line letter signal text None found more m few on s = absurd m
on_line letter signal text (Some types) found more m few on s =
    let t = s types m in
    (Some t.0, inl (omega (arith, few, m.seen, m.count), inl (on, inl (t.0, t.1, refl))), t.2)

pub line_more : (letter : ℕ) (signal : Signal) (text : List ℕ) (types : Option Types) (known : Option Found) (found more : Found)
    → known ≡ Some found → MayBeFound signal types known → found.seen < found.count → GoesOn text
    → ((t : Types) → IsFound signal t found → Stands {E = Fault} (IsFound signal) (more_codes text t) (Ok more))
    → Stands {E = Fault} (MayBeFound signal) (types_line letter types text) (Ok (Some more))
line_more letter signal text types known found more e m few on s = on_line letter signal text types found more (rw e at m) few on s
