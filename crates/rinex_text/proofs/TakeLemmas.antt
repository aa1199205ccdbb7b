-- Lines one behind another.
use Rattle.std.proofs.Common.{◌≡◌, ℕ, zero, suc, ◌+◌, ◌≤◌, List, [], ◌∷◌, length, drop, arith, refl, sym, subst, inl, inr, Result, Err, ◌∙◌}
use Rattle.rinex_text.specs.Bodies.{needs}
use Rattle.rinex_text.specs.Headers.{Behind}
use Rattle.rinex_text.specs.Lines.{TextLine}
use Rattle.rinex_text.specs.Reading.{body_left, body_behind, Takes, Fails, Leaves, Refuses}
use Rattle.rinex_text.specs.declared.body.Body.{Body}
use Rattle.rinex_text.specs.declared.fault.Fault.{Fault}
use Rattle.rinex_text.specs.declared.fault.ReadError.{ReadError}
use Rattle.rinex_text.specs.declared.fault.ReadError.TheVariants.{Refused, NoMemory}
use Rattle.rinex_text.specs.declared.fault.Refusal.{Refusal}

pub needs_took : {V X : Type 0} (line : TextLine → Result V Fault → Type 0) (old : Body) (v : V) (new : Body) (later : V → Behind → Result X Refusal → Type 0) (answer : Result X Refusal)
    → Takes line old v new → later v (body_behind new) answer
    → needs line (body_behind old) later answer
needs_took line old v new later answer t h =
    rw t.lines (inl (v, t.gave, subst (λ (n : ℕ). later v (record { number = n; lines = body_left new }) answer) t.number h))

pub needs_failed : {V X : Type 0} (line : TextLine → Result V Fault → Type 0) (old : Body) (e : Refusal) (later : V → Behind → Result X Refusal → Type 0) (answer : Result X Refusal)
    → Fails line old e → answer ≡ Err e → needs line (body_behind old) later answer
needs_failed line old e later answer f is = elim f.fails [
  | inl (none, fault) ↦ rw none (is ∙ (rw fault refl))
  | inr (taken, more, fault, lines, fails, refused) ↦ rw lines (inr (fault, fails, is ∙ (rw refused refl)))
]

dropped : (k : ℕ) (lines more : List TextLine) (line : TextLine) → drop k lines ≡ line ∷ more
    → (drop (k + 1) lines ≡ more) × (k + 1 ≤ length lines)
dropped zero [] more line e = absurd cc
dropped zero (first ∷ lines) more line e = (cc, omega arith)
dropped (suc k) [] more line e = absurd cc
dropped (suc k) (first ∷ lines) more line e =
    let rest = dropped k lines more line e in
    let next : suc k + 1 ≡ suc (k + 1) = omega arith in
    (rw next rest.0, omega (arith, rest.1))

pub leaves_one : {V : Type 0} (line : TextLine → Result V Fault → Type 0) (old : Body) (v : V) (new : Body)
    → Takes line old v new → Leaves old 1 new
leaves_one line old v new t =
    let rest = dropped 0 (body_left old) (body_left new) t.taken t.lines in
    record { enough = rest.1; lines = sym rest.0; number = t.number; less = omega (arith, t.less) }

pub leaves_next : {V : Type 0} (first : Body) (k : ℕ) (line : TextLine → Result V Fault → Type 0) (old : Body) (v : V) (new : Body)
    → Leaves first k old → Takes line old v new → Leaves first (k + 1) new
leaves_next first k line old v new l t =
    let rest = dropped k (body_left first) (body_left new) t.taken (sym l.lines ∙ t.lines) in
    record { enough = rest.1; lines = sym rest.0; number = omega (arith, l.number, t.number); less = omega (arith, l.less, t.less) }

pub refuses_on : {X Y : Type 0} (inner : Result X Refusal → Type 0) (outer : Result Y Refusal → Type 0)
    → ((refused : Refusal) → inner (Err refused) → outer (Err refused)) → (e : ReadError)
    → Refuses inner e → Refuses outer e
refuses_on inner outer on (Refused refused) h = on refused h
refuses_on inner outer on NoMemory h = tt
