-- The first line of a text, and lines one behind another.
use Rattle.std.proofs.Common.{◌≡◌, ◌≢◌, ℕ, suc, ◌+◌, ◌<◌, Bool, true, false, List, [], ◌∷◌, ◌++◌, length, get_or, take, drop, refl, sym, ap, subst, ◌∙◌, append_assoc, arith, inl, inr, ◌⊎◌}
use Rattle.std.proofs.lemmas.List.{append-nil, get_or-take, length-take, length-append}
use Rattle.std.proofs.lemmas.Bool.{eqb-true, eq-eqb}
use Rattle.std.specs.Prelude.{nat_eq}
use Rattle.log_lines.specs.declared.line.LogLine.{LogLine}
use Rattle.log_lines.specs.declared.line.Place.{Place}
use Rattle.paving_log.specs.declared.lines.Lines.{Lines}
use Rattle.paving_log.specs.declared.log.LogError.{LogError}
use Rattle.paving_log.specs.declared.log.LogError.TheVariants as error
use Rattle.log_lines.specs.Lines.{line_text, text_of}
use Rattle.log_lines.specs.Order.{Leads}
use Rattle.log_tokens.specs.Words.{joined}
use Rattle.log_lines.specs.Fitting.{FitsAt}
use Rattle.paving_log.specs.Faults.{FirstLine, LineFails, FaultFrom}
use Rattle.paving_log.specs.Taking.{Refuses, Takes}
use Rattle.log_tokens.proofs.WordLemmas.{joined-words}
use Rattle.grid_model.proofs.ListLemmas.{cut_at}

-- what stands before the first LF is the first line
pub ended_line : (text : List ℕ) (end : ℕ)
    → ((k : ℕ) → k < end → nat_eq (get_or text k 0) 10 ≡ true → ⊥) → end < length text
    → nat_eq (get_or text end 0) 10 ≡ true
    → FirstLine text (take end text) (10 ∷ drop (suc end) text)
ended_line text end none lt is = record {
  parts = cut_at text end 10 lt (eqb-true _ _ is);
  whole = λ k below is_lf.
      let early : k < end = omega (arith, length-take end text) in
      none k early (eq-eqb _ _ (sym (get_or-take end text k 0 early) ∙ is_lf));
  ended = refl;
}

-- a text without LF is one line
pub only_line : (text : List ℕ)
    → ((k : ℕ) → k < length text → nat_eq (get_or text k 0) 10 ≡ true → ⊥) → FirstLine text text []
only_line text none = record { parts = sym (append-nil text); whole = λ k lt is_lf. none k lt (eq-eqb _ _ is_lf); ended = tt }

-- the bytes of a line that fits are its spelling
pub spelled_line : (at : Place) (here : List ℕ) (l : LogLine) (behind : Place)
    → FitsAt at here l behind → line_text l ≡ here
spelled_line at here l behind line = ap joined (sym line.spelled) ∙ joined-words here

-- a list whose length isn't 0
pub nonempty : (text : List ℕ) → 0 < length text → text ≢ []
nonempty [] lt e = omega arith
nonempty (byte ∷ more) lt e = cc

-- lines behind lines
pub leads_on : (at mid to : Place) (lines more : List LogLine) → Leads at lines mid
    → Leads mid more to → Leads at (lines ++ more) to
leads_on at mid to [] more first second = subst (λ (p : Place). Leads p more to) (sym first) second
leads_on at mid to (l ∷ lines) more first second = (first.0, first.1, first.2, leads_on first.1 mid to lines more first.3 second)

pub text_of-append : (lines more : List LogLine)
    → text_of (lines ++ more) ≡ text_of lines ++ text_of more
text_of-append [] more = refl
text_of-append (l ∷ lines) more =
    ap (λ (t : List ℕ). line_text l ++ 10 ∷ t) (text_of-append lines more) ∙ sym (append_assoc (line_text l) (10 ∷ text_of lines) (text_of more))

-- what was taken in two parts was taken
pub takes_on : (at mid to : Place) (old now new : Lines) (lines more : List LogLine)
    → Takes at old lines mid now → Takes mid now more to new → Takes at old (lines ++ more) to new
takes_on at mid to old now new lines more first second = record {
  leads = leads_on at mid to lines more first.leads second.leads;
  parts =
      first.parts ∙ ap (λ (t : List ℕ). text_of lines ++ t) second.parts
      ∙ sym (append_assoc (text_of lines) (text_of more) new.rest.now)
      ∙ ap (λ (t : List ℕ). t ++ new.rest.now) (sym (text_of-append lines more));
  number = omega (arith, first.number, second.number, length-append lines more);
}

-- the first fault behind lines that were taken is the first fault
fault_behind : (at mid : Place) (old now : Lines) (lines : List LogLine) (e : LogError)
    → Takes at old lines mid now → FaultFrom mid now.rest.now now.number e
    → FaultFrom at old.rest.now old.number e
fault_behind at mid old now lines e taken fault = record {
  earlier = lines ++ fault.earlier;
  to = fault.to;
  left = fault.left;
  leads = leads_on at mid fault.to lines fault.earlier taken.leads fault.leads;
  parts =
      taken.parts ∙ ap (λ (t : List ℕ). text_of lines ++ t) fault.parts
      ∙ sym (append_assoc (text_of lines) (text_of fault.earlier) fault.left)
      ∙ ap (λ (t : List ℕ). t ++ fault.left) (sym (text_of-append lines fault.earlier));
  fails =
      let count : now.number + length fault.earlier ≡ old.number + length (lines ++ fault.earlier) = omega (arith, taken.number, length-append lines fault.earlier) in
      subst (λ (k : ℕ). LineFails fault.to fault.left k e) count fault.fails;
}

refuses : (at : Place) (lines : Lines) (e : LogError) → FaultFrom at lines.rest.now lines.number e
    → Refuses at lines e
refuses at lines error.NoMemory fault = tt
refuses at lines (error.BadLog line kind) fault = fault

-- the first line fails
pub refuses_here : (at : Place) (lines : Lines) (e : LogError)
    → LineFails at lines.rest.now lines.number e → Refuses at lines e
refuses_here at lines e fails = refuses at lines e (record {
  earlier = [];
  to = at;
  left = lines.rest.now;
  leads = refl;
  parts = refl;
  fails = let same : lines.number ≡ lines.number + 0 = omega arith in subst (λ (k : ℕ). LineFails at lines.rest.now k e) same fails;
})

-- a refusal behind lines that were taken is one of the whole
pub refuses_behind : (at mid : Place) (old now : Lines) (lines : List LogLine) (e : LogError)
    → Takes at old lines mid now → Refuses mid now e → Refuses at old e
refuses_behind at mid old now lines error.NoMemory taken fault = tt
refuses_behind at mid old now lines (error.BadLog line kind) taken fault = fault_behind at mid old now lines (error.BadLog line kind) taken fault

-- a refusal is want of memory or a fault
refusal_cases : (at : Place) (lines : Lines) (e : LogError) → Refuses at lines e
    → (e ≡ error.NoMemory) ⊎ FaultFrom at lines.rest.now lines.number e
refusal_cases at lines error.NoMemory fault = inl refl
refusal_cases at lines (error.BadLog line kind) fault = inr fault

-- the same, behind lines that were taken
pub refusal_behind : (at mid : Place) (old now : Lines) (lines : List LogLine) (e : LogError)
    → Takes at old lines mid now → Refuses mid now e
    → (e ≡ error.NoMemory) ⊎ FaultFrom at old.rest.now old.number e
refusal_behind at mid old now lines e taken refused = refusal_cases at old e (refuses_behind at mid old now lines e taken refused)

-- a test found the list not empty
pub tested_nonempty : (text : List ℕ) (empty : Bool) → empty ≡ nat_eq (length text) 0
    → empty ≡ false → text ≢ []
tested_nonempty [] empty test e f = cc
tested_nonempty (byte ∷ more) empty test e f = cc
