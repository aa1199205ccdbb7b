-- The first line of lines that fit.
use Rattle.std.proofs.Common.{◌≡◌, ℕ, zero, suc, ◌+◌, ◌-◌, ◌*◌, ◌<◌, ◌≤◌, true, List, [], ◌∷◌, ◌++◌, length, take, drop, get_or, refl, sym, ap, subst, ◌∙◌, add-one, arith}
use Rattle.std.proofs.lemmas.Bool.{eqb-true, eq-eqb}
use Rattle.std.proofs.lemmas.List.{length-append, length-take, length-drop}
use Rattle.std.specs.Prelude.{nat_eq, Option, None, Some, option_to_list, slice_range}
use Rattle.std.specs.List.{AllByRecursion}
use Rattle.std.specs.Iterator.{item_count, MakesProgress}
use Rattle.grid_model.proofs.ListLemmas.{cut_at, all_dropped}
use Rattle.sat_model.specs.declared.steps.Step.{Step}
use Rattle.sat_model.specs.declared.steps.Step.TheVariants.{Cut, Split, Outside, Inside, Edge}
use Rattle.log_tokens.specs.Words.{words, joined, Reads}
use Rattle.log_tokens.proofs.WordLemmas.{joined-words}
use Rattle.step_lines.specs.Lines.{StepFits, line_words, step_text}
use Rattle.step_lines.specs.Reading.{HasFirst}
use Rattle.step_lines.specs.Texts.{AnyLine, OfStep, Other, bytes_in, HasNoEnd, AnyFits, text_of, steps_among, told_steps, AreLines}
use Rattle.step_lines.specs.Steps.{steps_left}
use Rattle.step_lines.specs.declared.ahead.StepsAhead.{StepsAhead}
use Rattle.step_lines.specs.OneSpelling.{no_end, not_renewing, same_front, same_lines, same_step, words-step_text}

-- ---- ends

none_before : (text : List ℕ) (end : ℕ) → end < length text
    → ((k : ℕ) → k < end → nat_eq (get_or text k 0) 10 ≡ true → ⊥) → HasNoEnd (take end text)
none_before [] end lt none = absurd (omega arith)
none_before (byte ∷ more) zero lt none = tt
none_before (byte ∷ more) (suc end) lt none =
    (λ e. none 0 (omega arith) (eq-eqb _ _ e), none_before more end (omega arith) (λ k below. none (suc k) (omega arith)))

-- a text with an LF in it
end_inside : (front rest : List ℕ) → HasNoEnd (front ++ 10 ∷ rest) → ⊥
end_inside [] rest none = none.0 refl
end_inside (byte ∷ front) rest none = end_inside front rest none.1

some_text : (front rest : List ℕ) → front ++ 10 ∷ rest ≡ [] → ⊥
some_text front rest none = omega (arith, ap length none, length-append front (10 ∷ rest))

-- ---- what was found

-- the first LF ends a line, whose words were read
pub read_first : (text : List ℕ) (end : ℕ) (step : Option Step)
    → ((k : ℕ) → k < end → nat_eq (get_or text k 0) 10 ≡ true → ⊥) → end < length text
    → nat_eq (get_or text end 0) 10 ≡ true
    → Reads StepFits line_words (words (take end text)) step
    → HasFirst text step (take (length text - (end + 1)) (drop (end + 1) text))
read_first text end step none lt is read =
    let rest : take (length text - (end + 1)) (drop (end + 1) text) ≡ drop (suc end) text =
    all_dropped text (end + 1) ∙ ap (λ (n : ℕ). drop n text) (add-one end) in
    subst (HasFirst text step) (sym rest) (found step read)
  where
    parts : text ≡ take end text ++ 10 ∷ drop (suc end) text
    parts = cut_at text end 10 lt (eqb-true _ _ is)

    found : (step : Option Step) → Reads StepFits line_words (words (take end text)) step
        → HasFirst text step (drop (suc end) text)
    found (Some s) read =
        let here : take end text ≡ step_text s = sym (joined-words (take end text)) ∙ ap joined read.1 in
        record { fits = read.0; parts = parts ∙ ap (λ (l : List ℕ). l ++ 10 ∷ drop (suc end) text) here }
    found None read = record { line = take end text; whole = none_before text end lt none; parts = parts; other = read }

-- ---- what is left

-- what stands behind the first line is lines too, and with its step these tell all steps
record AreBehind (lines : List AnyLine) (step : Option Step) (behind : List ℕ) : Type 0 where
  rest : AreLines behind
  steps : steps_among lines ≡ option_to_list step ++ steps_among rest.lines

lines_behind : (text behind : List ℕ) (lines : List AnyLine) (step : Option Step)
    → text ≡ text_of lines → AllByRecursion AnyFits lines → HasFirst text step behind
    → AreBehind lines step behind
lines_behind text behind [] (Some s) parts fit first = absurd (some_text (step_text s) behind (sym first.parts ∙ parts))
lines_behind text behind [] None parts fit first = absurd (some_text first.line behind (sym first.parts ∙ parts))
lines_behind text behind (OfStep t ∷ lines) (Some s) parts fit first =
    let same = same_front (step_text t) (step_text s) (text_of lines) behind (no_end (OfStep t) fit.0) (no_end (OfStep s) first.fits) (sym parts ∙ first.parts) in
    let one : t ≡ s = same_step t s fit.0 first.fits (sym (words-step_text t fit.0) ∙ ap words same.0 ∙ words-step_text s first.fits) in
    record {
      rest = record { lines = lines; parts = sym same.1; fit = fit.1 };
      steps = ap (λ (x : Step). x ∷ steps_among lines) one;
    }
lines_behind text behind (Other bytes ∷ lines) (Some s) parts fit first =
    let same = same_front bytes (step_text s) (text_of lines) behind fit.0.0 (no_end (OfStep s) first.fits) (sym parts ∙ first.parts) in
    absurd (not_renewing s bytes (sym same.0) fit.0.1)
lines_behind text behind (OfStep t ∷ lines) None parts fit first =
    let same = same_front (step_text t) first.line (text_of lines) behind (no_end (OfStep t) fit.0) first.whole (sym parts ∙ first.parts) in
    absurd (first.other t fit.0 (ap words (sym same.0) ∙ words-step_text t fit.0))
lines_behind text behind (Other bytes ∷ lines) None parts fit first =
    let same = same_front bytes first.line (text_of lines) behind fit.0.0 first.whole (sym parts ∙ first.parts) in
    record { rest = record { lines = lines; parts = sym same.1; fit = fit.1 }; steps = refl }

pub rest_found : (text behind : List ℕ) (step : Option Step) → AreLines text
    → HasFirst text step behind → AreLines behind
rest_found text behind step found first = (lines_behind text behind found.lines step found.parts found.fit first).rest

none_left : (text : List ℕ) (lines : List AnyLine) → text ≡ text_of lines → HasNoEnd text
    → steps_among lines ≡ []
none_left text [] parts none = refl
none_left text (l ∷ lines) parts none = absurd (end_inside (bytes_in l) (text_of lines) (subst HasNoEnd parts none))

-- a text without LF has no line
pub no_step_left : (text : List ℕ) (found : AreLines text) → HasNoEnd text
    → told_steps text found ≡ []
unfolding told_steps
no_step_left text found none = none_left text found.lines found.parts none

-- a text tells its steps in one way
pub one_steps : (text other : List ℕ) (a : AreLines text) (b : AreLines other) → text ≡ other
    → told_steps text a ≡ told_steps other b
unfolding told_steps
one_steps text other a b e = ap steps_among (same_lines a.lines b.lines a.fit b.fit (sym a.parts ∙ e ∙ b.parts))

-- the step of the first line, and those behind it
pub first_told : (text behind : List ℕ) (step : Option Step) (found : AreLines text) (rest : AreLines behind)
    → HasFirst text step behind
    → told_steps text found ≡ option_to_list step ++ told_steps behind rest
unfolding told_steps
first_told text behind step found rest first =
    let split = lines_behind text behind found.lines step found.parts found.fit first in
    let same : split.rest.lines ≡ rest.lines = same_lines split.rest.lines rest.lines split.rest.fit rest.fit (sym split.rest.parts ∙ rest.parts) in
    split.steps ∙ ap (λ (ls : List AnyLine). option_to_list step ++ steps_among ls) same

pub first_goes : (ahead behind : StepsAhead) (step : Step)
    → steps_left ahead ≡ step ∷ steps_left behind
    → MakesProgress (λ _. Unit {0}) (item_count steps_left) ahead (Some step) behind
first_goes ahead behind step e = record { on = λ _. (tt, tt, omega (arith, ap length e)); keeps = tt; rests = λ _. tt }

-- ---- how many

step_some : (s : Step) → 1 ≤ length (step_text s)
step_some (Cut id face bound) = omega arith
step_some (Split id axis) = omega arith
step_some (Outside id) = omega arith
step_some (Inside id clock lo hi) = omega arith
step_some (Edge id lo hi) = omega arith

few_among : (lines : List AnyLine) → 2 * length (steps_among lines) ≤ length (text_of lines)
few_among [] = omega arith
few_among (OfStep s ∷ lines) = omega (arith, few_among lines, length-append (step_text s) (10 ∷ text_of lines), step_some s)
few_among (Other bytes ∷ lines) = omega (arith, few_among lines, length-append bytes (10 ∷ text_of lines))

-- no more than half as many as bytes
pub few_steps : (text : List ℕ) (found : AreLines text)
    → 2 * length (told_steps text found) ≤ length text
unfolding told_steps
few_steps text found = omega (arith, few_among found.lines, ap length found.parts)

-- a part is no longer than the whole
pub part_le : (text : List ℕ) (from to : ℕ) → length (slice_range text from to) ≤ length text
part_le text from to = omega (arith, length-take (to - from) (drop from text), length-drop from text)
