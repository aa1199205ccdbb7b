-- A text has one first fault at most, and the text of a log has none.
use Rattle.std.proofs.Common.{◌≡◌, ◌≢◌, ℕ, zero, suc, ◌+◌, ◌<◌, true, List, [], ◌∷◌, ◌++◌, length, Some, refl, sym, ap, subst, ◌∙◌, append_assoc, arith, inl, inr}
use Rattle.std.specs.Prelude.{slice_index}
use Rattle.std.proofs.lemmas.List.{length-append}
use Rattle.log_lines.specs.declared.line.Fault.{Fault}
use Rattle.log_lines.specs.declared.line.Fault.TheVariants as fault
use Rattle.log_lines.specs.declared.line.LogLine.{LogLine}
use Rattle.log_lines.specs.declared.line.Place.{Place}
use Rattle.paving_log.specs.declared.log.LogError.{LogError}
use Rattle.log_tokens.specs.Words.{words}
use Rattle.log_lines.specs.Lines.{name_of, LineFits, line_text, text_of}
use Rattle.log_lines.specs.Order.{next, may_end, Leads}
use Rattle.log_lines.specs.Fitting.{FitsAt, head_of, Begins, Misfit}
use Rattle.paving_log.specs.Faults.{refusal, IsLineEnd, FirstLine, LineFails, FaultFrom}
use Rattle.log_lines.proofs.OrderLemmas.{next_named}
use Rattle.step_lines.specs.Texts.{HasNoEnd}
use Rattle.log_lines.proofs.SpellingLemmas.{words-line_text, line_end, line_some, same_line}
use Rattle.log_lines.proofs.ValueLemmas.{same_words}

-- ---- one line

begins : (at : Place) (here : List ℕ) (l : LogLine) (after : Place) → FitsAt at here l after
    → Begins at here (name_of l)
begins at here l after fits = record { word = ap head_of fits.spelled; may_come = next_named at l after fits.next }

-- a line that fits is no misfit
no_misfit : (at : Place) (here : List ℕ) (f : Fault) (l : LogLine) (after : Place)
    → Misfit at here f → FitsAt at here l after → ⊥
no_misfit at here fault.Word l after misfit fits = misfit (name_of l) (begins at here l after fits)
no_misfit at here fault.Fields l after misfit fits = misfit.2 l after fits

-- a line is a misfit in one way
one_misfit : (at : Place) (here : List ℕ) (f g : Fault) → Misfit at here f → Misfit at here g
    → f ≡ g
one_misfit at here fault.Word fault.Word first second = refl
one_misfit at here fault.Word fault.Fields first second = absurd (first second.0 second.1)
one_misfit at here fault.Fields fault.Word first second = absurd (second first.0 first.1)
one_misfit at here fault.Fields fault.Fields first second = refl

-- ---- the first line of a text

abbrev IsWhole : List ℕ → Type 0
IsWhole here = (k : ℕ) → k < length here → slice_index here k ≢ 10

head_end : (behind more : List ℕ) (byte : ℕ) → IsLineEnd behind → behind ≡ byte ∷ more → byte ≡ 10
head_end [] more byte end e = cc
head_end (b ∷ behind) more byte end e = cc

-- a text has one first line
one_first : (here there behind beyond : List ℕ) → IsWhole here → IsWhole there → IsLineEnd behind
    → IsLineEnd beyond → here ++ behind ≡ there ++ beyond → here ≡ there
one_first [] [] behind beyond f g x y e = refl
one_first [] (b ∷ there) behind beyond f g x y e = absurd (g 0 (omega arith) (head_end behind (there ++ beyond) b x e))
one_first (a ∷ here) [] behind beyond f g x y e = absurd (f 0 (omega arith) (head_end beyond (here ++ behind) a y (sym e)))
one_first (a ∷ here) (b ∷ there) behind beyond f g x y e =
    let tails : here ++ behind ≡ there ++ beyond = cc in
    let heads : a ≡ b = cc in
    let later = one_first here there behind beyond (λ k lt. f (suc k) (omega arith)) (λ k lt. g (suc k) (omega arith)) x y tails in
    ap (λ (t : List ℕ). a ∷ t) later ∙ ap (λ (h : ℕ). h ∷ there) heads

whole_line : (bytes : List ℕ) → HasNoEnd bytes → IsWhole bytes
whole_line [] none k lt = absurd (omega arith)
whole_line (byte ∷ bytes) none zero lt = none.0
whole_line (byte ∷ bytes) none (suc k) lt = whole_line bytes none.1 k (omega arith)

-- the first line of a text that a fitting line begins is that line
fits_here : (at : Place) (text here behind rest : List ℕ) (l : LogLine) (to : Place)
    → FirstLine text here behind → LineFits l → next at l ≡ Some to
    → text ≡ line_text l ++ 10 ∷ rest
    → (here ≡ line_text l) × FitsAt at here l to
fits_here at text here behind rest l to first fits step is =
    let same : here ≡ line_text l = one_first here (line_text l) behind (10 ∷ rest) first.whole (whole_line (line_text l) (line_end l fits)) first.ended refl (sym first.parts ∙ is) in
    (same, record { spelled = ap words same ∙ words-line_text l fits; fits = fits; next = step })

-- no text that a fitting line begins fails at its first line
no_failure : (at : Place) (text rest : List ℕ) (number : ℕ) (e : LogError) (l : LogLine) (to : Place)
    → LineFails at text number e → LineFits l → next at l ≡ Some to
    → text ≡ line_text l ++ 10 ∷ rest → ⊥
no_failure at text rest number e l to (inl missing) fits step is = line_some l text rest is missing.nothing
no_failure at text rest number e l to (inr (inl misfit)) fits step is =
    no_misfit at misfit.here misfit.fault l to misfit.misfit (fits_here at text misfit.here misfit.behind rest l to misfit.line fits step is).1
no_failure at text rest number e l to (inr (inr unended)) fits step is =
    let same = (fits_here at text text [] rest l to unended.line fits step is).0 in
    omega (arith, ap length same, ap length is, length-append (line_text l) (10 ∷ rest))

-- no text that may end here fails where it ends
no_failure_at_end : (at : Place) (text : List ℕ) (number : ℕ) (e : LogError)
    → LineFails at text number e → may_end at ≡ true → text ≡ [] → ⊥
no_failure_at_end at text number e (inl missing) may none = let needed = missing.needed in cc
no_failure_at_end at text number e (inr (inl misfit)) may none = misfit.some none
no_failure_at_end at text number e (inr (inr unended)) may none = unended.some none

-- a first line fails in one way
one_failure : (at : Place) (text : List ℕ) (number : ℕ) (e f : LogError)
    → LineFails at text number e → LineFails at text number f → e ≡ f
one_failure at text number e f (inl first) (inl second) = first.error ∙ sym second.error
one_failure at text number e f (inl first) (inr (inl second)) = absurd (second.some first.nothing)
one_failure at text number e f (inl first) (inr (inr second)) = absurd (second.some first.nothing)
one_failure at text number e f (inr (inl first)) (inl second) = absurd (first.some second.nothing)
one_failure at text number e f (inr (inl first)) (inr (inl second)) =
    let here : first.here ≡ second.here = one_first first.here second.here first.behind second.behind first.line.whole second.line.whole first.line.ended second.line.ended (sym first.line.parts ∙ second.line.parts) in
    let same = one_misfit at second.here first.fault second.fault (subst (λ (h : List ℕ). Misfit at h first.fault) here first.misfit) second.misfit in
    first.error ∙ ap (refusal at number) same ∙ sym second.error
one_failure at text number e f (inr (inl first)) (inr (inr second)) =
    let here : first.here ≡ text = one_first first.here text first.behind [] first.line.whole second.line.whole first.line.ended tt (sym first.line.parts ∙ second.line.parts) in
    absurd (no_misfit at text first.fault second.fitting second.after (subst (λ (h : List ℕ). Misfit at h first.fault) here first.misfit) second.fits)
one_failure at text number e f (inr (inr first)) (inl second) = absurd (first.some second.nothing)
one_failure at text number e f (inr (inr first)) (inr (inl second)) =
    let here : second.here ≡ text = one_first second.here text second.behind [] second.line.whole first.line.whole second.line.ended tt (sym second.line.parts ∙ first.line.parts) in
    absurd (no_misfit at text second.fault first.fitting first.after (subst (λ (h : List ℕ). Misfit at h second.fault) here second.misfit) first.fits)
one_failure at text number e f (inr (inr first)) (inr (inr second)) = first.error ∙ sym second.error

-- ---- the lines

-- where two lines that fit begin one text, the same may come behind them, before the same rest
pub record IsSameStep (behind after : Place) (rest more : List ℕ) : Type 0 where
  pub place : behind ≡ after
  pub left : rest ≡ more

same_step : (at behind after : Place) (l m : LogLine) (rest more : List ℕ) → LineFits l → LineFits m
    → next at l ≡ Some behind → next at m ≡ Some after
    → line_text l ++ 10 ∷ rest ≡ line_text m ++ 10 ∷ more → IsSameStep behind after rest more
same_step at behind after l m rest more f g x y e =
    let same = same_line l m rest more f g e in
    let step : Some behind ≡ Some after = sym x ∙ ap (next at) (same_words l m f g same.0) ∙ y in
    record { place = cc; left = same.1 }

text_split : (l : LogLine) (lines : List LogLine) (left : List ℕ)
    → text_of (l ∷ lines) ++ left ≡ line_text l ++ 10 ∷ (text_of lines ++ left)
text_split l lines left = append_assoc (line_text l) (10 ∷ text_of lines) left

-- the text of lines that lead to an end has no first fault
none_fails : (earlier lines : List LogLine) (at to mid : Place) (text left : List ℕ) (number : ℕ) (e : LogError)
    → Leads at lines to → may_end to ≡ true → text ≡ text_of lines → Leads at earlier mid
    → text ≡ text_of earlier ++ left → LineFails mid left number e → ⊥
none_fails [] [] at to mid text left number e leads may is before parts fails =
    no_failure_at_end mid left number e fails (ap may_end (sym before ∙ leads) ∙ may) (sym parts ∙ is)
none_fails [] (l ∷ lines) at to mid text left number e leads may is before parts fails =
    no_failure mid left (text_of lines) number e l leads.1 fails leads.0 (ap (λ (p : Place). next p l) (sym before) ∙ leads.2) (sym parts ∙ is)
none_fails (x ∷ earlier) [] at to mid text left number e leads may is before parts fails =
    line_some x text (text_of earlier ++ left) (parts ∙ text_split x earlier left) is
none_fails (x ∷ earlier) (l ∷ lines) at to mid text left number e leads may is before parts fails =
    let same = same_step at before.1 leads.1 x l (text_of earlier ++ left) (text_of lines) before.0 leads.0 before.2 leads.2 (sym (text_split x earlier left) ∙ sym parts ∙ is) in
    none_fails earlier lines leads.1 to mid (text_of lines) left number e leads.3 may refl (subst (λ (p : Place). Leads p earlier mid) same.place before.3) (sym same.left) fails

pub no_fault : (lines : List LogLine) (at to : Place) (text : List ℕ) (number : ℕ) (e : LogError)
    → Leads at lines to → may_end to ≡ true → text ≡ text_of lines → FaultFrom at text number e → ⊥
no_fault lines at to text number e leads may is fault = none_fails fault.earlier lines at to fault.to text fault.left _ e leads may is fault.leads fault.parts fault.fails

one_after : (earlier lines : List LogLine) (at to mid : Place) (text rest left : List ℕ) (number k j : ℕ) (e f : LogError)
    → Leads at earlier mid → text ≡ text_of earlier ++ left → k ≡ number + length earlier
    → LineFails mid left k e
    → Leads at lines to → text ≡ text_of lines ++ rest → j ≡ number + length lines
    → LineFails to rest j f → e ≡ f
one_after [] [] at to mid text rest left number k j e f before parts count fails leads is sum breaks =
    let here = subst (λ (p : Place). LineFails p left k e) (sym before) fails in
    let there = subst (λ (p : Place). LineFails p rest j f) (sym leads) breaks in
    let same : left ≡ rest = sym parts ∙ is in
    let line : k ≡ j = count ∙ sym sum in
    one_failure at rest j e f (subst (λ (n : ℕ). LineFails at rest n e) line (subst (λ (t : List ℕ). LineFails at t k e) same here)) there
one_after [] (l ∷ lines) at to mid text rest left number k j e f before parts count fails leads is sum breaks =
    absurd (no_failure mid left (text_of lines ++ rest) k e l leads.1 fails leads.0 (ap (λ (p : Place). next p l) (sym before) ∙ leads.2) (sym parts ∙ is ∙ text_split l lines rest))
one_after (x ∷ earlier) [] at to mid text rest left number k j e f before parts count fails leads is sum breaks =
    absurd (no_failure to rest (text_of earlier ++ left) j f x before.1 breaks before.0 (ap (λ (p : Place). next p x) (sym leads) ∙ before.2) (sym is ∙ parts ∙ text_split x earlier left))
one_after (x ∷ earlier) (l ∷ lines) at to mid text rest left number k j e f before parts count fails leads is sum breaks =
    let same = same_step at before.1 leads.1 x l (text_of earlier ++ left) (text_of lines ++ rest) before.0 leads.0 before.2 leads.2 (sym (text_split x earlier left) ∙ sym parts ∙ is ∙ text_split l lines rest) in
    one_after earlier lines leads.1 to mid (text_of lines ++ rest) rest left (number + 1) k j e f (subst (λ (p : Place). Leads p earlier mid) same.place before.3) (sym same.left) (omega (arith, count)) fails
    leads.3 refl (omega (arith, sum)) breaks

-- a text has one first fault at most
pub one_fault : (at : Place) (text : List ℕ) (number : ℕ) (e f : LogError)
    → FaultFrom at text number e → FaultFrom at text number f → e ≡ f
one_fault at text number e f first second =
    one_after first.earlier second.earlier at second.to first.to text second.left first.left number _ _ e f first.leads first.parts refl first.fails second.leads second.parts refl second.fails
