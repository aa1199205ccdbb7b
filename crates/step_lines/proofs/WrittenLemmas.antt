-- Lines of steps, written one behind another.
use Rattle.std.proofs.Common.{◌≡◌, ℕ, List, [], ◌∷◌, ◌++◌, length, refl, sym, ap, subst, ◌∙◌, append_assoc, arith}
use Rattle.std.proofs.lemmas.Grind.{common_steps}
use Rattle.std.specs.Prelude.{slice_range}
use Rattle.std.specs.List.{AllByRecursion, count_by}
use Rattle.sat_model.specs.StepKinds.{is_kept_step}
use Rattle.sat_model.specs.declared.steps.Step.{Step}
use Rattle.step_lines.specs.Lines.{StepFits, step_text}
use Rattle.step_lines.proofs.LineLemmas.{one_steps}
use Rattle.step_lines.specs.Texts.{AnyLine, OfStep, Other, bytes_in, AnyFits, text_of, steps_among, told_steps, AreLines, AreCounted, AreWritten}

pub none_written : AreWritten [] []
unfolding told_steps
none_written = record { found = record { lines = []; parts = refl; fit = tt }; told = refl }

texts_on : (lines : List AnyLine) (s : Step)
    → text_of (lines ++ OfStep s ∷ []) ≡ text_of lines ++ (step_text s ++ 10 ∷ [])
texts_on [] s = refl
texts_on (l ∷ lines) s = ap (λ (t : List ℕ). bytes_in l ++ 10 ∷ t) (texts_on lines s) ∙ sym (append_assoc (bytes_in l) (10 ∷ text_of lines) (step_text s ++ 10 ∷ []))

fit_on : (lines : List AnyLine) (s : Step) → AllByRecursion AnyFits lines → StepFits s
    → AllByRecursion AnyFits (lines ++ OfStep s ∷ [])
fit_on [] s fit one = (one, tt)
fit_on (l ∷ lines) s fit one = (fit.0, fit_on lines s fit.1 one)

steps_on : (lines : List AnyLine) (s : Step)
    → steps_among (lines ++ OfStep s ∷ []) ≡ steps_among lines ++ s ∷ []
steps_on [] s = refl
steps_on (OfStep t ∷ lines) s = ap (λ (l : List Step). t ∷ l) (steps_on lines s)
steps_on (Other bytes ∷ lines) s = steps_on lines s

-- one step more
pub one_written : (text line : List ℕ) (steps : List Step) (s : Step) → AreWritten text steps
    → StepFits s → line ≡ step_text s ++ 10 ∷ [] → AreWritten (text ++ line) (steps ++ s ∷ [])
unfolding told_steps
one_written text line steps s written fits is = record {
  found = record {
    lines = written.found.lines ++ OfStep s ∷ [];
    parts = ap (λ (t : List ℕ). t ++ line) written.found.parts ∙ ap (λ (l : List ℕ). text_of written.found.lines ++ l) is ∙ sym (texts_on written.found.lines s);
    fit = fit_on written.found.lines s written.found.fit fits;
  };
  told = steps_on written.found.lines s ∙ ap (λ (l : List Step). l ++ s ∷ []) written.told;
}

whole_range : (text : List ℕ) (to : ℕ) → to ≡ length text → slice_range text 0 to ≡ text
whole_range text to is = grind (arith, common_steps)

-- the lines of the whole text are as many as its steps
pub counted_whole : (text part : List ℕ) (to kept : ℕ) (steps : List Step) → part ≡ text
    → to ≡ length text → AreWritten text steps → kept ≡ count_by is_kept_step steps
    → AreCounted (slice_range part 0 to) (length steps) kept
counted_whole text part to kept steps same whole written is =
    rw (same, whole_range text to whole) (
      written.found,
      record {
        all = ap length written.told;
        closing = ap (count_by is_kept_step) written.told ∙ sym is;
      },
    )

pub told_whole : (text part : List ℕ) (to : ℕ) (steps told : List Step) → part ≡ text
    → to ≡ length text → AreWritten text steps
    → ((found : AreLines (slice_range part 0 to)) → told ≡ told_steps (slice_range part 0 to) found)
    → told ≡ steps
told_whole text part to steps told same whole written each =
    let at : slice_range part 0 to ≡ text = ap (λ (l : List ℕ). slice_range l 0 to) same ∙ whole_range text to whole in
    let found = subst AreLines (sym at) written.found in
    each found ∙ one_steps (slice_range part 0 to) text found written.found at ∙ written.told
