-- A step whose line stands at the front of a text.
use Rattle.std.specs.Prelude.{ℕ, ◌≡◌, List, ◌∷◌, ◌++◌}
use Rattle.sat_model.specs.declared.steps.Step.{Step}
use Rattle.log_tokens.specs.Words.{joined}
use Rattle.step_lines.specs.declared.names.StepName.{StepName}
use Rattle.step_lines.specs.Lines.{StepFits, step_name, step_words, step_text}

-- the fields of a step of this name stand at the front up to the LF, and this is what stands behind
-- it
pub record HasFields (n : StepName) (text : List ℕ) (s : Step) (behind : List ℕ) : Type 0 where
  pub fits : StepFits s
  pub name : step_name s ≡ n
  pub parts : text ≡ joined (step_words s) ++ 10 ∷ behind

-- the line of a step stands at the front, and this is what stands behind its LF
pub record HasStep (text : List ℕ) (s : Step) (behind : List ℕ) : Type 0 where
  pub fits : StepFits s
  pub parts : text ≡ step_text s ++ 10 ∷ behind
