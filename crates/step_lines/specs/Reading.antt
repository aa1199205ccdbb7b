-- What a reader finds at the front of a text.
use Rattle.std.specs.Prelude.{ℕ, ◌≡◌, List, ◌∷◌, ◌++◌, Option, None, Some}
use Rattle.sat_model.specs.declared.steps.Step.{Step}
use Rattle.log_tokens.specs.Words.{words}
use Rattle.step_lines.specs.Lines.{StepFits, line_words}
use Rattle.step_lines.specs.Leading.{HasStep}
use Rattle.step_lines.specs.Texts.{HasNoEnd}

-- a line that is none of a step stands at the front, and this is what stands behind its LF
pub record HasOther (text behind : List ℕ) : Type 0 where
  pub line : List ℕ
  pub whole : HasNoEnd line
  pub parts : text ≡ line ++ 10 ∷ behind
  pub other : (s : Step) → StepFits s → words line ≡ line_words s → ⊥

-- the line of this step, or one of none
abbrev pub HasFirst : List ℕ → Option Step → List ℕ → Type 0
HasFirst text (Some s) behind = HasStep text s behind
HasFirst text None behind = HasOther text behind
