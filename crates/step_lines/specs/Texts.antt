-- The lines of an epoch's steps, and those of renewals among them.
use Rattle.std.specs.Prelude.{ℕ, ◌≡◌, ◌≢◌, nat_eq, Bool, true, false, ◌&&◌, if◌then◌else◌, List}
use Rattle.std.specs.Prelude.{[], ◌∷◌, ◌++◌, length}
use Rattle.std.specs.List.{AllByRecursion, count_by}
use Rattle.sat_model.specs.StepKinds.{is_kept_step}
use Rattle.sat_model.specs.declared.steps.Step.{Step}
use Rattle.step_lines.specs.Lines.{StepFits, step_text}

-- a line without its LF: that of a step, or another one
pub data AnyLine : Type 0 where
  OfStep : Step → AnyLine
  Other : List ℕ → AnyLine

abbrev pub bytes_in : AnyLine → List ℕ
bytes_in (OfStep s) = step_text s
bytes_in (Other bytes) = bytes

-- no byte is LF
abbrev pub HasNoEnd : List ℕ → Type 0
HasNoEnd bytes = AllByRecursion (λ byte. byte ≢ 10) bytes

-- the line begins with `r` or with `sa`, as those of a renewal do
abbrev pub is_renewing : List ℕ → Bool
is_renewing (first ∷ second ∷ more) =
    if nat_eq first 114 then true else (nat_eq first 115 && nat_eq second 97)
is_renewing _ = false

abbrev pub AnyFits : AnyLine → Type 0
AnyFits (OfStep s) = StepFits s
AnyFits (Other bytes) = HasNoEnd bytes × (is_renewing bytes ≡ true)

-- the one spelling of some lines, each with its LF
abbrev pub text_of : List AnyLine → List ℕ
text_of [] = []
text_of (l ∷ more) = bytes_in l ++ 10 ∷ text_of more

-- the steps among the lines
abbrev pub steps_among : List AnyLine → List Step
steps_among [] = []
steps_among (OfStep s ∷ more) = s ∷ steps_among more
steps_among (Other bytes ∷ more) = steps_among more

-- The text is that of some lines. They are the only ones (`AreLines-prop`), so a text tells them.
pub record AreLines (text : List ℕ) : Type 0 where
  pub lines : List AnyLine
  pub parts : text ≡ text_of lines
  pub fit : AllByRecursion AnyFits lines

-- the steps that they tell
unfoldable pub told_steps : (text : List ℕ) → AreLines text → List Step
told_steps text found = steps_among found.lines

-- so many steps, of which so many close a box inside or at the edge
pub record AreMany (steps : List Step) (count kept : ℕ) : Type 0 where
  pub all : length steps ≡ count
  pub closing : count_by is_kept_step steps ≡ kept

-- the text tells so many
abbrev pub AreCounted : (text : List ℕ) → ℕ → ℕ → Type 0
AreCounted text count kept =
    (found : AreLines text) × AreMany (told_steps text found) count kept

-- the text has the lines of these steps
pub record AreWritten (text : List ℕ) (steps : List Step) : Type 0 where
  pub found : AreLines text
  pub told : told_steps text found ≡ steps
