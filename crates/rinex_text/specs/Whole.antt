-- Lists of lines as a whole: the parts of a file, and things that belong to one another.
use Rattle.std.specs.Prelude.{◌≡◌, ℕ, ◌-◌, List, [], ◌∷◌, ◌++◌, take, drop, Result, Err}
use Rattle.std.specs.List.{AllByRecursion, list_all}
use Rattle.rinex_text.specs.Bodies.{is_blank_line}
use Rattle.rinex_text.specs.Headers.{IsShort, IsHeaderEnd}
use Rattle.rinex_text.specs.Lines.{TextLine, lines_of}
use Rattle.rinex_text.specs.declared.fault.ReadError.{ReadError}
use Rattle.rinex_text.specs.declared.fault.ReadError.TheVariants.{Refused, NoMemory}
use Rattle.rinex_text.specs.declared.fault.Refusal.{Refusal}

-- these and those belong to each other, one for one and in order
abbrev pub OneForOne : {X Y : Type 0} → (X → Y → Type 0) → List X → List Y → Type 0
OneForOne Belong [] [] = Unit {0}
OneForOne Belong [] (y ∷ ys) = ⊥
OneForOne Belong (x ∷ xs) [] = ⊥
OneForOne Belong (x ∷ xs) (y ∷ ys) = Belong x y × OneForOne Belong xs ys

-- A file is its version line, the header's lines, the first line that ends the header, and those
-- behind it. Up to that line none is longer than it may be.
pub record IsParted (lines header behind : List TextLine) : Type 0 where
  pub version : TextLine
  pub end : TextLine
  pub spelled : lines ≡ version ∷ (header ++ end ∷ behind)
  pub ends : IsHeaderEnd end
  pub none_before : AllByRecursion (λ line. IsHeaderEnd line → ⊥) header
  pub short : AllByRecursion IsShort (version ∷ (header ++ end ∷ []))

-- Up to and with the line of this number both are the same. From it on both have a line that isn't
-- blank, or neither has, which says something more only where that line is blank or missing.
pub record AgreeTo (number : ℕ) (these those : List TextLine) : Type 0 where
  pub same : take number these ≡ take number those
  pub blank : list_all is_blank_line (drop (number - 1) these)
      ≡ list_all is_blank_line (drop (number - 1) those)

-- The fault of a text comes of the lines up to its own: each text that agrees with it so far has it
-- too.
abbrev pub IsSettled : {X : Type 0} → (List TextLine → Result X Refusal → Type 0)
    → List ℕ → ReadError → Type 0
IsSettled reader text NoMemory = Unit {0}
IsSettled reader text (Refused refusal) = (other : List ℕ)
    → AgreeTo refusal.line (lines_of text) (lines_of other)
    → reader (lines_of other) (Err refusal)
