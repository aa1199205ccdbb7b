-- The lines of a text. Each ends with LF, which the last may lack, and one CR before LF is dropped.
use Rattle.std.specs.Prelude.{ℕ, Bool, false, ◌==◌, ◌&&◌, cond, List, [], ◌∷◌, length, map}

pub record TextLine : Type 0 where
  -- without LF, and without one CR before it
  pub text : List ℕ
  -- the number of bytes without LF
  pub size : ℕ

-- a byte in front of the first line
abbrev pub longer : ℕ → List (List ℕ) → List (List ℕ)
longer byte [] = (byte ∷ []) ∷ []
longer byte (line ∷ more) = (byte ∷ line) ∷ more

-- the lines of a text, each with its line end
abbrev pub with_ends : List ℕ → List (List ℕ)
with_ends [] = []
with_ends (byte ∷ bytes) =
    cond (byte == 10) ((byte ∷ []) ∷ with_ends bytes) (longer byte (with_ends bytes))

-- LF, or CR and LF
abbrev pub is_line_end : List ℕ → Bool
is_line_end [] = false
is_line_end (byte ∷ []) = byte == 10
is_line_end (byte ∷ next ∷ []) = byte == 13 && next == 10
is_line_end (byte ∷ next ∷ other ∷ more) = false

-- a line without its line end
abbrev pub without_end : List ℕ → List ℕ
without_end [] = []
without_end (byte ∷ bytes) = cond (is_line_end (byte ∷ bytes)) [] (byte ∷ without_end bytes)

-- a line without its LF
abbrev pub without_lf : List ℕ → List ℕ
without_lf [] = []
without_lf (byte ∷ bytes) = cond (byte == 10) [] (byte ∷ without_lf bytes)

abbrev pub line_of : List ℕ → TextLine
line_of line = record { text = without_end line; size = length (without_lf line) }

abbrev pub lines_of : List ℕ → List TextLine
lines_of text = map line_of (with_ends text)
