-- What the reader has left of a file.
use Rattle.std.specs.Prelude.{ℕ, ◌≡◌, ◌⊎◌, ◌+◌, ◌≤◌, ◌<◌, List, [], ◌∷◌, length, take, drop, Result}
use Rattle.std.specs.Prelude.{Ok, Err}
use Rattle.rinex_text.specs.declared.lines.Line.{Line}
use Rattle.rinex_text.specs.declared.lines.Lines.{Lines}
use Rattle.rinex_text.specs.declared.body.Body.{Body}
use Rattle.rinex_text.specs.declared.fault.Fault.{Fault}
use Rattle.rinex_text.specs.declared.fault.Fault.TheVariants.{Truncated}
use Rattle.rinex_text.specs.declared.fault.ReadError.{ReadError}
use Rattle.rinex_text.specs.declared.fault.ReadError.TheVariants.{Refused, NoMemory}
use Rattle.rinex_text.specs.declared.fault.Refusal.{Refusal}
use Rattle.rinex_text.specs.Faults.{refusal}
use Rattle.rinex_text.specs.Headers.{Behind}
use Rattle.rinex_text.specs.Lines.{TextLine, lines_of}

abbrev pub plain_line : Line → TextLine
plain_line line = record { text = line.text.now; size = line.size }

abbrev pub lines_left : Lines → List TextLine
lines_left lines = lines_of lines.rest.now

-- the first line of what was left, and what is left behind it
pub record IsNextLine (old : Lines) (number : ℕ) (text : List ℕ) (new : Lines) : Type 0 where
  pub size : ℕ
  pub number_is : number ≡ old.number
  pub line : lines_left old ≡ record { text = text; size = size } ∷ lines_left new
  pub counted : new.number ≡ old.number + 1

abbrev pub behind_of : Lines → Behind
behind_of lines = record { number = lines.number; lines = lines_left lines }

-- the lines that are left, or the refusal
abbrev pub left_of : Result Lines Refusal → Result Behind Refusal
left_of (Ok lines) = Ok (behind_of lines)
left_of (Err refusal) = Err refusal

-- the lines of a body that are left
abbrev pub body_left : Body → List TextLine
body_left body = take body.left (lines_left body.lines)

abbrev pub body_behind : Body → Behind
body_behind body = record { number = body.lines.number; lines = body_left body }

-- the next line was read, and gave this
pub record Takes {V : Type 0} (line : TextLine → Result V Fault → Type 0)
    (old : Body) (v : V) (new : Body) : Type 0 where
  pub taken : TextLine
  pub lines : body_left old ≡ taken ∷ body_left new
  pub number : new.lines.number ≡ old.lines.number + 1
  pub gave : line taken (Ok v)
  pub less : new.left < old.left

-- the next line is missing, or has this first fault
pub record Fails {V : Type 0} (line : TextLine → Result V Fault → Type 0)
    (old : Body) (e : Refusal) : Type 0 where
  pub fails : ((body_left old ≡ []) × (e ≡ refusal Truncated old.lines.number))
      ⊎ ((taken : TextLine) × (more : List TextLine) × (f : Fault) × (body_left old ≡ taken ∷ more)
      × line taken (Err f) × (e ≡ refusal f old.lines.number))

-- so many lines were taken
pub record Leaves (old : Body) (taken : ℕ) (new : Body) : Type 0 where
  pub enough : taken ≤ length (body_left old)
  pub lines : body_left new ≡ drop taken (body_left old)
  pub number : new.lines.number ≡ old.lines.number + taken
  pub less : new.left + taken ≤ old.left

-- the refusal is what the reader gives, unless memory ran out
abbrev pub Refuses : {X : Type 0} → (Result X Refusal → Type 0) → ReadError → Type 0
Refuses reader NoMemory = Unit {0}
Refuses reader (Refused e) = reader (Err e)

-- the text was refused with this fault, unless memory ran out
abbrev pub GivesRefusal : {X : Type 0} → Refusal → Result X ReadError → Type 0
GivesRefusal r (Ok value) = ⊥
GivesRefusal r (Err e) = (e ≡ Refused r) ⊎ (e ≡ NoMemory)
