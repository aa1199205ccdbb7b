-- A text of the second form, and its first line that doesn't fit.
use Rattle.std.specs.Prelude.{◌≡◌, ◌≢◌, ◌⊎◌, ℕ, zero, suc, ◌+◌, ◌-◌, ◌*◌, Bool, true, false, List}
use Rattle.std.specs.Prelude.{[], ◌∷◌, ◌++◌, map, codes}
use Rattle.std.specs.List.{Contains}
use Rattle.log_tokens.specs.Words.{words}
use Rattle.zone_guard.specs.Lines.{ZoneValue}
use Rattle.zone_guard.specs.Text.{lines, IsZonesText, IsFirstBad}
use Rattle.zone_guard.specs.Watched.{Kind, WatchLine, Named, Side, Corners, Sides, Pieces, Along}
use Rattle.zone_guard.specs.Watched.{LineFits, line_words, WatchValue, watch_lines, zone_watch}

abbrev pub second_line : List ℕ
second_line = codes "gpszones 2"

-- where sides are owed one comes, and else a name that isn't among these
abbrev pub IsDue : (names : List (List ℕ)) → (owed : ℕ) → WatchLine → Type 0
IsDue names zero (Named name kind) = Contains names name → ⊥
IsDue names zero (Side s) = ⊥
IsDue names (suc owed) (Named name kind) = ⊥
IsDue names (suc owed) (Side s) = Unit {0}

-- the names behind a line
abbrev pub names_with : List (List ℕ) → WatchLine → List (List ℕ)
names_with names (Named name kind) = names ++ name ∷ []
names_with names (Side s) = names

abbrev pub owed_for : Kind → ℕ
owed_for (Corners lo hi) = 0
owed_for (Sides count) = count
owed_for (Pieces count each) = count * each
owed_for (Along a) = 0

-- how many sides are owed behind a line
abbrev pub owed_with : ℕ → WatchLine → ℕ
owed_with owed (Named name kind) = owed_for kind
owed_with owed (Side s) = owed - 1

pub record IsNextLine (names : List (List ℕ)) (owed : ℕ) (line : List ℕ)
    (l : WatchLine) : Type 0 where
  pub fits : LineFits l
  pub spelled : words line ≡ line_words l
  pub due : IsDue names owed l

-- behind these names, with so many sides owed, the lines are these, each with its LF
abbrev pub AreWatchLines : (names : List (List ℕ)) → (owed : ℕ) → (lines : List (List ℕ))
    → List WatchLine → Type 0
AreWatchLines names owed [] ls = ⊥
AreWatchLines names owed (last ∷ []) [] = (last ≡ []) × (owed ≡ 0)
AreWatchLines names owed (last ∷ []) (l ∷ ls) = ⊥
AreWatchLines names owed (line ∷ next ∷ more) [] = ⊥
AreWatchLines names owed (line ∷ next ∷ more) (l ∷ ls) =
    IsNextLine names owed line l
    × AreWatchLines (names_with names l) (owed_with owed l) (next ∷ more) ls

-- the first of the lines from this number on that doesn't fit or lacks its LF; where a side is owed
-- behind the last line, the line behind it
abbrev pub FailsAt : (names : List (List ℕ)) → (owed : ℕ) → (number : ℕ)
    → (lines : List (List ℕ)) → ℕ → Type 0
FailsAt names owed number [] line = line ≡ number
FailsAt names owed number (last ∷ []) line = ((last ≢ []) ⊎ (owed ≢ 0)) × (line ≡ number)
FailsAt names owed number (here ∷ next ∷ more) line =
    (((l : WatchLine) → IsNextLine names owed here l → ⊥) × (line ≡ number))
    ⊎ ((l : WatchLine) × IsNextLine names owed here l
    × FailsAt (names_with names l) (owed_with owed l) (number + 1) (next ∷ more) line)

-- ---- the whole text

abbrev pub AreWatchesIn : List (List ℕ) → List WatchValue → Type 0
AreWatchesIn [] watches = ⊥
AreWatchesIn (first ∷ rest) watches =
    (first ≡ second_line) × AreWatchLines [] 0 rest (watch_lines watches)

abbrev pub IsSecondText : List WatchValue → List ℕ → Type 0
IsSecondText watches bytes = AreWatchesIn (lines bytes) watches

-- the first line is that of the second form, with its LF
abbrev pub BeginsSecond : List (List ℕ) → Type 0
BeginsSecond [] = ⊥
BeginsSecond (first ∷ []) = ⊥
BeginsSecond (first ∷ next ∷ more) = first ≡ second_line

abbrev pub FailsSecond : List (List ℕ) → ℕ → Type 0
FailsSecond [] line = ⊥
FailsSecond (first ∷ rest) line = FailsAt [] 0 2 rest line

-- a text of the second form, or, as it always was, of the first
abbrev pub IsWatchesText : Bool → List WatchValue → List ℕ → Type 0
IsWatchesText true watches bytes = IsSecondText watches bytes
IsWatchesText false watches bytes =
    (zones : List ZoneValue) × (watches ≡ map zone_watch zones) × IsZonesText zones bytes

-- the number of the first bad line
abbrev pub IsFirstUnfit : List ℕ → ℕ → Type 0
IsFirstUnfit bytes line =
    (BeginsSecond (lines bytes) × FailsSecond (lines bytes) line)
    ⊎ ((BeginsSecond (lines bytes) → ⊥) × IsFirstBad bytes line)
