-- The words of the values in a line, and which values fit there.
use Rattle.std.specs.Prelude.{ℕ, zero, suc, ◌≡◌, ◌⊎◌, ◌+◌, ◌/◌, ◌%◌, ◌≤◌, ℤ, pos, ◌≤ℤ◌, List, []}
use Rattle.std.specs.Prelude.{◌∷◌}
use Rattle.std.specs.Fmt.{decimal, signed_decimal}
use Rattle.grid_model.specs.Sizes.{IsWithin}
use Rattle.grid_model.specs.declared.spans.Span.{Span}
use Rattle.grid_model.specs.declared.boxes.Pos.{Pos}
use Rattle.gnss_model.specs.declared.satellites.Sat.{Sat}
use Rattle.gnss_model.specs.declared.satellites.Skip.{Skip}

abbrev pub number_words : ℤ → List (List ℕ)
number_words n = signed_decimal n ∷ []

-- n lies from low to high
abbrev pub IsFromTo : ℤ → ℤ → ℤ → Type 0
IsFromTo low high n = (low ≤ℤ n) × (n ≤ℤ high)

abbrev pub count_words : ℕ → List (List ℕ)
count_words n = decimal n ∷ []

-- the same of a number without a sign
abbrev pub IsCountFromTo : ℕ → ℕ → ℕ → Type 0
IsCountFromTo low high n = (low ≤ n) × (n ≤ high)

-- a time in picoseconds since 1980, under 4 * 10^21
abbrev pub IsTime : ℤ → Type 0
IsTime ps = (pos 0 ≤ℤ ps) × (ps ≤ℤ pos 3999999999999999999999)

abbrev pub span_words : Span → List (List ℕ)
span_words s = signed_decimal s.lo ∷ signed_decimal s.hi ∷ []

abbrev pub IsSpanWithin : ℕ → Span → Type 0
IsSpanWithin bound s = IsWithin bound s.lo × IsWithin bound s.hi

abbrev pub pos_words : Pos → List (List ℕ)
pos_words p = signed_decimal p.x ∷ signed_decimal p.y ∷ signed_decimal p.z ∷ []

abbrev pub IsPosWithin : ℕ → Pos → Type 0
IsPosWithin bound p = IsWithin bound p.x × IsWithin bound p.y × IsWithin bound p.z

-- the letter of the system and two digits
abbrev pub sat_words : Sat → List (List ℕ)
sat_words s = (s.system ∷ (48 + s.number / 10) ∷ (48 + s.number % 10) ∷ []) ∷ []

-- a satellite of the system G or E, numbered from 01 to 99
abbrev pub IsNamed : Sat → Type 0
IsNamed s = ((s.system ≡ 71) ⊎ (s.system ≡ 69)) × IsCountFromTo 1 99 s.number

-- nothing for 0
abbrev pub optional_words : ℕ → List (List ℕ)
optional_words zero = []
optional_words (suc n) = decimal (suc n) ∷ []

-- the number of the test that fails, and behind test 6 the number of the field
abbrev pub skip_words : Skip → List (List ℕ)
skip_words s = decimal s.number ∷ optional_words s.field

-- one of the tests 1 to 5, or 7 to 9: no field is told of these
abbrev pub IsPlainTest : ℕ → Type 0
IsPlainTest n = IsCountFromTo 1 5 n ⊎ IsCountFromTo 7 9 n

-- one of them alone, or test 6 with one of the fields 1 to 20
abbrev pub SkipFits : Skip → Type 0
SkipFits s =
    (IsPlainTest s.number × (s.field ≡ 0)) ⊎ ((s.number ≡ 6) × IsCountFromTo 1 20 s.field)
