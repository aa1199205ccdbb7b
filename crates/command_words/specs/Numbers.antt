-- Numbers among the words: decimal digits, with no sign and no zero in front of another digit.
use Rattle.std.specs.Prelude.{ℕ, Bool, true, false, not, ◌&&◌, ◌==◌, List, [], ◌∷◌, Option, Some}
use Rattle.std.specs.Prelude.{None, if◌then◌else◌, nat_le}
use Rattle.std.specs.Char.{is_ascii_digit}
use Rattle.std.specs.List.{list_all}
use Rattle.std.specs.Str.Parse.{digits_value}

-- there is a first byte, and it is no zero in front of another one
abbrev pub leads : List ℕ → Bool
leads [] = false
leads (byte ∷ []) = true
leads (byte ∷ next ∷ more) = not (byte == 48)

abbrev pub is_numeral : List ℕ → Bool
is_numeral text = list_all is_ascii_digit text && leads text

abbrev pub is_from_to : ℕ → ℕ → ℕ → Bool
is_from_to low high n = nat_le low n && nat_le n high

-- the number that the text writes, where it lies from low to high
abbrev pub number_in : ℕ → ℕ → List ℕ → Option ℕ
number_in low high text =
    if is_numeral text && is_from_to low high (digits_value 10 text)
    then Some (digits_value 10 text) else None

-- the numbers of epochs
abbrev pub last_epoch : ℕ
last_epoch = 200000

abbrev pub epoch_number : List ℕ → Option ℕ
epoch_number = number_in 1 last_epoch

-- an option's number of an epoch, and where it isn't given another one
abbrev pub epoch_or : ℕ → Option (List ℕ) → Option ℕ
epoch_or otherwise None = Some otherwise
epoch_or otherwise (Some text) = epoch_number text

abbrev pub seed_number : List ℕ → Option ℕ
seed_number = number_in 0 4294967295

-- how many epochs are made
abbrev pub count_number : List ℕ → Option ℕ
count_number = number_in 1 240
