-- Columns of a line. They count from 1, and past the end of the line they read as blank.
use Rattle.std.specs.Prelude.{ℕ, zero, suc, ◌-◌, List, length, take, drop, get_or, cond}
use Rattle.exact_decimal.specs.NumberFields.{is_blank}

abbrev pub column_of : List ℕ → ℕ → ℕ
column_of line place = get_or line (place - 1) 32

-- what the line has of the columns from first to last
abbrev pub columns_of : List ℕ → ℕ → ℕ → List ℕ
columns_of line first last = take (last - (first - 1)) (drop (first - 1) line)

-- how long the first bytes are without the blanks at their end
abbrev pub trimmed_length : List ℕ → ℕ → ℕ
trimmed_length field zero = 0
trimmed_length field (suc n) = cond (is_blank (get_or field n 0)) (trimmed_length field n) (suc n)

-- without the blanks at the end
abbrev pub trimmed : List ℕ → List ℕ
trimmed field = take (trimmed_length field (length field)) field

-- columns 61 to 80 of a header line
abbrev pub label_of : List ℕ → List ℕ
label_of line = trimmed (columns_of line 61 80)
