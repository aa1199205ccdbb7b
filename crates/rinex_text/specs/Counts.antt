-- The number of a satellite on a line.
use Rattle.std.specs.Prelude.{ℕ, ◌≤◌, List}
use Rattle.exact_decimal.specs.Counts.{IsCount}
use Rattle.rinex_text.specs.Columns.{columns_of}

-- the number of a satellite, from 1 to 99, in columns 2 and 3
pub record IsNumber (text : List ℕ) (number : ℕ) : Type 0 where
  pub count : IsCount (columns_of text 2 3) number
  pub from : 1 ≤ number
  pub to : number ≤ 99
