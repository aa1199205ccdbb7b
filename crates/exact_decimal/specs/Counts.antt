-- The count fields of RINEX 3 files (format I of the tables in its appendix).
use Rattle.std.specs.Prelude.{◌≡◌, ℕ, ◌<◌, List, ◌++◌, length}
use Rattle.std.specs.Str.Parse.{digits_value}
use Rattle.exact_decimal.specs.NumberFields.{AreBlanks, AreDigits}

-- blanks, digits and blanks: the number that the digits write
pub record IsCount (field : List ℕ) (n : ℕ) : Type 0 where
  pub before : List ℕ
  pub blanks_before : AreBlanks before
  pub digits : List ℕ
  pub are_digits : AreDigits digits
  pub some : 0 < length digits
  pub after : List ℕ
  pub blanks_after : AreBlanks after
  pub spelled : field ≡ before ++ (digits ++ after)
  pub value : n ≡ digits_value 10 digits
