-- What a reader of a number field answers.
use Rattle.std.specs.Prelude.{◌≡◌, ℤ, Option, Some, Result, Ok}
use Rattle.exact_decimal.specs.declared.decimal.BadNumber.{BadNumber}
use Rattle.exact_decimal.specs.declared.decimal.Decimal.{Decimal}

-- the answer is this decimal
abbrev pub Reads : Result (Option Decimal) BadNumber → ℤ → ℤ → Type 0
Reads result digits ten = result ≡ Ok (Some (record { digits = digits; ten = ten }))
