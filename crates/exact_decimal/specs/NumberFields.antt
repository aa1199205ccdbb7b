-- The number fields of RINEX 3 files (formats F and D of the tables in its appendix): which bytes
-- are a number, and which number they are.
use Rattle.std.specs.Prelude.{◌≡◌, ℕ, ◌+◌, ◌<◌, ◌≤◌, ◌⊎◌, ℤ, pos, neg_ℤ, ◌-ℤ◌, Bool, true, false}
use Rattle.std.specs.Prelude.{◌||◌, ◌==◌, List, [], ◌∷◌, ◌++◌, length}
use Rattle.std.specs.Char.{is_ascii_digit}
use Rattle.std.specs.List.{AllPass}
use Rattle.std.specs.Str.Parse.{digits_value}

-- a space or a tab
abbrev pub is_blank : ℕ → Bool
is_blank byte = byte == 32 || byte == 9

abbrev pub AreBlanks : List ℕ → Type 0
AreBlanks bytes = AllPass is_blank bytes

abbrev pub AreDigits : List ℕ → Type 0
AreDigits bytes = AllPass is_ascii_digit bytes

-- nothing or a plus sign, or a minus sign
abbrev pub IsSign : List ℕ → Bool → Type 0
IsSign text false = (text ≡ []) ⊎ (text ≡ 43 ∷ [])
IsSign text true = text ≡ 45 ∷ []

abbrev pub signed : Bool → ℕ → ℤ
signed false n = pos n
signed true n = neg_ℤ (pos n)

-- nothing, or a point and digits
abbrev pub IsFraction : List ℕ → List ℕ → Type 0
IsFraction text digits = ((text ≡ []) × (digits ≡ [])) ⊎ (text ≡ 46 ∷ digits)

-- a sign and 1 to 18 digits, among them at most one point: the number that the digits write without
-- the point, and how many of them stand behind it
pub record IsMantissa (text : List ℕ) (digits : ℤ) (decimals : ℕ) : Type 0 where
  pub sign : List ℕ
  pub negative : Bool
  pub is_sign : IsSign sign negative
  pub whole : List ℕ
  pub whole_digits : AreDigits whole
  pub fraction : List ℕ
  pub fraction_digits : AreDigits fraction
  pub pointed : List ℕ
  pub is_fraction : IsFraction pointed fraction
  pub spelled : text ≡ sign ++ (whole ++ pointed)
  pub some : 0 < length whole + length fraction
  pub at_most : length whole + length fraction ≤ 18
  pub value : digits ≡ signed negative (digits_value 10 (whole ++ fraction))
  pub places : decimals ≡ length fraction

-- one of the letters D, d, E and e
abbrev pub is_exponent_letter : ℕ → Bool
is_exponent_letter byte = (byte == 68 || byte == 100) || (byte == 69 || byte == 101)

-- a letter, a sign and one or two digits: the exponent
pub record IsExponent (text : List ℕ) (exponent : ℤ) : Type 0 where
  pub letter : ℕ
  pub is_letter : is_exponent_letter letter ≡ true
  pub sign : List ℕ
  pub negative : Bool
  pub is_sign : IsSign sign negative
  pub digits : List ℕ
  pub are_digits : AreDigits digits
  pub some : 0 < length digits
  pub at_most : length digits ≤ 2
  pub spelled : text ≡ letter ∷ (sign ++ digits)
  pub value : exponent ≡ signed negative (digits_value 10 digits)

-- no exponent, which is 0, or one
abbrev pub MayBeExponent : List ℕ → ℤ → Type 0
MayBeExponent text exponent = ((text ≡ []) × (exponent ≡ pos 0)) ⊎ IsExponent text exponent

-- blanks, a mantissa and blanks: the number is digits * 10 ^ ten
pub record IsFixed (field : List ℕ) (digits ten : ℤ) : Type 0 where
  pub before : List ℕ
  pub blanks_before : AreBlanks before
  pub mantissa : List ℕ
  pub decimals : ℕ
  pub is_mantissa : IsMantissa mantissa digits decimals
  pub after : List ℕ
  pub blanks_after : AreBlanks after
  pub spelled : field ≡ before ++ (mantissa ++ after)
  pub power : ten ≡ neg_ℤ (pos decimals)

-- the same with an exponent behind the mantissa, where there is one
pub record IsFloating (field : List ℕ) (digits ten : ℤ) : Type 0 where
  pub before : List ℕ
  pub blanks_before : AreBlanks before
  pub mantissa : List ℕ
  pub decimals : ℕ
  pub is_mantissa : IsMantissa mantissa digits decimals
  pub letters : List ℕ
  pub exponent : ℤ
  pub may_be_exponent : MayBeExponent letters exponent
  pub after : List ℕ
  pub blanks_after : AreBlanks after
  pub spelled : field ≡ before ++ (mantissa ++ (letters ++ after))
  pub power : ten ≡ exponent -ℤ pos decimals
