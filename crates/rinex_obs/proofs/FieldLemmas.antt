-- The fields of a satellite line.
use Rattle.std.proofs.Common.{◌≡◌, ℕ, Bool, false, List, sym, subst, inl, inr, Option, None, Some, Result, Ok, Err}
use Rattle.std.specs.Prelude.{ℤ, pos, ◌↔◌, IsTrue}
use Rattle.exact_decimal.specs.NumberFields.{AreBlanks, IsFixed}
use Rattle.exact_decimal.specs.Reading.{Reads}
use Rattle.exact_decimal.specs.declared.decimal.BadNumber.{BadNumber}
use Rattle.exact_decimal.specs.declared.decimal.Decimal.{Decimal}
use Rattle.rinex_obs.specs.Epochs.{IsObserved, IsOtherSystem}
use Rattle.std.proofs.lemmas.Bool.{both_ways}

module _ (read : Result (Option Decimal) BadNumber) (field there : List ℕ) (same : field ≡ there) (numbers : (digits ten : ℤ) → Reads read digits ten ↔ IsFixed field digits ten) where
  pub zero_observed : (number : Decimal) → read ≡ Ok (Some number) → number.digits ≡ pos 0
      → IsObserved there None
  zero_observed number is zero =
      let fixed = (numbers number.digits number.ten).0 is in
      inr (number.ten, subst (λ (f : List ℕ). IsFixed f (pos 0) number.ten) same (subst (λ (digits : ℤ). IsFixed field digits number.ten) zero fixed))

  pub not_fixed : (e : BadNumber) → read ≡ Err e → (digits ten : ℤ) → IsFixed there digits ten → ⊥
  not_fixed e is digits ten fixed =
      let other = (numbers digits ten).1 (subst (λ (f : List ℕ). IsFixed f digits ten) (sym same) fixed) in
      absurd cc

  pub not_observed : (e : BadNumber) → read ≡ Err e → (read ≡ Ok None) ↔ AreBlanks field
      → (value : Option Decimal) → IsObserved there value → ⊥
  not_observed e is blank None of = elim of [
    | inl blanks ↦ let other = blank.1 (subst AreBlanks (sym same) blanks) in absurd cc
    | inr zero ↦ not_fixed e is (pos 0) zero.0 zero.1
  ]
  not_observed e is blank (Some number) of = not_fixed e is number.digits number.ten of.0

pub not_other : (tested both again : Bool) (letter byte : ℕ)
    → IsTrue tested ↔ IsOtherSystem both letter → letter ≡ byte → both ≡ again → tested ≡ false
    → IsOtherSystem again byte → ⊥
not_other tested both again letter byte is same read fails other = both_ways tested fails (is.1 (rw (same, read) other))
