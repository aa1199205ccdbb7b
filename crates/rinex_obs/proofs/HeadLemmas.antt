-- The fields of the first line of an epoch.
use Rattle.std.proofs.Common.{◌≡◌, ℕ, ◌≤◌, ◌<◌, ◌∙◌, Bool, true, false, List, sym, subst, refl, inl, inr, Option, None, Some, Result, Ok, Err}
use Rattle.std.specs.Prelude.{ℤ, pos, neg_ℤ, ◌≤ℤ◌, ◌<ℤ◌, ◌↔◌, nat_le, IfOk, IfSome, IfNone}
use Rattle.std.specs.List.{list_all}
use Rattle.exact_decimal.specs.Counts.{IsCount}
use Rattle.exact_decimal.specs.NumberFields.{is_blank, IsFixed}
use Rattle.exact_decimal.specs.Reading.{Reads}
use Rattle.exact_decimal.specs.declared.decimal.BadNumber.{BadNumber}
use Rattle.exact_decimal.specs.declared.decimal.Decimal.{Decimal}
use Rattle.rinex_text.specs.Bodies.{is_printable}
use Rattle.rinex_text.specs.Columns.{column_of, columns_of}
use Rattle.rinex_text.specs.Dates.{IsGpsTime}
use Rattle.rinex_text.specs.Headers.{IsShort}
use Rattle.rinex_text.specs.Lines.{TextLine}
use Rattle.rinex_text.specs.declared.fault.Fault.TheVariants as fault
use Rattle.rinex_text.proofs.FieldLemmas.{same_count}
use Rattle.rinex_obs.specs.Epochs.{IsSeconds, IsTag, flag_of, IsFlag, IsLineCount, in_order, head_line}
use Rattle.rinex_text.specs.declared.fault.Fault.{Fault}
use Rattle.rinex_obs.specs.declared.head.Head.{Head}
use Rattle.rinex_obs.specs.declared.head.Head.TheVariants.{Epoch, Event}
use Rattle.rinex_obs.specs.Reading.{AreTenths, IsHeadBehind}
use Rattle.rinex_obs.proofs.OnlyLemmas.{seconds_only}
use Rattle.std.proofs.lemmas.Bool.{both_ways}

module _ (read : Result (Option Decimal) BadNumber) (field there : List ℕ) (same : field ≡ there) (numbers : (digits ten : ℤ) → Reads read digits ten ↔ IsFixed field digits ten) where
  pub seconds_are : (number : Decimal) (tenths : ℕ) → read ≡ Ok (Some number)
      → AreTenths number tenths → IsSeconds there tenths
  seconds_are number tenths is t =
      let fixed = (numbers number.digits number.ten).0 is in
      let a = subst (λ (f : List ℕ). IsFixed f number.digits number.ten) same fixed in
      let b = subst (λ (d : ℤ). IsFixed there d number.ten) t.digits_are a in
      record { digits = t.digits; decimals = t.decimals; number = subst (λ (p : ℤ). IsFixed there (pos t.digits) p) t.ten_is b; few = t.few; value = t.value; under = t.under }

  -- the number of such a field
  pub number_read : (tenths : ℕ) (s : IsSeconds there tenths)
      → Reads read (pos s.digits) (neg_ℤ (pos s.decimals))
  number_read tenths s = (numbers (pos s.digits) (neg_ℤ (pos s.decimals))).1 (subst (λ (f : List ℕ). IsFixed f (pos s.digits) (neg_ℤ (pos s.decimals))) (sym same) s.number)

  pub tenths_are : (number : Decimal) (tenths : ℕ) → read ≡ Ok (Some number)
      → IsSeconds there tenths → AreTenths number tenths
  tenths_are number tenths is s =
      let other = number_read tenths s in
      let e : number.digits ≡ pos s.digits = cc in
      let f : number.ten ≡ neg_ℤ (pos s.decimals) = cc in
      record { digits = s.digits; decimals = s.decimals; digits_are = e; ten_is = f; few = s.few; value = s.value; under = s.under }

pub no_tag : (text : List ℕ) (year month day hour minute tenths : ℕ)
    → IsCount (columns_of text 3 6) year → IsCount (columns_of text 8 9) month
    → IsCount (columns_of text 11 12) day → IsCount (columns_of text 14 15) hour
    → IsCount (columns_of text 17 18) minute → IsSeconds (columns_of text 19 29) tenths
    → (tag : ℤ) → IsTag text tag → IsGpsTime year month day hour minute tenths
no_tag text year month day hour minute tenths y mo d h mi s tag is =
    let ey = same_count _ _ _ is.year_is y in
    let emo = same_count _ _ _ is.month_is mo in
    let ed = same_count _ _ _ is.day_is d in
    let eh = same_count _ _ _ is.hour_is h in
    let emi = same_count _ _ _ is.minute_is mi in
    let es = seconds_only _ _ _ is.seconds_are s in
    rw (ey, emo, ed, eh, emi, es) at is.time

pub some_on : (P Q : ℕ → Type 0) → ((n : ℕ) → P n → Q n) → (given : Option ℕ) → IfSome given P
    → IfSome given Q
some_on P Q on None h = h
some_on P Q on (Some n) h = on n h

pub none_on : (P Q : ℕ → Type 0) → ((n : ℕ) → Q n → P n) → (given : Option ℕ)
    → IfNone given ((n : ℕ) → P n → ⊥) → IfNone given ((n : ℕ) → Q n → ⊥)
none_on P Q on None h = λ n q. h n (on n q)
none_on P Q on (Some n) h = h

pub count_of_lines : (field there : List ℕ) (blank : Bool) (lines : ℕ) → field ≡ there
    → blank ≡ list_all is_blank field → blank ≡ false → IsLineCount there lines
    → IsCount there lines
count_of_lines field there blank lines same test solid is = elim is [
  | inl (blanks, none) ↦ absurd (both_ways (list_all is_blank there) (rw same at (sym test ∙ solid)) blanks)
  | inr (other, count) ↦ count
]

-- ---- the line

module _ (count : ℕ) (before : Option ℤ) (line : TextLine) (short : IsShort line) (printable : list_all is_printable line.text ≡ true) where
  pub no_mark : (column_of line.text 1 ≡ 62 → ⊥) → head_line count before line (Err fault.BadEpoch)
  no_mark other = inl (short, inl (printable, inr (other, refl)))

  module _ (begins : column_of line.text 1 ≡ 62) (flag : ℕ) (e : flag ≡ flag_of line.text) where
    pub no_flag : (IsFlag flag → ⊥) → head_line count before line (Err fault.BadEpoch)
    no_flag other = inl (short, inl (printable, inl (begins, inr ((rw e at other), refl))))

    module _ (is : IsFlag flag) where
      pub no_count : ((lines : ℕ) → IsLineCount (columns_of line.text 33 35) lines → ⊥)
          → head_line count before line (Err fault.BadCount)
      no_count none = inl (short, inl (printable, inl (begins, inl ((rw e at is), inr (none, refl)))))

      module _ (lines : ℕ) (number : IsLineCount (columns_of line.text 33 35) lines) where
        pub is_event : (flag ≤ 49 → ⊥) → head_line count before line (Ok (Event (nat_le flag 53) lines))
        is_event other = rw e (inl (short, inl (printable, inl (begins, inl ((rw e at is), inl (lines, number, inr ((rw e at other), refl)))))))

        module _ (of_epoch : flag ≤ 49) where
          pub no_date : ((tag : ℤ) → IsTag line.text tag → ⊥)
              → head_line count before line (Err fault.BadEpoch)
          no_date none = inl (short, inl (printable, inl (begins, inl ((rw e at is), inl (lines, number, inl ((rw e at of_epoch), inr (none, refl)))))))

          pub too_many : (tag : ℤ) → IsTag line.text tag → (count < 200000 → ⊥)
              → head_line count before line (Err fault.TooMany)
          too_many tag date many = inl (short, inl (printable, inl (begins, inl ((rw e at is), inl (lines, number, inl ((rw e at of_epoch), inl (tag, date, inr (many, refl))))))))

          pub is_epoch : (tag : ℤ) (answer : Result Head Fault) → IsTag line.text tag
              → count < 200000 → in_order before tag lines answer
              → head_line count before line answer
          is_epoch tag answer date few order = inl (short, inl (printable, inl (begins, inl ((rw e at is), inl (lines, number, inl ((rw e at of_epoch), inl (tag, date, inl (few, order))))))))

-- an epoch in order is one of so many
pub order_behind : (count lines : ℕ) (tag : ℤ) (answer : Result Head Fault)
    → (pos 0 ≤ℤ tag) × (tag <ℤ pos 4000000000000000000000) × (count < 200000)
    → IfOk answer (λ head. head ≡ Epoch tag lines) → IfOk answer (IsHeadBehind count)
order_behind count lines tag (Ok head) is e = rw e is
order_behind count lines tag (Err f) is e = tt
