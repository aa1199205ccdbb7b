-- A navigation file with made records is read as these records.
use Rattle.std.proofs.Common.{None, Some, ◌≡◌, ℕ, ◌+◌, ◌*◌, ◌<◌, ◌≤◌, true, false, List, [], ◌∷◌, ◌++◌, length, map, refl, sym, ◌∙◌, arith, inl, inr, Ok, subst, length-append}
use Rattle.std.specs.Prelude.{pos, neg_ℤ, codes}
use Rattle.std.proofs.lemmas.Int.{ints}
use Rattle.std.specs.List.{list_all, AllByRecursion}
use Rattle.std.specs.Char.{is_ascii_digit}
use Rattle.std.specs.Str.Parse.{digits_value}
use Rattle.std.proofs.lemmas.List.{append-nil}
use Rattle.std.proofs.lemmas.List.Sums.{AllPass-from_list_all}
use Rattle.jiff_core.specs.Calendar.{days_of_years, days_of_months, day_count, days_from_civil}
use Rattle.exact_decimal.specs.Counts.{IsCount}
use Rattle.exact_decimal.specs.NumberFields.{is_blank, AreDigits}
use Rattle.rinex_text.specs.Bodies.{is_printable, is_blank_line}
use Rattle.rinex_text.specs.Columns.{column_of, columns_of}
use Rattle.rinex_text.specs.Counts.{IsNumber}
use Rattle.rinex_text.specs.Dates.{IsGpsDate, gps_time}
use Rattle.rinex_text.specs.Headers.{IsVersion, version_line, header_from}
use Rattle.rinex_text.specs.Lines.{TextLine}
use Rattle.rinex_text.proofs.DateLemmas.{in_time}
use Rattle.rinex_nav.specs.Fields.{IsField, SourceFields, HealthFields, LastFields, AllFields, IsClockTime, zero_decimal}
use Rattle.rinex_nav.specs.Sources.{is_inav, is_zero}
use Rattle.rinex_nav.specs.Records.{is_read, clock_line, further_line, record_from}
use Rattle.rinex_nav.specs.Records as reader
use Rattle.rinex_nav.specs.Files.{records_from, nav_file, IsNavFile}
use Rattle.decimal_digits.specs.Digits.{last_digits}
use Rattle.made_texts.specs.Fields.{field_text, number_of, zero_field}
use Rattle.made_texts.specs.NavText.{clock_text, further_text, record_lines, body_lines, nav_lines, IsNamed, AreNamed, broadcast_of}
use Rattle.made_texts.specs.TextLines.{text_of}
use Rattle.made_texts.specs.declared.field_number.FieldNumber.{FieldNumber}
use Rattle.made_texts.specs.declared.ephemeris.Ephemeris.{Ephemeris}
use Rattle.decimal_digits.proofs.DigitLemmas.{length_digits, value_is}
use Rattle.made_texts.proofs.DigitBytes.{are_digits, printable_digits}
use Rattle.made_texts.proofs.CellLemmas.{IsCell, beside, behind, three_cells, four_cells}
use Rattle.made_texts.proofs.LineLemmas.{plain, IsPrintable, lines_are, all_counted}
use Rattle.made_texts.proofs.FieldLemmas.{field_cell, field_reads, solid_field, solid_before}

-- ---- cells

pub literal : (n : ℕ) (text : List ℕ) → length text ≡ n → list_all is_printable text ≡ true
    → IsCell n text
literal n text len all = record { len = len; printable = all }

pub two_digits : (n : ℕ) → IsCell 2 (last_digits 2 n)
two_digits n = record { len = length_digits 2 n; printable = printable_digits 2 n }

clock_cell : (r : Ephemeris) → IsCell 80 (clock_text r)
unfolding clock_text
clock_cell r =
    let three = beside 19 38 _ _ (field_cell r.af0) (beside 19 19 _ _ (field_cell r.af1) (field_cell r.af2)) in
    beside 1 79 (71 ∷ []) _ (literal 1 (71 ∷ []) refl refl) (beside 2 77 _ _ (two_digits r.number) (beside 20 57 _ _ (literal 20 (codes " 2024 01 07 02 00 00") refl refl) three))

further_cell : (a b c d : FieldNumber) → IsCell 80 (further_text a b c d)
unfolding further_text
further_cell a b c d =
    beside 4 76 _ _ (literal 4 (codes "    ") refl refl) (beside 19 57 _ _ (field_cell a) (beside 19 38 _ _ (field_cell b) (beside 19 19 _ _ (field_cell c) (field_cell d))))

-- ---- columns

field_in : (text : List ℕ) (first last : ℕ) (w : FieldNumber)
    → columns_of text first last ≡ field_text w → IsField (columns_of text first last) (number_of w)
field_in text first last w e = subst (λ (f : List ℕ). IsField f (number_of w)) (sym e) (inr (field_reads w))

clock_fields : (r : Ephemeris)
    → LastFields (clock_text r) (number_of r.af0, number_of r.af1, number_of r.af2)
unfolding clock_text last_digits
clock_fields r =
    let cells = three_cells (field_text r.af0) (field_text r.af1) (field_text r.af2) (field_cell r.af0).len (field_cell r.af1).len (field_cell r.af2).len in
    let fields = field_text r.af0 ++ (field_text r.af1 ++ field_text r.af2) in
    let head = 71 ∷ (last_digits 2 r.number ++ codes " 2024 01 07 02 00 00") in (
      field_in (head ++ fields) 24 42 r.af0 (behind 23 head fields 24 42 refl (omega arith) ∙ cells.first),
      field_in (head ++ fields) 43 61 r.af1 (behind 23 head fields 43 61 refl (omega arith) ∙ cells.second),
      field_in (head ++ fields) 62 80 r.af2 (behind 23 head fields 62 80 refl (omega arith) ∙ cells.third),
    )

all_fields : (a b c d : FieldNumber)
    → AllFields (further_text a b c d) (number_of a, number_of b, number_of c, number_of d)
unfolding further_text
all_fields a b c d =
    let cells = four_cells (field_text a) (field_text b) (field_text c) (field_text d) (field_cell a).len (field_cell b).len (field_cell c).len (field_cell d).len in
    let fields = field_text a ++ (field_text b ++ (field_text c ++ field_text d)) in
    let head = codes "    " in (
      field_in (head ++ fields) 5 23 a (behind 4 head fields 5 23 refl (omega arith) ∙ cells.first),
      field_in (head ++ fields) 24 42 b (behind 4 head fields 24 42 refl (omega arith) ∙ cells.others.0),
      field_in (head ++ fields) 43 61 c (behind 4 head fields 43 61 refl (omega arith) ∙ cells.others.1),
      field_in (head ++ fields) 62 80 d (behind 4 head fields 62 80 refl (omega arith) ∙ cells.others.2),
    )

-- ---- counts and the clock time

pub counts : (digits : List ℕ) (n : ℕ) → AreDigits digits → 0 < length digits
    → n ≡ digits_value 10 digits → IsCount digits n
counts digits n all some value = record {
  before = [];
  blanks_before = λ k d l. absurd (omega arith);
  digits = digits;
  are_digits = all;
  some = some;
  after = [];
  blanks_after = λ k d l. absurd (omega arith);
  spelled = sym (append-nil digits);
  value = value;
}

pub literal_count : (digits : List ℕ) (n : ℕ) → list_all is_ascii_digit digits ≡ true
    → 0 < length digits → n ≡ digits_value 10 digits → IsCount digits n
literal_count digits n all some value = counts digits n (AllPass-from_list_all is_ascii_digit digits all) some value

day_is : pos 19729 ≡ days_from_civil (pos 2024) 1 7
unfolding days_from_civil day_count days_of_years days_of_months
day_is = refl

pub the_date : IsGpsDate 2024 1 7
the_date = in_time 2024 1 7 (pos 19729) (((grind (arith, ints)), (grind (arith, ints))), ((grind (arith, ints)), (grind (arith, ints))), ((grind (arith, ints)), (grind (arith, ints)))) day_is (omega (arith, ints)) (omega (arith, ints))

clock_time : (r : Ephemeris) → IsClockTime (clock_text r) (pos (gps_time 2024 1 7 2 0 0))
unfolding clock_text last_digits
clock_time r = record {
  year = 2024;
  month = 1;
  day = 7;
  hour = 2;
  minute = 0;
  second = 0;
  year_is = literal_count (codes "2024") 2024 refl (omega arith) refl;
  month_is = literal_count (codes "01") 1 refl (omega arith) refl;
  day_is = literal_count (codes "07") 7 refl (omega arith) refl;
  hour_is = literal_count (codes "02") 2 refl (omega arith) refl;
  minute_is = literal_count (codes "00") 0 refl (omega arith) refl;
  second_is = literal_count (codes "00") 0 refl (omega arith) refl;
  time = record { date = the_date; hour_in = omega arith; minute_in = omega arith; tenths_in = omega arith };
  value = refl;
}

number_in : (r : Ephemeris) → IsNamed r → IsNumber (clock_text r) r.number
unfolding clock_text last_digits
number_in r named = record {
  count = counts (last_digits 2 r.number) r.number (are_digits 2 r.number) (omega (arith, length_digits 2 r.number)) (omega (arith, value_is 2 r.number, named.to));
  from = named.from;
  to = named.to;
}

-- ---- the lines

clock_read : (count : ℕ) (r : Ephemeris) → IsNamed r → count < 200000
    → clock_line count (plain (clock_text r)) (Ok (record { system = 71; number = r.number }, pos (gps_time 2024 1 7 2 0 0), (number_of r.af0, number_of r.af1, number_of r.af2)))
unfolding clock_text
clock_read count r named few =
    let cell = clock_cell r in
    inl (omega (arith, cell.len), inl (cell.printable, inl (r.number, number_in r named, inl (few, inl (pos (gps_time 2024 1 7 2 0 0), clock_time r, inl ((number_of r.af0, number_of r.af1, number_of r.af2), clock_fields r, refl))))))

blank : (a b c d : FieldNumber) → is_blank (column_of (further_text a b c d) 1) ≡ true
unfolding further_text
blank a b c d = refl

text_read : (a b c d : FieldNumber)
    → reader.further_text None (plain (further_text a b c d)) (Ok tt)
text_read a b c d =
    let cell = further_cell a b c d in
    inl (omega (arith, cell.len), inl (inl (blank a b c d), inl (cell.printable, inl (blank a b c d, refl))))

further_read : {V : Type 0} (AreFields : List ℕ → V → Type 0) (a b c d : FieldNumber) (v : V)
    → AreFields (further_text a b c d) v
    → further_line None AreFields (plain (further_text a b c d)) (Ok v)
further_read AreFields a b c d v are = inl (tt, text_read a b c d, inl (v, are, refl))

source_read : (a b c d : FieldNumber)
    → further_line None (SourceFields 71) (plain (further_text a b c d)) (Ok (number_of a, zero_decimal))
source_read a b c d = further_read (SourceFields 71) a b c d (number_of a, zero_decimal) ((all_fields a b c d).0, inr ((λ e. absurd (omega (arith, e))), refl))

health_read : (a b c d : FieldNumber)
    → further_line None (HealthFields (is_inav None 71)) (plain (further_text a b c d)) (Ok (is_zero (number_of b).digits, number_of c))
health_read a b c d = further_read (HealthFields false) a b c d (is_zero (number_of b).digits, number_of c) (number_of b, (all_fields a b c d).1, refl, (all_fields a b c d).2)

last_read : (a b c d : FieldNumber)
    → further_line None LastFields (plain (further_text a b c d)) (Ok (number_of b, number_of c, number_of d))
last_read a b c d = further_read LastFields a b c d (number_of b, number_of c, number_of d) ((all_fields a b c d).1, (all_fields a b c d).2, (all_fields a b c d).3)

all_read : (a b c d : FieldNumber)
    → further_line None AllFields (plain (further_text a b c d)) (Ok (number_of a, number_of b, number_of c, number_of d))
all_read a b c d = further_read AllFields a b c d (number_of a, number_of b, number_of c, number_of d) (all_fields a b c d)

-- ---- records

record_read : (count number : ℕ) (r : Ephemeris) (more : List (List ℕ)) → IsNamed r → count < 200000
    → record_from None count (record { number = number; lines = map plain (record_lines r more) }) (Ok (Some (broadcast_of r)))
record_read count number r more named few =
    inl (
      (record { system = 71; number = r.number }, pos (gps_time 2024 1 7 2 0 0), (number_of r.af0, number_of r.af1, number_of r.af2)),
      clock_read count r named few,
      inl (
        (number_of r.crs, number_of r.dn, number_of r.m0),
        last_read zero_field r.crs r.dn r.m0,
        inl (
          (number_of r.cuc, number_of r.e, number_of r.cus, number_of r.root_a),
          all_read r.cuc r.e r.cus r.root_a,
          inl (
            (number_of r.toe, number_of r.cic, number_of r.om0, number_of r.cis),
            all_read r.toe r.cic r.om0 r.cis,
            inl (
              (number_of r.i0, number_of r.crc, number_of r.omega, number_of r.om_dot),
              all_read r.i0 r.crc r.omega r.om_dot,
              inl (
                (number_of r.idot, zero_decimal),
                source_read r.idot zero_field zero_field zero_field,
                inl (
                  (is_zero (number_of zero_field).digits, number_of r.tgd),
                  health_read zero_field zero_field r.tgd zero_field,
                  inl (tt, text_read zero_field zero_field zero_field zero_field, inl ((λ e. absurd (omega (arith, e))), refl)),
                ),
              ),
            ),
          ),
        ),
      ),
    )

begins : (r : Ephemeris) → is_read None (column_of (clock_text r) 1) ≡ true
unfolding clock_text
begins r = refl

body_read : (count number : ℕ) (records : List Ephemeris) → AreNamed records
    → count + length records ≤ 200000
    → records_from None count number 0 (map plain (body_lines records)) (Ok (map broadcast_of records))
body_read count number [] named few = refl
body_read count number (r ∷ records) named few =
    inl (
      begins r,
      inl (
        Some (broadcast_of r),
        record_read count number r (body_lines records) named.0 (omega arith),
        (Ok (map broadcast_of records), body_read (count + 1) (number + 1 + 1 + 1 + 1 + 1 + 1 + 1 + 1) records named.1 (omega arith), refl),
      ),
    )

-- ---- the file

further_prints : (a b c d : FieldNumber) → IsPrintable (further_text a b c d)
further_prints a b c d = (further_cell a b c d).printable

-- each line is printable, and none is blank
body_prints : (records : List Ephemeris) → AllByRecursion IsPrintable (body_lines records)
body_prints [] = tt
body_prints (r ∷ records) =
    ((clock_cell r).printable, (further_prints zero_field r.crs r.dn r.m0, (further_prints r.cuc r.e r.cus r.root_a, (further_prints r.toe r.cic r.om0 r.cis, (further_prints r.i0 r.crc r.omega r.om_dot, (further_prints r.idot zero_field zero_field zero_field, (further_prints zero_field zero_field r.tgd zero_field, (further_prints zero_field zero_field zero_field zero_field, body_prints records))))))))

solid_clock : (r : Ephemeris) → list_all is_blank (clock_text r) ≡ false
unfolding clock_text
solid_clock r = refl

solid_further : (a b c d : FieldNumber) → list_all is_blank (further_text a b c d) ≡ false
unfolding further_text
solid_further a b c d = solid_before (field_text a) (field_text b ++ (field_text c ++ field_text d)) (solid_field a)

body_solid : (records : List Ephemeris)
    → AllByRecursion (λ (line : TextLine). is_blank_line line ≡ false) (map plain (body_lines records))
body_solid [] = tt
body_solid (r ∷ records) =
    (solid_clock r, (solid_further zero_field r.crs r.dn r.m0, (solid_further r.cuc r.e r.cus r.root_a, (solid_further r.toe r.cic r.om0 r.cis, (solid_further r.i0 r.crc r.omega r.om_dot, (solid_further r.idot zero_field zero_field zero_field, (solid_further zero_field zero_field r.tgd zero_field, (solid_further zero_field zero_field zero_field zero_field, body_solid records))))))))

version_text : List ℕ
version_text = codes "     3.05           N: GNSS NAV DATA    G                   RINEX VERSION / TYPE"

pub version_is : IsVersion (codes "     3.05")
version_is = record {
  digits = pos 305;
  ten = neg_ℤ (pos 2);
  number = record {
    before = codes "     ";
    blanks_before = AllPass-from_list_all is_blank (codes "     ") refl;
    mantissa = codes "3.05";
    decimals = 2;
    is_mantissa = record {
      sign = [];
      negative = false;
      is_sign = inl refl;
      whole = codes "3";
      whole_digits = AllPass-from_list_all is_ascii_digit (codes "3") refl;
      fraction = codes "05";
      fraction_digits = AllPass-from_list_all is_ascii_digit (codes "05") refl;
      pointed = codes ".05";
      is_fraction = inr refl;
      spelled = refl;
      some = omega arith;
      at_most = omega arith;
      value = refl;
      places = refl;
    };
    after = [];
    blanks_after = λ k d l. absurd (omega arith);
    spelled = refl;
    power = refl;
  };
  lies = record { from = omega (arith, ints); to = omega (arith, ints) };
}

version_read : version_line 78 (plain version_text) (Ok tt)
unfolding version_text
version_read = inl (omega arith, inl (refl, inl (version_is, inl (refl, inl (inl refl, refl)))))

header_read : (number : ℕ) (lines : List TextLine)
    → header_from number (plain (codes "                                                            END OF HEADER") ∷ lines) (Ok (record { number = number + 1; lines = lines }))
header_read number lines = inl (omega arith, inl (refl, refl))

pub nav_read : (records : List Ephemeris) → AreNamed records → length records ≤ 200000
    → IsNavFile (text_of (nav_lines records)) (map broadcast_of records)
unfolding version_text
nav_read records named few =
    let lines = lines_are (nav_lines records) (refl, (refl, body_prints records)) in
    let all = all_counted (map plain (body_lines records)) (body_solid records) in
    let body = map plain (body_lines records) in
    subst (λ (ls : List TextLine). nav_file ls (Ok (map broadcast_of records))) (sym lines)
    (inl (
      record { number = 2; lines = plain (codes "                                                            END OF HEADER") ∷ body },
      inl (tt, version_read, refl),
      inl (
        record { number = 3; lines = body },
        header_read 2 body,
        subst (λ (ls : List TextLine). records_from None 0 3 0 ls (Ok (map broadcast_of records))) (sym all) (body_read 0 3 records named (omega (arith, few))),
      ),
    ))

-- ---- how long it is

line_length : (line : List ℕ) (more : List (List ℕ)) → length line ≡ 80
    → length (text_of (line ∷ more)) ≡ 81 + length (text_of more)
line_length line more len = length-append line (10 ∷ text_of more) ∙ omega (arith, len)

body_length : (records : List Ephemeris)
    → length (text_of (body_lines records)) ≡ 648 * length records
body_length [] = refl
body_length (r ∷ records) =
    let m7 = body_lines records in
    let m6 = further_text zero_field zero_field zero_field zero_field ∷ m7 in
    let m5 = further_text zero_field zero_field r.tgd zero_field ∷ m6 in
    let m4 = further_text r.idot zero_field zero_field zero_field ∷ m5 in
    let m3 = further_text r.i0 r.crc r.omega r.om_dot ∷ m4 in
    let m2 = further_text r.toe r.cic r.om0 r.cis ∷ m3 in
    let m1 = further_text r.cuc r.e r.cus r.root_a ∷ m2 in
    let m0 = further_text zero_field r.crs r.dn r.m0 ∷ m1 in
    let s6 = line_length (further_text zero_field zero_field zero_field zero_field) m7 (further_cell zero_field zero_field zero_field zero_field).len in
    let s5 = line_length (further_text zero_field zero_field r.tgd zero_field) m6 (further_cell zero_field zero_field r.tgd zero_field).len in
    let s4 = line_length (further_text r.idot zero_field zero_field zero_field) m5 (further_cell r.idot zero_field zero_field zero_field).len in
    let s3 = line_length (further_text r.i0 r.crc r.omega r.om_dot) m4 (further_cell r.i0 r.crc r.omega r.om_dot).len in
    let s2 = line_length (further_text r.toe r.cic r.om0 r.cis) m3 (further_cell r.toe r.cic r.om0 r.cis).len in
    let s1 = line_length (further_text r.cuc r.e r.cus r.root_a) m2 (further_cell r.cuc r.e r.cus r.root_a).len in
    let s0 = line_length (further_text zero_field r.crs r.dn r.m0) m1 (further_cell zero_field r.crs r.dn r.m0).len in
    let s = line_length (clock_text r) m0 (clock_cell r).len in
    let later = body_length records in
    s ∙ omega (arith, s0, s1, s2, s3, s4, s5, s6, later)

pub nav_length : (records : List Ephemeris) → length records ≤ 200000
    → length (text_of (nav_lines records)) ≤ 4000000000
nav_length records few = let body = body_length records in omega (arith, body, few)
