-- An observation file with made epochs is read as these epochs.
use Rattle.std.proofs.Common.{◌≡◌, ℕ, suc, ◌+◌, ◌*◌, ◌^◌, ◌<◌, ◌≤◌, false, List, [], ◌∷◌, ◌++◌, length, map, get_or, refl, sym, ap, ◌∙◌, arith, inl, inr, None, Some, Result, Ok, subst, append_assoc, length-append}
use Rattle.std.specs.Prelude.{ℤ, pos, nat_abs, ◌==◌, codes}
use Rattle.std.proofs.lemmas.List.{append-nil}
use Rattle.std.specs.Fmt.{decimal}
use Rattle.std.specs.List.{list_all, list_any, AllByRecursion}
use Rattle.exact_decimal.specs.Counts.{IsCount}
use Rattle.exact_decimal.specs.NumberFields.{is_blank}
use Rattle.std.specs.Char.{is_ascii_digit}
use Rattle.std.proofs.lemmas.List.Sums.{AllPass-from_list_all}
use Rattle.rinex_text.specs.Bodies.{is_blank_line}
use Rattle.rinex_text.specs.Columns.{column_of, columns_of}
use Rattle.rinex_text.specs.Counts.{IsNumber}
use Rattle.rinex_text.specs.Dates.{gps_time}
use Rattle.rinex_text.specs.Headers.{version_line}
use Rattle.rinex_text.specs.Lines.{TextLine}
use Rattle.rinex_text.specs.declared.fault.Refusal.{Refusal}
use Rattle.gnss_model.specs.declared.satellites.Sat.{Sat}
use Rattle.gnss_model.specs.declared.satellites.Signal.TheVariants.{Single}
use Rattle.rinex_obs.specs.Types.{Types}
use Rattle.rinex_obs.specs.Header.{Header, Wanted, header_line, header_end, header_lines}
use Rattle.rinex_obs.specs.Epochs.{flag_of, IsTag, head_line, has_sat, sat_on, satellite_line, satellites_from, Observed, Block, epochs_from}
use Rattle.rinex_obs.specs.Files.{unread, alone, obs_file, IsObsFile}
use Rattle.rinex_obs.specs.declared.head.Head.TheVariants as head
use Rattle.rinex_obs.specs.declared.obs.SatObs.{SatObs}
use Rattle.decimal_digits.specs.Digits.{last_digits}
use Rattle.made_texts.specs.TextLines.{text_of}
use Rattle.made_texts.specs.ObsText.{right, metres_text, two_wide, satellite_text, head_text, satellite_lines, epoch_lines, obs_lines, code_c1c, observed_of, sat_of, observed_from, AreSeenFrom, AreEpochs}
use Rattle.made_texts.specs.declared.sat_codes.SatCode.{SatCode}
use Rattle.made_texts.specs.declared.sat_codes.EpochCodes.{EpochCodes}
use Rattle.made_texts.proofs.DigitBytes.{are_digits}
use Rattle.decimal_digits.proofs.DigitLemmas.{length_digits, value_is}
use Rattle.made_texts.proofs.CellLemmas.{IsCell, beside, behind, last}
use Rattle.made_texts.proofs.LineLemmas.{plain, IsPrintable, lines_are, all_counted}
use Rattle.made_texts.proofs.ObsFields.{metres_observed, metres_cell, seconds_read, two_wide_cell, count_read, count_cell, no_blanks}
use Rattle.made_texts.proofs.NavLemmas.{literal, two_digits, counts, literal_count, the_date, version_is}

-- ---- satellites

satellite_cell : (seen : SatCode) → nat_abs seen.code < 10 ^ 11 → IsCell 17 (satellite_text seen)
unfolding satellite_text
satellite_cell seen small = beside 1 16 (71 ∷ []) _ (literal 1 (71 ∷ []) refl refl) (beside 2 14 _ _ (two_digits seen.number) (metres_cell seen.code small))

code_at : (seen : SatCode) → nat_abs seen.code < 10 ^ 11
    → columns_of (satellite_text seen) 4 17 ≡ right 14 (metres_text seen.code)
unfolding satellite_text
code_at seen small =
    let field = right 14 (metres_text seen.code) in
    behind 3 (71 ∷ last_digits 2 seen.number) field 4 17 (ap suc (length_digits 2 seen.number)) (omega arith) ∙ last 14 field (metres_cell seen.code small).len

number_in : (seen : SatCode) → 1 ≤ seen.number → seen.number ≤ 99
    → IsNumber (satellite_text seen) seen.number
unfolding satellite_text last_digits
number_in seen from to = record {
  count = counts (last_digits 2 seen.number) seen.number (are_digits 2 seen.number) (omega (arith, length_digits 2 seen.number)) (omega (arith, value_is 2 seen.number, to));
  from = from;
  to = to;
}

of_gps : (seen : SatCode) → column_of (satellite_text seen) 1 ≡ 71
unfolding satellite_text
of_gps seen = refl

wanted : Wanted
wanted = record { gps = record { first = 0; second = None }; galileo = None }

abbrev AreBelow : ℕ → List SatObs → Type 0
AreBelow n sats = AllByRecursion (λ (s : SatObs). s.sat.number < n) sats

none_has : (sat : Sat) (sats : List SatObs) → AreBelow sat.number sats
    → list_any (has_sat sat) sats ≡ false
none_has sat [] below = refl
none_has sat (s ∷ sats) below =
    let other : (s.sat.number == sat.number) ≡ false = grind (arith, below.0) in
    rw other (none_has sat sats below.1)

below_next : (m n : ℕ) (sats : List SatObs) (s : SatObs) → AreBelow m sats → m ≤ n
    → s.sat.number ≡ n → AreBelow (n + 1) (sats ++ s ∷ [])
below_next m n [] s below le is = (omega (arith, is), tt)
below_next m n (t ∷ sats) s below le is = (omega (arith, below.0), below_next m n sats s below.1 le is)

satellite_read : (before : List SatObs) (seen : SatCode) → AreBelow seen.number before
    → length before < 64 → 1 ≤ seen.number → seen.number ≤ 99 → nat_abs seen.code < 10 ^ 11
    → satellite_line wanted before (plain (satellite_text seen)) (Ok (before ++ sat_of seen ∷ []))
unfolding wanted
satellite_read before seen below room from to small =
    let cell = satellite_cell seen small in
    let first = metres_observed seen.code small in
    inl (
      omega (arith, cell.len),
      inr (
        (λ other. other.2 (of_gps seen)),
        inl (
          cell.printable,
          inl (
            wanted.gps,
            inl (of_gps seen, refl),
            inl (
              seen.number,
              number_in seen from to,
              inl (
                none_has (sat_on (plain (satellite_text seen)) seen.number) before below,
                inl (
                  room,
                  inl (observed_of seen.code, rw (code_at seen small) first, inl (None, tt, rw (of_gps seen) refl)),
                ),
              ),
            ),
          ),
        ),
      ),
    )

satellites_read : (least number : ℕ) (before : List SatObs) (sats : List SatCode) (more : List (List ℕ))
    → 1 ≤ least → AreBelow least before → AreSeenFrom least sats → length before + length sats ≤ 64
    → satellites_from wanted (length sats) before (record { number = number; lines = map plain (satellite_lines sats more) }) (Ok (before ++ map sat_of sats))
satellites_read least number before [] more one below rising room = ap Ok (append-nil before)
satellites_read least number before (seen ∷ sats) more one below rising room =
    let here = weaker least seen.number before below rising.0 in
    let later = satellites_read (seen.number + 1) (number + 1) (before ++ sat_of seen ∷ []) sats more (omega arith) (below_next least seen.number before (sat_of seen) below rising.0 refl) rising.3 (omega (arith, length-append before (sat_of seen ∷ []))) in
    inl (
      before ++ sat_of seen ∷ [],
      satellite_read before seen here (omega arith) (omega (arith, rising.0)) rising.1 rising.2,
      subst (λ (l : List SatObs). satellites_from wanted (length sats) (before ++ sat_of seen ∷ []) (record { number = number + 1; lines = map plain (satellite_lines sats more) }) (Ok l)) (append_assoc before (sat_of seen ∷ []) (map sat_of sats)) later,
    ) where
      weaker : (m n : ℕ) (l : List SatObs) → AreBelow m l → m ≤ n → AreBelow n l
      weaker m n [] below le = tt
      weaker m n (s ∷ l) below le = (omega (arith, below.0), weaker m n l below.1 le)

-- ---- the first line of an epoch

head_cell : (hour minute second count : ℕ) → second ≤ 59 → count < 1000
    → IsCell 35 (head_text hour minute second count)
unfolding head_text
head_cell hour minute second count s few =
    beside 13 22 _ _ (literal 13 (codes "> 2024 01 07 ") refl refl) (beside 2 20 _ _ (two_digits hour) (beside 1 19 (32 ∷ []) _ (literal 1 (32 ∷ []) refl refl) (beside 2 17 _ _ (two_digits minute) (beside 1 16 (32 ∷ []) _ (literal 1 (32 ∷ []) refl refl)
    (beside 2 14 (two_wide second []) _ (two_wide_cell second s) (beside 11 3 _ _ (literal 11 (codes ".0000000  0") refl refl) (count_cell count few)))))))

tag_of : ℕ → ℕ → ℕ → ℤ
tag_of hour minute second = pos (gps_time 2024 1 7 hour minute (second * 10000000))

tag_read : (hour minute second count : ℕ) → hour ≤ 23 → minute ≤ 59 → second ≤ 59
    → IsTag (head_text hour minute second count) (tag_of hour minute second)
unfolding head_text last_digits tag_of
tag_read hour minute second count h m s = record {
  year = 2024;
  month = 1;
  day = 7;
  hour = hour;
  minute = minute;
  tenths = second * 10000000;
  year_is = literal_count (codes "2024") 2024 refl (omega arith) refl;
  month_is = literal_count (codes "01") 1 refl (omega arith) refl;
  day_is = literal_count (codes "07") 7 refl (omega arith) refl;
  hour_is = counts (last_digits 2 hour) hour (are_digits 2 hour) (omega (arith, length_digits 2 hour)) (omega (arith, value_is 2 hour, h));
  minute_is = counts (last_digits 2 minute) minute (are_digits 2 minute) (omega (arith, length_digits 2 minute)) (omega (arith, value_is 2 minute, m));
  seconds_are = seconds_read second s;
  time = record { date = the_date; hour_in = h; minute_in = m; tenths_in = omega arith };
  value = refl;
}

count_at : (hour minute second count : ℕ) → count < 1000
    → columns_of (head_text hour minute second count) 33 35 ≡ right 3 (decimal count)
unfolding head_text last_digits
count_at hour minute second count few =
    let field = right 3 (decimal count) in
    behind 32 (codes "> 2024 01 07 " ++ (last_digits 2 hour ++ 32 ∷ (last_digits 2 minute ++ 32 ∷ two_wide second (codes ".0000000  0")))) field 33 35 refl (omega arith) ∙ last 3 field (count_cell count few).len

first_column : (hour minute second count : ℕ)
    → column_of (head_text hour minute second count) 1 ≡ 62
unfolding head_text last_digits
first_column hour minute second count = refl

flag_is : (hour minute second count : ℕ) → flag_of (head_text hour minute second count) ≡ 48
unfolding head_text last_digits
flag_is hour minute second count = refl

head_read : (before hour minute second count : ℕ) → hour ≤ 23 → minute ≤ 59 → second ≤ 59
    → count ≤ 64 → before < 200000
    → head_line before None (plain (head_text hour minute second count)) (Ok (head.Epoch (tag_of hour minute second) count))
head_read before hour minute second count h m s few room =
    let cell = head_cell hour minute second count s (omega (arith, few)) in
    let flag = flag_is hour minute second count in
    inl (
      omega (arith, cell.len),
      inl (
        cell.printable,
        inl (
          first_column hour minute second count,
          inl (
            (omega (arith, flag), omega (arith, flag)),
            inl (
              count,
              rw (count_at hour minute second count (omega (arith, few))) (count_read 3 count (omega (arith, few))),
              inl (omega (arith, flag), inl (tag_of hour minute second, tag_read hour minute second count h m s, inl (room, refl))),
            ),
          ),
        ),
      ),
    )

-- ---- epochs

passed : (sats : List SatCode) (more : List (List ℕ)) (epochs : List Observed) (answer : Result (List Observed) Refusal)
    → ((n : ℕ) → epochs_from false wanted epochs n 0 (map plain more) answer)
    → (number : ℕ)
    → epochs_from false wanted epochs number (length sats) (map plain (satellite_lines sats more)) answer
passed [] more epochs answer later number = later number
passed (seen ∷ sats) more epochs answer later number = passed sats more epochs answer later (number + 1)

epochs_read : (before : List Observed) (epochs : List EpochCodes) → AreEpochs epochs
    → length before + length epochs ≤ 200000
    → (number : ℕ)
    → epochs_from false wanted before number 0 (map plain (epoch_lines epochs)) (Ok (before ++ observed_from (length before + 1) epochs))
unfolding tag_of
epochs_read before [] are room number = ap Ok (append-nil before)
epochs_read before (epoch ∷ epochs) are room number =
    let is = are.0 in
    let more = epoch_lines epochs in
    let seen : Observed = record { index = length before + 1; tag = tag_of epoch.hour epoch.minute epoch.second; sats = map sat_of epoch.sats.items } in
    let block : Block = record { epochs = seen ∷ []; lines = length epoch.sats.items } in
    let later = epochs_read (before ++ seen ∷ []) epochs are.1 (omega (arith, length-append before (seen ∷ []))) in
    let index : length (before ++ seen ∷ []) + 1 ≡ length before + 1 + 1 = omega (arith, length-append before (seen ∷ [])) in
    let whole : (before ++ seen ∷ []) ++ observed_from (length (before ++ seen ∷ []) + 1) epochs ≡ before ++ seen ∷ observed_from (length before + 1 + 1) epochs =
    append_assoc before (seen ∷ []) _ ∙ ap (λ (n : ℕ). before ++ seen ∷ observed_from n epochs) index in
    inl (
      head.Epoch (tag_of epoch.hour epoch.minute epoch.second) (length epoch.sats.items),
      head_read (length before) epoch.hour epoch.minute epoch.second (length epoch.sats.items) is.hour is.minute is.second is.few (omega arith),
      inl (
        block,
        inl (map sat_of epoch.sats.items, satellites_read 1 (number + 1) [] epoch.sats.items more (omega arith) tt is.sats (omega (arith, is.few)), refl),
        passed epoch.sats.items more (before ++ seen ∷ []) (Ok (before ++ seen ∷ observed_from (length before + 1 + 1) epochs))
            (λ n. subst (λ (l : List Observed). epochs_from false wanted (before ++ seen ∷ []) n 0 (map plain more) (Ok l)) whole (later n)) (number + 1),
      ),
    )

-- ---- lines

satellites_print : (least : ℕ) (sats : List SatCode) (more : List (List ℕ)) → AreSeenFrom least sats
    → AllByRecursion IsPrintable more → AllByRecursion IsPrintable (satellite_lines sats more)
satellites_print least [] more rising later = later
satellites_print least (seen ∷ sats) more rising later = ((satellite_cell seen rising.2).printable, satellites_print (seen.number + 1) sats more rising.3 later)

epochs_print : (epochs : List EpochCodes) → AreEpochs epochs
    → AllByRecursion IsPrintable (epoch_lines epochs)
epochs_print [] are = tt
epochs_print (epoch ∷ epochs) are =
    ((head_cell epoch.hour epoch.minute epoch.second (length epoch.sats.items) are.0.second (omega (arith, are.0.few))).printable, satellites_print 1 epoch.sats.items (epoch_lines epochs) are.0.sats (epochs_print epochs are.1))

abbrev AreSolid : List (List ℕ) → Type 0
AreSolid lines = AllByRecursion (λ (line : TextLine). is_blank_line line ≡ false) (map plain lines)

solid_satellite : (seen : SatCode) → list_all is_blank (satellite_text seen) ≡ false
unfolding satellite_text
solid_satellite seen = refl

solid_head : (hour minute second count : ℕ)
    → list_all is_blank (head_text hour minute second count) ≡ false
unfolding head_text
solid_head hour minute second count = refl

satellites_solid : (sats : List SatCode) (more : List (List ℕ)) → AreSolid more
    → AreSolid (satellite_lines sats more)
satellites_solid [] more later = later
satellites_solid (seen ∷ sats) more later = (solid_satellite seen, satellites_solid sats more later)

epochs_solid : (epochs : List EpochCodes) → AreSolid (epoch_lines epochs)
epochs_solid [] = tt
epochs_solid (epoch ∷ epochs) = (solid_head epoch.hour epoch.minute epoch.second (length epoch.sats.items), satellites_solid epoch.sats.items (epoch_lines epochs) (epochs_solid epochs))

-- ---- the header

first_apart : (a b : List ℕ) → (get_or a 0 0 == get_or b 0 0) ≡ false → a ≡ b → ⊥
first_apart a b other e =
    let same = ap (λ (l : List ℕ). get_or l 0 0) e in
    grind (arith, same, other)

types_text : List ℕ
types_text = codes "G    1 C1C                                                  SYS / # / OBS TYPES"

time_text : List ℕ
time_text = codes "  2024     1     7     1     0    0.0000000     GPS         TIME OF FIRST OBS"

end_text : List ℕ
end_text = codes "                                                            END OF HEADER"

types : Types
types = record { count = 1; codes = code_c1c ∷ [] }

known : Header
known = record { gps = Some types; galileo = None; position = None }

one_read : IsCount (codes "  1") 1
one_read = record {
  before = codes "  ";
  blanks_before = AllPass-from_list_all is_blank (codes "  ") refl;
  digits = codes "1";
  are_digits = AllPass-from_list_all is_ascii_digit (codes "1") refl;
  some = omega arith;
  after = [];
  blanks_after = no_blanks;
  spelled = refl;
  value = refl;
}

types_read : header_line false false unread (plain types_text) (Ok known)
unfolding types_text types known
types_read = inl (refl, inl (Some types, inl (refl, inl (types, inl (1, one_read, inl (omega arith, inl (code_c1c ∷ [], inl (refl, refl), refl))), refl)), inl (None, refl, refl)))

time_read : header_line false false known (plain time_text) (Ok known)
unfolding time_text
time_read = inr (first_apart _ _ refl, inl (refl, inl (inl refl, refl)))

end_read : header_end (alone (Single code_c1c)) false known (Ok (wanted, None))
unfolding known types wanted
end_read = inl ((omega arith, tt), inl (wanted, record { of_gps = (refl, refl); of_galileo = refl }, inl (None, tt, refl)))

version_text : List ℕ
version_text = codes "     3.05           OBSERVATION DATA    G                   RINEX VERSION / TYPE"

version_read : version_line 79 (plain version_text) (Ok tt)
unfolding version_text
version_read = inl (omega arith, inl (refl, inl (version_is, inl (refl, inl (inl refl, refl)))))

header_read : (lines : List TextLine)
    → header_lines (alone (Single code_c1c)) false unread 2 (plain types_text ∷ plain time_text ∷ plain end_text ∷ lines) (Ok (record { wanted = wanted; position = None; behind = record { number = 5; lines = lines } }))
unfolding types_text time_text end_text
header_read lines =
    inl (
      omega arith,
      inr (
        first_apart _ _ refl,
        inl (
          known,
          types_read,
          inl (
            omega arith,
            inr (
              first_apart _ _ refl,
              inl (
                known,
                time_read,
                inl (omega arith, inl (refl, inl ((wanted, None), end_read, refl))),
              ),
            ),
          ),
        ),
      ),
    )

-- ---- the file

pub obs_read : (epochs : List EpochCodes) → AreEpochs epochs → length epochs ≤ 200000
    → IsObsFile (Single code_c1c) false (text_of (obs_lines epochs)) (record { position = None; epochs = observed_from 1 epochs })
unfolding version_text types_text time_text end_text
obs_read epochs are few =
    let lines = lines_are (obs_lines epochs) (refl, (refl, (refl, (refl, epochs_print epochs are)))) in
    let body = map plain (epoch_lines epochs) in
    let all = all_counted body (epochs_solid epochs) in
    subst (λ (ls : List TextLine). obs_file (Single code_c1c) false ls (Ok (record { position = None; epochs = observed_from 1 epochs }))) (sym lines)
    (inl (
      record { number = 2; lines = plain types_text ∷ plain time_text ∷ plain end_text ∷ body },
      inl (tt, version_read, refl),
      inl (
        record { wanted = wanted; position = None; behind = record { number = 5; lines = body } },
        header_read body,
        inl (
          observed_from 1 epochs,
          subst (λ (ls : List TextLine). epochs_from false wanted [] 5 0 ls (Ok (observed_from 1 epochs))) (sym all) (epochs_read [] epochs are (omega (arith, few)) 5),
          refl,
        ),
      ),
    ))

-- ---- how long it is

satellites_length : (least : ℕ) (sats : List SatCode) (more : List (List ℕ))
    → AreSeenFrom least sats
    → length (text_of (satellite_lines sats more)) ≡ 18 * length sats + length (text_of more)
satellites_length least [] more rising = omega arith
satellites_length least (seen ∷ sats) more rising =
    let line = (satellite_cell seen rising.2).len in
    let rest = satellites_length (seen.number + 1) sats more rising.3 in
    omega (arith, length-append (satellite_text seen) (10 ∷ text_of (satellite_lines sats more)), line, rest)

epochs_length : (epochs : List EpochCodes) → AreEpochs epochs
    → length (text_of (epoch_lines epochs)) ≤ 1188 * length epochs
epochs_length [] are = omega arith
epochs_length (epoch ∷ epochs) are =
    let is = are.0 in
    let first = head_text epoch.hour epoch.minute epoch.second (length epoch.sats.items) in
    let line = (head_cell epoch.hour epoch.minute epoch.second (length epoch.sats.items) is.second (omega (arith, is.few))).len in
    let sats = satellites_length 1 epoch.sats.items (epoch_lines epochs) is.sats in
    omega (
      arith,
      length-append first (10 ∷ text_of (satellite_lines epoch.sats.items (epoch_lines epochs))),
      line,
      sats,
      is.few,
      epochs_length epochs are.1,
    )

pub obs_length : (epochs : List EpochCodes) → AreEpochs epochs → length epochs ≤ 200000
    → length (text_of (obs_lines epochs)) ≤ 4000000000
obs_length epochs are few = omega (arith, few, epochs_length epochs are)
