-- The types of a system that a header lists are those of its lines of the system, joined.
use Rattle.std.proofs.Common.{◌≡◌, ℕ, zero, suc, ◌+◌, ◌-◌, ◌<◌, ◌≤◌, ◌∙◌, Bool, true, false, cond, List, [], ◌∷◌, ◌++◌, length, append_assoc, refl, ap, sym, subst, inl, inr, arith, Option, None, Some, Ok, ◌⊎◌}
use Rattle.std.specs.Prelude.{min}
use Rattle.std.specs.List.{AllByRecursion, filter}
use Rattle.std.proofs.Math.Nat.{min_comm, sub-add-min_cancel}
use Rattle.std.proofs.lemmas.List.{append-nil, length-append}
use Rattle.std.proofs.lemmas.Option.{same_Some}
use Rattle.exact_decimal.specs.Counts.{IsCount}
use Rattle.rinex_text.specs.Columns.{columns_of}
use Rattle.rinex_text.specs.Lines.{TextLine}
use Rattle.rinex_obs.specs.Types.{Code, Types, code_at, IsSolid, codes_from, more_codes, first_codes, IsOf, GoesOn, types_line, AreComplete, codes_of}
use Rattle.rinex_obs.specs.Whole.{codes_on, codes_of_lines, is_types_line, AreJoined}
use Rattle.rinex_obs.proofs.FactLemmas.{Give, given, on_test, on_where, on_read, on_then, on_either, on_more, all_more}

-- ---- the codes of a line

length_on : (text : List ℕ) (place left : ℕ) → length (codes_on text place left) ≡ left
length_on text place zero = refl
length_on text place (suc left) = omega (arith, length_on text (place + 1) left)

codes_joined : (text : List ℕ) (place left : ℕ) (seen : List Code)
    → Give (λ (codes : List Code). codes ≡ seen ++ codes_on text place left) (codes_from text place left seen)
codes_joined text place zero seen = given (λ (codes : List Code). codes ≡ seen ++ []) seen (sym (append-nil seen))
codes_joined text place (suc left) seen =
    let Meets : List Code → Type 0 = λ codes. codes ≡ seen ++ codes_on text place (suc left) in
    on_test Meets _ _ _ (λ solid. on_more (λ (codes : List Code). codes ≡ (seen ++ code_at text place ∷ []) ++ codes_on text (place + 1) left) Meets _
    (λ codes e. e ∙ append_assoc seen (code_at text place ∷ []) (codes_on text (place + 1) left))
    (codes_joined text (place + 1) left (seen ++ code_at text place ∷ [])))

-- a list with the codes of one more line
record HasMore (text : List ℕ) (count : ℕ) (seen : List Code) (more : Types) : Type 0 where
  count_is : more.count ≡ count
  codes_are : more.codes ≡ seen ++ codes_on text 0 (min 13 (count - length seen))

has_more : (text : List ℕ) (types : Types)
    → Give (HasMore text types.count types.codes) (more_codes text types)
has_more text types =
    let k = min 13 (types.count - length types.codes) in
    on_then (HasMore text types.count types.codes) (codes_from text 0 k types.codes) _ (λ codes l.
    given (HasMore text types.count types.codes) (record { count = types.count; codes = codes }) (record { count_is = refl; codes_are = codes_joined text 0 k types.codes (Ok codes) l }))

-- how many are missing then
missing_less : (count len k : ℕ) → len ≤ count → k ≡ min 13 (count - len)
    → (count - (len + k) ≡ (count - len) - 13) × (len + k ≤ count)
missing_less count len k h e =
    let f : (count - len) - 13 + min (count - len) 13 ≡ count - len = sub-add-min_cancel (count - len) 13 in
    let g : min 13 (count - len) ≡ min (count - len) 13 = min_comm 13 (count - len) in
    (omega (arith, h, e, f, g), omega (arith, h, e, f, g))

-- ---- lines of types, one behind another

module _ (letter : ℕ) where
  -- what is listed behind these lines, from what was listed before
  abbrev pub Walks : Option Types → List TextLine → Option Types → Type 0
  Walks types [] after = after ≡ types
  Walks types (line ∷ more) after = (next : Option Types) × types_line letter types line.text (Ok next) × Walks next more after

  abbrev IsOther : TextLine → Type 0
  IsOther line = IsOf letter line.text → ⊥

  -- no type is missing
  full_line : (types : Types) (text : List ℕ) → (length types.codes < types.count → ⊥)
      → Give (λ (next : Option Types). (IsOf letter text → ⊥) × (next ≡ Some types)) (types_line letter (Some types) text)
  full_line types text full =
      let Meets : Option Types → Type 0 = λ next. (IsOf letter text → ⊥) × (next ≡ Some types) in
      on_where Meets _ _ _ (λ less. absurd (full less)) (on_test Meets _ _ _ (λ other. given Meets (Some types) (other, refl)))

  full_walk : (types : Types) (lines : List TextLine) (after : Option Types)
      → (length types.codes < types.count → ⊥) → Walks (Some types) lines after
      → AllByRecursion IsOther lines × (after ≡ Some types)
  full_walk types [] after full e = (tt, e)
  full_walk types (line ∷ more) after full w =
      let step = full_line types line.text full (Ok w.0) w.1 in
      let rest = full_walk types more after full (subst (λ (t : Option Types). Walks t more after) step.1 w.2) in
      ((step.0, rest.0), rest.1)

  -- types were listed, and some may be missing
  record GoOn (types : Types) (lines : List TextLine) (last : Types) : Type 0 where
    more : List TextLine
    rest : List TextLine
    spelled : lines ≡ more ++ rest
    go_on : AllByRecursion (λ (next : TextLine). GoesOn next.text) more
    others : AllByRecursion IsOther rest
    count_is : last.count ≡ types.count
    codes_are : last.codes ≡ types.codes ++ codes_of_lines (types.count - length types.codes) more
    fits : length last.codes ≤ last.count

  -- the types of a line that goes on with those before
  record NextTypes (text : List ℕ) (types : Types) (next : Option Types) : Type 0 where
    goes_on : GoesOn text
    more : Types
    next_is : next ≡ Some more
    has : HasMore text types.count types.codes more

  next_line : (types : Types) (text : List ℕ)
      → Give (λ (next : Option Types). ((length types.codes < types.count) × NextTypes text types next) ⊎ (length types.codes < types.count → ⊥)) (types_line letter (Some types) text)
  next_line types text =
      let Meets : Option Types → Type 0 = λ next. ((length types.codes < types.count) × NextTypes text types next) ⊎ (length types.codes < types.count → ⊥) in
      on_either Meets _ _ _
      (λ less. on_test Meets _ _ _ (λ on. on_then Meets (more_codes text types) _ (λ more l.
      given Meets (Some more) (inl (less, record { goes_on = on; more = more; next_is = refl; has = has_more text types (Ok more) l })))))
      (λ full. on_test Meets _ _ _ (λ other. given Meets (Some types) (inr full)))

  none_left : (types last : Types) (lines : List TextLine) → length types.codes ≤ types.count
      → AllByRecursion IsOther lines → Some last ≡ Some types → GoOn types lines last
  none_left types last lines fits others e =
      let same : last ≡ types = same_Some last types e in
      record { more = []; rest = lines; spelled = refl; go_on = tt; others = others; count_is = ap (λ (t : Types). t.count) same; codes_are = ap (λ (t : Types). t.codes) same ∙ sym (append-nil types.codes); fits = subst (λ (t : Types). length t.codes ≤ t.count) (sym same) fits }

  line_on : (types more last : Types) (line : TextLine) (lines : List TextLine)
      → length types.codes ≤ types.count → GoesOn line.text
      → HasMore line.text types.count types.codes more → GoOn more lines last
      → GoOn types (line ∷ lines) last
  line_on types more last line lines fits on has g =
      let missing = types.count - length types.codes in
      let own = codes_on line.text 0 (min 13 missing) in
      let len : length more.codes ≡ length types.codes + min 13 missing = ap length has.codes_are ∙ (length-append types.codes own ∙ ap (λ n. length types.codes + n) (length_on line.text 0 (min 13 missing))) in
      let less : more.count - length more.codes ≡ missing - 13 = rw (has.count_is, len) ((missing_less types.count (length types.codes) (min 13 missing) fits refl).0) in
      let first : last.codes ≡ more.codes ++ codes_of_lines (missing - 13) g.more = g.codes_are ∙ ap (λ n. more.codes ++ codes_of_lines n g.more) less in
      record {
        more = line ∷ g.more;
        rest = g.rest;
        spelled = ap (λ (l : List TextLine). line ∷ l) g.spelled;
        go_on = (on, g.go_on);
        others = g.others;
        count_is = g.count_is ∙ has.count_is;
        codes_are = first ∙ (ap (λ (c : List Code). c ++ codes_of_lines (missing - 13) g.more) has.codes_are ∙ append_assoc types.codes own (codes_of_lines (missing - 13) g.more));
        fits = g.fits;
      }

  more_fits : (text : List ℕ) (count : ℕ) (seen : List Code) (more : Types) → length seen ≤ count
      → HasMore text count seen more → length more.codes ≤ more.count
  more_fits text count seen more h has =
      let k = min 13 (count - length seen) in
      let len : length more.codes ≡ length seen + k = ap length has.codes_are ∙ (length-append seen (codes_on text 0 k) ∙ ap (λ n. length seen + n) (length_on text 0 k)) in
      omega (arith, len, has.count_is, (missing_less count (length seen) k h refl).1)

  part_walk : (types last : Types) (lines : List TextLine) → length types.codes ≤ types.count
      → Walks (Some types) lines (Some last) → GoOn types lines last
  part_walk types last [] fits e = none_left types last [] fits tt e
  part_walk types last (line ∷ more) fits w = elim (next_line types line.text (Ok w.0) w.1) [
    | inl (less, next) ↦
        let rest = part_walk next.more last more (more_fits line.text types.count types.codes next.more fits next.has) (subst (λ (t : Option Types). Walks t more (Some last)) next.next_is w.2) in
        line_on types next.more last line more fits next.goes_on next.has rest
    | inr full ↦
        let rest = full_walk types (line ∷ more) (Some last) full w in
        none_left types last (line ∷ more) fits rest.0 rest.1
  ]

  -- the first line of the system
  record FirstTypes (text : List ℕ) (next : Option Types) : Type 0 where
    of_system : IsOf letter text
    count : ℕ
    count_is : IsCount (columns_of text 4 6) count
    more : Types
    next_is : next ≡ Some more
    has : HasMore text count [] more

  first_line : (text : List ℕ)
      → Give (λ (next : Option Types). FirstTypes text next ⊎ ((IsOf letter text → ⊥) × (next ≡ None))) (types_line letter None text)
  first_line text =
      let Meets : Option Types → Type 0 = λ next. FirstTypes text next ⊎ ((IsOf letter text → ⊥) × (next ≡ None)) in
      let Counted : Types → Type 0 = λ more. (count : ℕ) × IsCount (columns_of text 4 6) count × HasMore text count [] more in
      let listed : Give Counted (first_codes text) = on_read Counted _ _ _ (λ count (is : IsCount (columns_of text 4 6) count). on_test Counted _ _ _ (λ some.
      on_more (HasMore text count []) Counted _ (λ more has. (count, is, has)) (has_more text (record { count = count; codes = [] })))) in
      on_either Meets _ _ _
      (λ gps. on_then Meets (first_codes text) _ (λ more l.
      let from = listed (Ok more) l in
      given Meets (Some more) (inl (record { of_system = gps; count = from.0; count_is = from.1; more = more; next_is = refl; has = from.2 }))))
      (λ other. given Meets None (inr (other, refl)))

  from_first : (line : TextLine) (lines : List TextLine) (count : ℕ) (more last : Types)
      → AreComplete (Some last) → IsOf letter line.text → IsCount (columns_of line.text 4 6) count
      → HasMore line.text count [] more
      → GoOn more lines last → AreJoined letter (line ∷ lines) last.codes
  from_first line lines count more last complete gps is has g =
      let all : length last.codes ≡ count = omega (arith, complete, g.fits, g.count_is, has.count_is) in
      let none : count - 0 ≡ count = omega arith in
      let own : more.codes ≡ codes_on line.text 0 (min 13 count) = has.codes_are ∙ ap (λ n. codes_on line.text 0 (min 13 n)) none in
      let len : length more.codes ≡ min 13 count = ap length own ∙ length_on line.text 0 (min 13 count) in
      let less : more.count - length more.codes ≡ count - 13 = rw (has.count_is, len) (omega (arith, sub-add-min_cancel count 13, min_comm 13 count)) in
      let codes_are : last.codes ≡ codes_of_lines count (line ∷ g.more) = g.codes_are ∙ (ap (λ n. more.codes ++ codes_of_lines n g.more) less ∙ ap (λ (c : List Code). c ++ codes_of_lines (count - 13) g.more) own) in
      record {
        before = [];
        line = line;
        more = g.more;
        after = g.rest;
        spelled = ap (λ (l : List TextLine). line ∷ l) g.spelled;
        others_before = tt;
        of_system = gps;
        go_on = g.go_on;
        others_after = g.others;
        count_is = subst (IsCount (columns_of line.text 4 6)) (sym all) is;
        types_are = codes_are ∙ ap (λ n. codes_of_lines n (line ∷ g.more)) (sym all);
      }

  pub joined : (lines : List TextLine) (last : Types) → AreComplete (Some last)
      → Walks None lines (Some last) → AreJoined letter lines last.codes
  joined [] last complete e = absurd cc
  joined (line ∷ more) last complete w = elim (first_line line.text (Ok w.0) w.1) [
    | inl first ↦
        let rest = part_walk first.more last more (more_fits line.text first.count [] first.more (omega arith) first.has) (subst (λ (t : Option Types). Walks t more (Some last)) first.next_is w.2) in
        from_first line more first.count first.more last complete first.of_system first.count_is first.has rest
    | inr (other, same) ↦
        let rest = joined more last complete (subst (λ (t : Option Types). Walks t more (Some last)) same w.2) in
        record {
          before = line ∷ rest.before;
          line = rest.line;
          more = rest.more;
          after = rest.after;
          spelled = ap (λ (l : List TextLine). line ∷ l) rest.spelled;
          others_before = (other, rest.others_before);
          of_system = rest.of_system;
          go_on = rest.go_on;
          others_after = rest.others_after;
          count_is = rest.count_is;
          types_are = rest.types_are;
        }
  ]

-- ---- no blank code

abbrev pub AreSolid : List Code → Type 0
AreSolid codes = AllByRecursion IsSolid codes

-- with these codes before, none of those behind is blank where none before was
abbrev StaySolid : List Code → List Code → Type 0
StaySolid before after = AreSolid before → AreSolid after

solid_codes : (text : List ℕ) (place left : ℕ) (seen : List Code)
    → Give (StaySolid seen) (codes_from text place left seen)
solid_codes text place zero seen = given (StaySolid seen) seen (λ are. are)
solid_codes text place (suc left) seen =
    on_test (StaySolid seen) _ _ _ (λ solid. on_more (StaySolid (seen ++ code_at text place ∷ [])) (StaySolid seen) _ (λ codes more are. more (all_more IsSolid seen (code_at text place) are solid))
    (solid_codes text (place + 1) left (seen ++ code_at text place ∷ [])))

solid_more : (text : List ℕ) (types : Types)
    → Give (λ (more : Types). StaySolid types.codes more.codes) (more_codes text types)
solid_more text types =
    let k = min 13 (types.count - length types.codes) in
    let Meets : Types → Type 0 = λ more. StaySolid types.codes more.codes in
    on_then Meets (codes_from text 0 k types.codes) _ (λ codes l. given Meets (record { count = types.count; codes = codes }) (solid_codes text 0 k types.codes (Ok codes) l))

solid_first : (text : List ℕ) → Give (λ (types : Types). AreSolid types.codes) (first_codes text)
solid_first text =
    let Meets : Types → Type 0 = λ types. AreSolid types.codes in
    on_read Meets _ _ _ (λ count (is : IsCount (columns_of text 4 6) count). on_test Meets _ _ _ (λ some.
    on_more (λ (more : Types). StaySolid [] more.codes) Meets _ (λ more stay. stay tt) (solid_more text (record { count = count; codes = [] }))))

module _ (letter : ℕ) where
  solid_line : (types : Option Types) (text : List ℕ)
      → Give (λ (next : Option Types). StaySolid (codes_of types) (codes_of next)) (types_line letter types text)
  solid_line None text =
      let Meets : Option Types → Type 0 = λ next. StaySolid [] (codes_of next) in
      on_where Meets _ _ _ (λ gps. on_then Meets (first_codes text) _ (λ types l. given Meets (Some types) (λ are. solid_first text (Ok types) l))) (given Meets None (λ are. are))
  solid_line (Some types) text =
      let Meets : Option Types → Type 0 = λ next. StaySolid types.codes (codes_of next) in
      on_where Meets _ _ _
      (λ less. on_test Meets _ _ _ (λ on. on_then Meets (more_codes text types) _ (λ more l. given Meets (Some more) (solid_more text types (Ok more) l))))
      (on_test Meets _ _ _ (λ other. given Meets (Some types) (λ are. are)))

  pub solid_walk : (types : Option Types) (lines : List TextLine) (after : Option Types)
      → Walks letter types lines after → AreSolid (codes_of types) → AreSolid (codes_of after)
  solid_walk types [] after e are = subst (λ (t : Option Types). AreSolid (codes_of t)) (sym e) are
  solid_walk types (line ∷ more) after w are = solid_walk w.0 more after w.2 (solid_line types line.text (Ok w.0) w.1 are)

  -- ---- the lines of a header

  -- what is listed behind a line of the header
  abbrev pub AreTypesBehind : TextLine → Option Types → Option Types → Type 0
  AreTypesBehind line before after = ((is_types_line line ≡ true) × types_line letter before line.text (Ok after)) ⊎ ((is_types_line line ≡ false) × (after ≡ before))

  pub walks_first : (line : TextLine) (header : List TextLine) (before next after : Option Types)
      → AreTypesBehind line before next → Walks letter next (filter is_types_line header) after
      → Walks letter before (filter is_types_line (line ∷ header)) after
  walks_first line header before next after (inl (is, step)) w =
      subst (λ (b : Bool). Walks letter before (cond b (line ∷ filter is_types_line header) (filter is_types_line header)) after) (sym is) (next, step, w)
  walks_first line header before next after (inr (other, same)) w =
      subst (λ (b : Bool). Walks letter before (cond b (line ∷ filter is_types_line header) (filter is_types_line header)) after) (sym other) (subst (λ (t : Option Types). Walks letter t (filter is_types_line header) after) same w)
