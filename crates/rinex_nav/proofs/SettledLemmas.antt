-- The first fault of a navigation file comes of the lines up to it.
use Rattle.std.proofs.Common.{is_some, ◌≡◌, ℕ, Bool, Option, zero, suc, ◌+◌, ◌≤◌, ◌∙◌, List, [], ◌∷◌, ◌++◌, take, refl, ap, sym, subst, inl, inr, arith, Result, Ok, Err, IfErr}
use Rattle.rinex_text.specs.Bodies.{counted}
use Rattle.rinex_text.specs.Faults.{where_holds, gives}
use Rattle.rinex_text.specs.Headers.{Behind, header_from}
use Rattle.rinex_text.specs.Lines.{TextLine, lines_of}
use Rattle.rinex_text.specs.Reading.{Refuses}
use Rattle.rinex_text.specs.Whole.{AgreeTo, IsSettled}
use Rattle.rinex_text.specs.declared.fault.Fault.TheVariants.{LongLine}
use Rattle.rinex_text.specs.declared.fault.ReadError.{ReadError}
use Rattle.rinex_text.specs.declared.fault.ReadError.TheVariants.{Refused, NoMemory}
use Rattle.rinex_text.specs.declared.fault.Refusal.{Refusal}
use Rattle.rinex_text.proofs.OnlyLemmas.{err_same, not_both}
use Rattle.rinex_text.proofs.SettledLemmas.{begin_with, alike_less, Settles, AreSettled, IsReadOf, settled_here, settled_later, first_settled, first_read, version_by_settled, version_by_passed, header_settled, header_front, in_header, in_body}
use Rattle.gnss_model.specs.declared.systems.Message.{Message}
use Rattle.rinex_nav.specs.Fields.{SourceFields, HealthFields, LastFields, AllFields}
use Rattle.rinex_nav.specs.Sources.{is_inav}
use Rattle.rinex_nav.specs.Files.{BeginsRecord, with_first, records_from, nav_file_of}
use Rattle.rinex_nav.specs.Records.{Broadcast, clock_line, further_text, further_line, record_from}
use Rattle.rinex_nav.specs.declared.record.NavRecord.{NavRecord}

-- ---- a record

-- a record, or none, is no fault
no_fault : {X : Type 0} (Kept : Type 0) (v w : X) (r : Refusal)
    → where_holds Kept (gives v) (gives w) (Err r) → ⊥
no_fault Kept v w r (inl (kept, e)) = not_both v r (sym e)
no_fault Kept v w r (inr (other, e)) = not_both w r (sym e)

record_settled : (galileo : Option Message) (count number : ℕ) → AreSettled number (λ lines. record_from galileo count (record { number = number; lines = lines }))
record_settled galileo count number =
    first_settled (clock_line count) number _ (λ clock. first_settled (further_line galileo LastFields) (number + 1) _ (λ a.
    first_settled (further_line galileo AllFields) (number + 1 + 1) _ (λ b. first_settled (further_line galileo AllFields) (number + 1 + 1 + 1) _ (λ c.
    first_settled (further_line galileo AllFields) (number + 1 + 1 + 1 + 1) _ (λ d. first_settled (further_line galileo (SourceFields clock.0.system)) (number + 1 + 1 + 1 + 1 + 1) _ (λ source.
    first_settled (further_line galileo (HealthFields (is_inav galileo clock.0.system))) (number + 1 + 1 + 1 + 1 + 1 + 1) _ (λ health. first_settled (further_text galileo) (number + 1 + 1 + 1 + 1 + 1 + 1 + 1) _ (λ none lines r e.
    absurd (no_fault _ _ _ r e)))))))))

-- what is read of a record comes of its eight lines
record_read : (galileo : Option Message) (count number : ℕ) → IsReadOf 8 (λ lines. record_from galileo count (record { number = number; lines = lines }))
record_read galileo count number =
    first_read (clock_line count) number _ 7 (λ clock. first_read (further_line galileo LastFields) (number + 1) _ 6 (λ a.
    first_read (further_line galileo AllFields) (number + 1 + 1) _ 5 (λ b. first_read (further_line galileo AllFields) (number + 1 + 1 + 1) _ 4 (λ c.
    first_read (further_line galileo AllFields) (number + 1 + 1 + 1 + 1) _ 3 (λ d. first_read (further_line galileo (SourceFields clock.0.system)) (number + 1 + 1 + 1 + 1 + 1) _ 2 (λ source.
    first_read (further_line galileo (HealthFields (is_inav galileo clock.0.system))) (number + 1 + 1 + 1 + 1 + 1 + 1) _ 1 (λ health. first_read (further_text galileo) (number + 1 + 1 + 1 + 1 + 1 + 1 + 1) _ 0 (λ none lines x e others same.
    e))))))))

-- ---- the body

-- a record with a fault in it begins with this line
begun_settled : (galileo : Option Message) (count number : ℕ) (line : TextLine) (more : List TextLine) (r f : Refusal)
    → r ≡ f → BeginsRecord galileo line
    → Settles number (λ lines. record_from galileo count (record { number = number; lines = lines })) (line ∷ more) f
    → Settles number (records_from galileo count number zero) (line ∷ more) r
begun_settled galileo count number line more r f same begins s = record {
  behind = s.behind;
  line_is = ap (λ (q : Refusal). q.line) same ∙ s.line_is;
  moves = λ others alike.
      let begun = begin_with s.behind line more others alike in
      let moved : record_from galileo count (record { number = number; lines = line ∷ begun.rest }) (Err f) = subst (λ (l : List TextLine). record_from galileo count (record { number = number; lines = l }) (Err f)) begun.spelled (s.moves others alike) in
      subst (λ (l : List TextLine). records_from galileo count number zero l (Err r)) (sym begun.spelled) (inl (begins, inr (f, moved, ap (λ (q : Refusal). Err q) same)));
}

-- the fault comes of the lines up to its own, and behind those that were read
record SettlesBehind (galileo : Option Message) (count number read : ℕ) (lines : List TextLine) (r : Refusal) : Type 0 where
  settled : Settles number (records_from galileo count number read) lines r
  behind : read ≤ settled.behind

-- a fault behind a record is that of what comes later
later_fault : (first : Option Broadcast) (more : Result (List Broadcast) Refusal) (r : Refusal)
    → Err r ≡ with_first first more → more ≡ Err r
later_fault first (Ok records) r e = absurd (not_both _ r (sym e))
later_fault first (Err f) r e = ap (λ (q : Refusal). Err q) (sym (err_same r f e))

records_settled : (galileo : Option Message) (count number read : ℕ) (lines : List TextLine) (r : Refusal) → records_from galileo count number read lines (Err r) → SettlesBehind galileo count number read lines r
unfolding settled_later
records_settled galileo count number zero [] r e = absurd (not_both _ r (sym e))
records_settled galileo count number (suc read) [] r e = absurd (not_both _ r (sym e))
records_settled galileo count number (suc read) (line ∷ more) r h =
    let s = records_settled galileo count (number + 1) read more r h in
    let settled : Settles number (records_from galileo count number (suc read)) (line ∷ more) r =
    settled_later number (records_from galileo count number (suc read)) (records_from galileo count (number + 1) read) line more r s.settled (λ rest same. s.settled.moves rest same) in
    let behind : settled.behind ≡ suc s.settled.behind = refl in
    record { settled = settled; behind = omega (arith, s.behind, behind) }
records_settled galileo count number zero (line ∷ more) r (inl (begins, inl (first, is, (later, h, e)))) =
    let s = records_settled galileo (count + 1) (number + 1) 7 more r (subst (records_from galileo (count + 1) (number + 1) 7 more) (later_fault first later r e) h) in
    record {
      settled = settled_later number (records_from galileo count number zero) (records_from galileo (count + 1) (number + 1) 7) line more r s.settled (λ rest same.
          let seven = alike_less 7 (suc s.settled.behind) more rest (omega (arith, s.behind)) same in
          inl (begins, inl (first, record_read galileo count number (line ∷ more) first is (line ∷ rest) (ap (λ (l : List TextLine). line ∷ l) seven), (Err r, s.settled.moves rest same, refl))));
      behind = omega arith;
    }
records_settled galileo count number zero (line ∷ more) r (inl (begins, inr (f, is, e))) =
    let same : r ≡ f = err_same r f e in
    let s = record_settled galileo count number (line ∷ more) f is in
    record {
      settled = begun_settled galileo count number line more r f same begins s;
      behind = omega arith;
    }
records_settled galileo count number zero (line ∷ more) r (inr (other, inl (short, h))) =
    let s = records_settled galileo count (number + 1) 0 more r h in
    record {
      settled = settled_later number (records_from galileo count number zero) (records_from galileo count (number + 1) 0) line more r s.settled (λ rest same. inr (other, inl (short, s.settled.moves rest same)));
      behind = omega arith;
    }
records_settled galileo count number zero (line ∷ more) r (inr (other, inr (long, e))) =
    record { settled = settled_here number (records_from galileo count number zero) line more r LongLine e (λ rest. inr (other, inr (long, e))); behind = omega arith }

-- ---- files

settled_file : (galileo : Option Message) (lines others : List TextLine) (r : Refusal)
    → nav_file_of galileo lines (Err r) → AgreeTo r.line lines others → nav_file_of galileo others (Err r)
settled_file galileo lines others r (inr (f, v, e)) agree =
    let same : r ≡ f = err_same r f e in
    let s = version_by_settled (is_some galileo) 78 lines f v in
    let up_to : r.line ≡ suc s.behind = omega (arith, ap (λ (q : Refusal). q.line) same, s.line_is) in
    inr (f, s.moves others (subst (λ (k : ℕ). take k lines ≡ take k others) up_to agree.same), e)
settled_file galileo [] others r (inl (version, v, h)) agree = absurd (not_both _ _ v)
settled_file galileo (line ∷ more) others r (inl (version, v, inr (f, h, e))) agree =
    let same : r ≡ f = err_same r f e in
    let top = version_by_passed (is_some galileo) 78 line more more version v in
    let s = header_settled version.number version.lines f h in
    let here = in_header s.behind r.line line more others (omega (arith, ap (λ (q : Refusal). q.line) same, s.line_is, top.1)) agree in
    let alike : take (suc s.behind) version.lines ≡ take (suc s.behind) here.rest = ap (take (suc s.behind)) top.0 ∙ here.alike in
    subst (λ (l : List TextLine). nav_file_of galileo l (Err r)) (sym here.spelled)
    (inl (
      record { number = 2; lines = here.rest },
      (version_by_passed (is_some galileo) 78 line more here.rest version v).2,
      inr (f, subst (λ (n : ℕ). header_from n here.rest (Err f)) top.1 (s.moves here.rest alike), e),
    ))
settled_file galileo (line ∷ more) others r (inl (version, v, inl (body, h, b))) agree =
    let top = version_by_passed (is_some galileo) 78 line more more version v in
    let front = header_front version.number version.lines body h in
    let s = (records_settled galileo 0 body.number 0 (counted body.lines) r b).settled in
    let spelled : more ≡ front.front ++ body.lines = sym top.0 ∙ front.spelled in
    let here = in_body s.behind r.line line front.front body.lines others (omega (arith, s.line_is, front.number_is, top.1)) (subst (λ (l : List TextLine). AgreeTo r.line (line ∷ l) others) spelled agree) in
    let behind : Behind = record { number = body.number; lines = here.rest } in
    subst (λ (l : List TextLine). nav_file_of galileo l (Err r)) (sym here.spelled)
    (inl (
      record { number = 2; lines = front.front ++ here.rest },
      (version_by_passed (is_some galileo) 78 line more (front.front ++ here.rest) version v).2,
      inl (behind, subst (λ (n : ℕ). header_from n (front.front ++ here.rest) (Ok behind)) top.1 (front.stands here.rest), s.moves (counted here.rest) here.alike),
    ))

pub settled_read : (galileo : Option Message) (text : List ℕ) (read : Result (List NavRecord) ReadError)
    → IfErr read (Refuses (nav_file_of galileo (lines_of text)))
    → IfErr read (IsSettled (nav_file_of galileo) text)
settled_read galileo text (Ok nav) h = tt
settled_read galileo text (Err NoMemory) h = tt
settled_read galileo text (Err (Refused r)) h = λ other agree. settled_file galileo (lines_of text) (lines_of other) r h agree
