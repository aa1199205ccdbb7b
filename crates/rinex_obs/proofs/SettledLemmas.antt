-- The first fault of an observation file comes of the lines up to it.
use Rattle.std.proofs.Common.{◌≡◌, ℕ, zero, suc, ◌+◌, ◌≤◌, ◌∙◌, Bool, List, [], ◌∷◌, ◌++◌, length, take, refl, ap, sym, subst, inl, inr, arith, Result, Ok, Err, IfErr}
use Rattle.rinex_text.specs.Bodies.{counted}
use Rattle.rinex_text.specs.Lines.{TextLine, lines_of}
use Rattle.rinex_text.specs.Reading.{Refuses}
use Rattle.rinex_text.specs.Whole.{AgreeTo, IsSettled}
use Rattle.rinex_text.specs.declared.fault.Fault.TheVariants.{NoEndOfHeader, LongLine}
use Rattle.rinex_text.specs.declared.fault.ReadError.{ReadError}
use Rattle.rinex_text.specs.declared.fault.ReadError.TheVariants.{Refused, NoMemory}
use Rattle.rinex_text.specs.declared.fault.Refusal.{Refusal}
use Rattle.rinex_text.proofs.OnlyLemmas.{err_same, ok_same, not_both}
use Rattle.rinex_text.proofs.SettledLemmas.{alike_less, Settles, AreSettled, IsReadOf, IsFront, settled_here, settled_at_end, settled_later, first_settled, first_read, version_by_settled, version_by_passed, in_header, in_body}
use Rattle.rinex_obs.specs.declared.sought.Sought.{Sought}
use Rattle.rinex_obs.specs.Header.{Header, are_both, Wanted, have_both, header_lines, Start}
use Rattle.rinex_obs.specs.Epochs.{Observed, Block, satellite_line, satellites_from, event_line, event_from, block_from, epochs_from}
use Rattle.rinex_obs.specs.Files.{unread, obs_file_by}
use Rattle.rinex_obs.specs.declared.head.Head.{Head}
use Rattle.rinex_obs.specs.declared.head.Head.TheVariants.{Epoch, Event}
use Rattle.rinex_obs.specs.declared.obs.SatObs.{SatObs}
use Rattle.rinex_obs.specs.declared.obs.Obs.{Obs}

-- ---- the lines that a first line counts

satellites_settled : (wanted : Wanted) (left : ℕ) (sats : List SatObs) (number : ℕ)
    → AreSettled number (λ lines. satellites_from wanted left sats (record { number = number; lines = lines }))
satellites_settled wanted zero sats number lines r e = absurd (not_both sats r (sym e))
satellites_settled wanted (suc left) sats number lines r h =
    first_settled (satellite_line wanted sats) number (λ more next. satellites_from wanted left more next) (λ more. satellites_settled wanted left more (number + 1)) lines r h

satellites_read : (wanted : Wanted) (left : ℕ) (sats : List SatObs) (number : ℕ)
    → IsReadOf left (λ lines. satellites_from wanted left sats (record { number = number; lines = lines }))
satellites_read wanted zero sats number lines x e others same = e
satellites_read wanted (suc left) sats number lines x h others same =
    first_read (satellite_line wanted sats) number (λ more next. satellites_from wanted left more next) left (λ more. satellites_read wanted left more (number + 1)) lines x h others same

event_settled : (both labelled : Bool) (left number : ℕ)
    → AreSettled number (λ lines. event_from both labelled left (record { number = number; lines = lines }))
event_settled both labelled zero number lines r e = absurd (not_both tt r (sym e))
event_settled both labelled (suc left) number lines r h =
    first_settled (event_line both labelled) number (λ none next. event_from both labelled left next) (λ none. event_settled both labelled left (number + 1)) lines r h

event_read : (both labelled : Bool) (left number : ℕ)
    → IsReadOf left (λ lines. event_from both labelled left (record { number = number; lines = lines }))
event_read both labelled zero number lines x e others same = e
event_read both labelled (suc left) number lines x h others same =
    first_read (event_line both labelled) number (λ none next. event_from both labelled left next) left (λ none. event_read both labelled left (number + 1)) lines x h others same

block_settled : (wanted : Wanted) (count : ℕ) (head : Head) (number : ℕ)
    → AreSettled number (λ lines. block_from wanted count head (record { number = number; lines = lines }))
block_settled wanted count (Epoch tag left) number lines r (inl (sats, is, e)) = absurd (not_both _ r (sym e))
block_settled wanted count (Epoch tag left) number lines r (inr (f, is, e)) =
    let same : r ≡ f = err_same r f e in
    let s = satellites_settled wanted left [] number lines f is in
    record { behind = s.behind; line_is = ap (λ (q : Refusal). q.line) same ∙ s.line_is; moves = λ others alike. inr (f, s.moves others alike, e) }
block_settled wanted count (Event labelled left) number lines r (inl (none, is, e)) = absurd (not_both _ r (sym e))
block_settled wanted count (Event labelled left) number lines r (inr (f, is, e)) =
    let same : r ≡ f = err_same r f e in
    let s = event_settled (have_both wanted) labelled left number lines f is in
    record { behind = s.behind; line_is = ap (λ (q : Refusal). q.line) same ∙ s.line_is; moves = λ others alike. inr (f, s.moves others alike, e) }

-- what is read of a block comes of the lines that belong to it
block_read : (wanted : Wanted) (count : ℕ) (head : Head) (number : ℕ) (lines others : List TextLine) (block : Block)
    → block_from wanted count head (record { number = number; lines = lines }) (Ok block)
    → take block.lines lines ≡ take block.lines others
    → block_from wanted count head (record { number = number; lines = others }) (Ok block)
block_read wanted count (Epoch tag left) number lines others block (inl (sats, is, e)) same =
    let many : block.lines ≡ left = ap (λ (b : Block). b.lines) (ok_same block _ e) in
    inl (sats, satellites_read wanted left [] number lines sats is others (subst (λ (k : ℕ). take k lines ≡ take k others) many same), e)
block_read wanted count (Epoch tag left) number lines others block (inr (f, is, e)) same = absurd (not_both block f e)
block_read wanted count (Event labelled left) number lines others block (inl (none, is, e)) same =
    let many : block.lines ≡ left = ap (λ (b : Block). b.lines) (ok_same block _ e) in
    inl (none, event_read (have_both wanted) labelled left number lines none is others (subst (λ (k : ℕ). take k lines ≡ take k others) many same), e)
block_read wanted count (Event labelled left) number lines others block (inr (f, is, e)) same = absurd (not_both block f e)

-- ---- the body

-- the fault comes of the lines up to its own, and behind those that were read
record SettlesBehind (rising : Bool) (wanted : Wanted) (epochs : List Observed) (number read : ℕ) (lines : List TextLine) (r : Refusal) : Type 0 where
  settled : Settles number (epochs_from rising wanted epochs number read) lines r
  behind : read ≤ settled.behind

epochs_settled : (rising : Bool) (wanted : Wanted) (epochs : List Observed) (number read : ℕ) (lines : List TextLine) (r : Refusal)
    → epochs_from rising wanted epochs number read lines (Err r)
    → SettlesBehind rising wanted epochs number read lines r
unfolding settled_later
epochs_settled rising wanted epochs number zero [] r e = absurd (not_both epochs r (sym e))
epochs_settled rising wanted epochs number (suc read) [] r e = absurd (not_both epochs r (sym e))
epochs_settled rising wanted epochs number (suc read) (line ∷ more) r h =
    let s = epochs_settled rising wanted epochs (number + 1) read more r h in
    let settled : Settles number (epochs_from rising wanted epochs number (suc read)) (line ∷ more) r =
    settled_later number (epochs_from rising wanted epochs number (suc read)) (epochs_from rising wanted epochs (number + 1) read) line more r s.settled (λ rest same. s.settled.moves rest same) in
    let behind : settled.behind ≡ suc s.settled.behind = refl in
    record { settled = settled; behind = omega (arith, s.behind, behind) }
epochs_settled rising wanted epochs number zero (line ∷ more) r (inl (head, is, inl (block, b, h))) =
    let s = epochs_settled rising wanted (epochs ++ block.epochs) (number + 1) block.lines more r h in
    record {
      settled = settled_later number (epochs_from rising wanted epochs number zero) (epochs_from rising wanted (epochs ++ block.epochs) (number + 1) block.lines) line more r s.settled (λ rest same.
          let read = alike_less block.lines (suc s.settled.behind) more rest (omega (arith, s.behind)) same in
          inl (head, is, inl (block, block_read wanted (length epochs) head (number + 1) more rest block b read, s.settled.moves rest same)));
      behind = omega arith;
    }
epochs_settled rising wanted epochs number zero (line ∷ more) r (inl (head, is, inr (f, b, e))) =
    let same : r ≡ f = err_same r f e in
    let s = block_settled wanted (length epochs) head (number + 1) more r (subst (λ (q : Refusal). block_from wanted (length epochs) head (record { number = number + 1; lines = more }) (Err q)) (sym same) b) in
    record {
      settled = settled_later number (epochs_from rising wanted epochs number zero) (λ lines. block_from wanted (length epochs) head (record { number = number + 1; lines = lines })) line more r s
          (λ rest alike. inl (head, is, inr (r, s.moves rest alike, refl)));
      behind = omega arith;
    }
epochs_settled rising wanted epochs number zero (line ∷ more) r (inr (f, is, e)) =
    record { settled = settled_here number (epochs_from rising wanted epochs number zero) line more r f e (λ rest. inr (f, is, e)); behind = omega arith }

-- ---- the header

header_settled : (sought : Sought) (position : Bool) (known : Header) (number : ℕ)
    → AreSettled number (header_lines sought position known number)
header_settled sought position known number [] r e = settled_at_end number (header_lines sought position known number) r NoEndOfHeader e e
header_settled sought position known number (line ∷ more) r (inl (short, inl (is, inl (end, l, e)))) = absurd (not_both _ r (sym e))
header_settled sought position known number (line ∷ more) r (inl (short, inl (is, inr (f, l, e)))) =
    settled_here number (header_lines sought position known number) line more r f e (λ rest. inl (short, inl (is, inr (f, l, e))))
header_settled sought position known number (line ∷ more) r (inl (short, inr (other, inl (next, l, h)))) =
    let s = header_settled sought position next (number + 1) more r h in
    settled_later number (header_lines sought position known number) (header_lines sought position next (number + 1)) line more r s
    (λ rest same. inl (short, inr (other, inl (next, l, s.moves rest same))))
header_settled sought position known number (line ∷ more) r (inl (short, inr (other, inr (f, l, e)))) =
    settled_here number (header_lines sought position known number) line more r f e (λ rest. inl (short, inr (other, inr (f, l, e))))
header_settled sought position known number (line ∷ more) r (inr (long, e)) =
    settled_here number (header_lines sought position known number) line more r LongLine e (λ rest. inr (long, e))

-- the start of a file with these lines behind its header
abbrev with_behind : Start → List TextLine → Start
with_behind start rest = record { wanted = start.wanted; position = start.position; behind = record { number = start.behind.number; lines = rest } }

header_front : (sought : Sought) (position : Bool) (known : Header) (number : ℕ) (lines : List TextLine) (start : Start)
    → header_lines sought position known number lines (Ok start)
    → IsFront number (header_lines sought position known number) lines start.behind (with_behind start)
header_front sought position known number [] start e = absurd (not_both _ _ e)
header_front sought position known number (line ∷ more) start (inl (short, inl (is, inl (end, l, e)))) =
    let same = ok_same start _ e in
    let next : start.behind.number ≡ number + 1 = ap (λ (s : Start). s.behind.number) same in
    record {
      front = line ∷ [];
      spelled = ap (λ (s : Start). line ∷ s.behind.lines) (sym same);
      number_is = next;
      stands = λ rest. inl (short, inl (is, inl (end, l, ap (λ (s : Start). Ok (with_behind s rest)) same)));
    }
header_front sought position known number (line ∷ more) start (inl (short, inl (is, inr (f, l, e)))) = absurd (not_both _ _ e)
header_front sought position known number (line ∷ more) start (inl (short, inr (other, inl (next, l, h)))) =
    let f = header_front sought position next (number + 1) more start h in
    record {
      front = line ∷ f.front;
      spelled = ap (λ (l : List TextLine). line ∷ l) f.spelled;
      number_is = omega (arith, f.number_is);
      stands = λ rest. inl (short, inr (other, inl (next, l, f.stands rest)));
    }
header_front sought position known number (line ∷ more) start (inl (short, inr (other, inr (f, l, e)))) = absurd (not_both _ _ e)
header_front sought position known number (line ∷ more) start (inr (long, e)) = absurd (not_both _ _ e)

-- ---- files

abbrev Moves : Bool → Sought → Bool → List TextLine → List TextLine → Refusal → Type 0
Moves rising sought position lines others r = AgreeTo r.line lines others → obs_file_by rising sought position others (Err r)

settled_file : (rising : Bool) (sought : Sought) (position : Bool) (lines others : List TextLine) (r : Refusal)
    → obs_file_by rising sought position lines (Err r) → Moves rising sought position lines others r
settled_file rising sought position lines others r (inr (f, v, e)) agree =
    let same : r ≡ f = err_same r f e in
    let s = version_by_settled (are_both sought) 79 lines f v in
    let up_to : r.line ≡ suc s.behind = omega (arith, ap (λ (q : Refusal). q.line) same, s.line_is) in
    inr (f, s.moves others (subst (λ (k : ℕ). take k lines ≡ take k others) up_to agree.same), e)
settled_file rising sought position [] others r (inl (version, v, h)) agree = absurd (not_both _ _ v)
settled_file rising sought position (line ∷ more) others r (inl (version, v, inr (f, s, e))) agree =
    let same : r ≡ f = err_same r f e in
    let top = version_by_passed (are_both sought) 79 line more more version v in
    let s = header_settled sought position unread version.number version.lines f s in
    let here = in_header s.behind r.line line more others (omega (arith, ap (λ (q : Refusal). q.line) same, s.line_is, top.1)) agree in
    let alike : take (suc s.behind) version.lines ≡ take (suc s.behind) here.rest = ap (take (suc s.behind)) top.0 ∙ here.alike in
    let moved = s.moves here.rest alike in
    subst (λ (l : List TextLine). obs_file_by rising sought position l (Err r)) (sym here.spelled)
    (inl (
      record { number = 2; lines = here.rest },
      (version_by_passed (are_both sought) 79 line more here.rest version v).2,
      inr (f, subst (λ (n : ℕ). header_lines sought position unread n here.rest (Err f)) top.1 moved, e),
    ))
settled_file rising sought position (line ∷ more) others r (inl (version, v, inl (start, s, inr (f, b, e)))) agree =
    let same : r ≡ f = err_same r f e in
    let top = version_by_passed (are_both sought) 79 line more more version v in
    let front = header_front sought position unread version.number version.lines start s in
    let body = (epochs_settled rising start.wanted [] start.behind.number 0 (counted start.behind.lines) f b).settled in
    let spelled : more ≡ front.front ++ start.behind.lines = sym top.0 ∙ front.spelled in
    let here = in_body body.behind r.line line front.front start.behind.lines others (omega (arith, ap (λ (q : Refusal). q.line) same, body.line_is, front.number_is, top.1))
    (subst (λ (l : List TextLine). AgreeTo r.line (line ∷ l) others) spelled agree) in
    subst (λ (l : List TextLine). obs_file_by rising sought position l (Err r)) (sym here.spelled)
    (inl (
      record { number = 2; lines = front.front ++ here.rest },
      (version_by_passed (are_both sought) 79 line more (front.front ++ here.rest) version v).2,
      inl (
        with_behind start here.rest,
        subst (λ (n : ℕ). header_lines sought position unread n (front.front ++ here.rest) (Ok (with_behind start here.rest))) top.1 (front.stands here.rest),
        inr (f, body.moves (counted here.rest) here.alike, e),
      ),
    ))
settled_file rising sought position (line ∷ more) others r (inl (version, v, inl (start, s, inl (epochs, b, e)))) agree = absurd (not_both _ _ (sym e))

pub settled_read : (rising : Bool) (sought : Sought) (position : Bool) (text : List ℕ) (read : Result Obs ReadError)
    → IfErr read (Refuses (obs_file_by rising sought position (lines_of text)))
    → IfErr read (IsSettled (obs_file_by rising sought position) text)
settled_read rising sought position text (Ok obs) h = tt
settled_read rising sought position text (Err NoMemory) h = tt
settled_read rising sought position text (Err (Refused r)) h = λ other agree. settled_file rising sought position (lines_of text) (lines_of other) r h agree
