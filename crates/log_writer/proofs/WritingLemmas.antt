-- Pieces put one after another.
use Rattle.std.proofs.Common.{◌≡◌, ℕ, ◌+◌, ◌≤◌, List, [], ◌∷◌, ◌++◌, length, add-one, Result, Ok, Err, refl, sym, ap, subst, ◌∙◌, append_assoc, append-nil, arith, length-append}
use Rattle.std.specs.Prelude.{OnOk}
use Rattle.std.specs.Option.{option_map}
use Rattle.std.proofs.lemmas.List.Concat.{flat_map-append}
use Rattle.outer_io.specs.declared.slots.Slot.TheVariants as slot
use Rattle.outer_io.specs.Causes.{Rose}
use Rattle.outer_io.specs.Taken.{taking}
use Rattle.outer_io.proofs.Appending.{appended-none, appended-twice, taking-none, taking-twice}
use Rattle.log_writer.specs.declared.fault.WriteFault.{WriteFault}
use Rattle.log_writer.specs.declared.fault.WriteFault.TheVariants as why
use Rattle.log_writer.specs.Pieces.{Piece, piece, log_bytes, report_bytes}
use Rattle.log_writer.specs.Breaks.{IsFrontOf, IsLonger}
use Rattle.log_writer.specs.Writing.{Devices, Sent, Sends, Seen, Put, Lost, Stops, Stopped, Went, Ended, Written, Flushes, Flushed}

pub log_bytes-append : (xs ys : List Piece) → log_bytes (xs ++ ys) ≡ log_bytes xs ++ log_bytes ys
log_bytes-append xs ys = flat_map-append (λ (p : Piece). p.line) xs ys

pub report_bytes-append : (xs ys : List Piece)
    → report_bytes (xs ++ ys) ≡ report_bytes xs ++ report_bytes ys
report_bytes-append xs ys = flat_map-append (λ (p : Piece). p.report) xs ys

-- ---- what was sent

pub sent_none : (a : Devices) → Sent a [] [] a
sent_none a = record {
  appended = appended-none slot.Log a.shelf.told;
  taken = taking-none a.out.told;
  openings = refl;
  log_faults = omega arith;
  out_faults = omega arith;
}

pub sent_twice : (a b c : Devices) (log more report also : List ℕ) → Sent a log report b
    → Sent b more also c → Sent a (log ++ more) (report ++ also) c
sent_twice a b c log more report also f g = record {
  appended = appended-twice slot.Log log more a.shelf.told b.shelf.told c.shelf.told f.appended g.appended;
  taken = g.taken ∙ ap (option_map (taking also)) f.taken ∙ taking-twice a.out.told report also;
  openings = g.openings ∙ f.openings;
  log_faults = omega (arith, f.log_faults, g.log_faults);
  out_faults = omega (arith, f.out_faults, g.out_faults);
}

-- ---- pieces behind others

pub went_none : (a : Seen) → Went a [] a
went_none a = λ start earlier put. subst (λ (ps : List Piece). Put start ps a) (sym (append-nil earlier)) put

pub went_twice : (a b c : Seen) (xs ys : List Piece) → Went a xs b → Went b ys c
    → Went a (xs ++ ys) c
went_twice a b c xs ys f g = λ start earlier put.
    subst (λ (ps : List Piece). Put start ps c) (append_assoc earlier xs ys) (g start (earlier ++ xs) (f start earlier put))

pub ended_behind : (a b c : Seen) (xs ys : List Piece) (fault : WriteFault) → Went a xs b
    → Ended b ys fault c → Ended a (xs ++ ys) fault c
ended_behind a b c xs ys fault f h = λ start earlier put.
    subst (λ (ps : List Piece). Stopped start ps fault c) (append_assoc earlier xs ys) (h start (earlier ++ xs) (f start earlier put))

pub written_behind : {T : Type 0} (a b c : Seen) (xs ys : List Piece) (r : Result T WriteFault)
    → Went a xs b → Written b ys r c → Written a (xs ++ ys) r c
written_behind a b c xs ys (Ok x) g h = went_twice a b c xs ys g h
written_behind a b c xs ys (Err fault) g h = ended_behind a b c xs ys fault g h

-- ---- pieces that others would have followed

pub longer_before : (limit : ℕ) (text more ys : List Piece) → IsLonger limit text more
    → IsLonger limit text (more ++ ys)
longer_before limit text [] ys longer = absurd longer
longer_before limit text (next ∷ more) ys longer = longer

stops_before : (start : Seen) (text more ys : List Piece) (fault : WriteFault) (c : Seen)
    → Stops start text more fault c → Stops start text (more ++ ys) fault c
stops_before start text more ys why.Log c s = s
stops_before start text more ys why.Out c s = s
stops_before start text more ys why.Full c s = (s.0, longer_before start.left text more ys s.1)
stops_before start text more ys why.NoMemory c s = s

stopped_before : (start : Seen) (xs ys : List Piece) (fault : WriteFault) (c : Seen)
    → Stopped start xs fault c → Stopped start (xs ++ ys) fault c
stopped_before start xs ys fault c h = record {
  text = h.text;
  more = h.more ++ ys;
  all = ap (λ (l : List Piece). l ++ ys) h.all ∙ append_assoc h.text h.more ys;
  stops = stops_before start h.text h.more ys fault c h.stops;
}

pub ended_before : (a c : Seen) (xs ys : List Piece) (fault : WriteFault) → Ended a xs fault c
    → Ended a (xs ++ ys) fault c
ended_before a c xs ys fault h = λ start earlier put.
    subst (λ (ps : List Piece). Stopped start ps fault c) (append_assoc earlier xs ys) (stopped_before start (earlier ++ xs) ys fault c (h start earlier put))

-- memory ended behind some pieces
pub stopped : (a b : Seen) (xs ys : List Piece) → Went a xs b → Ended a (xs ++ ys) why.NoMemory b
stopped a b xs ys g = λ start earlier put. record {
  text = earlier ++ xs;
  more = ys;
  all = sym (append_assoc earlier xs ys);
  stops = g start earlier put;
}

-- ---- one piece

-- a device failed while the pieces before were on their way
pub piece_lost : (a c : Seen) (p : Piece) (fault : WriteFault)
    → ((start : Seen) (text : List Piece) → Put start text a → Lost start text fault c)
    → Ended a (p ∷ []) fault c
piece_lost a c p why.Log lost = λ start earlier put. record { text = earlier; more = p ∷ []; all = refl; stops = lost start earlier put }
piece_lost a c p why.Out lost = λ start earlier put. record { text = earlier; more = p ∷ []; all = refl; stops = lost start earlier put }
piece_lost a c p why.Full lost = λ start earlier put. absurd (lost start earlier put).fails
piece_lost a c p why.NoMemory lost = λ start earlier put. absurd (lost start earlier put).fails

-- it waits with the others
pub piece_waits : (a c : Seen) (line report : List ℕ) → c.at ≡ a.at → c.shelf ≡ a.shelf
    → c.out ≡ a.out
    → c.log_waits ≡ a.log_waits ++ line → c.report_waits ≡ a.report_waits ++ report
    → length line + c.left ≡ a.left → Went a (piece line report ∷ []) c
piece_waits a c line report at shelf out lines reports left = λ start earlier put.
    let p = piece line report in record {
      gone = put.gone;
      waiting = put.waiting ++ p ∷ [];
      all = ap (λ (l : List Piece). l ++ p ∷ []) put.all ∙ append_assoc put.gone put.waiting (p ∷ []);
      sent = subst (λ (d : Devices). Sent start.at (log_bytes put.gone) (report_bytes put.gone) d) (sym at) put.sent;
      same_shelf = shelf ∙ put.same_shelf;
      same_out = out ∙ put.same_out;
      log_waits = lines ∙ ap (λ (l : List ℕ). l ++ line) put.log_waits ∙ ap (λ (l : List ℕ). log_bytes put.waiting ++ l) (sym (append-nil line)) ∙ sym (log_bytes-append put.waiting (p ∷ []));
      report_waits = reports ∙ ap (λ (l : List ℕ). l ++ report) put.report_waits ∙ ap (λ (l : List ℕ). report_bytes put.waiting ++ l) (sym (append-nil report)) ∙ sym (report_bytes-append put.waiting (p ∷ []));
      left = omega (arith, ap length (log_bytes-append earlier (p ∷ [])), length-append (log_bytes earlier) (line ++ []), length-append line [], put.left, left);
    }

-- ---- what waits is sent

-- all of it
pub flushed_all : {T : Type 0} (a c : Seen) (done : T)
    → Sends a.at a.log_waits a.report_waits (Ok done) c.at → c.shelf ≡ a.shelf → c.out ≡ a.out
    → c.log_waits ≡ [] → c.report_waits ≡ [] → c.left ≡ a.left → (start : Seen) (text : List Piece)
    → Put start text a → Flushes {T = T} start text (Ok done) c
flushed_all a c done sends shelf out lines reports left start text put =
    let log = ap (λ (l : List ℕ). log_bytes put.gone ++ l) put.log_waits ∙ sym (log_bytes-append put.gone put.waiting) ∙ ap log_bytes (sym put.all) in
    let report = ap (λ (l : List ℕ). report_bytes put.gone ++ l) put.report_waits ∙ sym (report_bytes-append put.gone put.waiting) ∙ ap report_bytes (sym put.all) in
    let sent : Sent start.at (log_bytes text) (report_bytes text) c.at =
    subst (λ (l : List ℕ). Sent start.at l (report_bytes text) c.at) log
    (subst (λ (r : List ℕ). Sent start.at (log_bytes put.gone ++ a.log_waits) r c.at) report
    (sent_twice start.at a.at c.at (log_bytes put.gone) a.log_waits (report_bytes put.gone) a.report_waits put.sent sends)) in (
      record {
        gone = text;
        waiting = [];
        all = sym (append-nil text);
        sent = sent;
        same_shelf = shelf ∙ put.same_shelf;
        same_out = out ∙ put.same_out;
        log_waits = lines;
        report_waits = reports;
        left = omega (arith, put.left, left);
      },
      sent,
    )

front_behind : (xs ys front : List ℕ) → IsFrontOf front ys → IsFrontOf (xs ++ front) (xs ++ ys)
front_behind [] ys front is = is
front_behind (x ∷ xs) ys front is = let (kept, same) = front_behind xs ys front is in (kept + 1, rw add-one (ap (λ (l : List ℕ). x ∷ l) same))

pub rose_behind : (m n k : ℕ) → m ≤ n → Rose n k → Rose m k
rose_behind m n k le rose = omega (arith, rose)

-- or a device failed
pub flushed_lost : (T : Type 0) (a c : Seen) (fault : WriteFault)
    → Sends {T = T} a.at a.log_waits a.report_waits (Err fault) c.at → c.shelf ≡ a.shelf
    → c.out ≡ a.out
    → (start : Seen) (text : List Piece) → Put start text a → Lost start text fault c
flushed_lost T a c why.Log (front, is, sent, rose) shelf out start text put = record {
  log = log_bytes put.gone ++ front;
  report = report_bytes put.gone;
  sent = subst (λ (r : List ℕ). Sent start.at (log_bytes put.gone ++ front) r c.at) (append-nil (report_bytes put.gone))
      (sent_twice start.at a.at c.at (log_bytes put.gone) front (report_bytes put.gone) [] put.sent sent);
  same_shelf = shelf ∙ put.same_shelf;
  same_out = out ∙ put.same_out;
  fits = omega (arith, put.left);
  fails = (
    record {
      earlier = put.gone;
      later = put.waiting;
      all = put.all;
      rest = front;
      front = subst (λ (l : List ℕ). IsFrontOf front l) put.log_waits is;
      log_is = refl;
      report_is = refl;
    },
    rose_behind start.at.shelf.write_faults a.at.shelf.write_faults c.at.shelf.write_faults put.sent.log_faults rose,
  );
}
flushed_lost T a c why.Out (front, is, sent, rose) shelf out start text put =
    let log : log_bytes put.gone ++ a.log_waits ≡ log_bytes text = ap (λ (l : List ℕ). log_bytes put.gone ++ l) put.log_waits ∙ sym (log_bytes-append put.gone put.waiting) ∙ ap log_bytes (sym put.all) in
    let report : report_bytes put.gone ++ a.report_waits ≡ report_bytes text = ap (λ (l : List ℕ). report_bytes put.gone ++ l) put.report_waits ∙ sym (report_bytes-append put.gone put.waiting) ∙ ap report_bytes (sym put.all) in
    record {
      log = log_bytes put.gone ++ a.log_waits;
      report = report_bytes put.gone ++ front;
      sent = sent_twice start.at a.at c.at (log_bytes put.gone) a.log_waits (report_bytes put.gone) front put.sent sent;
      same_shelf = shelf ∙ put.same_shelf;
      same_out = out ∙ put.same_out;
      fits = omega (arith, put.left);
      fails = (
        log,
        subst (λ (l : List ℕ). IsFrontOf (report_bytes put.gone ++ front) l) report (front_behind (report_bytes put.gone) a.report_waits front is),
        rose_behind start.at.out.faults a.at.out.faults c.at.out.faults put.sent.out_faults rose,
      );
    }
flushed_lost T a c why.Full sends shelf out start text put = absurd sends
flushed_lost T a c why.NoMemory sends shelf out start text put = absurd sends

-- by how it ended
pub flushed_any : {T : Type 0} (a c : Seen) (r : Result T WriteFault)
    → Sends a.at a.log_waits a.report_waits r c.at → c.shelf ≡ a.shelf → c.out ≡ a.out
    → OnOk r (c.log_waits ≡ []) → OnOk r (c.report_waits ≡ []) → c.left ≡ a.left → Flushed a r c
flushed_any {T} a c (Ok done) sends shelf out lines reports left = flushed_all a c done sends shelf out lines reports left
flushed_any {T} a c (Err fault) sends shelf out lines reports left = flushed_lost T a c fault sends shelf out

lost_stops : (start : Seen) (text more : List Piece) (fault : WriteFault) (c : Seen)
    → Lost start text fault c → Stops start text more fault c
lost_stops start text more why.Log c l = l
lost_stops start text more why.Out c l = l
lost_stops start text more why.Full c l = absurd l.fails
lost_stops start text more why.NoMemory c l = absurd l.fails

sent_after : {T : Type 0} (b w c : Seen) (p : Piece) (r : Result T WriteFault) → Went b (p ∷ []) w
    → ((fault : WriteFault) → Sends {T = T} w.at w.log_waits w.report_waits (Err fault) c.at → (start : Seen) (text : List Piece) → Put start text w → Lost start text fault c)
    → ((done : T) → Sends {T = T} w.at w.log_waits w.report_waits (Ok done) c.at → (start : Seen) (text : List Piece) → Put start text w → Flushes {T = T} start text (Ok done) c)
    → Sends w.at w.log_waits w.report_waits r c.at → Written b (p ∷ []) r c
sent_after b w c p (Ok done) went lost all sends = λ start earlier put. (all done sends start (earlier ++ p ∷ []) (went start earlier put)).0
sent_after b w c p (Err fault) went lost all sends = λ start earlier put. record {
  text = earlier ++ p ∷ [];
  more = [];
  all = sym (append-nil (earlier ++ p ∷ []));
  stops = lost_stops start (earlier ++ p ∷ []) [] fault c (lost fault sends start (earlier ++ p ∷ []) (went start earlier put));
}

-- a piece that is too long to wait is sent by itself
pub piece_sent : {T : Type 0} (b c : Seen) (line report : List ℕ) (left : ℕ) (r : Result T WriteFault)
    → b.log_waits ≡ [] → b.report_waits ≡ [] → length line + left ≡ b.left
    → Sends b.at line report r c.at → c.shelf ≡ b.shelf → c.out ≡ b.out → c.log_waits ≡ []
    → c.report_waits ≡ [] → c.left ≡ left → Written b (piece line report ∷ []) r c
piece_sent {T} b c line report left r lines reports room sends shelf out lines_c reports_c left_c =
    let w : Seen = record { at = b.at; shelf = b.shelf; out = b.out; log_waits = line; report_waits = report; left = left } in
    let went = piece_waits b w line report refl refl refl (ap (λ (l : List ℕ). l ++ line) (sym lines)) (ap (λ (l : List ℕ). l ++ report) (sym reports)) room in
    sent_after b w c (piece line report) r went (λ fault l. flushed_lost T w c fault l shelf out)
    (λ done s. flushed_all w c done s shelf out lines_c reports_c left_c) sends

-- nothing was put, and what waited went out
pub emptied : {T : Type 0} (a b : Seen) (done : T)
    → Sends a.at a.log_waits a.report_waits (Ok done) b.at → b.shelf ≡ a.shelf → b.out ≡ a.out
    → b.log_waits ≡ [] → b.report_waits ≡ [] → b.left ≡ a.left → Went a [] b
emptied a b done sends shelf out lines reports left = λ start earlier put.
    subst (λ (ps : List Piece). Put start ps b) (sym (append-nil earlier)) (flushed_all a b done sends shelf out lines reports left start earlier put).0
