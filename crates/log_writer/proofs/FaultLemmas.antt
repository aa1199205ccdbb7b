-- Counts of faults, and what is reliable, over some pieces.
use Rattle.std.proofs.Common.{◌≡◌, ◌+◌, ◌≤◌, List, [], ◌∷◌, length, Some, Result, Ok, Err, refl, sym, ap, arith, append-nil, length-append}
use Rattle.paving.specs.Taken.{Rose}
use Rattle.paving.specs.declared.steps.StepFault.TheVariants as step_fault
use Rattle.log_writer.specs.declared.fault.WriteFault.{WriteFault}
use Rattle.log_writer.specs.declared.fault.WriteFault.TheVariants as why
use Rattle.log_writer.specs.Pieces.{Piece, piece, log_bytes}
use Rattle.log_writer.specs.Steps.{in_paving}
use Rattle.log_writer.specs.Writing.{Seen, Put, Stops, Went, Ended, Trust, Trusts}
use Rattle.log_writer.proofs.WritingLemmas.{sent_none, log_bytes-append}

-- ---- counts

-- what a pen holds was put since it had sent the rest
abbrev start_of : Seen → Seen
start_of a = record { at = a.at; shelf = a.shelf; out = a.out; log_waits = []; report_waits = []; left = length a.log_waits + a.left }

some_put : (a : Seen) → Put (start_of a) (piece a.log_waits a.report_waits ∷ []) a
some_put a = record {
  gone = [];
  waiting = piece a.log_waits a.report_waits ∷ [];
  all = refl;
  sent = sent_none a.at;
  same_shelf = refl;
  same_out = refl;
  log_waits = sym (append-nil a.log_waits);
  report_waits = sym (append-nil a.report_waits);
  left = omega (arith, length-append a.log_waits []);
}

-- what was put takes of the room
pub went_left : (a c : Seen) (ps : List Piece) → Went a ps c
    → length (log_bytes ps) + c.left ≡ a.left
went_left a c ps went =
    let held : List Piece = piece a.log_waits a.report_waits ∷ [] in
    let put = went (start_of a) held (some_put a) in
    omega (arith, put.left, ap length (log_bytes-append held ps), length-append (log_bytes held) (log_bytes ps), length-append a.log_waits [])

pub record Counted (a c : Seen) : Type 0 where
  pub log : a.at.shelf.write_faults ≤ c.at.shelf.write_faults
  pub out : a.at.out.faults ≤ c.at.out.faults

pub went_counted : (a c : Seen) (ps : List Piece) → Went a ps c → Counted a c
went_counted a c ps went =
    let put = went (start_of a) (piece a.log_waits a.report_waits ∷ []) (some_put a) in
    record { log = put.sent.log_faults; out = put.sent.out_faults }

stops_counted : (start c : Seen) (text more : List Piece) (fault : WriteFault)
    → Stops start text more fault c → Counted start c
stops_counted start c text more why.Log s = record { log = s.sent.log_faults; out = s.sent.out_faults }
stops_counted start c text more why.Out s = record { log = s.sent.log_faults; out = s.sent.out_faults }
stops_counted start c text more why.Full s = record { log = s.0.sent.log_faults; out = s.0.sent.out_faults }
stops_counted start c text more why.NoMemory s = record { log = s.sent.log_faults; out = s.sent.out_faults }

pub ended_counted : (a c : Seen) (ps : List Piece) (fault : WriteFault) → Ended a ps fault c
    → Counted a c
ended_counted a c ps fault ended =
    let s = ended (start_of a) (piece a.log_waits a.report_waits ∷ []) (some_put a) in
    let k = stops_counted (start_of a) c s.text s.more fault s.stops in
    record { log = k.log; out = k.out }

stops_rose : (start c : Seen) (text more : List Piece) (fault : WriteFault)
    → in_paving fault ≡ Some step_fault.Failed → Stops start text more fault c
    → Rose (start.at.shelf.write_faults + start.at.out.faults) (c.at.shelf.write_faults + c.at.out.faults)
stops_rose start c text more why.Log is s = omega (arith, s.fails.1, s.sent.out_faults)
stops_rose start c text more why.Out is s = omega (arith, s.fails.2, s.sent.log_faults)
stops_rose start c text more why.Full is s = absurd cc
stops_rose start c text more why.NoMemory is s = absurd cc

pub ended_rose : (a c : Seen) (ps : List Piece) (fault : WriteFault)
    → in_paving fault ≡ Some step_fault.Failed → Ended a ps fault c
    → Rose (a.at.shelf.write_faults + a.at.out.faults) (c.at.shelf.write_faults + c.at.out.faults)
ended_rose a c ps fault is ended =
    let s = ended (start_of a) (piece a.log_waits a.report_waits ∷ []) (some_put a) in
    stops_rose (start_of a) c s.text s.more fault is s.stops

-- ---- what is reliable

pub trusts_none : {T : Type 0} (a : Trust) (x : T) → Trusts a (Ok x) a
trusts_none a x = record { log = λ name h. (h, λ some e. cc); out = λ h. (h, λ e. cc) }

pub trusts_more : {S T : Type 0} (a b c : Trust) (x : S) (r : Result T WriteFault)
    → Trusts a (Ok x) b → Trusts b r c → Trusts a r c
trusts_more a b c x r f g = record {
  log = λ name h. ((f.log name (g.log name h).0).0, (g.log name h).1);
  out = λ h. ((f.out (g.out h).0).0, (g.out h).1);
}

-- the result may be of another type
pub trusts_other : {S T : Type 0} (a b : Trust) (fault : WriteFault)
    → Trusts {T = S} a (Err fault) b → Trusts {T = T} a (Err fault) b
trusts_other a b fault f = record {
  log = λ name h. ((f.log name h).0, λ some e. (f.log name h).1 some cc);
  out = λ h. ((f.out h).0, λ e. (f.out h).1 cc);
}

-- and so may it where nothing failed
pub trusts_done : {S T : Type 0} (a b : Trust) (x : S) (y : T) → Trusts a (Ok x) b
    → Trusts a (Ok y) b
trusts_done a b x y f = record { log = λ name h. ((f.log name h).0, λ some e. cc); out = λ h. ((f.out h).0, λ e. cc) }

abbrev pub the_err : {E : Type 0} → E → Result (Unit {0}) E
the_err x = Err x

pub err_is : {E : Type 0} (x y : E) → the_err x ≡ the_err y → x ≡ y
err_is x y e = cc
