-- The log of a track, and the line of a receiver that is lost behind its report.
use Rattle.std.proofs.Common.{◌≡◌, ◌≢◌, ℕ, suc, ◌+◌, ◌≤◌, Bool, true, false, List, [], ◌∷◌, ◌++◌, length, take}
use Rattle.std.proofs.Common.{Option, None, Some, Ok, Err, inl, inr, refl, sym, ap, ap₂, subst, ◌∙◌, arith, append_assoc, append-nil}
use Rattle.std.specs.Option.{option_map}
use Rattle.std.specs.Prelude.{is_some}
use Rattle.bound_directions.specs.declared.directions.Directions.{Directions}
use Rattle.sharpness_laws.proofs.LogLemmas.{came_clear, whole_clear}
use Rattle.sharpness_laws.specs.UsableRows.{AllDistinctIf}
use Rattle.gnss_model.specs.declared.delays.Delays.{Delays}
use Rattle.grid_model.specs.Boxes.{GridBox}
use Rattle.grid_model.specs.Hulls.{joined_box}
use Rattle.epoch_rows.proofs.CameLemmas.{whole_accepted, whole_admits, whole_covers}
use Rattle.epoch_rows.proofs.HullLemmas.{hull_told}
use Rattle.epoch_rows.specs.EpochsLeft as left
use Rattle.epoch_rows.specs.EpochsLeft.{Last, EpochsLeft, GivesNext, lost_of, source_of}
use Rattle.epoch_selection.specs.declared.selection.Selection.{Selection}
use Rattle.input_files.specs.declared.notice.Notice.TheVariants as notice
use Rattle.input_files.specs.declared.status.Status.{Status}
use Rattle.input_files.specs.declared.status.Status.TheVariants as status
use Rattle.log_writer.proofs.KnownRows.{broke_on}
use Rattle.log_writer.proofs.LogLemmas.{same_few}
use Rattle.log_writer.proofs.TextLemmas.{pieces_report, pieces_text}
use Rattle.log_writer.proofs.WritingLemmas.{log_bytes-append, report_bytes-append}
use Rattle.log_writer.specs.Breaks.{BrokeOff}
use Rattle.log_writer.specs.Kept.{hull_kept, hull_of_last}
use Rattle.log_writer.specs.Pavings.{HasRun}
use Rattle.log_writer.specs.Pieces.{Piece, log_bytes, log_pieces, pieces_with, report_bytes, version_of}
use Rattle.log_writer.specs.Sizes.{HasRoom}
use Rattle.log_writer.specs.Sources.{Source, version_from, Came}
use Rattle.log_writer.specs.Texts.{IsText, IsWhole}
use Rattle.log_writer.specs.Writing.{Trust}
use Rattle.log_writer.specs.declared.fault.WriteFault.TheVariants as why
use Rattle.moving_tube.specs.Hulls.{hull_behind, hull_of}
use Rattle.outer_io.specs.Causes.{Rose}
use Rattle.outer_io.specs.Taken.{SinkState, SinkTold, TakenBy, taking}
use Rattle.paving_log.specs.CoverBoxes.{cover_of}
use Rattle.paving_log_check.specs.Admissible.{Admits}
use Rattle.sat_model.specs.Cover.{kept_boxes}
use Rattle.sat_model.specs.Logs.{Block, LogValue, is_few}
use Rattle.sat_model.specs.declared.rules.Rules.{Rules}
use Rattle.sat_rows.specs.Meanings.{Meaning}
use Rattle.tube_searches.proofs.FoundLemmas.{found_by}
use Rattle.tube_searches.specs.Tubes.{tube_searches}
use Rattle.input_files.specs.declared.inputs.Inputs.{Inputs}
use Rattle.cover_run.proofs.SolvingLemmas.{files_delays, files_sound}
use Rattle.cover_run.specs.Solving.{epoch_source, epochs_of, meaning_of}
use Rattle.cover_run.specs.Telling.{Sinks, sinks}
use Rattle.cover_run.specs.Tracking.{IsTrack, IsTrackText, IsTubeOf, TellsLost, lost_behind, lost_in, lost_line, lost_pieces, lost_text, lost_with, moving, tube_of}
use Rattle.cover_run.specs.Worlds.{World, Says, world}
use Rattle.cover_run.specs.Writing.{Answer, SaysEnd, Writes, WritesLog, status_of_writing}

-- ---- where the receiver is lost

abbrev pub told_of : Option ℕ → List ℕ
told_of None = []
told_of (Some index) = lost_line index

some_hull : (hull : GridBox) (parts : List GridBox)
    → (h : GridBox) × (hull_behind (Some hull) parts ≡ Some h)
some_hull hull [] = (hull, refl)
some_hull hull (part ∷ parts) = some_hull (joined_box hull part) parts

lost_is : (few : Bool) (parts : List GridBox) (index : ℕ)
    → told_of (left.lost_with index few (hull_of parts)) ≡ lost_with few parts index
lost_is true parts index = refl
lost_is false [] index = refl
lost_is false (part ∷ parts) index = let (h, is) = some_hull part parts in rw is refl

module _ (m : Meaning) (q : ℕ) (renews : Bool) (directions : Option Directions) (rules : Rules) where
  lost_here : (old : EpochsLeft) (hull : Option GridBox) (given block : Block) (next : EpochsLeft)
      → GivesNext m q old hull given next
      → is_few given ≡ is_few block → block.index ≡ given.index
      → told_of (lost_of next.last (hull_kept block.body)) ≡ lost_in block
  lost_here old hull given block next gave few index =
      let parts = cover_of block.body in
      ap (λ (l : Option Last). told_of (lost_of l (hull_kept block.body))) gave.last
      ∙ ap (λ (h : Option GridBox). told_of (left.lost_with gave.epoch.index (is_few given) h)) (hull_told block.body)
      ∙ lost_is (is_few given) parts gave.epoch.index
      ∙ ap₂ (λ (f : Bool) (n : ℕ). lost_with f parts n) few (sym (index ∙ gave.grown.index))

  came_lost : (old : EpochsLeft) (hull : Option GridBox) (blocks : List Block) (behind : EpochsLeft)
      → Came (source_of m q renews directions) rules old hull blocks behind
      → told_of (lost_of behind.last (hull_of_last hull blocks)) ≡ lost_behind (told_of (lost_of old.last hull)) blocks
  came_lost old hull [] behind came = ap (λ (l : EpochsLeft). told_of (lost_of l.last hull)) (sym came)
  came_lost old hull (block ∷ blocks) behind (given, next, gave, paves, came) =
      came_lost next (hull_kept block.body) blocks behind came
      ∙ ap (λ (line : List ℕ). lost_behind line blocks) (lost_here old hull given block next gave (sym (same_few (HasRun directions ((source_of m q renews directions).maker next) rules) block given.body block.body paves.body)) paves.index)

  pub whole_lost : (first last : EpochsLeft) (limit : ℕ) (bytes said : List ℕ) → first.last ≡ None
      → (w : IsWhole (source_of m q renews directions) rules first last limit bytes said)
      → told_of last.lost ≡ lost_text w.log.blocks
  whole_lost first last limit bytes said none w =
      ap told_of w.no_more.lost
      ∙ came_lost first None w.log.blocks w.behind w.came
      ∙ ap (λ (l : Option Last). lost_behind (told_of (lost_of l None)) w.log.blocks) none

-- ---- the pieces of a track

take_front : (k : ℕ) (xs ys : List ℕ) → take (length xs + k) (xs ++ ys) ≡ xs ++ take k ys
take_front k [] ys = let e : length {A = ℕ} [] + k ≡ k = omega arith in ap (λ (n : ℕ). take n ys) e
take_front k (x ∷ xs) ys =
    let e : length (x ∷ xs) + k ≡ suc (length xs + k) = omega arith in
    ap (λ (n : ℕ). take n (x ∷ (xs ++ ys))) e ∙ ap (λ (l : List ℕ). x ∷ l) (take_front k xs ys)

-- the pieces of a whole log, and the line of a receiver that is lost
abbrev track_pieces : LogValue → List Piece
track_pieces log = pieces_with log None ++ lost_pieces None log.blocks

track_log : (log : LogValue) → log_bytes (track_pieces log) ≡ log_bytes (log_pieces log)
track_log log =
    log_bytes-append (pieces_with log None) (lost_pieces None log.blocks) ∙ append-nil (log_bytes (pieces_with log None))
    ∙ ap log_bytes (append-nil (log_pieces log))

track_report : (log : LogValue)
    → report_bytes (track_pieces log) ≡ report_bytes (log_pieces log) ++ lost_text log.blocks
track_report log =
    report_bytes-append (pieces_with log None) (lost_pieces None log.blocks)
    ∙ ap (λ (l : List ℕ). report_bytes (pieces_with log None) ++ l) (append-nil (lost_text log.blocks))
    ∙ ap (λ (ps : List Piece). report_bytes ps ++ lost_text log.blocks) (append-nil (log_pieces log))

module _ {B : Type 0} (source : Source B) (rules : Rules) (first last : B) (limit : ℕ) (bytes report : List ℕ)
    (w : IsWhole source rules first last limit bytes report) where
  abbrev log : LogValue
  log = record { version = version_from source rules first; rules = rules; blocks = w.log.blocks }

  log_is : w.log ≡ log
  log_is = ap₂ (λ (v : ℕ) (r : Rules). let l : LogValue = record { version = v; rules = r; blocks = w.log.blocks } in l) w.version w.same_rules

  bytes_are : bytes ≡ log_bytes (track_pieces log)
  bytes_are = w.text.spelled ∙ sym (pieces_text w.log) ∙ ap (λ (l : LogValue). log_bytes (log_pieces l)) log_is ∙ sym (track_log log)

  report_is : report_bytes (track_pieces log) ≡ report ++ lost_text w.log.blocks
  report_is =
      track_report log
      ∙ ap (λ (l : List ℕ). l ++ lost_text w.log.blocks)
      (ap (λ (l : LogValue). report_bytes (log_pieces l)) (sym log_is) ∙ pieces_report w.log ∙ sym w.report)

  -- a write failed behind the first bytes of the line
  lost_broke : (k : ℕ)
      → BrokeOff limit (track_pieces log) why.Out bytes (report ++ take k (lost_text w.log.blocks))
  lost_broke k = record {
    text = track_pieces log;
    more = [];
    all = sym (append-nil (track_pieces log));
    fits = subst (λ (b : List ℕ). length b ≤ limit) bytes_are w.fits;
    leaves = (bytes_are, (length report + k, sym (ap (take (length report + k)) report_is ∙ take_front k report (lost_text w.log.blocks))));
  }

-- ---- what became of the world

taking_both : (x y : List ℕ) (o : Option SinkTold)
    → option_map (taking y) (option_map (taking x) o) ≡ option_map (taking (x ++ y)) o
taking_both x y None = refl
taking_both x y (Some t) = ap (λ (bs : List ℕ). Some (record t { bytes = bs })) (append_assoc t.bytes x y)

taking_none : (o : Option SinkTold) → option_map (taking []) o ≡ o
taking_none None = refl
taking_none (Some t) = ap (λ (bs : List ℕ). Some (record t { bytes = bs })) (append-nil t.bytes)

pub taken_both : (a b c : SinkState) (x y : List ℕ) → TakenBy a b x → TakenBy b c y
    → TakenBy a c (x ++ y)
taken_both a b c x y first second = second ∙ ap (option_map (taking y)) first ∙ taking_both x y a.told

module _ (m : Meaning) (q : ℕ) (renews : Bool) (directions : Option Directions) (i : Inputs) (first last : EpochsLeft) (none : first.last ≡ None) (limit most : ℕ) (name : List ℕ) (before mid : World) (was : Trust) where
  abbrev OfTube : Answer → (bytes said : List ℕ) → Type 0
  OfTube = IsText (source_of m q renews directions) i.settings.rules first last limit

  abbrev OfTrack : Answer → (bytes said : List ℕ) → Type 0
  OfTrack = IsTrackText (source_of m q renews directions) i first last limit

  begun_text : (bytes said : List ℕ) (fault : _) → OfTube (Err fault) bytes said
      → OfTrack (Err fault) bytes said
  begun_text bytes said fault b = record {
    blocks = b.blocks;
    behind = b.behind;
    came = b.came;
    hand = b.hand;
    in_hand = b.in_hand;
    broke = broke_on limit (pieces_with (record { version = version_of i.settings.rules renews (is_some directions); rules = i.settings.rules; blocks = b.blocks }) b.hand) (lost_pieces b.hand b.blocks) fault bytes said b.broke;
  }

  module _ (s : Status) (wrote : WritesLog name before mid was [] limit most OfTube s) where
    as_track : (answer : Answer) → s ≡ status_of_writing limit answer
        → OfTrack answer wrote.bytes wrote.said → HasRoom limit most answer
        → SaysEnd name before mid was limit answer
        → WritesLog name before mid was [] limit most OfTrack s
    as_track answer is text room ends = record {
      answer = answer;
      status = is;
      bytes = wrote.bytes;
      said = wrote.said;
      text = text;
      log = wrote.log;
      report = wrote.report;
      room = room;
      openings = wrote.openings;
      ends = ends;
    }

    not_whole : (answer : Answer) → s ≢ status.Done → s ≡ status_of_writing limit answer
        → OfTube answer wrote.bytes wrote.said → HasRoom limit most answer
        → SaysEnd name before mid was limit answer
        → WritesLog name before mid was [] limit most OfTrack s
    not_whole (Ok done) other is text room ends = absurd (other is)
    not_whole (Err fault) other is text room ends = as_track (Err fault) is (begun_text wrote.bytes wrote.said fault text) room ends

  -- the log wasn't written to its end
  pub broken_off : (s : Status) → s ≢ status.Done
      → Writes name before mid was [] limit most OfTube s
      → Writes name before mid was [] limit most OfTrack s
  broken_off s other (inl created) = inl created
  broken_off s other (inr wrote) = inr (not_whole s wrote wrote.answer other wrote.status wrote.text wrote.room wrote.ends)

  -- ---- it was, and then the line of a receiver that is lost was told

  module _ (later : before.out.faults ≤ mid.out.faults) (out err : SinkState) (trust : Trust) (s : Status) where
    abbrev after : World
    after = world mid.shelf out err

    module _ (first_end : Status) (wrote : WritesLog name before mid was [] limit most OfTube first_end) (w : IsWhole (source_of m q renews directions) i.settings.rules first last limit wrote.bytes wrote.said)
        (same : mid.err ≡ before.err) where
      abbrev line : List ℕ
      line = lost_text w.log.blocks

      -- with this behind the report
      told_whole : (more : List ℕ) → more ≡ line → s ≡ status.Done → TakenBy mid.out out more
          → err ≡ mid.err → WritesLog name before after trust [] limit most OfTrack s
      told_whole more is ends takes quiet = record {
        answer = Ok tt;
        status = ends;
        bytes = wrote.bytes;
        said = wrote.said ++ more;
        text = record { report = wrote.said; whole = w; all = ap (λ (l : List ℕ). wrote.said ++ l) is };
        log = wrote.log;
        report = taken_both before.out mid.out out wrote.said more wrote.report takes;
        room = tt;
        openings = wrote.openings;
        ends = quiet ∙ same;
      }

      told_front : (k : ℕ) → s ≡ status.WriteFault → TakenBy mid.out out (take k line)
          → Rose mid.out.faults out.faults → (trust.out → ⊥) → Says mid.err err notice.OutFault
          → WritesLog name before after trust [] limit most OfTrack s
      told_front k ends takes rose unreliable says = record {
        answer = Err why.Out;
        status = ends;
        bytes = wrote.bytes;
        said = wrote.said ++ take k line;
        text = record {
          blocks = w.log.blocks;
          behind = w.behind;
          came = w.came;
          hand = None;
          in_hand = tt;
          broke = lost_broke (source_of m q renews directions) i.settings.rules first last limit wrote.bytes wrote.said w k;
        };
        log = wrote.log;
        report = taken_both before.out mid.out out wrote.said (take k line) wrote.report takes;
        room = tt;
        openings = wrote.openings;
        ends = (subst (λ (e : SinkState). Says e err notice.OutFault) same says, (omega (arith, rose, later), unreliable));
      }

      told_so : (lost : Option ℕ) → told_of lost ≡ line
          → TellsLost lost (sinks mid.out mid.err) (sinks out err) trust.out s
          → WritesLog name before after trust [] limit most OfTrack s
      told_so None is (ends, stays) =
          told_whole [] is ends
          (ap (λ (b : Sinks). b.out.told) stays ∙ sym (taking_none mid.out.told)) (ap (λ (b : Sinks). b.err) stays)
      told_so (Some index) is (inl (ends, prints)) = told_whole (lost_line index) is ends prints.0 prints.1
      told_so (Some index) is (inr (ends, breaks)) =
          told_front breaks.prefix.0 ends (subst (λ (l : List ℕ). TakenBy mid.out out (take breaks.prefix.0 l)) is breaks.prefix.2) breaks.rose breaks.unreliable breaks.said

    by_answer : (t : Status) (wrote : WritesLog name before mid was [] limit most OfTube t) (answer : Answer)
        → t ≡ status.Done → t ≡ status_of_writing limit answer
        → OfTube answer wrote.bytes wrote.said → SaysEnd name before mid was limit answer
        → TellsLost last.lost (sinks mid.out mid.err) (sinks out err) trust.out s
        → WritesLog name before after trust [] limit most OfTrack s
    by_answer t wrote (Ok all) is ends w same told =
        told_so t wrote w same last.lost (whole_lost m q renews directions i.settings.rules first last limit wrote.bytes wrote.said none w) told
    by_answer t wrote (Err why.Log) is ends text end told = cc
    by_answer t wrote (Err why.Out) is ends text end told = cc
    by_answer t wrote (Err why.Full) is ends text end told = cc
    by_answer t wrote (Err why.NoMemory) is ends text end told = cc

    pub told_lost : (t : Status) → t ≡ status.Done
        → Writes name before mid was [] limit most OfTube t
        → TellsLost last.lost (sinks mid.out mid.err) (sinks out err) trust.out s
        → Writes name before after trust [] limit most OfTrack s
    told_lost t is (inl created) told = let e : t ≡ status.WriteFault = created.status in cc
    told_lost t is (inr wrote) told = inr (by_answer t wrote wrote.answer is wrote.status wrote.text wrote.ends told)

-- ---- the log against the files

-- its text is that of a log that all own lines admit, that covers what fits, and that leaves nothing
-- clear; and a receiver is found by it
pub track_of : (chosen : Selection) (i : Inputs) (search : GridBox) (speed : ℕ) (last : EpochsLeft) (limit : ℕ) (answer : Answer) (bytes said : List ℕ)
    → IsTubeOf i search speed
    → AllDistinctIf i.settings.renew (epochs_of chosen i)
    → IsTrackText (epoch_source i) i (moving chosen i search speed) last limit answer bytes said
    → IsTrack chosen i limit answer bytes said
track_of chosen i search speed last limit (Ok done) bytes said is_tube distinct track =
    let m = meaning_of i in
    let sound = files_sound i in
    let renews = i.settings.renew in
    let directions = i.settings.directions in
    let rules = i.settings.rules in
    let here = moving chosen i search speed in
    let w = track.whole in
    record {
      search = search;
      speed = speed;
      is_tube = is_tube;
      last = last;
      track = track;
      admits = λ owns are. subst (λ (delays : Delays).
          Admits delays (tube_searches (tube_of chosen i search speed) w.log.blocks) owns rules w.log)
          (files_delays i) (whole_admits m sound renews directions rules here last refl limit bytes track.report w owns are);
      cover = whole_covers m sound renews directions rules here last refl limit bytes track.report w;
      nothing_clear = whole_clear m sound renews directions rules here refl distinct limit bytes track.report last w;
      found = λ k left path begins goes fits. found_by m (tube_of chosen i search speed) rules w.log (kept_boxes w.log) k left path
          (whole_accepted m sound renews directions rules here last refl limit bytes track.report w) begins goes fits;
    }
track_of chosen i search speed last limit (Err fault) bytes said is_tube distinct begun = record {
  search = search;
  speed = speed;
  is_tube = is_tube;
  last = last;
  begun = begun;
  nothing_clear = came_clear (meaning_of i) (files_sound i) i.settings.renew i.settings.directions i.settings.rules (moving chosen i search speed) None begun.blocks begun.behind begun.hand
      tt distinct begun.came begun.in_hand;
}
