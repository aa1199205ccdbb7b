-- The whole log of a source.
use Rattle.std.proofs.Common.{◌≡◌, ℕ, ◌+◌, ◌<◌, ◌≤◌, Bool, inl, inr, List, [], ◌∷◌, ◌++◌, length, Option, None, Some, Result, Ok, Err, refl, sym, ap, subst, ◌∙◌, append_assoc, append-nil, arith, length-append}
use Rattle.std.specs.Prelude.{true, false, if◌then◌else◌}
use Rattle.std.specs.List.{flat_map}
use Rattle.std.proofs.lemmas.List.Concat.{flat_map-append}
use Rattle.sat_model.specs.declared.rules.Rules.{Rules}
use Rattle.grid_model.specs.declared.boxes.Box3.{Box3}
use Rattle.grid_model.specs.Boxes.{GridBox}
use Rattle.sat_model.specs.Logs.{Block, LogValue}
use Rattle.sat_model.specs.Verdicts.{Judged}
use Rattle.sat_model.proofs.BoundLemmas.{row_cover}
use Rattle.paving.specs.Renewing.{Maker}
use Rattle.log_lines.specs.declared.line.Form.TheVariants as form
use Rattle.log_lines.specs.declared.line.Kind.TheVariants as kind
use Rattle.log_lines.specs.declared.line.LogForm.{LogForm}
use Rattle.log_lines.specs.Order.{has_pairs, may_renew, may_bound, log_form}
use Rattle.paving_log.specs.RowsText.{OwnPasses}
use Rattle.log_lines.specs.Text.{block_lines, log_lines, BlockFits, LogFits}
use Rattle.paving_log.proofs.LogLemmas.{log_text_from}
use Rattle.paving_log.proofs.NumberingLemmas.{length-text_of}
use Rattle.outer_io.specs.Sizes.{longest_file}
use Rattle.log_writer.specs.declared.fault.WriteFault.{WriteFault}
use Rattle.log_writer.specs.declared.fault.WriteFault.TheVariants as why
use Rattle.log_writer.specs.Breaks.{IsLonger, Leaves}
use Rattle.subpaving.specs.LiveValues.{box_option}
use Rattle.log_writer.specs.Kept.{hull_of_last}
use Rattle.log_writer.specs.Pieces.{Piece, log_bytes, report_bytes, begun_pieces, block_pieces, head_pieces, log_pieces, pieces_with}
use Rattle.log_writer.specs.Pavings.{Paves}
use Rattle.log_writer.specs.Sizes.{most_bytes, HasRoom}
use Rattle.log_writer.specs.Sources.{Source, Standing, Follows, is_bounded, version_from, Came, IsInHand}
use Rattle.log_writer.specs.Steps.{of_device}
use Rattle.log_writer.specs.Writing.{Sent, Counts, Seen, Put, Lost, Went, Ended, Flushed}
use Rattle.log_writer.specs.Wrote.{IsSmall, BlockWent, LastBroke, BlockBroke, WroteBlock, Gave, LogWent, LogEnded, Finishes, Finished}
use Rattle.log_writer.proofs.BlockLemmas.{CanPave, SuitsBlock}
use Rattle.log_writer.proofs.LogLemmas.{can_pave, block_passes, block_fits, block_small, numbered, same_pieces, same_lines, came_numbered, fits_numbered, passes_numbered, are_numbered, came_more, last_more, last_numbered, all_more, index_behind, index_more, pass_more}
use Rattle.log_writer.proofs.RoomLemmas.{small_more, version_le, room_of}
use Rattle.log_writer.proofs.TextLemmas.{pieces_text, pieces_report}
use Rattle.log_writer.proofs.WritingLemmas.{log_bytes-append, went_twice, ended_behind, ended_before, stopped}

-- ---- logs of some blocks

abbrev log_of : ℕ → Rules → List Block → LogValue
log_of version rules blocks = record { version = version; rules = rules; blocks = blocks }

pieces_more : (version : ℕ) (rules : Rules) (blocks : List Block) (b : Block)
    → log_pieces (log_of version rules blocks) ++ block_pieces b ≡ log_pieces (log_of version rules (blocks ++ b ∷ []))
pieces_more version rules blocks b =
    append_assoc (head_pieces version rules) (flat_map block_pieces blocks) (block_pieces b)
    ∙ ap (λ (ps : List Piece). head_pieces version rules ++ ps)
    (ap (λ (ps : List Piece). flat_map block_pieces blocks ++ ps) (sym (append-nil (block_pieces b))) ∙ sym (flat_map-append block_pieces blocks (b ∷ [])))

-- the version tells of pairs, whether rows may be renewed, and whether there may be bounds
tells_pairs : (bounded pairs renews : Bool) → (bounded ≡ true → pairs ≡ true)
    → pairs ≡ has_pairs (if bounded then 4 else if pairs then 3 else if renews then 2 else 1)
tells_pairs true pairs renews paired = paired refl
tells_pairs false true renews paired = refl
tells_pairs false false true paired = refl
tells_pairs false false false paired = refl

tells_renewed : (bounded pairs renews : Bool) → renews ≡ true
    → may_renew (if bounded then 4 else if pairs then 3 else if renews then 2 else 1) ≡ true
tells_renewed true pairs renews is = refl
tells_renewed false true renews is = refl
tells_renewed false false true is = refl
tells_renewed false false false is = absurd cc

tells_bounds : (bounded pairs renews : Bool) → bounded ≡ true
    → may_bound (if bounded then 4 else if pairs then 3 else if renews then 2 else 1) ≡ true
tells_bounds true pairs renews is = refl
tells_bounds false pairs renews is = absurd cc

longer_all : (limit : ℕ) (text more : List Piece) → IsLonger limit text more
    → limit < length (log_bytes (text ++ more))
longer_all limit text [] longer = absurd longer
longer_all limit text (next ∷ more) longer =
    omega (arith, longer, ap length (log_bytes-append text (next ∷ more)), length-append (log_bytes text) (log_bytes (next ∷ more)), length-append next.line (log_bytes more))

module _ {B : Type 0} (source : Source B) (rules : Rules) (first : B) where
  -- that of the log of the source
  abbrev pub its_version : ℕ
  its_version = version_from source rules first

  none_gave : Gave source rules its_version first [] first
  none_gave = record { came = refl; fit = tt; pass = tt; small = tt }

  -- the head ended early
  pub head_ended : (most : ℕ) (a c : Seen) (fault : WriteFault)
      → Ended a (head_pieces its_version rules) fault c → LogEnded source rules first most a fault c
  head_ended most a c fault ended = record {
    blocks = [];
    behind = first;
    gave = none_gave;
    hand = None;
    in_hand = tt;
    small = tt;
    at_most = omega arith;
    ended = ended_before a c (head_pieces its_version rules ++ []) [] fault (ended_before a c (head_pieces its_version rules) [] fault ended);
  }

  module _ (standing : B → Standing) where
    -- ---- a log underway

    -- the head and the blocks so far were put, and the source stands behind them
    pub record IsUnderway (a : Seen) (behind : B) (hull : Option GridBox) (now : Seen) : Type 0 where
      pub blocks : List Block
      pub gave : Gave source rules its_version first blocks behind
      pub left : length blocks + (standing behind).most ≤ (standing first).most
      pub same_rules : (standing behind).rules ≡ rules
      pub active : (source.maker behind).active ≡ (source.maker first).active
      pub index : (standing behind).before ≡ index_behind None blocks
      pub kept : hull ≡ hull_of_last None blocks
      pub went : Went a (log_pieces (log_of its_version rules blocks)) now

    pub underway_first : (a now : Seen) → (standing first).rules ≡ rules
        → (standing first).before ≡ None → Went a (head_pieces its_version rules) now
        → IsUnderway a first None now
    underway_first a now same_rules index went = record {
      blocks = [];
      gave = none_gave;
      left = omega arith;
      same_rules = same_rules;
      active = refl;
      index = index;
      kept = refl;
      went = subst (λ (ps : List Piece). Went a ps now) (sym (append-nil (head_pieces its_version rules))) went;
    }

    -- the next block was given, and may be paved
    module _ (a : Seen) (behind next : B) (hull : Option GridBox) (now : Seen) (g : Block) (u : IsUnderway a behind hull now) (f : Follows (standing behind) g (standing next)) where
      passes : OwnPasses rules (index_behind None u.blocks) g
      passes = rw u.index at (rw u.same_rules at f.passes)

      pub can_next : CanPave rules g
      can_next = can_pave rules (index_behind None u.blocks) g f.fits passes

      gives_it : source.gives behind hull (Some g) next
          → source.gives behind (hull_of_last None u.blocks) (Some g) next
      gives_it gave = subst (λ (h : Option GridBox). source.gives behind h (Some g) next) u.kept gave

      gave_more : (b : Block) → source.gives behind hull (Some g) next
          → SuitsBlock (source.maker next) g
          → (source.maker next).active ≡ (source.maker behind).active
          → Paves source.directions (source.maker next) rules g b
          → Gave source rules its_version first (u.blocks ++ b ∷ []) next
      gave_more b gave suits same paves =
          let maker : Maker = source.maker next in
          let renews = λ (on : maker.active ≡ true). tells_renewed (is_bounded source) rules.pairs (source.maker first).active (sym u.active ∙ sym same ∙ on) in
          let bounds = tells_bounds (is_bounded source) rules.pairs (source.maker first).active in
          record {
            came = came_more source rules first behind next None u.blocks g b u.gave.came (gives_it gave) paves;
            fit = all_more (BlockFits (form.Log (log_form its_version))) u.blocks b u.gave.fit (block_fits source.directions maker rules (index_behind None u.blocks) g b f.fits passes suits paves (log_form its_version) renews bounds);
            pass = pass_more rules None u.blocks b u.gave.pass (block_passes source.directions maker rules (index_behind None u.blocks) g b f.fits passes suits paves);
            small = all_more (IsSmall (is_bounded source) rules) u.blocks b u.gave.small (block_small source.directions maker rules (index_behind None u.blocks) g b f.fits passes suits paves);
          }

      pub underway_more : (later : Seen) (kept : Option Box3)
          → source.gives behind hull (Some g) next → SuitsBlock (source.maker next) g
          → (source.maker next).active ≡ (source.maker behind).active
          → BlockWent source.directions (source.maker next) rules g now kept later
          → IsUnderway a next (box_option kept) later
      underway_more later kept gave suits same w = record {
        blocks = u.blocks ++ w.block ∷ [];
        gave = gave_more w.block gave suits same w.paves;
        left = omega (arith, u.left, f.most, length-append u.blocks (w.block ∷ []));
        same_rules = f.rules ∙ u.same_rules;
        active = same ∙ u.active;
        index = f.before ∙ ap Some (sym w.paves.index) ∙ sym (index_more None u.blocks w.block);
        kept = w.kept ∙ sym (last_more None u.blocks w.block);
        went = subst (λ (ps : List Piece). Went a ps later) (pieces_more its_version rules u.blocks w.block)
            (went_twice a now later (log_pieces (log_of its_version rules u.blocks)) (block_pieces w.block) u.went w.went);
      }

      -- its last line broke
      pub last_broke : (later : Seen) (fault : WriteFault) → source.gives behind hull (Some g) next
          → SuitsBlock (source.maker next) g
          → (source.maker next).active ≡ (source.maker behind).active
          → LastBroke source.directions (source.maker next) rules g now fault later
          → LogEnded source rules first (standing first).most a fault later
      last_broke later fault gave suits same w = record {
        blocks = u.blocks ++ w.block ∷ [];
        behind = next;
        gave = gave_more w.block gave suits same w.paves;
        hand = None;
        in_hand = tt;
        small = tt;
        at_most = omega (arith, u.left, f.most, length-append u.blocks (w.block ∷ []), length-append (u.blocks ++ w.block ∷ []) []);
        ended = subst (λ (ps : List Piece). Ended a ps fault later) (pieces_more its_version rules u.blocks w.block ∙ sym (append-nil (log_pieces (log_of its_version rules (u.blocks ++ w.block ∷ [])))))
            (ended_behind a now later (log_pieces (log_of its_version rules u.blocks)) (block_pieces w.block) fault u.went w.ended);
      }

      -- its run broke off
      pub block_broke : (later : Seen) (fault : WriteFault) → source.gives behind hull (Some g) next
          → BlockBroke (source.maker next) rules g now fault later
          → LogEnded source rules first (standing first).most a fault later
      block_broke later fault gave w = record {
        blocks = u.blocks;
        behind = behind;
        gave = u.gave;
        hand = Some w.block;
        in_hand = (g, next, gives_it gave, w.begins);
        small = (small_more (is_bounded source) rules w.block w.small, tt);
        at_most = omega (arith, u.left, f.most, length-append u.blocks (w.block ∷ []));
        ended = subst (λ (ps : List Piece). Ended a ps fault later) (ap (λ (ps : List Piece). log_pieces (log_of its_version rules u.blocks) ++ ps) (sym (append-nil (begun_pieces w.block))))
            (ended_behind a now later (log_pieces (log_of its_version rules u.blocks)) (begun_pieces w.block) fault u.went w.ended);
      }

      pub block_ended : (later : Seen) (fault : WriteFault) → source.gives behind hull (Some g) next
          → SuitsBlock (source.maker next) g
          → (source.maker next).active ≡ (source.maker behind).active
          → WroteBlock source.directions (source.maker next) rules g now (Err fault) later
          → LogEnded source rules first (standing first).most a fault later
      block_ended later fault gave suits same (inl w) = last_broke later fault gave suits same w
      block_ended later fault gave suits same (inr w) = block_broke later fault gave w

    -- there was no memory for the next block
    pub next_ended : (a : Seen) (behind : B) (hull : Option GridBox) (now : Seen)
        → IsUnderway a behind hull now
        → LogEnded source rules first (standing first).most a why.NoMemory now
    next_ended a behind hull now u = record {
      blocks = u.blocks;
      behind = behind;
      gave = u.gave;
      hand = None;
      in_hand = tt;
      small = tt;
      at_most = omega (arith, u.left, length-append u.blocks []);
      ended = stopped a now (log_pieces (log_of its_version rules u.blocks)) [] u.went;
    }

module _ {B : Type 0} (source : Source B) (rules : Rules) (first last : B) (most : ℕ) where
  -- ---- what went out at the end

  -- the blocks of a log that ended early, with the one in hand
  record HasBlocks : Type 0 where
    blocks : List Block
    behind : B
    came : Came source rules first None blocks behind
    hand : Option Block
    in_hand : IsInHand source rules behind (hull_of_last None blocks) hand

  abbrev pieces_in : HasBlocks → List Piece
  pieces_in h = pieces_with (log_of (version_from source rules first) rules h.blocks) h.hand

  abbrev of_ended : {a c : Seen} {fault : WriteFault} → LogEnded source rules first most a fault c → HasBlocks
  of_ended w = record { blocks = w.blocks; behind = w.behind; came = w.gave.came; hand = w.hand; in_hand = w.in_hand }

  -- a device failed while a text was on its way
  lost_finishes : {T : Type 0} (h : HasBlocks) (a c : Seen) (fault : WriteFault) (text more : List Piece)
      → pieces_in h ≡ text ++ more → Lost a text fault c
      → Finishes {T = T} source rules first last most a (Err fault) c
  lost_finishes h a c why.Log text more all l = record {
    bytes = l.log;
    said = l.report;
    sent = l.sent;
    same_shelf = l.same_shelf;
    same_out = l.same_out;
    is_text = record { blocks = h.blocks; behind = h.behind; came = h.came; hand = h.hand; in_hand = h.in_hand; broke = record { text = text; more = more; all = all; fits = l.fits; leaves = l.fails.0 } };
    counts = l.fails.1;
    room = tt;
  }
  lost_finishes h a c why.Out text more all l = record {
    bytes = l.log;
    said = l.report;
    sent = l.sent;
    same_shelf = l.same_shelf;
    same_out = l.same_out;
    is_text = record { blocks = h.blocks; behind = h.behind; came = h.came; hand = h.hand; in_hand = h.in_hand; broke = record { text = text; more = more; all = all; fits = l.fits; leaves = (l.fails.0, l.fails.1) } };
    counts = l.fails.2;
    room = tt;
  }
  lost_finishes h a c why.Full text more all l = absurd l.fails
  lost_finishes h a c why.NoMemory text more all l = absurd l.fails

  -- a text went out, behind which the writing stopped
  stop_finishes : {T : Type 0} (h : HasBlocks) (a c : Seen) (fault : WriteFault) (text more : List Piece)
      → pieces_in h ≡ text ++ more → Put a text c
      → Sent a.at (log_bytes text) (report_bytes text) c.at
      → Leaves a.left text more fault (log_bytes text) (report_bytes text)
      → Counts {T = T} a.at (Err fault) c.at
      → HasRoom {T = T} a.left (most_bytes (is_bounded source) most rules.bisections) (Err fault)
      → Finishes {T = T} source rules first last most a (Err fault) c
  stop_finishes h a c fault text more all put sent leaves counts room = record {
    bytes = log_bytes text;
    said = report_bytes text;
    sent = sent;
    same_shelf = put.same_shelf;
    same_out = put.same_out;
    is_text = record { blocks = h.blocks; behind = h.behind; came = h.came; hand = h.hand; in_hand = h.in_hand; broke = record { text = text; more = more; all = all; fits = omega (arith, put.left); leaves = leaves } };
    counts = counts;
    room = room;
  }

  -- ---- a log that is full

  full_room : (a c : Seen) → Put a [] a → LogEnded source rules first most a why.Full c
      → a.left < most_bytes (is_bounded source) most rules.bisections
  full_room a c start w =
      let s = w.ended a [] start in
      room_of rules (source.maker first).active (is_bounded source) w.blocks w.hand a.left most w.gave.small w.small w.at_most
      (omega (arith, longer_all a.left s.text s.more s.stops.1, ap (λ (ps : List Piece). length (log_bytes ps)) s.all))

  -- ---- by the fault

  -- a device was at fault already
  finish_log : {T : Type 0} (a c : Seen) → LogEnded source rules first most a why.Log c
      → Finished {T = T} source rules first last most a (Err why.Log) c
  finish_log a c w = λ start. let s = w.ended a [] start in lost_finishes (of_ended w) a c why.Log s.text s.more s.all s.stops

  finish_out : {T : Type 0} (a c : Seen) → LogEnded source rules first most a why.Out c
      → Finished {T = T} source rules first last most a (Err why.Out) c
  finish_out a c w = λ start. let s = w.ended a [] start in lost_finishes (of_ended w) a c why.Out s.text s.more s.all s.stops

  -- the log is full
  finish_full : {S T : Type 0} (a b c : Seen) (done : S)
      → LogEnded source rules first most a why.Full b → Flushed {T = S} b (Ok done) c
      → Finished {T = T} source rules first last most a (Err why.Full) c
  finish_full a b c done w flushed = λ start.
      let s = w.ended a [] start in
      let (put, sent) = flushed a s.text s.stops.0 in
      stop_finishes (of_ended w) a c why.Full s.text s.more s.all put sent (refl, refl, s.stops.1) tt (full_room a b start w)

  -- memory ended
  finish_memory : {S T : Type 0} (a b c : Seen) (done : S)
      → LogEnded source rules first most a why.NoMemory b → Flushed {T = S} b (Ok done) c
      → Finished {T = T} source rules first last most a (Err why.NoMemory) c
  finish_memory a b c done w flushed = λ start.
      let s = w.ended a [] start in
      let (put, sent) = flushed a s.text s.stops in
      stop_finishes (of_ended w) a c why.NoMemory s.text s.more s.all put sent (refl, refl) tt tt

  -- the last bytes of a log that ended early were lost
  pub finish_stop_lost : {U : Type 0} (S : Type 0) (a b c : Seen) (before fault : WriteFault)
      → of_device before ≡ false → LogEnded source rules first most a before b
      → Flushed {T = S} b (Err fault) c
      → Finished {T = U} source rules first last most a (Err fault) c
  finish_stop_lost S a b c why.Log fault is w flushed = absurd cc
  finish_stop_lost S a b c why.Out fault is w flushed = absurd cc
  finish_stop_lost S a b c why.Full fault is w flushed = λ start.
      let s = w.ended a [] start in lost_finishes (of_ended w) a c fault s.text s.more s.all (flushed a s.text s.stops.0)
  finish_stop_lost S a b c why.NoMemory fault is w flushed = λ start.
      let s = w.ended a [] start in lost_finishes (of_ended w) a c fault s.text s.more s.all (flushed a s.text s.stops)

  -- ---- a whole log

  module _ (paired : is_bounded source ≡ true → rules.pairs ≡ true) (a b c : Seen) (w : LogWent source rules first last a b) where
    pieces : List Piece
    pieces = log_pieces (log_of (version_from source rules first) rules w.blocks)

    -- the last bytes were lost
    whole_lost : {U : Type 0} (S : Type 0) (fault : WriteFault) → Flushed {T = S} b (Err fault) c
        → Finished {T = U} source rules first last most a (Err fault) c
    unfolding pieces
    whole_lost S fault flushed = λ start.
        let h : HasBlocks = record { blocks = w.blocks; behind = w.behind; came = w.gave.came; hand = None; in_hand = tt } in
        lost_finishes h a c fault pieces [] refl (flushed a pieces (w.went a [] start))

    -- the log, each block with the number of its line
    log : LogValue
    log = log_of (version_from source rules first) rules (numbered (log_form (version_from source rules first)) 3 w.blocks)

    same : pieces ≡ log_pieces log
    unfolding pieces log
    same = ap (λ (ps : List Piece). head_pieces (version_from source rules first) rules ++ ps) (sym (same_pieces (log_form (version_from source rules first)) 3 w.blocks))

    judged : Judged log
    unfolding log
    judged = passes_numbered (log_form (version_from source rules first)) rules None 3 w.blocks w.gave.pass

    log_fits : LogFits kind.Log log
    unfolding log
    log_fits = record {
      version = version_le (is_bounded source) rules.pairs (source.maker first).active;
      has_version = refl;
      pairs = tells_pairs (is_bounded source) rules.pairs (source.maker first).active paired;
      blocks = fits_numbered (log_form (version_from source rules first)) 3 w.blocks w.gave.fit;
    }

    -- all of it went out
    finish_done : {S T : Type 0} (done : T) (all_out : S) → a.left ≤ longest_file
        → Flushed {T = S} b (Ok all_out) c
        → Finished {T = T} source rules first last most a (Ok done) c
    unfolding pieces log
    finish_done done all_out room flushed = λ start.
        let on : LogForm = log_form (version_from source rules first) in
        let (put, sent) = flushed a pieces (w.went a [] start) in
        let text = pieces_text log in
        let count : 3 + length (flat_map (block_lines (form.Log on)) w.blocks) ≤ 4000000001 =
        omega (arith, put.left, room, ap (λ (ps : List Piece). length (log_bytes ps)) same, ap length text, length-text_of (log_lines kind.Log log), ap length (same_lines on 3 w.blocks)) in
        record {
          bytes = log_bytes pieces;
          said = report_bytes pieces;
          sent = sent;
          same_shelf = put.same_shelf;
          same_out = put.same_out;
          is_text = record {
            log = log;
            version = refl;
            same_rules = refl;
            behind = w.behind;
            came = came_numbered on source rules 3 first w.behind None w.blocks w.gave.came;
            no_more = subst (λ (h : Option GridBox). source.gives w.behind h None last) (sym (last_numbered on 3 None w.blocks)) w.no_more;
            text = log_text_from log (log_bytes pieces) (record { fits = log_fits; numbered = are_numbered on 3 w.blocks count; spelled = ap log_bytes same ∙ text });
            report = ap report_bytes same ∙ pieces_report log;
            judged = judged;
            cover = row_cover log judged;
            fits = omega (arith, put.left);
          };
          counts = tt;
          room = tt;
        }

  -- ---- by how it ended

  pub finish_ok : {T : Type 0} (a b c : Seen) (done : T) (r : Result T WriteFault)
      → (is_bounded source ≡ true → rules.pairs ≡ true) → a.left ≤ longest_file → LogWent source rules first last a b → Flushed b r c
      → Finished source rules first last most a r c
  finish_ok {T} a b c done (Ok all_out) paired room w flushed = finish_done paired a b c w all_out all_out room flushed
  finish_ok {T} a b c done (Err fault) paired room w flushed = whole_lost paired a b c w T fault flushed

  pub finish_device : {T : Type 0} (a c : Seen) (fault : WriteFault) → of_device fault ≡ true
      → LogEnded source rules first most a fault c
      → Finished {T = T} source rules first last most a (Err fault) c
  finish_device a c why.Log is w = finish_log a c w
  finish_device a c why.Out is w = finish_out a c w
  finish_device a c why.Full is w = absurd cc
  finish_device a c why.NoMemory is w = absurd cc

  pub finish_stop : {S T : Type 0} (a b c : Seen) (fault : WriteFault) (done : S)
      → of_device fault ≡ false → LogEnded source rules first most a fault b
      → Flushed {T = S} b (Ok done) c
      → Finished {T = T} source rules first last most a (Err fault) c
  finish_stop a b c why.Log done is w flushed = absurd cc
  finish_stop a b c why.Out done is w flushed = absurd cc
  finish_stop a b c why.Full done is w flushed = finish_full a b c done w flushed
  finish_stop a b c why.NoMemory done is w flushed = finish_memory a b c done w flushed
