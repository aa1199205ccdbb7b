-- A log of rows that are all known goes on to one log of them all.
use Rattle.std.proofs.Common.{◌≡◌, ℕ, List, [], ◌∷◌, ◌++◌, Option, None, Some, Ok, Err, refl, sym, ap, subst, ◌∙◌, append_assoc, append-nil, map, arith}
use Rattle.std.specs.Prelude.{false, option_to_list, is_none}
use Rattle.std.specs.List.{flat_map}
use Rattle.std.proofs.lemmas.List.Concat.{flat_map-append}
use Rattle.sat_model.specs.declared.rules.Rules.{Rules}
use Rattle.grid_model.specs.Boxes.{GridBox}
use Rattle.sat_model.specs.Logs.{Body, Block, LogValue, rows_of}
use Rattle.sat_model.specs.declared.rows.SatEntry.{SatEntry}
use Rattle.sat_model.specs.BoxTests.{BoxTest, test_of, test_in}
use Rattle.sat_model.specs.Fold.{ShownStep, first_boxes}
use Rattle.paving.specs.Idle.{idle}
use Rattle.paving.specs.Runs.{TurnsBegun}
use Rattle.paving.specs.Turns.{ShownEvent, OfStep, events_of, PavedTurns}
use Rattle.paving.proofs.TurnsExist.{turns_go_on}
use Rattle.log_lines.specs.declared.line.LogLine.TheVariants as line
use Rattle.log_lines.specs.Rows.{corners_of}
use Rattle.log_lines.specs.Text.{first_line}
use Rattle.epoch_report.specs.ReportLines.{epoch_text_of}
use Rattle.log_writer.specs.declared.fault.WriteFault.{WriteFault}
use Rattle.log_writer.specs.declared.fault.WriteFault.TheVariants as why
use Rattle.log_writer.specs.Breaks.{Leaves, BrokeOff}
use Rattle.log_writer.specs.Kept.{hull_kept, hull_of_last}
use Rattle.log_writer.specs.KnownRows.{IsBegunOf, IsWholeOf, CanBePaved, GoesOn}
use Rattle.log_writer.specs.Pavings.{BodyExtends, HasRun, Paves, HasBegun, Begins, AllPave}
use Rattle.log_writer.specs.Pieces.{Piece, with_report, alone, event_pieces, run_pieces, done_pieces, opening_pieces, begun_pieces, block_pieces, head_pieces, version_of, log_pieces}
use Rattle.log_writer.specs.RowsFrom.{of_rows}
use Rattle.log_writer.specs.Sources.{Came, IsInHand}
use Rattle.log_writer.specs.Texts.{IsWhole, IsBegun}
use Rattle.log_writer.specs.Wrote.{body_of}
use Rattle.log_writer.proofs.BlockLemmas.{with_body, extends_body, extends_self, begins_self, no_body, CanPave, fits_root, opening_same}
use Rattle.log_writer.proofs.GridSizes.{box3_of}
use Rattle.log_writer.proofs.LogLemmas.{CanAllPave, can_all_pave, came_all, same_few}
use Rattle.log_writer.proofs.ReportLemmas.{run_taken, begun_taken, shown_pieces, taken_pieces}
use Rattle.log_writer.proofs.RunLemmas.{shown-append}
use Rattle.log_writer.proofs.SatLemmas.{sat_pieces}
use Rattle.log_writer.proofs.WritingLemmas.{longer_before}

-- ---- a block in hand goes on to a whole one

run_on : (rules : Rules) (g : Block) (given : Body) (shown : List ShownEvent) → CanPave rules g
    → g.body ≡ Some given → TurnsBegun idle (test_in rules g) rules given.root shown
    → (more : List ShownStep) × PavedTurns idle (test_in rules g) rules given.root (shown ++ map OfStep more)
run_on rules g given shown can is begun =
    let fit = (fits_root g given can.fits is).0 in
    let some = can.rows (ap is_none is) in
    turns_go_on idle refl rules (test_in rules g) (box3_of given.root fit) shown (omega (arith, some)) begun

-- its pieces begin those of the whole one
record GoesOnTo (rules : Rules) (g b : Block) : Type 0 where
  block : Block
  paves : Paves None idle rules g block
  later : List Piece
  pieces : begun_pieces b ++ later ≡ block_pieces block

pieces_then : (rules : Rules) (test : BoxTest) (root : GridBox) (shown more : List ShownEvent)
    → TurnsBegun idle test rules root shown → PavedTurns idle test rules root (shown ++ more)
    → event_pieces (first_boxes root) (events_of shown) ++ shown_pieces more ≡ event_pieces (first_boxes root) (events_of (shown ++ more))
pieces_then rules test root shown more begun run =
    ap (λ (ps : List Piece). ps ++ shown_pieces more) (sym (taken_pieces (first_boxes root) shown (begun_taken idle test rules root shown begun)))
    ∙ sym (shown-append shown more) ∙ taken_pieces (first_boxes root) (shown ++ more) (run_taken idle test rules root (shown ++ more) run)

-- the opening of the block says the same
opening_is : (rules : Rules) (g b : Block) (begins : Begins idle rules g b)
    → opening_pieces b ≡ opening_pieces g
opening_is rules g b begins =
    let few = same_few (HasBegun idle rules) b g.body b.body begins.body in
    λ i. with_report (first_line (few i) (record { index = begins.index i; ps = begins.ps i; n = begins.n i })) (epoch_text_of (few i) (begins.index i) (begins.ps i) (begins.n i)) ∷ sat_pieces (begins.sats i)

hand_on : (rules : Rules) (g b : Block) (o q : Option Body) → CanPave rules g → g.body ≡ o
    → b.body ≡ q → Begins idle rules g b → BodyExtends (HasBegun idle rules) b o q
    → GoesOnTo rules g b
hand_on rules g b None None can is own begins e = record {
  block = g;
  paves = extends_self (HasRun None idle rules) g (λ body some. absurd (no_body g.body body is some));
  later = [];
  pieces = append-nil (begun_pieces b) ∙ (λ i. opening_is rules g b begins i ++ run_pieces (own i))
      ∙ sym (append-nil (opening_pieces g ++ run_pieces None))
      ∙ ap (λ (p : Option Body). (opening_pieces g ++ run_pieces p) ++ done_pieces p) (sym is);
}
hand_on rules g b None (Some body) can is own begins e = absurd e
hand_on rules g b (Some given) None can is own begins e = absurd e
hand_on rules g b (Some given) (Some body) can is own begins (root, r) =
    let same : test_in rules b ≡ test_in rules g = ap (λ (s : List SatEntry). test_of rules (rows_of s)) begins.sats in
    let begun : TurnsBegun idle (test_in rules g) rules given.root r.shown = rw (root, same) at r.begun in
    let (more, run) = run_on rules g given r.shown can is begun in
    let done : Body = body_of given.root (events_of (r.shown ++ map OfStep more)) run.last.splits [] in
    let first : Piece = alone (line.Root (corners_of given.root)) in
    let opened : opening_pieces g ≡ opening_pieces (with_body g (Some done)) = sym (opening_same g (Some done) (sym (ap is_none is))) in
    let begun_events : List Piece = event_pieces (first_boxes given.root) (events_of r.shown) in
    let own_run : run_pieces b.body ≡ first ∷ begun_events
    = ap run_pieces own ∙ (λ i. alone (line.Root (corners_of (root i))) ∷ event_pieces (first_boxes (root i)) (r.events i)) in
    record {
      block = with_body g (Some done);
      paves = extends_body (HasRun None idle rules) g given done is refl (record { shown = r.shown ++ map OfStep more; run = run; last = None; renews = refl; events = sym (append-nil (events_of (r.shown ++ map OfStep more))); done = refl; bounds = refl });
      later = shown_pieces (map OfStep more) ++ done_pieces (Some done);
      pieces = ap (λ (ps : List Piece). ps ++ (shown_pieces (map OfStep more) ++ done_pieces (Some done)))
          (λ i. opening_is rules g b begins i ++ own_run i)
          ∙ sym (append_assoc (opening_pieces g ++ (first ∷ begun_events)) (shown_pieces (map OfStep more)) (done_pieces (Some done)))
          ∙ ap (λ (ps : List Piece). ps ++ done_pieces (Some done))
          (append_assoc (opening_pieces g) (first ∷ begun_events) (shown_pieces (map OfStep more))
          ∙ (λ i. opened i ++ (first ∷ pieces_then rules (test_in rules g) given.root r.shown (map OfStep more) begun run i)));
    }

some_block : (rules : Rules) (g : Block) → CanPave rules g → (b : Block) × Paves None idle rules g b
some_block rules g can =
    let begins : Begins idle rules g g = begins_self idle rules g can.fits in
    let on = hand_on rules g g g.body g.body can refl refl begins begins.body in
    (on.block, on.paves)

-- ---- the blocks behind

some_blocks : (rules : Rules) (given : List Block) → CanAllPave rules given
    → (blocks : List Block) × AllPave idle rules given blocks
some_blocks rules [] can = ([], tt)
some_blocks rules (g ∷ given) can =
    let (b, paves) = some_block rules g can.0 in
    let (blocks, all) = some_blocks rules given can.1 in
    (b ∷ blocks, (paves, all))

-- blocks with pieces that go on from those of the one in hand
record AreOn (rules : Rules) (left : List Block) (blocks : List Block) (hand : Option Block) : Type 0 where
  more : List Block
  pave : AllPave idle rules left (blocks ++ more)
  later : List Piece
  pieces : flat_map begun_pieces (option_to_list hand) ++ later ≡ flat_map block_pieces more

all_on : (rules : Rules) (left : List Block) (hand : Option Block) (hull : Option GridBox)
    → CanAllPave rules left → IsInHand of_rows rules left hull hand → AreOn rules left [] hand
all_on rules left None hull can in_hand =
    let (blocks, all) = some_blocks rules left can in
    record { more = blocks; pave = all; later = flat_map block_pieces blocks; pieces = refl }
all_on rules left (Some b) hull can (g, next, gave, begins) =
    let here : CanAllPave rules (g ∷ next) = subst (λ (l : List Block). CanAllPave rules l) gave can in
    let on = hand_on rules g b g.body b.body here.0 refl refl begins begins.body in
    let (blocks, all) = some_blocks rules next here.1 in
    record {
      more = on.block ∷ blocks;
      pave = subst (λ (l : List Block). AllPave idle rules l (on.block ∷ blocks)) (sym gave) (on.paves, all);
      later = on.later ++ flat_map block_pieces blocks;
      pieces = ap (λ (ps : List Piece). ps ++ (on.later ++ flat_map block_pieces blocks)) (append-nil (begun_pieces b))
          ∙ sym (append_assoc (begun_pieces b) on.later (flat_map block_pieces blocks))
          ∙ ap (λ (ps : List Piece). ps ++ flat_map block_pieces blocks) on.pieces;
    }

-- blocks that came from a list are the first ones of a paving of it
came_on : (rules : Rules) (left blocks behind : List Block) (hand : Option Block) (hull : Option GridBox)
    → CanAllPave rules left → Came of_rows rules left hull blocks behind
    → IsInHand of_rows rules behind (hull_of_last hull blocks) hand
    → AreOn rules left blocks hand
came_on rules left [] behind hand hull can came in_hand =
    all_on rules left hand hull can (subst (λ (l : List Block). IsInHand of_rows rules l hull hand) (sym came) in_hand)
came_on rules left (b ∷ blocks) behind hand hull can (given, later, gave, paves, came) in_hand =
    let rest : CanAllPave rules (given ∷ later) = subst (λ (l : List Block). CanAllPave rules l) gave can in
    let on = came_on rules later blocks behind hand (hull_kept b.body) rest.1 came in_hand in
    record {
      more = on.more;
      pave = subst (λ (l : List Block). AllPave idle rules l (b ∷ (blocks ++ on.more))) (sym gave) (paves, on.pave);
      later = on.later;
      pieces = on.pieces;
    }

-- ---- what went out goes on

pub leaves_on : (limit : ℕ) (text more later : List Piece) (fault : WriteFault) (log report : List ℕ)
    → Leaves limit text more fault log report → Leaves limit text (more ++ later) fault log report
leaves_on limit text more later why.Log log report l = l
leaves_on limit text more later why.Out log report l = l
leaves_on limit text more later why.Full log report l = (l.0, l.1, longer_before limit text more later l.2)
leaves_on limit text more later why.NoMemory log report l = l

pub broke_on : (limit : ℕ) (pieces later : List Piece) (fault : WriteFault) (log report : List ℕ)
    → BrokeOff limit pieces fault log report → BrokeOff limit (pieces ++ later) fault log report
broke_on limit pieces later fault log report b = record {
  text = b.text;
  more = b.more ++ later;
  all = ap (λ (ps : List Piece). ps ++ later) b.all ∙ append_assoc b.text b.more later;
  fits = b.fits;
  leaves = leaves_on limit b.text b.more later fault log report b.leaves;
}

abbrev log_of : Rules → List Block → LogValue
log_of rules blocks = record { version = version_of rules false false; rules = rules; blocks = blocks }

begun_on : (rows : LogValue) (fault : WriteFault) (limit : ℕ) (bytes said : List ℕ)
    → CanAllPave rows.rules rows.blocks
    → IsBegun fault of_rows rows.rules rows.blocks limit bytes said
    → IsBegunOf fault rows limit bytes said
begun_on rows fault limit bytes said can b =
    let on = came_on rows.rules rows.blocks b.blocks b.behind b.hand None can b.came b.in_hand in
    let head : List Piece = head_pieces (version_of rows.rules false false) rows.rules in
    let front : List Piece = flat_map block_pieces b.blocks in
    let held : List Piece = flat_map begun_pieces (option_to_list b.hand) in
    let pieces : ((head ++ front) ++ held) ++ on.later ≡ log_pieces (log_of rows.rules (b.blocks ++ on.more)) =
    append_assoc (head ++ front) held on.later
    ∙ append_assoc head front (held ++ on.later)
    ∙ ap (λ (ps : List Piece). head ++ (front ++ ps)) on.pieces
    ∙ ap (λ (ps : List Piece). head ++ ps) (sym (flat_map-append block_pieces b.blocks on.more)) in
    record {
      log = log_of rows.rules (b.blocks ++ on.more);
      paving = record { version = refl; rules = refl; blocks = on.pave };
      broke = subst (λ (ps : List Piece). BrokeOff limit ps fault bytes said) pieces (broke_on limit ((head ++ front) ++ held) on.later fault bytes said b.broke);
    }

whole_of : (rows : LogValue) (last : List Block) (limit : ℕ) (bytes said : List ℕ)
    → IsWhole of_rows rows.rules rows.blocks last limit bytes said → IsWholeOf rows limit bytes said
whole_of rows last limit bytes said w = record {
  log = w.log;
  paving = record { version = w.version; rules = w.same_rules; blocks = came_all rows.rules rows.blocks w.log.blocks w.behind last None w.came w.no_more };
  text = w.text;
  report = w.report;
  judged = w.judged;
  cover = w.cover;
  fits = w.fits;
}

pub goes_on : (rows : LogValue) → CanBePaved rows → GoesOn rows
goes_on rows can last limit (Ok done) bytes said w = whole_of rows last limit bytes said w
goes_on rows can last limit (Err fault) bytes said b = begun_on rows fault limit bytes said (can_all_pave rows.rules None rows.blocks can.fit can.own) b
