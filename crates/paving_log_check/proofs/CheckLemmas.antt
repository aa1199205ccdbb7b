-- The blocks of a log, checked one by one against the searches.
use Rattle.std.proofs.Common.{◌≡◌, ℕ, ◌+◌, ◌≤◌, arith, List, [], ◌∷◌, length, subst, inl, inr, refl, sym, ap, ◌∙◌, Option, None, Some}
use Rattle.epoch_selection.specs.Searches.{Search}
use Rattle.gnss_model.specs.declared.delays.Delays.{Delays}
use Rattle.grid_model.specs.Boxes.{GridBox}
use Rattle.sat_model.specs.BoxTests.{test_in}
use Rattle.sat_model.specs.Cover.{kept_in, kept_boxes_in, kept_boxes}
use Rattle.sat_model.specs.Logs.{Body, Block, LogValue, first_rows, lines_in, IsNumberedFrom, IsNumbered}
use Rattle.sat_model.specs.Stages.{first_stage}
use Rattle.sat_model.specs.Verdicts.{BodyPasses}
use Rattle.sat_model.specs.declared.rows.Row.{Row}
use Rattle.sat_model.specs.declared.rules.Rules.{Rules}
use Rattle.sat_rows.specs.Meanings.{Meaning, IsSound}
use Rattle.paving_log_check.specs.Admissible.{AreSameRules, IsOf, IsDue, AdmitsFrom, BlockFault, FailsFrom, FailsFirst}
use Rattle.paving_log_check.specs.Answers.{ShowsNoSpans}
use Rattle.paving_log_check.specs.Checked.{EpochAccepted, EpochRefused, IsAccepted, IsRefused}
use Rattle.paving_log_check.specs.Epochs.{BodyPassesAt, EpochFails}
use Rattle.paving_log_check.specs.OwnLines.{OwnLines, AreOwn, AreWhole, IsWholeBefore, AreWholeBefore}
use Rattle.paving_log_check.specs.Renewed.{HoldsGiven}
use Rattle.paving_log_check.specs.declared.verdict.Fault.{Fault}
use Rattle.paving_log_check.proofs.BeforeLemmas.{whole_before}
use Rattle.paving_log_check.proofs.FirstFaultLemmas.{one_in_epoch, not_both, one_fault}
use Rattle.paving_log_check.proofs.FitLemmas.{AreInBoxes, fit_all}
use Rattle.paving_log_check.proofs.GivenLemmas.{events_any}
use Rattle.paving_log_check.proofs.NarrowLemmas.{log_narrow}
use Rattle.paving_log_check.proofs.BlockLemmas.{last_number}

pub body_passes : (delays : Delays) (rules : Rules) (root : GridBox) (renewed : List (List Row)) (block : Block) (body : Option Body)
    → BodyPassesAt delays rules root renewed block body → BodyPasses rules block body
body_passes delays rules root renewed block None h = tt
body_passes delays rules root renewed block (Some body) h = record {
  events = events_any (HoldsGiven delays renewed) (first_rows block body) rules body.done 0 (first_stage (test_in rules block) body.root) body.events h.1.events;
  bounds = h.1.bounds;
}

module _ (m : Meaning) where
  -- behind these blocks, what holds for own lines of the searches left holds for more lines from the start on
  pub record IsUnderway (rules : Rules) (searches : List Search) (log : LogValue) (before : Option ℕ) (next boxes : ℕ)
      (rest : List Search) (left : List Block) : Type 0 where
    pub whole : List OwnLines → List OwnLines
    pub pass : (owns : List OwnLines) → AdmitsFrom m.delays rules before owns rest left
        → AdmitsFrom m.delays rules None (whole owns) searches log.blocks
    pub fail : (owns : List OwnLines) (fault : Fault)
        → FailsFrom m.delays rules next before owns rest left fault
        → FailsFrom m.delays rules 3 None (whole owns) searches log.blocks fault
    pub own : (owns : List OwnLines) → AreOwn m rest left owns
        → AreOwn m searches log.blocks (whole owns)
    pub full : (owns : List OwnLines) → AreWhole owns left → AreWhole (whole owns) log.blocks
    pub given : (owns : List OwnLines) (line : ℕ) → AreWholeBefore line owns left
        → AreWholeBefore line (whole owns) log.blocks
    pub long : (owns : List OwnLines) → length owns ≡ length rest
        → length (whole owns) ≡ length searches
    pub kept : boxes + kept_boxes_in left ≡ kept_boxes log
    pub numbered : IsNumberedFrom next left
    pub few_boxes : boxes ≤ next

  pub underway_first : (rules : Rules) (searches : List Search) (log : LogValue) → IsNumbered log
      → IsUnderway rules searches log None 3 0 searches log.blocks
  underway_first rules searches log numbered = record {
    whole = λ owns. owns;
    pass = λ owns h. h;
    fail = λ owns fault h. h;
    own = λ owns h. h;
    full = λ owns h. h;
    given = λ owns line h. h;
    long = λ owns e. e;
    kept = omega arith;
    numbered = numbered;
    few_boxes = omega arith;
  }

  -- a block of the next search, which passes
  pub underway_more : {rules : Rules} {searches : List Search} {log : LogValue} {before : Option ℕ} {next boxes : ℕ} {rest : List Search} {left : List Block}
      (search : Search) (more : List Search) (block : Block) (behind : List Block) (kept : ℕ)
      → IsUnderway rules searches log before next boxes rest left → rest ≡ search ∷ more
      → left ≡ block ∷ behind
      → IsOf rules before search.epoch block → EpochAccepted m rules search block
      → kept ≡ kept_in block.body → kept ≤ lines_in block
      → IsUnderway rules searches log (Some block.index) (next + lines_in block) (boxes + kept) more behind
  underway_more {next = next} {boxes = boxes} search more block behind kept u is first is_of accepted is_kept few = record {
    whole = λ owns. u.whole (accepted.own ∷ owns);
    pass = λ owns h. u.pass (accepted.own ∷ owns) (rw (is, first) (is_of, accepted.passes, h));
    fail = λ owns fault h. u.fail (accepted.own ∷ owns) fault (rw (is, first) (inr (inr (is_of, accepted.passes, h))));
    own = λ owns h. u.own (accepted.own ∷ owns) (rw (is, first) (accepted.are_own, h));
    full = λ owns h. u.full (accepted.own ∷ owns) (rw first (accepted.whole, h));
    given = λ owns line h. u.given (accepted.own ∷ owns) line (rw first (whole_before line accepted.own block accepted.whole, h));
    long = λ owns e. u.long (accepted.own ∷ owns) (omega (arith, e, ap length is));
    kept = omega (arith, u.kept, ap kept_boxes_in first, is_kept);
    numbered = (rw first at u.numbered).1;
    few_boxes = omega (arith, u.few_boxes, few);
  }

  -- the numbers of a block's lines
  pub block_numbered : {rules : Rules} {searches : List Search} {log : LogValue} {before : Option ℕ} {next boxes : ℕ} {rest : List Search} {left : List Block}
      (block : Block) (behind : List Block)
      → IsUnderway rules searches log before next boxes rest left → left ≡ block ∷ behind
      → (block.line ≡ next) × (next + lines_in block ≤ 4000000001) × (boxes ≤ next)
  block_numbered {next = next} block behind u first =
      let h = rw first at u.numbered in
      (h.0, last_number (next + lines_in block) behind h.1, u.few_boxes)

  -- ---- refusals

  pub rules_refused : (rules : Rules) (searches : List Search) (log : LogValue) (fault : Fault)
      → (AreSameRules rules log.rules → ⊥)
      → fault.line ≡ 2 → fault.number ≡ 50 → ShowsNoSpans fault
      → IsRefused m searches rules log fault
  rules_refused rules searches log fault differ line number none =
      let first : FailsFirst m.delays searches [] rules log fault = inl (record { differ = differ; line = line; number = number; no_spans = none }) in
      record {
        owns = [];
        are_own = tt;
        whole = tt;
        first = first;
        refused = not_both m.delays searches [] rules log fault first;
        only = λ other f. one_fault m.delays searches [] rules log other fault f first;
        narrow = λ is. absurd (omega (arith, number));
      }

  refused_by : (rules : Rules) (searches : List Search) (log : LogValue) (fault : Fault) (owns : List OwnLines)
      → AreSameRules rules log.rules
      → AreOwn m searches log.blocks owns → AreWholeBefore fault.line owns log.blocks
      → FailsFrom m.delays rules 3 None owns searches log.blocks fault
      → IsRefused m searches rules log fault
  refused_by rules searches log fault owns same own whole fails =
      let first : FailsFirst m.delays searches owns rules log fault = inr (same, fails) in
      record {
        owns = owns;
        are_own = own;
        whole = whole;
        first = first;
        refused = not_both m.delays searches owns rules log fault first;
        only = λ other f. one_fault m.delays searches owns rules log other fault f first;
        narrow = log_narrow m rules 3 None owns searches log.blocks fault own fails;
      }

  pub due_refused : {rules : Rules} {searches : List Search} {log : LogValue} {before : Option ℕ} {next boxes : ℕ} {rest : List Search} {left : List Block}
      (fault : Fault) → IsUnderway rules searches log before next boxes rest left → AreSameRules rules log.rules → (IsDue rules before rest left → ⊥)
      → fault.line ≡ next → fault.number ≡ 51 → ShowsNoSpans fault
      → IsRefused m searches rules log fault
  due_refused {rules = rules} {searches = searches} {log = log} {rest = rest} fault u same not_due line number none =
      refused_by rules searches log fault (u.whole []) same (u.own [] tt) (u.given [] fault.line tt)
      (u.fail [] fault (record { fails = not_due; line = line; number = number; no_spans = none }))

  -- the fault of a block is told at the line of its own one
  line_of_block : (rules : Rules) (search : Search) (more : List Search) (block : Block) (behind : List Block) (own : OwnLines) (next : ℕ) (found fault : Fault)
      → EpochFails m.delays rules search.root own block found
      → BlockFault m.delays rules next own search more block behind fault
      → found.line ≡ fault.line
  line_of_block rules search more block behind own next found fault fails (inl f) = (one_in_epoch m.delays rules search.root own block found fault fails f.0).line
  line_of_block rules search more block behind own next found fault fails (inr (due, (other, f, line))) =
      (one_in_epoch m.delays rules search.root own block found other fails f).line ∙ line ∙ sym due.line

  pub block_refused : {rules : Rules} {searches : List Search} {log : LogValue} {before : Option ℕ} {next boxes : ℕ} {rest : List Search} {left : List Block}
      (search : Search) (more : List Search) (block : Block) (behind : List Block) (found fault : Fault)
      → IsUnderway rules searches log before next boxes rest left → AreSameRules rules log.rules
      → rest ≡ search ∷ more → left ≡ block ∷ behind
      → IsOf rules before search.epoch block → EpochRefused m rules search block found
      → ((own : OwnLines) → EpochFails m.delays rules search.root own block found → BlockFault m.delays rules (next + lines_in block) own search more block behind fault)
      → IsRefused m searches rules log fault
  block_refused {rules = rules} {searches = searches} {log = log} {next = next} search more block behind found fault u same is first is_of refused fails =
      let here = fails refused.own refused.fails in
      let line = line_of_block rules search more block behind refused.own (next + lines_in block) found fault refused.fails here in
      refused_by rules searches log fault (u.whole (refused.own ∷ [])) same (u.own (refused.own ∷ []) (rw (is, first) (refused.are_own, tt)))
      (u.given (refused.own ∷ []) fault.line (rw first (subst (λ (n : ℕ). IsWholeBefore n refused.own block) line refused.whole, tt)))
      (u.fail (refused.own ∷ []) fault (rw (is, first) (inr (inl (is_of, here)))))

  -- ---- the end

  ended_rest : (rules : Rules) (before : Option ℕ) (rest : List Search) → IsDue rules before rest []
      → rest ≡ []
  ended_rest rules before [] h = refl
  ended_rest rules before (search ∷ rest) h = absurd h

  pub all_accepted : {rules : Rules} {searches : List Search} {before : Option ℕ} {next boxes : ℕ} {rest : List Search} {left : List Block} (log : LogValue)
      → IsSound m → AreInBoxes searches
      → IsUnderway rules searches log before next boxes rest left → AreSameRules rules log.rules
      → left ≡ [] → IsDue rules before rest []
      → IsAccepted m searches rules log boxes
  all_accepted {rules = rules} {searches = searches} {before = before} {boxes = boxes} {rest = rest} {left = left} log sound boxes_in u same ended due =
      let none = ended_rest rules before rest due in
      let admits = u.pass [] (rw ended due) in
      let own = u.own [] tt in
      let whole = u.full [] tt in
      let long = u.long [] (sym (ap length none)) in
      record {
        owns = u.whole [];
        are_own = own;
        admissible = record { each = long; whole = whole; admits = record { same_rules = same; blocks = admits } };
        cover = fit_all m sound rules None (u.whole []) searches log.blocks boxes_in admits own whole long;
        boxes_are = omega (arith, u.kept, ap kept_boxes_in ended);
      }
