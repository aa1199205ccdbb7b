-- A box gets its turn.
use Rattle.std.proofs.Common.{◌≡◌, ℕ, ◌+◌, ◌*◌, ◌≤◌, Bool, List, [], ◌∷◌, ◌++◌, length, map, arith, refl, sym, ap, subst, ◌∙◌, Option, None, Some}
use Rattle.std.proofs.lemmas.List.{length-append, length-map}
use Rattle.box_pool.specs.declared.item.Item.{Item}
use Rattle.sat_model.specs.declared.rules.Rules.{Rules}
use Rattle.sat_model.specs.declared.steps.Step.{Step}
use Rattle.sat_model.specs.declared.steps.Step.TheVariants.{Cut, Split, Outside, Inside, Edge}
use Rattle.grid_model.specs.Boxes.{GridBox, grid_box}
use Rattle.sat_model.specs.BoxTests.{BoxTest, test_of}
use Rattle.sat_model.specs.Events.{RowsOver, rows_over}
use Rattle.sat_model.specs.Fold.{ShownStep}
use Rattle.sat_model.specs.Waiting.{WaitingBox, Paving, Closes, opened_by, splits_after, beyond, beyond_all}
use Rattle.box_contraction.specs.Adding.{step_value}
use Rattle.paving.specs.InUse.{used_of, used_with}
use Rattle.paving.specs.Paved.{grain_for, AreStepsOf}
use Rattle.paving.specs.Queues.{IsQueued, Takes, CanOpen, box_of, opened_count}
use Rattle.paving.specs.Renewing.{AllInside, Maker, Renews}
use Rattle.paving.specs.Standing.{Stands, Turned, renewed_by, turn_of}
use Rattle.paving.specs.Trees.{AreTreesFor}
use Rattle.paving.specs.Turns.{Turn, used_after, test_after, behind_turn}
use Rattle.paving.specs.declared.turn.Pavement.{Pavement}
use Rattle.paving.proofs.CutLemmas.{ends_by_last, opens_last}
use Rattle.paving.proofs.TurnLemmas.{turn_inside}
use Rattle.paving.proofs.Underway.{IsInHand, in_hand, can_open}

-- ---- the rows in use behind a renewal or none

part_then : (used now : RowsOver) (renewed : Option RowsOver) → now ≡ used_with used renewed
    → now.part ≡ used_after used.part renewed
part_then used now None is = ap (λ (o : RowsOver). o.part) is
part_then used now (Some new) is = ap (λ (o : RowsOver). o.part) is

tested_then : (rules : Rules) (test : BoxTest) (used now : RowsOver) (renewed : Option RowsOver)
    → test ≡ test_of rules used.rows → now ≡ used_with used renewed
    → test_after test renewed ≡ test_of rules now.rows
tested_then rules test used now None tested is = tested ∙ ap (λ (o : RowsOver). test_of rules o.rows) (sym is)
tested_then rules test used now (Some new) tested is =
    ap (λ (t : BoxTest). test_after t (Some new)) tested ∙ ap (λ (o : RowsOver). test_of rules o.rows) (sym is)

-- ---- numbers

-- a step opens two boxes where it splits, and else none
record IsByHalf (rules : Rules) (splits : ℕ) (step : Step) (part : GridBox) : Type 0 where
  pub half : ℕ
  pub one : half ≤ 1
  pub counts : opened_count step ≡ 2 * half
  pub rises : splits_after splits step ≡ splits + half
  pub within : splits + half ≤ rules.bisections
  pub opens : length (opened_by splits step part) ≡ 2 * half

by_half : (test : BoxTest) (rules : Rules) (splits id : ℕ) (step : Step) (part : GridBox)
    → Closes test rules splits id part step → splits ≤ rules.bisections → IsByHalf rules splits step part
by_half test rules splits id (Outside n) part ends le = record { half = 0; one = omega arith; counts = refl; rises = omega arith; within = omega (arith, le); opens = refl }
by_half test rules splits id (Inside n clock lo hi) part ends le = record { half = 0; one = omega arith; counts = refl; rises = omega arith; within = omega (arith, le); opens = refl }
by_half test rules splits id (Edge n lo hi) part ends le = record { half = 0; one = omega arith; counts = refl; rises = omega arith; within = omega (arith, le); opens = refl }
by_half test rules splits id (Split n axis) part (is, undecided, may, longest) le =
    record { half = 1; one = omega arith; counts = refl; rises = omega arith; within = omega (arith, may.1); opens = refl }
by_half test rules splits id (Cut n face bound) part ends le = absurd ends

-- ---- a box in hand, with its steps

module _ (now : Pavement) (paving : Paving) (s : Stands now paving) (mid : List (List Item)) (next : Item) (takes : Takes now.queues.lists (Some next) mid)
    (front own : List ShownStep) (last : ShownStep) (own_is : own ≡ front ++ last ∷ [])
    (are : AreStepsOf (test_of now.rules now.in_use.rows.items) now.rules now.splits (box_of next) own) where
  abbrev test : BoxTest
  test = test_of now.rules now.in_use.rows.items

  abbrev pub hand : IsInHand paving.waiting next mid
  hand = in_hand paving.waiting now.queues.lists mid next s.queued takes

  closes : Closes test now.rules now.splits next.id last.part last.step
  closes = (ends_by_last (grain_for (grid_box next.part)) _ test now.rules now.splits (box_of next) front last
      (subst (λ (l : List ShownStep). AreStepsOf test now.rules now.splits (box_of next) l) own_is are)).0

  numbers : IsByHalf now.rules now.splits last.step last.part
  numbers = by_half test now.rules now.splits next.id last.step last.part closes s.within

  pub may_open : CanOpen last.step last.part
  may_open = can_open test now.rules now.splits next.id last.step last.part closes

  pub has_room : opened_count last.step ≤ now.queues.spare + 1
  has_room = let n = numbers in omega (arith, n.counts, n.one, n.within, s.spared, s.few)

  are_own : AreStepsOf paving.test now.rules paving.splits (box_of next) own
  are_own = subst (λ (b : BoxTest). AreStepsOf b now.rules paving.splits (box_of next) own) (sym s.tested)
      (subst (λ (n : ℕ). AreStepsOf test now.rules n (box_of next) own) (sym s.splits_is) are)

  abbrev rested : Paving
  rested = record paving { waiting = hand.rest }

  beyond_own : beyond_all rested own ≡ beyond rested last
  beyond_own = ap (beyond_all rested) own_is
      ∙ opens_last paving.test now.rules paving.splits (box_of next) front last rested
      (subst (λ (l : List ShownStep). AreStepsOf paving.test now.rules paving.splits (box_of next) l) own_is are_own)

  abbrev pub waiting_then : List WaitingBox
  waiting_then = hand.rest ++ opened_by now.splits last.step last.part

  waits_then : (beyond_all rested own).waiting ≡ waiting_then
  waits_then = ap (λ (p : Paving). p.waiting) beyond_own ∙ ap (λ (n : ℕ). hand.rest ++ opened_by n last.step last.part) s.splits_is

  splits_then : (beyond_all rested own).splits ≡ splits_after now.splits last.step
  splits_then = ap (λ (p : Paving). p.splits) beyond_own ∙ ap (λ (n : ℕ). splits_after n last.step) s.splits_is

  inside_own : AllInside (beyond_all rested own).waiting (grid_box now.root)
  inside_own = turn_inside now.rules (grid_box now.root) paving (box_of next) hand.rest (record { steps = own; renewed = None }) hand.is_next are_own s.inside

  pub then_inside : AllInside waiting_then (grid_box now.root)
  then_inside = subst (λ (w : List WaitingBox). AllInside w (grid_box now.root)) waits_then inside_own

  -- the run goes on by it, and the paving stands so behind it
  pub box_turned : (maker : Maker) (new : Pavement) (renewed : Bool) → own ≡ map step_value new.steps.items
      → new.rules ≡ now.rules → new.root ≡ now.root → new.splits ≡ splits_after now.splits last.step
      → new.queues.spare + opened_count last.step ≡ now.queues.spare + 1
      → ((waiting : List WaitingBox) → IsQueued waiting mid → IsQueued (waiting ++ opened_by now.splits last.step last.part) new.queues.lists)
      → ((waiting : List WaitingBox) → IsQueued waiting new.queues.lists
      → Renews maker (used_of now.in_use) now.splits new.splits waiting (renewed_by renewed (used_of new.in_use)))
      → used_of new.in_use ≡ used_with (used_of now.in_use) (renewed_by renewed (used_of new.in_use))
      → AreTreesFor (test_of now.rules new.in_use.rows.items) new.in_use.trees
      → length new.in_use.rows.items ≡ length now.in_use.rows.items → length new.steps.items ≤ 1015
      → Turned maker now paving (turn_of renewed new) new
  box_turned maker new renewed own_steps rules root splits spare opened renews used trees rows few =
      let n = numbers in
      let turn : Turn = record { steps = own; renewed = renewed_by renewed (used_of new.in_use) } in
      let queued : IsQueued (beyond_all rested own).waiting new.queues.lists
      = subst (λ (w : List WaitingBox). IsQueued w new.queues.lists) (sym waits_then) (opened hand.rest hand.queued) in
      let by_used : Renews maker (rows_over (grid_box now.in_use.part) paving.test.rows) now.splits new.splits (beyond_all rested own).waiting turn.renewed
      = subst (λ (t : BoxTest). Renews maker (rows_over (grid_box now.in_use.part) t.rows) now.splits new.splits (beyond_all rested own).waiting turn.renewed) (sym s.tested)
      (renews (beyond_all rested own).waiting queued) in
      let by_splits = subst (λ (k : ℕ). Renews maker (rows_over (grid_box now.in_use.part) paving.test.rows) k new.splits (beyond_all rested own).waiting turn.renewed) (sym s.splits_is) by_used in
      let renews_own = subst (λ (k : ℕ). Renews maker (rows_over (grid_box now.in_use.part) paving.test.rows) paving.splits k (beyond_all rested own).waiting turn.renewed) (splits ∙ sym splits_then) by_splits in
      let many : length (beyond_all rested own).waiting ≡ length hand.rest + 2 * n.half = omega (arith, ap length waits_then, length-append hand.rest (opened_by now.splits last.step last.part), n.opens) in
      let most = ap (λ (r : Rules). r.bisections) rules in
      subst (λ (l : List ShownStep). Turned maker now paving (record { steps = l; renewed = turn.renewed }) new) own_steps (record {
        last = behind_turn paving hand.rest turn;
        paves = (box_of next, hand.rest, hand.is_next, are_own, renews_own, refl);
        used = part_then (used_of now.in_use) (used_of new.in_use) turn.renewed used;
        stands = record {
          queued = queued;
          tested = tested_then now.rules paving.test (used_of now.in_use) (used_of new.in_use) turn.renewed s.tested used
              ∙ ap (λ (r : Rules). test_of r new.in_use.rows.items) (sym rules);
          splits_is = splits_then ∙ sym splits;
          spared = omega (arith, many, most, spare, n.counts, s.spared, hand.one_less);
          few = omega (arith, many, splits, n.rises, n.one, s.few, hand.one_less);
          within = omega (arith, most, splits, n.rises, n.within);
          inside = subst (λ (b : GridBox). AllInside (beyond_all rested own).waiting b) (ap grid_box (sym root)) inside_own;
          trees = subst (λ (r : Rules). AreTreesFor (test_of r new.in_use.rows.items) new.in_use.trees) (sym rules) trees;
          enough = omega (arith, ap (λ (r : Rules). r.outliers) rules, rows, s.enough);
          at_most = omega (arith, rows, s.at_most);
        };
        same = record { rules = rules; root = root; rows = rows };
        fewer = omega (arith, most, splits, n.rises, n.counts, n.one, n.within, spare, s.spared, s.few, s.within, hand.one_less);
        few_steps = omega (arith, ap length own_steps, length-map new.steps.items step_value, few);
      })
