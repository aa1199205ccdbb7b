-- Cuts to proposals, round by round.
use Rattle.std.proofs.Common.{◌≡◌, ℕ, ◌+◌, ◌*◌, ◌≤◌, arith, List, [], ◌++◌, length, refl, sym, subst, append_assoc, ◌∙◌, ap}
use Rattle.std.proofs.lemmas.List.{append-nil, length-append}
use Rattle.grid_model.specs.Boxes.{GridBox}
use Rattle.sat_model.specs.BoxTests.{BoxTest}
use Rattle.sat_model.specs.Fold.{ShownStep}
use Rattle.box_contraction.specs.Adding.{AddsCuts}
use Rattle.box_contraction.specs.Cuts.{Bounds, all_faces, AreFaces, IsSomeCut, AreSomeCuts, AreFacesDone, AreFacesCut}
use Rattle.box_contraction.proofs.FaceLemmas.{all_are, both_faces, cuts_some, faces_both}

pub record SomeUnderway (test : BoxTest) (id rounds : ℕ) (start : GridBox) (before : List ShownStep) (part : GridBox) (now : List ShownStep) : Type 0 where
  pub faces : List ℕ
  pub named : AreFaces faces
  pub few : length faces ≤ 6 * rounds
  pub cuts : List ShownStep
  pub are : AreFacesDone (IsSomeCut test id) faces start cuts part
  pub added : now ≡ before ++ cuts

pub no_cuts_yet : (test : BoxTest) (id : ℕ) (start : GridBox) (before : List ShownStep) → SomeUnderway test id 0 start before start before
no_cuts_yet test id start before = record { faces = []; named = tt; few = omega arith; cuts = []; are = (refl, refl); added = sym (append-nil before) }

pub one_proposal : (test then_test : BoxTest) (id rounds : ℕ) (bounds : Bounds) (start : GridBox) (before : List ShownStep) (part left : GridBox) (now last : List ShownStep)
    → then_test ≡ test → SomeUnderway test id rounds start before part now
    → AddsCuts (AreFacesCut then_test id bounds all_faces part) now left last
    → SomeUnderway test id (rounds + 1) start before left last
one_proposal test then_test id rounds bounds start before part left now last e u cut =
    let c : AddsCuts (AreFacesCut test id bounds all_faces part) now left last = subst (λ (t : BoxTest). AddsCuts (AreFacesCut t id bounds all_faces part) now left last) e cut in
    record {
      faces = u.faces ++ all_faces;
      named = both_faces u.faces all_faces u.named all_are;
      few = omega (arith, u.few, length-append u.faces all_faces);
      cuts = u.cuts ++ c.cuts;
      are = faces_both (IsSomeCut test id) u.faces all_faces start part left u.cuts c.cuts u.are (cuts_some test id bounds all_faces part c.cuts left c.are);
      added = c.added ∙ ap (λ (l : List ShownStep). l ++ c.cuts) u.added ∙ append_assoc before u.cuts c.cuts;
    }

pub some_cut : (test : BoxTest) (id rounds : ℕ) (start : GridBox) (before : List ShownStep) (part : GridBox) (now : List ShownStep)
    → rounds ≤ 8 → SomeUnderway test id rounds start before part now
    → AddsCuts (AreSomeCuts test id start) before part now
some_cut test id rounds start before part now most u = record {
  cuts = u.cuts;
  are = record { faces = u.faces; named = u.named; few = omega (arith, u.few, most); are = u.are };
  added = u.added;
}
