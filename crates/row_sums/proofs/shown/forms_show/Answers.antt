use Rattle.std.proofs.Common.{◌≡◌, ℕ, Bool, true, false, List, Option, None, Some, refl}
use Rattle.std.specs.Prelude.{is_some, not, IsNone, IfSome}
use Rattle.sat_model.specs.declared.row_sums.RowSum.{RowSum}
use Rattle.sat_model.specs.HalfSpaces.{SomeSurvive}
use Rattle.row_sums.proofs.shown.forms_show.Goals as goal

-- there is no choice of rows without which no sum survives
survives : {X : Type 0} (choice : Option X) (none : Bool) (q : ℕ) (sums : List RowSum)
    → is_some choice ≡ not none → (IsNone choice → SomeSurvive q sums) → none ≡ true
    → SomeSurvive q sums
survives None none q sums is covered t = covered refl
survives (Some x) true q sums is covered t = absurd cc
survives (Some x) false q sums is covered t = absurd cc

no_choice : {X : Type 0} (choice : Option X) (none : Bool) (q : ℕ) (sums : List RowSum)
    → is_some choice ≡ not none → IfSome choice (λ (x : X). SomeSurvive q sums → ⊥)
    → SomeSurvive q sums → none ≡ true
no_choice None true q sums is uncovered some = refl
no_choice None false q sums is uncovered some = absurd cc
no_choice (Some x) none q sums is uncovered some = absurd (uncovered some)

pub returns : goal.returns
returns c = (
  λ t. record {
    shown = c.are_shown.ensures.0 c.if-not-are_shown.false;
    survives = survives c.uncovered_choice.result c.is_none.result c.args.q c.args.sums.now c.is_none.ensures c.uncovered_choice.ensures.covered t;
  },
  λ h. no_choice c.uncovered_choice.result c.is_none.result c.args.q c.args.sums.now c.is_none.ensures c.uncovered_choice.ensures.uncovered h.survives,
)
