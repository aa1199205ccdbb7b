-- Each box has a step that splits or closes it.
use Rattle.std.proofs.Common.{◌≡◌, ℕ, zero, suc, ◌-◌, ◌<◌, arith, length, ◌⊎◌, inl, inr, refl, subst}
use Rattle.std.specs.Prelude.{pos}
use Rattle.std.proofs.lemmas.Int.{ints}
use Rattle.std.proofs.lemmas.Bool.{cases_Bool, cases_lt}
use lib.Signed.{lt_z}
use Rattle.sat_model.specs.declared.rules.Rules.{Rules}
use Rattle.sat_model.specs.declared.steps.Step.{Step}
use Rattle.sat_model.specs.declared.steps.Step.TheVariants.{Split, Outside, Inside, Edge}
use Rattle.grid_model.specs.Boxes.{GridBox, side_at}
use Rattle.sat_model.specs.BoxTests.{BoxTest}
use Rattle.sat_model.specs.ClockSpans.{clock_spans, inner_spans}
use Rattle.grid_model.specs.Lengths.{side_length, longest_length, IsLongestAxis}
use Rattle.sat_model.specs.Waiting.{IsUndecided, MaySplit, MayNotSplit, Closes}
use Rattle.row_pairs.proofs.TestLemmas.{empty_or_not}
use Rattle.relaxed_meet.proofs.TestLemmas.{empty_by_spans}
use Rattle.sat_model.proofs.RelaxedExists.{least_relaxed, relaxed_hull}

below_two : (P : ℕ → Type 0) → P 0 → P 1 → (k : ℕ) → k < 2 → P k
below_two P p q zero h = p
below_two P p q (suc zero) h = q
below_two P p q (suc (suc k)) h = absurd (omega arith)

longest_axis_exists : (c : GridBox) → (axis : ℕ) × IsLongestAxis c axis
longest_axis_exists c = elim (cases_lt (side_length c.x) (longest_length c)) [
  | inr x_longest ↦ (0, record { axis_le = omega arith; longest = omega arith; first = λ k h. absurd (omega arith) })
  | inl x_shorter ↦ elim (cases_lt (side_length c.y) (longest_length c)) [
    | inr y_longest ↦ (
      1,
      record {
        axis_le = omega arith;
        longest = omega arith;
        first = λ k h. elim (cases_lt k 1) [
          | inl less ↦ subst (λ (o : ℕ). side_length (side_at o c) < longest_length c) (let z : 0 ≡ k = omega arith in z) x_shorter
          | inr more ↦ absurd (omega arith)
        ];
      },
    )
    | inl y_shorter ↦ (2, record { axis_le = omega arith; longest = omega arith; first = below_two (λ o. side_length (side_at o c) < longest_length c) x_shorter y_shorter })
  ]
]

may_split : (rules : Rules) (splits : ℕ) (part : GridBox)
    → MaySplit rules splits part ⊎ MayNotSplit rules splits part
may_split rules splits part = elim (cases_Bool (lt_z rules.width (pos (longest_length part)))) [
  | inl longer ↦ elim (cases_lt splits rules.bisections) [
    | inl left ↦ inl (omega (arith, ints, longer), left)
    | inr none_left ↦ inr (inr none_left)
  ]
  | inr no_longer ↦ inr (inl (omega (arith, ints, no_longer)))
]

pub ending_exists : (test : BoxTest) (rules : Rules) (splits id : ℕ) (part : GridBox)
    → test.q < length test.rows → (step : Step) × Closes test rules splits id part step
ending_exists test rules splits id part enough =
    let some : 0 < length test.rows - test.q = omega arith in
    elim (empty_or_not test part enough) [
      | inl empty ↦ (Outside id, (refl, empty))
      | inr not_empty ↦ elim (relaxed_hull (clock_spans part test.rows) (length test.rows - test.q) some) [
        | inl none ↦ absurd (not_empty (empty_by_spans test part none))
        | inr (lo, hi, hull) ↦ elim (least_relaxed (inner_spans part test.rows) (length test.rows - test.q) some) [
          | inr (clock, least) ↦ (Inside id clock lo hi, (refl, record { shown = least.lies; least = least.least }, hull))
          | inl not_inner ↦
              let undecided : IsUndecided test part = record { not_empty = not_empty; not_inner = not_inner } in
              elim (may_split rules splits part) [
                | inl may ↦ let (axis, longest) = longest_axis_exists part in (Split id axis, (refl, undecided, may, longest))
                | inr may_not ↦ (Edge id lo hi, (refl, undecided, may_not, hull))
              ]
        ]
      ]
    ]
