-- Fields and lines of steps at the front of a text.
use Rattle.std.proofs.Common.{◌≡◌, ℕ, ◌≤◌, ℤ, ◌≤ℤ◌, arith, List, ◌∷◌, ◌++◌, refl, sym, ap, ◌∙◌, append_assoc}
use Rattle.sat_model.specs.declared.steps.Step.TheVariants.{Inside}
use Rattle.std.specs.Fmt.{decimal, signed_decimal}
use Rattle.grid_model.specs.Sizes.{IsClockSize}
use Rattle.step_lines.specs.declared.names.StepName.TheVariants as name
use Rattle.step_lines.specs.Leading.{HasFields}

-- a word in front of others
word_before : (text word rest more behind : List ℕ) → text ≡ word ++ 32 ∷ rest
    → rest ≡ more ++ 10 ∷ behind → text ≡ (word ++ 32 ∷ more) ++ 10 ∷ behind
word_before text word rest more behind first later =
    first ∙ ap (λ (r : List ℕ). word ++ 32 ∷ r) later ∙ sym (append_assoc word (32 ∷ more) (10 ∷ behind))

-- the fields of an inner box, one behind another
pub inside_fields : (text behind_id behind_clock behind_lo behind : List ℕ) (id : ℕ) (clock lo hi : ℤ)
    → (id ≤ 400000) × (text ≡ decimal id ++ 32 ∷ behind_id)
    → IsClockSize clock × (behind_id ≡ signed_decimal clock ++ 32 ∷ behind_clock)
    → IsClockSize lo × (behind_clock ≡ signed_decimal lo ++ 32 ∷ behind_lo)
    → IsClockSize hi × (behind_lo ≡ signed_decimal hi ++ 10 ∷ behind)
    → lo ≤ℤ hi → HasFields name.In text (Inside id clock lo hi) behind
inside_fields text behind_id behind_clock behind_lo behind id clock lo hi first second third last ordered = record {
  fits = ((omega arith, first.0), second.0, third.0, last.0, ordered);
  name = refl;
  parts =
      word_before text (decimal id) behind_id _ behind first.1
      (word_before behind_id (signed_decimal clock) behind_clock _ behind second.1 (word_before behind_clock (signed_decimal lo) behind_lo (signed_decimal hi) behind third.1 last.1));
}
