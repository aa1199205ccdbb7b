-- The states of the generator, one behind another.
use Rattle.std.proofs.Common.{◌≡◌, ℕ, suc, ◌+◌, ◌/◌, ◌%◌, ap, ◌∙◌, arith}
use Rattle.made_input.specs.Generator.{next_state, state_behind, drawn}

pub one_more : (seed i x y : ℕ) → x ≡ state_behind seed i → y ≡ next_state x
    → y ≡ state_behind seed (i + 1)
unfolding state_behind
one_more seed i x y is next =
    let more : i + 1 ≡ suc i = omega arith in
    rw more (next ∙ ap next_state is)

pub draw_is : (seed i n x y : ℕ) → x ≡ state_behind seed i → y ≡ next_state x
    → y / 8589934592 % n ≡ drawn seed i n
unfolding drawn
draw_is seed i n x y is next = ap (λ (z : ℕ). z / 8589934592 % n) (next ∙ ap next_state is)
