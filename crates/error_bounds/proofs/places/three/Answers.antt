use Rattle.std.proofs.Common.{◌≡◌, true, is_some, arith, sym, ◌∙◌}
use Rattle.toml.specs.Data.{as_integer}
use Rattle.toml.specs.View.{items_view}
use Rattle.error_bounds.specs.Forms.{all_members, three}
use Rattle.error_bounds.proofs.FormLemmas.{others_outside, not_three}
use Rattle.error_bounds.proofs.places.three.Goals as goal

pub returns-in_default-as_slice : goal.returns-in_default-as_slice
returns-in_default-as_slice c = λ passes.
    let kinds : true ≡ is_some (all_members as_integer (items_view c.in-Some.items.now.items)) =
    sym c.if-not-are_integers.false ∙ (rw c.deref.ensures.value at c.are_integers.ensures) in
    rw (← rw c.in-Some.is at c.as_array.ensures)
    (sym (others_outside as_integer (three passes) 3 c.in-Some.items.now.items (not_three passes) (λ e. omega (arith, e, c.as_slice.ensures.len, c.in_default-as_slice.len_below)) kinds))

pub returns-in_default-as_slice-2 : goal.returns-in_default-as_slice-2
returns-in_default-as_slice-2 c = λ passes.
    let kinds : true ≡ is_some (all_members as_integer (items_view c.in-Some.items.now.items)) =
    sym c.if-not-are_integers.false ∙ (rw c.deref.ensures.value at c.are_integers.ensures) in
    rw (← rw c.in-Some.is at c.as_array.ensures)
    (sym (others_outside as_integer (three passes) 3 c.in-Some.items.now.items (not_three passes) (λ e. omega (arith, e, c.as_slice.ensures.len, c.in_default-as_slice.len_at_least)) kinds))
