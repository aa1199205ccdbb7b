use Rattle.std.proofs.Common.{◌≡◌, is_some, drop}
use Rattle.toml.specs.Data.{as_integer}
use Rattle.toml.specs.View.{items_view}
use Rattle.error_bounds.specs.Forms.{all_members}
use Rattle.error_bounds.proofs.form.are_integers.Given as goal

abbrev pub invariant-items : goal.invariant-items
invariant-items l =
    is_some (all_members as_integer (items_view (drop l.item-index l.items))) ≡ is_some (all_members as_integer (items_view l.items))
