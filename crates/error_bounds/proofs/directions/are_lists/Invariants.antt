use Rattle.std.proofs.Common.{◌≡◌, is_some, drop}
use Rattle.toml.specs.View.{items_view}
use Rattle.error_bounds.specs.Forms.{all_members, as_integers}
use Rattle.error_bounds.proofs.directions.are_lists.Given as goal

abbrev pub invariant-items : goal.invariant-items
invariant-items l =
    is_some (all_members as_integers (items_view (drop l.item-index l.items))) ≡ is_some (all_members as_integers (items_view l.items))
