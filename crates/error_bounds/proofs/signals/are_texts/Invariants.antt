use Rattle.std.proofs.Common.{◌≡◌, is_some, drop}
use Rattle.toml.specs.Data.{as_str}
use Rattle.toml.specs.View.{items_view}
use Rattle.error_bounds.specs.Forms.{all_members}
use Rattle.error_bounds.proofs.signals.are_texts.Given as goal

abbrev pub invariant-items : goal.invariant-items
invariant-items l =
    is_some (all_members as_str (items_view (drop l.item-index l.items))) ≡ is_some (all_members as_str (items_view l.items))
