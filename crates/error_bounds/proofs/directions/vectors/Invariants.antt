use Rattle.std.proofs.Common.{◌≡◌, ◌++◌, List, ℤ, length, map, drop, option_map}
use Rattle.toml.specs.View.{items_view}
use Rattle.error_bounds.specs.Forms.{all_members, as_vector}
use Rattle.error_bounds.specs.Reading.{components}
use Rattle.error_bounds.proofs.directions.vectors.Given as goal

abbrev pub invariant-items : goal.invariant-items
invariant-items l =
    (length l.vectors.items ≡ l.item-index)
    × (option_map (λ (more : List (ℤ × ℤ × ℤ)). map components l.vectors.items ++ more) (all_members as_vector (items_view (drop l.item-index l.items)))
    ≡ all_members as_vector (items_view l.items))
