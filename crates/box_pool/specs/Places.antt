-- A row of places, each empty or with a value. No public clause cites it.
use Rattle.std.specs.Prelude.{◌≡◌, ℕ, List, get_or, Option, Some, None}

-- the place at the index has a value
abbrev pub IsFilled : {X : Type 0} → List (Option X) → ℕ → Type 0
IsFilled {X} cs i = (x : X) × (get_or cs i None ≡ Some x)
