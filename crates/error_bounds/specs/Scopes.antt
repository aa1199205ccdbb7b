-- The walk over the names of a tree. No public clause cites this.
use Rattle.std.specs.Prelude.{ℕ, Bool, codes, List, [], ◌∷◌, ◌++◌}
use Rattle.std.specs.List.{list_any}
use Rattle.error_bounds.specs.Forms.{is_text}
use Rattle.error_bounds.specs.Names.{is_table, is_satellite}
use Rattle.error_bounds.specs.declared.names.Scope.{Scope}
use Rattle.error_bounds.specs.declared.names.Scope.TheVariants as scope

abbrev pub knows : Scope → List ℕ → Bool
knows scope.Root name = is_table name
knows scope.Search name =
    list_any (is_text name)
    (codes "centre" ∷ codes "half" ∷ codes "outliers" ∷ codes "bisections" ∷ codes "width"
    ∷ codes "max_age" ∷ codes "renew" ∷ codes "pairs" ∷ codes "directions" ∷ [])
knows scope.Signal name = list_any (is_text name) (codes "mode" ∷ codes "codes" ∷ [])
knows scope.Bounds name =
    list_any (is_text name)
    (codes "receiver" ∷ codes "orbit_clock" ∷ codes "ionosphere" ∷ codes "troposphere"
    ∷ codes "zenith" ∷ codes "vertical" ∷ [])
knows scope.Galileo name =
    list_any (is_text name) (codes "message" ∷ codes "codes" ∷ codes "offset" ∷ [])
knows scope.Motion name = list_any (is_text name) (codes "speed" ∷ codes "restart" ∷ [])
knows scope.Station name = list_any (is_text name) (codes "place" ∷ codes "age" ∷ [])
knows (scope.Satellite both) name = is_satellite both name

abbrev pub prefix_of : Scope → List ℕ
prefix_of scope.Root = []
prefix_of scope.Search = codes "search."
prefix_of scope.Signal = codes "signal."
prefix_of scope.Bounds = codes "bounds."
prefix_of scope.Galileo = codes "galileo."
prefix_of scope.Motion = codes "motion."
prefix_of scope.Station = codes "station."
prefix_of (scope.Satellite both) = codes "satellite."

abbrev pub printed_in : Scope → List ℕ → List ℕ
printed_in place name = prefix_of place ++ name
