-- The names in a tree that aren't those of keys. `Keys` has the keys.
use Rattle.std.specs.Prelude.{◌≡◌, ℕ, Bool, false, ◌&&◌, ◌||◌, ◌==◌, not, if◌then◌else◌, codes, List, [], ◌∷◌, ◌++◌, Option, None, Some}
use Rattle.std.specs.Char.{is_ascii_digit}
use Rattle.std.specs.Cmp.Lexicographic.{slice_cmp}
use Rattle.std.specs.List.{list_any, All, Contains}
use Rattle.std.specs.Ordering.{nat_cmp, is_lt}
use Rattle.toml.specs.Data.{Data, Members, no_members, member, get_member, as_table}
use Rattle.gnss_model.specs.declared.systems.Message.TheVariants.{Fnav}
use Rattle.error_bounds.specs.declared.signals.Mode.TheVariants.{Dual}
use Rattle.error_bounds.specs.Forms.{is_text}
use Rattle.error_bounds.specs.Keys.{Test, dotted, has_galileo, galileo_message, galileo_keys, printed, search_tests, directions_tests, signal_tests, bounds_tests, motion_tests, station_keys}

-- the members with a name that isn't known, each as its name is printed
abbrev pub strangers : (List ℕ → Bool) → (List ℕ → List ℕ) → Members → List (List ℕ)
strangers known print no_members = []
strangers known print (member name d more) =
    if known name then strangers known print more else print name ∷ strangers known print more

-- the tables
abbrev pub is_table : List ℕ → Bool
is_table name =
    list_any (is_text name)
    (codes "search" ∷ codes "signal" ∷ codes "bounds" ∷ codes "galileo" ∷ codes "motion"
    ∷ codes "station" ∷ codes "satellite" ∷ [])

-- `G01` to `G99`, and where the table `galileo` is there also `E01` to `E99`
abbrev pub is_satellite : Bool → List ℕ → Bool
is_satellite both (system ∷ tens ∷ ones ∷ []) =
    ((system == 71 || (both && system == 69)) && (is_ascii_digit tens && is_ascii_digit ones))
    && not (tens == 48 && ones == 48)
is_satellite both _ = false

-- what a table holds
abbrev pub table_or_none : Option Members → Members
table_or_none None = no_members
table_or_none (Some members) = members

abbrev pub held : Option Data → Members
held None = no_members
held (Some d) = table_or_none (as_table d)

abbrev pub members_at : List ℕ → Members → Members
members_at table tree = held (get_member table tree)

-- the printed name is that of a tested key
abbrev pub is_key : List Test → List ℕ → Bool
is_key tests name = list_any (λ t. is_text name t.key) tests

abbrev pub strangers_at : List ℕ → (List ℕ → Bool) → Members → List (List ℕ)
strangers_at table known tree = strangers known (dotted table) (members_at table tree)

abbrev pub strangers_among : List ℕ → List Test → Members → List (List ℕ)
strangers_among table tests tree =
    strangers_at table (λ name. is_key tests (dotted table name)) tree

-- the names in the table of Galileo are the same in each mode and by each message
abbrev pub galileo_names : Members → List Test
galileo_names tree =
    record { key = printed galileo_message; fault = None } ∷ galileo_keys Dual Fnav tree

-- those in the table of the search
abbrev pub search_names : Members → List Test
search_names tree = search_tests tree ++ directions_tests tree

-- all names in a tree that aren't known
abbrev pub unknown : Members → List (List ℕ)
unknown tree =
    strangers is_table (λ name. name) tree
    ++ (strangers_among (codes "search") (search_names tree) tree
    ++ (strangers_among (codes "signal") (signal_tests tree) tree
    ++ (strangers_among (codes "bounds") (bounds_tests tree) tree
    ++ (strangers_among (codes "galileo") (galileo_names tree) tree
    ++ (strangers_among (codes "motion") (motion_tests tree) tree
    ++ (strangers_among (codes "station") (station_keys 0 tree) tree
    ++ strangers_at (codes "satellite") (is_satellite (has_galileo tree)) tree))))))

-- a name of a list that none of the others comes before in byte order
pub record IsFirstName (names : List (List ℕ)) (name : List ℕ) : Type 0 where
  pub among : Contains names name
  pub first : All (λ other. is_lt (slice_cmp nat_cmp other name) ≡ false) names
