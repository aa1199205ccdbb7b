-- What a value in the tree of the text has to be: first its kind, then what is read from it.
-- Lengths stand in mm in the text and are read in um.
use Rattle.std.specs.Prelude.{ℕ, ℤ, pos, neg_ℤ, ◌*ℤ◌, unsigned_abs, nat_eq, nat_le, Bool, true, false, not, ◌&&◌, ◌||◌, if◌then◌else◌, codes, List, [], ◌∷◌, length, Option, None, Some, option_map, option_and_then, Result, Ok, Err}
use lib.Pointwise.{pointwise}
use lib.Signed.{le_z}
use Rattle.grid_model.specs.Amounts.{square}
use Rattle.grid_model.specs.Squares.{sum_of_squares}
use Rattle.grid_model.specs.declared.boxes.Pos.{Pos}
use Rattle.gnss_model.specs.declared.satellites.Signal.{Signal}
use Rattle.gnss_model.specs.declared.satellites.Signal.TheVariants as signal
use Rattle.gnss_model.specs.declared.systems.Message.{Message}
use Rattle.gnss_model.specs.declared.systems.Message.TheVariants.{Fnav, Inav}
use Rattle.toml.specs.Data.{Data, Items, no_items, item, as_str, as_integer, as_bool, as_array}
use Rattle.error_bounds.specs.Sizes.{is_code, band_of}
use Rattle.error_bounds.specs.declared.fault.Fault.{Fault}
use Rattle.error_bounds.specs.declared.fault.Fault.TheVariants.{WrongKind, Outside}
use Rattle.error_bounds.specs.declared.signals.Mode.{Mode}
use Rattle.error_bounds.specs.declared.signals.Mode.TheVariants as mode
use Rattle.error_bounds.specs.declared.settings.Centre.{Centre}
use Rattle.error_bounds.specs.declared.settings.Centre.TheVariants as centre

-- ---- kinds and ranges

-- a value of a kind, or another form
abbrev pub or_form : {V W : Type 0} → Option V → (V → Result W Fault) → Result W Fault
    → Result W Fault
or_form None form other = other
or_form (Some v) form other = form v

-- a value of a kind
abbrev pub of_kind : {V W : Type 0} → Option V → (V → Result W Fault) → Result W Fault
of_kind kind form = or_form kind form (Err WrongKind)

-- a value that is right
abbrev pub right : {V : Type 0} → Bool → V → Result V Fault
right true v = Ok v
right false v = Err Outside

abbrev pub is_from : ℤ → ℤ → ℤ → Bool
is_from lo hi n = le_z lo n && le_z n hi

abbrev pub is_within : ℕ → ℤ → Bool
is_within n z = is_from (neg_ℤ (pos n)) (pos n) z

abbrev pub is_text : List ℕ → List ℕ → Bool
is_text a b = pointwise nat_eq a b

abbrev pub um : ℤ → ℤ
um mm = mm *ℤ pos 1000

-- the members of a list, where all are of one kind
abbrev pub all_members : {V : Type 0} → (Data → Option V) → Items → Option (List V)
all_members kind no_items = Some []
all_members kind (item d more) =
    option_and_then (λ v. option_map (λ vs. v ∷ vs) (all_members kind more)) (kind d)

abbrev pub as_list_of : {V : Type 0} → (Data → Option V) → Data → Option (List V)
as_list_of kind d = option_and_then (all_members kind) (as_array d)

-- the directions of bounds: so many azimuths, or these vectors
pub data DirectionsValue : Type 0 where
  Azimuths : (count : ℕ) → DirectionsValue
  Vectors : (vectors : List (ℤ × ℤ × ℤ)) → DirectionsValue

-- ---- one definition a form

-- a whole number from `lo` to `hi`
abbrev pub count : ℕ → ℕ → Data → Result ℕ Fault
count lo hi d = of_kind (as_integer d) (λ n. right (is_from (pos lo) (pos hi) n) (unsigned_abs n))

-- a length from `lo` to `hi` mm
abbrev pub length_from : ℕ → ℕ → Data → Result ℤ Fault
length_from lo hi d = of_kind (as_integer d) (λ n. right (is_from (pos lo) (pos hi) n) (um n))

-- a truth value
abbrev pub truth : Data → Result Bool Fault
truth d = of_kind (as_bool d) (λ b. Ok b)

-- `[lo, hi]`, amounts of at most so many mm
abbrev pub ends_of : ℕ → List ℤ → Result (ℤ × ℤ) Fault
ends_of most (lo ∷ hi ∷ []) =
    right ((is_within most lo && is_within most hi) && le_z lo hi) (um lo, um hi)
ends_of most _ = Err Outside

abbrev pub errors : ℕ → Data → Result (ℤ × ℤ) Fault
errors most d = of_kind (as_list_of as_integer d) (ends_of most)

-- three lengths that pass a test
abbrev pub three : (ℤ → ℤ → ℤ → Bool) → List ℤ → Result Pos Fault
three passes (x ∷ y ∷ z ∷ []) =
    right (passes x y z) (record { x = um x; y = um y; z = um z })
three passes _ = Err Outside

-- each of the three passes one test
abbrev pub each : (ℤ → Bool) → ℤ → ℤ → ℤ → Bool
each passes x y z = (passes x && passes y) && passes z

abbrev pub is_coordinate : ℤ → Bool
is_coordinate n = is_within 8500000000 n

abbrev pub is_half : ℤ → Bool
is_half n = is_from (pos 1) (pos 100000000) n

-- `"header"`, or three coordinates
abbrev pub at : Result Pos Fault → Result Centre Fault
at (Ok p) = Ok (centre.At p)
at (Err e) = Err e

abbrev pub place : Data → Result Centre Fault
place d =
    or_form (as_str d) (λ text. right (is_text text (codes "header")) centre.Header)
    (at (of_kind (as_list_of as_integer d) (three (each is_coordinate))))

-- within 6,600 km of the origin
abbrev pub is_near_ground : ℤ → ℤ → ℤ → Bool
is_near_ground x y z = nat_le (sum_of_squares x y z) (square 6600000000)

-- where a station stands: `"header"`, or three coordinates
abbrev pub ground_place : Data → Result Centre Fault
ground_place d =
    or_form (as_str d) (λ text. right (is_text text (codes "header")) centre.Header)
    (at (of_kind (as_list_of as_integer d) (three is_near_ground)))

-- one half side for all three axes, or one each
abbrev pub half_sides : Data → Result Pos Fault
half_sides d =
    or_form (as_integer d) (λ n. three (each is_half) (n ∷ n ∷ n ∷ []))
    (of_kind (as_list_of as_integer d) (three (each is_half)))

-- `"single"` or `"dual"`
abbrev pub mode_word : Data → Result Mode Fault
mode_word d =
    of_kind (as_str d) (λ text.
    if is_text text (codes "single") then Ok mode.Single
    else right (is_text text (codes "dual")) mode.Dual)

-- a code on the first band, and one on another band
abbrev pub dual_codes : ℕ → List (List ℕ) → Result Signal Fault
dual_codes band (first ∷ second ∷ []) =
    right (is_code 49 first && is_code band second) (signal.Dual first second)
dual_codes band _ = Err Outside

-- one code in single mode, and two in dual mode
abbrev pub codes_for : Mode → List (List ℕ) → Result Signal Fault
codes_for mode.Single (code ∷ []) = right (is_code 49 code) (signal.Single code)
codes_for mode.Single _ = Err Outside
codes_for mode.Dual codes = dual_codes 50 codes

abbrev pub code_list : Mode → Data → Result Signal Fault
code_list which d = of_kind (as_list_of as_str d) (codes_for which)

-- `"F/NAV"` or `"I/NAV"`
abbrev pub message_word : Data → Result Message Fault
message_word d =
    of_kind (as_str d) (λ text.
    if is_text text (codes "F/NAV") then Ok Fnav
    else right (is_text text (codes "I/NAV")) Inav)

-- one code in single mode, and two in dual mode, of which the second is on the message's band
abbrev pub galileo_codes_for : Mode → Message → List (List ℕ) → Result Signal Fault
galileo_codes_for mode.Single message codes = codes_for mode.Single codes
galileo_codes_for mode.Dual message codes = dual_codes (band_of message) codes

abbrev pub galileo_list : Mode → Message → Data → Result Signal Fault
galileo_list which message d = of_kind (as_list_of as_str d) (galileo_codes_for which message)

-- ---- directions of bounds

-- azimuths are four, eight or sixteen
abbrev pub is_count : ℤ → Bool
is_count n =
    is_from (pos 4) (pos 4) n || (is_from (pos 8) (pos 8) n || is_from (pos 16) (pos 16) n)

-- three numbers within 10^6 that aren't all 0
abbrev pub is_vector : ℤ → ℤ → ℤ → Bool
is_vector x y z = each (is_within 1000000) x y z && not (each (is_within 0) x y z)

abbrev pub vector_of : List ℤ → Option (ℤ × ℤ × ℤ)
vector_of (x ∷ y ∷ z ∷ []) = if is_vector x y z then Some (x, y, z) else None
vector_of _ = None

abbrev pub as_integers : Data → Option (List ℤ)
as_integers d = as_list_of as_integer d

abbrev pub as_vector : Data → Option (ℤ × ℤ × ℤ)
as_vector d = option_and_then vector_of (as_integers d)

-- 1 to 64 of them
abbrev pub is_few : ℕ → Bool
is_few n = nat_le 1 n && nat_le n 64

abbrev pub some_vectors : Option (List (ℤ × ℤ × ℤ)) → Result DirectionsValue Fault
some_vectors None = Err Outside
some_vectors (Some vs) = right (is_few (length vs)) (Vectors vs)

-- so many azimuths, or a list of lists of whole numbers that are such vectors
abbrev pub directions : Data → Result DirectionsValue Fault
directions d =
    or_form (as_integer d) (λ n. right (is_count n) (Azimuths (unsigned_abs n)))
    (of_kind (as_list_of as_integers d) (λ lists. some_vectors (as_list_of as_vector d)))

-- the same, where pairs of rows are asked for too
abbrev pub only_if : {V : Type 0} → Bool → Result V Fault → Result V Fault
only_if condition (Ok v) = right condition v
only_if condition (Err fault) = Err fault

abbrev pub directions_with : Bool → Data → Result DirectionsValue Fault
directions_with pairs d = only_if pairs (directions d)

-- a truth value, where what it speaks of is declared
abbrev pub truth_with : Bool → Data → Result Bool Fault
truth_with declared d = only_if declared (truth d)
