-- The forms over values as the code holds them.
use Rattle.std.proofs.Common.{◌≡◌, ℕ, ◌+◌, ◌*◌, ◌≤◌, ℤ, pos, negsuc, nat_abs, ◌≤ℤ◌, ◌*ℤ◌, Bool, true, List, [], ◌∷◌, length, get_or, is_some, suc, Option, Some, None, option_map, option_and_then, Result, Err, refl, sym, ap, ◌∙◌, ◌≢◌, arith}
use Rattle.std.proofs.lemmas.Bool.{and_parts, false≢true}
use Rattle.std.proofs.lemmas.Int.{ints}
use Rattle.std.proofs.lemmas.Bool.Decides.{nat_tests}
use Rattle.grid_model.specs.Amounts.{square}
use Rattle.grid_model.specs.Sizes.{IsWithin}
use Rattle.grid_model.specs.Squares.{sum_of_squares}
use Rattle.grid_model.proofs.ProductLemmas.{square_of_amount, swap4}
use Rattle.grid_model.proofs.RootLemmas.{square-mono}
use Rattle.toml.specs.Data.{Data}
use Rattle.toml.specs.View.{view, items_view}
use Rattle.toml.specs.declared.value.Value.{Value}
use Rattle.std.proofs.lemmas.Option.{same_Some, none-some}
use Rattle.error_bounds.specs.Forms.{all_members, of_kind, ends_of, three, codes_for, dual_codes, is_from, is_near_ground, um}
use Rattle.error_bounds.specs.declared.fault.Fault.{Fault}
use Rattle.error_bounds.specs.Sizes.{IsHalfSide, IsNearGround}
use Rattle.error_bounds.specs.declared.fault.Fault.TheVariants.{Outside}
use Rattle.error_bounds.specs.declared.signals.Mode.TheVariants as mode
use lib.Signed.{le_z}

pub same_pair : (a b c d : ℤ) → a ≡ c → b ≡ d → ◌≡◌ {A = ℤ × ℤ} (a, b) (c, d)
same_pair a b c d e f = cc

pub from_between : (lo hi n : ℤ) → is_from lo hi n ≡ true → (lo ≤ℤ n) × (n ≤ℤ hi)
from_between lo hi n h =
    let (low, high) = and_parts (le_z lo n) (le_z n hi) h in
    (omega (arith, ints, low), omega (arith, ints, high))

-- ---- lists whose members are all of one kind

pub members_long : {V : Type 0} (kind : Data → Option V) (vs : List Value) (ns : List V)
    → all_members kind (items_view vs) ≡ Some ns → length ns ≡ length vs
members_long kind [] ns h = rw (← same_Some _ _ h) refl
members_long {V} kind (v ∷ vs) ns h = longer (kind (view v)) (all_members kind (items_view vs)) ns h (members_long kind vs)
  where
    longer : (o : Option V) (more : Option (List V)) (ns : List V)
        → option_and_then (λ v. option_map (λ vs. v ∷ vs) more) o ≡ Some ns
        → ((ms : List V) → more ≡ Some ms → length ms ≡ length vs) → length ns ≡ suc (length vs)
    longer None more ns h ih = absurd (none-some ns h)
    longer (Some x) None ns h ih = absurd (none-some ns h)
    longer (Some x) (Some ms) ns h ih = rw (← same_Some _ _ h) (ap suc (ih ms refl))

-- a list of another length
pub others_outside : {V W : Type 0} (kind : Data → Option V) (form : List V → Result W Fault) (n : ℕ) (vs : List Value)
    → ((ns : List V) → (length ns ≢ n) → form ns ≡ Err Outside) → (length vs ≢ n)
    → true ≡ is_some (all_members kind (items_view vs))
    → Err Outside ≡ of_kind (all_members kind (items_view vs)) form
others_outside {V} {W} kind form n vs outside other there = by_members (all_members kind (items_view vs)) (members_long kind vs) there
  where
    by_members : (o : Option (List V)) → ((ns : List V) → o ≡ Some ns → length ns ≡ length vs)
        → true ≡ is_some o → Err Outside ≡ of_kind o form
    by_members None long there = absurd (false≢true (sym there))
    by_members (Some ns) long there = sym (outside ns (λ e. other (sym (long ns refl) ∙ e)))

pub not_two : (most : ℕ) (ns : List ℤ) → (length ns ≢ 2) → ends_of most ns ≡ Err Outside
not_two most [] other = refl
not_two most (x ∷ []) other = refl
not_two most (x ∷ y ∷ []) other = absurd (other refl)
not_two most (x ∷ y ∷ z ∷ ns) other = refl

pub not_three : (passes : ℤ → ℤ → ℤ → Bool) (ns : List ℤ) → (length ns ≢ 3) → three passes ns ≡ Err Outside
not_three passes [] other = refl
not_three passes (x ∷ []) other = refl
not_three passes (x ∷ y ∷ []) other = refl
not_three passes (x ∷ y ∷ z ∷ []) other = absurd (other refl)
not_three passes (x ∷ y ∷ z ∷ w ∷ ns) other = refl

pub not_one_code : (ns : List (List ℕ)) → (length ns ≢ 1) → codes_for mode.Single ns ≡ Err Outside
not_one_code [] other = refl
not_one_code (x ∷ []) other = absurd (other refl)
not_one_code (x ∷ y ∷ ns) other = refl

pub not_two_codes : (band : ℕ) (ns : List (List ℕ)) → (length ns ≢ 2)
    → dual_codes band ns ≡ Err Outside
not_two_codes band [] other = refl
not_two_codes band (x ∷ []) other = refl
not_two_codes band (x ∷ y ∷ []) other = absurd (other refl)
not_two_codes band (x ∷ y ∷ z ∷ ns) other = refl

pub two_members : {V : Type 0} (kind : Data → Option V) (vs : List Value) (a b : Value) (x y : V)
    → length vs ≡ 2 → a ≡ get_or vs 0 a → b ≡ get_or vs 1 b
    → kind (view a) ≡ Some x → kind (view b) ≡ Some y
    → all_members kind (items_view vs) ≡ Some (x ∷ y ∷ [])
two_members kind [] a b x y l ia ib fa fb = absurd (omega (arith, l))
two_members kind (u ∷ []) a b x y l ia ib fa fb = absurd (omega (arith, l))
two_members kind (u ∷ v ∷ []) a b x y l ia ib fa fb = rw (← ia, ← ib, fa, fb) refl
two_members kind (u ∷ v ∷ w ∷ vs) a b x y l ia ib fa fb = absurd (omega (arith, l))

-- ---- sizes

pub half_of : (n m : ℤ) → is_from (pos 1) (pos 100000000) n ≡ true → m ≡ n *ℤ pos 1000
    → IsHalfSide m
half_of n m h e =
    let (low, high) = from_between (pos 1) (pos 100000000) n h in
    record { low = omega (arith, ints, low, e); high = omega (arith, ints, high, e) }

pub coordinate_of : (n m : ℤ) → is_from (negsuc 8499999999) (pos 8500000000) n ≡ true
    → m ≡ n *ℤ pos 1000 → IsWithin 8500000000000 m
coordinate_of n m h e =
    let (low, high) = from_between (negsuc 8499999999) (pos 8500000000) n h in
    record { low = omega (arith, ints, low, e); high = omega (arith, ints, high, e) }

-- ---- near the ground

square_in_um : (x : ℤ) → um x *ℤ um x ≡ pos (nat_abs x * nat_abs x) *ℤ pos 1000000
square_in_um x = swap4 x x (pos 1000) (pos 1000) ∙ ap (λ s. s *ℤ pos 1000000) (square_of_amount x)

near_sum : (x y z : ℤ) → is_near_ground x y z ≡ true
    → sum_of_squares x y z ≤ 6600000000 * 6600000000
near_sum x y z h = grind (arith, nat_tests)

pub near_ground : (x y z : ℤ) → is_near_ground x y z ≡ true
    → IsNearGround (record { x = um x; y = um y; z = um z })
near_ground x y z h = omega (arith, ints, square_in_um x, square_in_um y, square_in_um z, near_sum x y z h)

one_side : (z : ℤ) (rest n : ℕ) → square (nat_abs z) + rest ≤ n * n → IsWithin n z
one_side z rest n h =
    let k : nat_abs z * nat_abs z ≤ n * n = omega (arith, h) in
    let l : nat_abs z ≤ n = grind (arith, square-mono (n + 1) (nat_abs z), k) in
    record { low = omega (arith, ints); high = omega (arith, ints) }

pub near_sides : (x y z : ℤ) → is_near_ground x y z ≡ true
    → IsWithin 6600000000 x × IsWithin 6600000000 y × IsWithin 6600000000 z
near_sides x y z h =
    let sum = near_sum x y z h in (
      one_side x (square (nat_abs y) + square (nat_abs z)) 6600000000 (omega (arith, sum)),
      one_side y (square (nat_abs x) + square (nat_abs z)) 6600000000 (omega (arith, sum)),
      one_side z (square (nat_abs x) + square (nat_abs y)) 6600000000 (omega (arith, sum)),
    )
