-- Keys and their tests.
use Rattle.std.proofs.Common.{◌≡◌, ℕ, suc, ◌+◌, ◌-◌, ◌<◌, ℤ, codes, List, [], ◌∷◌, ◌++◌, Option, Some, None, is_some, Result, Ok, refl, sym, ap, ◌∙◌, arith, append_assoc, append-nil}
use Rattle.std.proofs.lemmas.Option.{none-some}
use Rattle.std.specs.Option.{option_map}
use Rattle.std.specs.List.{cons_option}
use Rattle.sat_model.specs.Relaxed.{ends}
use Rattle.gnss_model.specs.declared.satellites.Sat.{Sat}
use Rattle.grid_model.specs.declared.spans.Span.{Span}
use Rattle.toml.specs.Data.{Members, no_members}
use Rattle.error_bounds.specs.Faults.{Found}
use Rattle.error_bounds.specs.Forms.{errors}
use Rattle.error_bounds.specs.Keys.{Test, bound, value_of, printed, optional, optional_at, satellite, test_optional, own_tests, fault_in, first_found, first_or, sats_from}
use Rattle.error_bounds.specs.Reading.{Answers, AnswersOptional, RefusesTests, ends_in}
use Rattle.error_bounds.specs.Texts.{extra_of, own_extra}
use Rattle.error_bounds.specs.declared.fault.Fault.{Fault}
use Rattle.error_bounds.specs.declared.fault.SettingsError.{SettingsError}
use Rattle.error_bounds.specs.declared.fault.SettingsError.TheVariants.{Refused, NoMemory}

-- what is read at a key of `bounds`
pub bound_value : (name : List ℕ) (tree : Members) (s : Span)
    → Answers (λ d r. ends_in r ≡ errors 1000000 d) (codes "bounds") name tree (Ok s)
    → value_of (bound name) tree ≡ Ok (ends s)
bound_value name tree s answer = rw (answer.1) (sym answer.2)

-- what is read at a key of spans
pub span_value : (table name : List ℕ) (most : ℕ) (tree : Members) (s : Span)
    → Answers (λ d r. ends_in r ≡ errors most d) table name tree (Ok s)
    → value_of (record { table = table; name = name; form = errors most }) tree ≡ Ok (ends s)
span_value table name most tree s answer = rw (answer.1) (sym answer.2)

-- what is mapped is there where it is
-- the same of a span that may be absent
pub optional_span : (table name : List ℕ) (most : ℕ) (tree : Members) (o : Option Span)
    → AnswersOptional (λ d r. ends_in r ≡ errors most d) table name tree (Ok o)
    → optional_at (record { table = table; name = name; form = errors most }) tree ≡ Ok (option_map ends o)
optional_span table name most tree None none = rw none refl
optional_span table name most tree (Some s) (d, is, reads) = rw (is, sym reads) refl

-- where six tests find nothing, no fault is found
none_in : {V : Type 0} (r : Result V Fault) (v : V) → r ≡ Ok v → fault_in r ≡ None
none_in r v e = rw e refl

pub none_of_six : {V W : Type 0} (a b c d : Result V Fault) (e f : Result W Fault) (x y z w : V) (u v : W) (k l m n i j : List ℕ)
    → a ≡ Ok x → b ≡ Ok y → c ≡ Ok z → d ≡ Ok w → e ≡ Ok u → f ≡ Ok v
    → first_or (fault_in a) k (first_or (fault_in b) l (first_or (fault_in c) m (first_or (fault_in d) n (first_or (fault_in e) i (first_or (fault_in f) j None))))) ≡ None
none_of_six a b c d e f x y z w u v k l m n i j p q r s t o = rw (none_in a x p, none_in b y q, none_in c z r, none_in d w s, none_in e u t, none_in f v o) refl

pub some_mapped : {A B : Type 0} (f : A → B) (o : Option A) → is_some o ≡ is_some (option_map f o)
some_mapped f None = refl
some_mapped f (Some x) = refl

-- ---- tests one behind another

pub passed : (o : Option Fault) (key : List ℕ) (a : Option Found) → first_or o key a ≡ None
    → (o ≡ None) × (a ≡ None)
passed None key a h = (refl, h)
passed (Some fault) key a h = absurd (none-some _ (sym h))

pub found_behind : (a b : List Test) → first_found a ≡ None → first_found (a ++ b) ≡ first_found b
found_behind [] b h = refl
found_behind (t ∷ a) b h =
    let (here, later) = passed t.fault t.key (first_found a) h in
    rw here (found_behind a b later)

before_one : (o : Option Fault) (key : List ℕ) (a b : Option Found) (found : Found)
    → first_or o key a ≡ Some found → (a ≡ Some found → b ≡ Some found)
    → first_or o key b ≡ Some found
before_one None key a b found h f = f h
before_one (Some fault) key a b found h f = h

pub found_before : (a b : List Test) (found : Found) → first_found a ≡ Some found
    → first_found (a ++ b) ≡ Some found
found_before [] b found h = absurd (none-some _ h)
found_before (t ∷ a) b found h = before_one t.fault t.key (first_found a) (first_found (a ++ b)) found h (found_before a b found)

-- ---- the satellites of a system

pub sats_step : (system n : ℕ) → n < 100
    → sats_from system n ≡ record { system = system; number = n } ∷ sats_from system (n + 1)
unfolding sats_from
sats_step system n h =
    let more : 100 - n ≡ suc (100 - (n + 1)) = omega arith in
    rw more refl

pub sats_end : (system n : ℕ) → n ≡ 100 → sats_from system n ≡ []
unfolding sats_from
sats_end system n e = rw e refl

-- what a step over one satellite leaves
pub tests_step : (system n : ℕ) (table : Members) → n < 100
    → fault_in (optional (satellite (record { system = system; number = n })) table) ≡ None
    → first_found (own_tests table (sats_from system n)) ≡ first_found (own_tests table (sats_from system (n + 1)))
tests_step system n table h none = rw (sats_step system n h, none) refl

append_option : (o : Option (Sat × (ℤ × ℤ))) (old rest : List (Sat × (ℤ × ℤ)))
    → (old ++ cons_option o []) ++ rest ≡ old ++ cons_option o rest
append_option None old rest = rw (append-nil old) refl
append_option (Some e) old rest = append_assoc old (e ∷ []) rest

pub extra_step : (system n : ℕ) (table : Members) (old new all : List (Sat × (ℤ × ℤ))) → n < 100
    → new ≡ old ++ cons_option (extra_of (record { system = system; number = n }) (optional (satellite (record { system = system; number = n })) table)) []
    → old ++ own_extra table (sats_from system n) ≡ all
    → new ++ own_extra table (sats_from system (n + 1)) ≡ all
extra_step system n table old new all h added whole =
    let sat : Sat = record { system = system; number = n } in
    rw added (append_option (extra_of sat (optional (satellite sat) table)) old _ ∙ (rw (sats_step system n h) at whole))

pub refused_step : (system n : ℕ) (table : Members) (error : SettingsError) → n < 100
    → first_found (own_tests table (sats_from system n)) ≡ first_found (own_tests table (sats_from system 1))
    → RefusesTests (test_optional table (satellite (record { system = system; number = n })) ∷ []) error
    → RefusesTests (own_tests table (sats_from system 1)) error
refused_step system n table NoMemory h same refused = tt
refused_step system n table (Refused told) h same (found, here, tells) =
    let sat : Sat = record { system = system; number = n } in
    (found, sym same ∙ rw (sats_step system n h) (before_one (fault_in (optional (satellite sat) table)) (printed (satellite sat)) None _ found here (λ e. absurd (none-some _ e))), tells)

-- ---- systems one behind another

tests_joined : (table : Members) (a b : List Sat)
    → own_tests table (a ++ b) ≡ own_tests table a ++ own_tests table b
tests_joined table [] b = refl
tests_joined table (sat ∷ a) b = ap (λ (l : List Test). test_optional table (satellite sat) ∷ l) (tests_joined table a b)

one_joined : (o : Option (Sat × (ℤ × ℤ))) (all front rest : List (Sat × (ℤ × ℤ)))
    → all ≡ front ++ rest → cons_option o all ≡ cons_option o front ++ rest
one_joined None all front rest e = e
one_joined (Some first) all front rest e = ap (λ (l : List (Sat × (ℤ × ℤ))). first ∷ l) e

pub extra_joined : (table : Members) (a b : List Sat)
    → own_extra table (a ++ b) ≡ own_extra table a ++ own_extra table b
extra_joined table [] b = refl
extra_joined table (sat ∷ a) b =
    one_joined (extra_of sat (optional (satellite sat) table)) (own_extra table (a ++ b)) (own_extra table a) (own_extra table b) (extra_joined table a b)

pub none_joined : (table : Members) (a b : List Sat) → first_found (own_tests table a) ≡ None
    → first_found (own_tests table b) ≡ None → first_found (own_tests table (a ++ b)) ≡ None
none_joined table a b here later = rw (tests_joined table a b) (found_behind (own_tests table a) (own_tests table b) here ∙ later)

pub refused_before : (table : Members) (a b : List Sat) (error : SettingsError)
    → RefusesTests (own_tests table a) error → RefusesTests (own_tests table (a ++ b)) error
refused_before table a b NoMemory refused = tt
refused_before table a b (Refused told) (found, here, tells) = (found, rw (tests_joined table a b) (found_before (own_tests table a) (own_tests table b) found here), tells)

pub refused_behind : (table : Members) (a b : List Sat) (error : SettingsError)
    → first_found (own_tests table a) ≡ None → RefusesTests (own_tests table b) error
    → RefusesTests (own_tests table (a ++ b)) error
refused_behind table a b NoMemory none refused = tt
refused_behind table a b (Refused told) none (found, here, tells) =
    (found, rw (tests_joined table a b) (found_behind (own_tests table a) (own_tests table b) none ∙ here), tells)

-- ---- a text without the table of satellites

pub empty_tests : (sats : List Sat) → first_found (own_tests no_members sats) ≡ None
empty_tests [] = refl
empty_tests (sat ∷ more) = empty_tests more

pub empty_extra : (sats : List Sat) → own_extra no_members sats ≡ []
empty_extra [] = refl
empty_extra (sat ∷ more) = empty_extra more
