-- A text has one value or one first fault.
use Rattle.std.proofs.Common.{subst, ◌≡◌, Bool, ℕ, ℤ, List, [], Option, Result, Ok, Err, IfOk, IfErr, length, false, Ordering, Less, Equal, Greater, nat_cmp, is_eq, refl, sym, ap, ◌∙◌, inl, inr, arith, None, Some}
use Rattle.std.proofs.lemmas.Bool.{false≢true}
use Rattle.std.proofs.lemmas.Cmp.{nat_list_cmp_total}
use Rattle.std.proofs.lemmas.Map.Text.{is_eq-slice_cmp}
use Rattle.std.specs.Cmp.Lexicographic.{slice_cmp, bytes_decides}
use Rattle.std.specs.Ordering.{is_lt, ordering_reverse}
use Rattle.std.proofs.lemmas.Option.{same_Some, none-some}
use Rattle.std.specs.Result.{result_unwrap_or}
use Rattle.grid_model.specs.declared.boxes.Pos.{Pos}
use Rattle.gnss_model.specs.declared.satellites.Sat.{Sat}
use Rattle.gnss_model.specs.declared.satellites.Signal.{Signal}
use Rattle.gnss_model.specs.declared.systems.Message.{Message}
use Rattle.toml.specs.Data.{Members, get_member}
use Rattle.error_bounds.specs.Keys.{Key, mode_of, value_of, galileo_codes, station_place}
use Rattle.error_bounds.specs.Texts.{GalileoValue, StationValue, SettingsValue, IsGalileo, IsStation, IsValue, IsTree, IsSettings, IsFound, IsFirstFault, add}
use Rattle.error_bounds.specs.Faults.{Found}
use Rattle.error_bounds.specs.Forms.{DirectionsValue}
use Rattle.error_bounds.specs.Names.{unknown, IsFirstName}
use Rattle.error_bounds.specs.declared.fault.Fault.{Fault}
use Rattle.error_bounds.specs.declared.fault.Fault.TheVariants.{Missing}
use Rattle.error_bounds.specs.declared.fault.SettingsError.TheVariants.{Refused, NoMemory}
use Rattle.error_bounds.specs.Reading.{value_of_settings, GivesSettings, GivesFault, RefusesFirst}
use Rattle.error_bounds.specs.declared.settings.Centre.{Centre}
use Rattle.error_bounds.specs.declared.settings.Settings.{Settings}
use Rattle.error_bounds.specs.declared.fault.SettingsError.{SettingsError}

same_read : {A E : Type 0} (a b : A) (r : Result A E) → r ≡ Ok a → r ≡ Ok b → a ≡ b
same_read a b r e f = ap (λ x. result_unwrap_or x a) (sym e ∙ f)

same_sum : (a b c d a' b' c' d' : ℤ × ℤ) → a ≡ a' → b ≡ b' → c ≡ c' → d ≡ d'
    → add (add (add a b) c) d ≡ add (add (add a' b') c') d'
same_sum a b c d a' b' c' d' ea eb ec ed = rw (ea, eb, ec, ed) refl

same_fields : (c c' : Centre) (h h' : Pos) (o o' b b' : ℕ) (w w' : ℤ) (m m' : ℕ) (r r' d d' : Bool) (n n' : Option DirectionsValue) (s s' : Signal) (k k' : ℤ × ℤ) (x x' : List (Sat × (ℤ × ℤ))) (z z' u u' : Option (ℤ × ℤ)) (g g' : Option GalileoValue) (v v' : Option ℕ) (a a' : Bool) (t t' : Option StationValue)
    → c ≡ c' → h ≡ h' → o ≡ o' → b ≡ b' → w ≡ w' → m ≡ m' → r ≡ r' → d ≡ d' → n ≡ n' → s ≡ s' → k ≡ k'
    → x ≡ x' → z ≡ z' → u ≡ u' → g ≡ g' → v ≡ v' → a ≡ a' → t ≡ t'
    → ◌≡◌ {A = SettingsValue} (record { centre = c; half = h; outliers = o; bisections = b; width = w; max_age = m; renew = r; pairs = d; directions = n; signal = s; common = k; extra = x; zenith = z; vertical = u; galileo = g; speed = v; restart = a; station = t })
    (record { centre = c'; half = h'; outliers = o'; bisections = b'; width = w'; max_age = m'; renew = r'; pairs = d'; directions = n'; signal = s'; common = k'; extra = x'; zenith = z'; vertical = u'; galileo = g'; speed = v'; restart = a'; station = t' })
same_fields c c' h h' o o' b b' w w' m m' r r' d d' n n' s s' k k' x x' z z' u u' g g' v v' a a' t t' ec eh eo eb ew em er ed en es ek ex ez eu eg ev ea et = cc

none_read : {V : Type 0} (key : Key V) (tree : Members) (v : V) → get_member key.table tree ≡ None
    → value_of key tree ≡ Ok v → ⊥
none_read key tree v none is =
    let fault : value_of key tree ≡ Err Missing = rw none refl in
    cc

same_declared : (m n : Message) (s t : Signal) (a b : ℤ × ℤ) → m ≡ n → s ≡ t → a ≡ b
    → ◌≡◌ {A = Option GalileoValue} (Some (record { message = m; signal = s; offset = a })) (Some (record { message = n; signal = t; offset = b }))
same_declared m n s t a b d e f = rw (d, e, f) refl

same_galileo : (tree : Members) (v w : Option GalileoValue) → IsGalileo tree v → IsGalileo tree w
    → v ≡ w
same_galileo tree None None p q = refl
same_galileo tree None (Some w) p q = absurd (none_read (galileo_codes (mode_of tree) w.message) tree w.signal p q.1)
same_galileo tree (Some v) None p q = absurd (none_read (galileo_codes (mode_of tree) v.message) tree v.signal q p.1)
same_galileo tree (Some v) (Some w) p q =
    let message = same_read _ _ _ p.0 q.0 in
    let codes : value_of (galileo_codes (mode_of tree) w.message) tree ≡ Ok v.signal = subst (λ (m : Message). value_of (galileo_codes (mode_of tree) m) tree ≡ Ok v.signal) message p.1 in
    same_declared _ _ _ _ _ _ message (same_read _ _ _ codes q.1) (same_read _ _ _ p.2 q.2)

same_settled : (c d : Centre) (a b : ℕ) → c ≡ d → a ≡ b
    → ◌≡◌ {A = Option StationValue} (Some (record { place = c; age = a })) (Some (record { place = d; age = b }))
same_settled c d a b e f = rw (e, f) refl

same_station : (tree : Members) (v w : Option StationValue) → IsStation tree v → IsStation tree w
    → v ≡ w
same_station tree None None p q = refl
same_station tree None (Some w) p q = absurd (none_read station_place tree w.place p q.0)
same_station tree (Some v) None p q = absurd (none_read station_place tree v.place q p.0)
same_station tree (Some v) (Some w) p q = same_settled _ _ _ _ (same_read _ _ _ p.0 q.0) (same_read _ _ _ p.1 q.1)

pub one_value : (tree : Members) (v w : SettingsValue) → IsValue tree v → IsValue tree w → v ≡ w
one_value tree v w p q =
    same_fields v.centre w.centre v.half w.half v.outliers w.outliers v.bisections w.bisections v.width w.width v.max_age w.max_age v.renew w.renew v.pairs w.pairs v.directions w.directions v.signal w.signal v.common w.common v.extra w.extra v.zenith w.zenith v.vertical w.vertical v.galileo w.galileo v.speed w.speed v.restart w.restart v.station w.station
    (same_read _ _ _ p.centre q.centre) (same_read _ _ _ p.half q.half) (same_read _ _ _ p.outliers q.outliers) (same_read _ _ _ p.bisections q.bisections)
    (same_read _ _ _ p.width q.width) (same_read _ _ _ p.max_age q.max_age) (same_read _ _ _ p.renew q.renew) (same_read _ _ _ p.pairs q.pairs) (same_read _ _ _ p.directions q.directions) (same_read _ _ _ p.signal q.signal)
    (p.common ∙ (same_sum _ _ _ _ _ _ _ _ (same_read _ _ _ p.is_receiver q.is_receiver) (same_read _ _ _ p.is_orbit_clock q.is_orbit_clock)
    (same_read _ _ _ p.is_ionosphere q.is_ionosphere) (same_read _ _ _ p.is_troposphere q.is_troposphere) ∙ sym q.common))
    (p.extra ∙ sym q.extra) (same_read _ _ _ p.zenith q.zenith) (same_read _ _ _ p.vertical q.vertical) (same_galileo tree v.galileo w.galileo p.galileo q.galileo) (same_read _ _ _ p.speed q.speed) (same_read _ _ _ p.restart q.restart) (same_station tree v.station w.station p.station q.station)

one_tree : (text : List ℕ) (a b : Members) → IsTree text a → IsTree text b → a ≡ b
one_tree text a b p q = same_Some a b (sym p.parsed ∙ q.parsed)

pub one_settings : (text : List ℕ) (v w : SettingsValue) → IsSettings text v → IsSettings text w
    → v ≡ w
one_settings text v w p q =
    let same = one_tree text q.tree p.tree q.is_tree p.is_tree in
    one_value p.tree v w p.value (rw same at q.value)

-- ---- first faults

first_by : (o : Ordering) (a b : List ℕ) → o ≡ slice_cmp nat_cmp a b → is_lt o ≡ false
    → is_lt (ordering_reverse o) ≡ false → a ≡ b
first_by Less a b e ab ba = absurd (false≢true (sym ab))
first_by Greater a b e ab ba = absurd (false≢true (sym ba))
first_by Equal a b e ab ba = (bytes_decides a b).0 (sym (is_eq-slice_cmp a b) ∙ ap is_eq (sym e))

one_first : (names : List (List ℕ)) (a b : List ℕ) → IsFirstName names a → IsFirstName names b
    → a ≡ b
one_first names a b p q =
    let ba : is_lt (slice_cmp nat_cmp b a) ≡ false = rw q.among.2 at (p.first q.among.0 b q.among.1) in
    let ab : is_lt (slice_cmp nat_cmp a b) ≡ false = rw p.among.2 at (q.first p.among.0 a p.among.1) in
    first_by (slice_cmp nat_cmp a b) a b refl ab (rw (← nat_list_cmp_total.antisymm b a) ba)

none_first : (names : List (List ℕ)) (a : List ℕ) → names ≡ [] → IsFirstName names a → ⊥
none_first names a e p = absurd (omega (arith, p.among.1, ap length e))

same_found : (f g : Fault) (a b : List ℕ) → f ≡ g → a ≡ b
    → ◌≡◌ {A = Found} (record { fault = f; key = a }) (record { fault = g; key = b })
same_found f g a b d e = cc

one_found : (tree : Members) (a b : Found) → IsFound tree a → IsFound tree b → a ≡ b
one_found tree a b (inl p) (inl q) = same_Some a b (sym p ∙ q)
one_found tree a b (inl p) (inr q) = absurd (none-some a (sym q.0 ∙ p))
one_found tree a b (inr p) (inl q) = absurd (none-some b (sym p.0 ∙ q))
one_found tree a b (inr p) (inr q) = same_found a.fault b.fault a.key b.key (p.1 ∙ sym q.1) (one_first (unknown tree) a.key b.key p.2 q.2)

pub one_fault : (text : List ℕ) (a b : Found) → IsFirstFault text a → IsFirstFault text b → a ≡ b
one_fault text a b (inl p) (inl q) = p.1 ∙ sym q.1
one_fault text a b (inl p) (inr q) = absurd (none-some q.0 (sym (p.0 q.1.utf8) ∙ q.1.parsed))
one_fault text a b (inr p) (inl q) = absurd (none-some p.0 (sym (q.0 p.1.utf8) ∙ p.1.parsed))
one_fault text a b (inr p) (inr q) =
    let same = one_tree text q.0 p.0 q.1 p.1 in
    one_found p.0 a b p.2 (rw same at q.2)

pub not_both : (text : List ℕ) (v : SettingsValue) (found : Found) → IsSettings text v
    → IsFirstFault text found → ⊥
not_both text v found p (inl q) = none-some p.tree (sym (q.0 p.is_tree.utf8) ∙ p.is_tree.parsed)
not_both text v found p (inr q) = of_tree (rw (one_tree text q.0 p.tree q.1 p.is_tree) at q.2)
  where
    of_tree : IsFound p.tree found → ⊥
    of_tree (inl e) = none-some found (sym p.faultless ∙ e)
    of_tree (inr e) = none_first (unknown p.tree) found.key p.known e.2

pub gives_settings : (text : List ℕ) (v : SettingsValue) (r : Result Settings SettingsError)
    → IfOk r (λ s. IsSettings text (value_of_settings s)) → IfErr r (RefusesFirst text)
    → IsSettings text v → GivesSettings v r
gives_settings text v (Ok s) ok err is = one_settings text (value_of_settings s) v ok is
gives_settings text v (Err NoMemory) ok err is = refl
gives_settings text v (Err (Refused told)) ok err is = absurd (not_both text v err.0 is err.1)

pub gives_fault : (text : List ℕ) (found : Found) (r : Result Settings SettingsError)
    → IfOk r (λ s. IsSettings text (value_of_settings s)) → IfErr r (RefusesFirst text)
    → IsFirstFault text found → GivesFault found r
gives_fault text found (Ok s) ok err is = not_both text (value_of_settings s) found ok is
gives_fault text found (Err NoMemory) ok err is = tt
gives_fault text found (Err (Refused told)) ok err is = rw (one_fault text found err.0 is err.1) err.2
