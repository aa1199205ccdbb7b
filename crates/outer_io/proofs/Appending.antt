-- A piece that goes out in several writes.
use Rattle.std.proofs.Common.{◌≡◌, ℕ, ◌+◌, ◌-◌, List, [], ◌∷◌, ◌++◌, length, take, drop, Option, None, Some, refl, sym, ap, ◌∙◌, append_assoc, append-nil, arith, cond, Bool, true, false, length-append, unwrap_or}
use Rattle.std.proofs.Math.Seq.{take-add}
use Rattle.std.specs.Option.{option_map}
use Rattle.std.specs.Ordering.{nat_cmp, eq_by_cmp}
use Rattle.std.proofs.lemmas.Cmp.{nat_list_cmp_total, eq_by_cmp_equiv}
use Rattle.std.specs.Cmp.Lexicographic.{slice_cmp}
use Rattle.std.specs.FinMap as map
use Rattle.outer_io.specs.declared.slots.Slot.{Slot}
use Rattle.outer_io.specs.Slots.{at, put}
use Rattle.outer_io.proofs.SlotLemmas.{at-put, put-put}
use Rattle.outer_io.specs.Taken.{SinkTold, taking}
use Rattle.outer_io.specs.Told.{Files, Told, content, appended}
use Rattle.grid_model.proofs.ListLemmas.{all_dropped as rest_whole}

taking-nothing : (t : SinkTold) → t ≡ taking [] t
taking-nothing t = λ i. record t { bytes = sym (append-nil t.bytes) i }

pub taking-none : (a : Option SinkTold) → a ≡ option_map (taking []) a
taking-none None = refl
taking-none (Some t) = ap Some (taking-nothing t)

pub taking-twice : (a : Option SinkTold) (xs ys : List ℕ)
    → option_map (taking ys) (option_map (taking xs) a) ≡ option_map (taking (xs ++ ys)) a
taking-twice None xs ys = refl
taking-twice (Some t) xs ys = λ i. Some (record t { bytes = append_assoc t.bytes xs ys i })

-- the first bytes, and then the first of the rest
front_of_rest : (bytes : List ℕ) (done k : ℕ)
    → take done bytes ++ take k (drop done bytes) ≡ take (done + k) bytes
front_of_rest bytes done k = sym (take-add done k bytes)

pub taken-more : (a b c : Option SinkTold) (bytes : List ℕ) (done k : ℕ)
    → b ≡ option_map (taking (take done bytes)) a
    → c ≡ option_map (taking (take k (take (length bytes - done) (drop done bytes)))) b
    → c ≡ option_map (taking (take (done + k) bytes)) a
taken-more a b c bytes done k before then =
    then ∙ ap (λ p. option_map (taking (take k p)) b) (rest_whole bytes done) ∙ ap (λ o. option_map (taking (take k (drop done bytes))) o) before
    ∙ taking-twice a _ _ ∙ ap (λ p. option_map (taking p) a) (front_of_rest bytes done k)

-- ---- a shelf's file

shadowed : {X : Type 0} (b : Bool) (x y : X) (rest : X) → cond b y (cond b x rest) ≡ cond b y rest
shadowed true x y rest = refl
shadowed false x y rest = refl

pub same_key : (name : List ℕ) → eq_by_cmp (slice_cmp nat_cmp) name name ≡ true
same_key name = (eq_by_cmp_equiv nat_list_cmp_total).refl name

pub insert-insert : (files : Files) (name xs ys : List ℕ)
    → map.insert (map.insert files name xs) name ys ≡ map.insert files name ys
insert-insert files name xs ys = map.same_map nat_list_cmp_total (map.slice_cmp-IsAntisymmetric map.nat_cmp-IsAntisymmetric) _ _
    (λ q. map.get-insert nat_list_cmp_total _ name ys q
    ∙ ap (cond (eq_by_cmp (slice_cmp nat_cmp) q name) (Some ys)) (map.get-insert nat_list_cmp_total files name xs q)
    ∙ shadowed (eq_by_cmp (slice_cmp nat_cmp) q name) (Some xs) (Some ys) (map.get files q)
    ∙ sym (map.get-insert nat_list_cmp_total files name ys q))

pub content-insert : (files : Files) (name xs : List ℕ)
    → content (map.insert files name xs) name ≡ xs
content-insert files name xs =
    ap (λ o. unwrap_or o []) (map.get-insert nat_list_cmp_total files name xs name ∙ ap (λ b. cond b (Some xs) (map.get files name)) (same_key name))

-- two pieces, one after the other, are their sum
appended-append : (slot : Slot) (xs ys : List ℕ) (t : Told)
    → appended slot ys (appended slot xs t) ≡ appended slot (xs ++ ys) t
appended-append slot [] ys t = refl
appended-append slot (x ∷ xs) [] t = ap (λ l. appended slot l t) (sym (append-nil (x ∷ xs)))
appended-append slot (x ∷ xs) (y ∷ ys) t =
    let name = (at t.positions slot).name in
    let from = (at t.positions slot).from in
    let bytes : (content t.files name ++ x ∷ xs) ++ y ∷ ys ≡ content t.files name ++ x ∷ (xs ++ y ∷ ys) = append_assoc (content t.files name) (x ∷ xs) (y ∷ ys) in
    let positions : (from + length (x ∷ xs)) + length (y ∷ ys) ≡ from + length (x ∷ (xs ++ y ∷ ys)) = simp length-append (omega arith) in
    let written : (t.written + length (x ∷ xs)) + length (y ∷ ys) ≡ t.written + length (x ∷ (xs ++ y ∷ ys)) = simp length-append (omega arith) in
    let all : ◌≡◌ {A = Told}
    (record { files = map.insert t.files name ((content t.files name ++ x ∷ xs) ++ y ∷ ys); positions = put t.positions slot (record { name = name; from = (from + length (x ∷ xs)) + length (y ∷ ys) }); written = (t.written + length (x ∷ xs)) + length (y ∷ ys); terms = t.terms })
    (record { files = map.insert t.files name (content t.files name ++ x ∷ (xs ++ y ∷ ys)); positions = put t.positions slot (record { name = name; from = from + length (x ∷ (xs ++ y ∷ ys)) }); written = t.written + length (x ∷ (xs ++ y ∷ ys)); terms = t.terms }) =
    λ i. record { files = map.insert t.files name (bytes i); positions = put t.positions slot (record { name = name; from = positions i }); written = written i; terms = t.terms } in
    simp (at-put, put-put, content-insert, insert-insert) all

appended_by-append : (slot : Slot) (xs ys : List ℕ) (a : Option Told)
    → option_map (appended slot ys) (option_map (appended slot xs) a) ≡ option_map (appended slot (xs ++ ys)) a
appended_by-append slot xs ys None = refl
appended_by-append slot xs ys (Some t) = ap Some (appended-append slot xs ys t)

pub appended-twice : (slot : Slot) (xs ys : List ℕ) (a b c : Option Told)
    → b ≡ option_map (appended slot xs) a → c ≡ option_map (appended slot ys) b
    → c ≡ option_map (appended slot (xs ++ ys)) a
appended-twice slot xs ys a b c first second = second ∙ ap (option_map (appended slot ys)) first ∙ appended_by-append slot xs ys a

pub appended-none : (slot : Slot) (a : Option Told) → a ≡ option_map (appended slot []) a
appended-none slot None = refl
appended-none slot (Some t) = refl

pub appended-more : (slot : Slot) (a b c : Option Told) (bytes : List ℕ) (done k : ℕ)
    → b ≡ option_map (appended slot (take done bytes)) a
    → c ≡ option_map (appended slot (take k (take (length bytes - done) (drop done bytes)))) b
    → c ≡ option_map (appended slot (take (done + k) bytes)) a
appended-more slot a b c bytes done k before then =
    then ∙ ap (λ p. option_map (appended slot (take k p)) b) (rest_whole bytes done) ∙ ap (option_map (appended slot (take k (drop done bytes)))) before
    ∙ appended_by-append slot _ _ a ∙ ap (λ p. option_map (appended slot p) a) (front_of_rest bytes done k)
