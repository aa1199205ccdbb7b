-- Readings one behind another.
use Rattle.std.proofs.Common.{◌≡◌, ◌⊎◌, ◌≤◌, ℕ, Bool, true, false, List, [], ◌∷◌, ◌++◌}
use Rattle.std.proofs.Common.{Option, Some, Result, Ok, Err, is_ok, inl, inr, refl, sym, subst, ◌∙◌}
use Rattle.std.proofs.Common.{arith}
use Rattle.outer_io.specs.Causes.{Rose}
use Rattle.outer_io.specs.Told.{Files, Openings, ShelfState, files_of}
use Rattle.input_files.specs.Reading.{Text, Named, Breaks, MayBreak, NeverBreaks, Reading}
use Rattle.input_files.specs.Reading.{Then, Returns, Found, Settles, IsSameAnswer, OnlyReads, Opens}
use Rattle.input_files.specs.Reading.{NamedSlots, LeavesFiles}
use Rattle.input_files.specs.declared.limits.Limits.{Limits}
use Rattle.input_files.specs.declared.notice.Notice.{Notice}
use Rattle.input_files.specs.declared.role.Role.{Role}

-- ---- what may break a reading off

-- What is read where one thing may break it off is read where another may that comes where the one
-- does; a value is read whatever may; and where none is, nothing broke it off, or such a thing did.
pub record IsFair {V : Type 0} (reading : Reading V) : Type 1 where
  pub wider : (less more : Breaks) → ((of : Role) (n : Notice) → less of n → more of n)
      → (files : Option Files) (r : Result V Notice) → reading less files r → reading more files r
  pub value : (less more : Breaks) (files : Option Files) (v : V)
      → reading less files (Ok v) → reading more files (Ok v)
  pub ends : (breaks : Breaks) (files : Option Files) (n : Notice) → reading breaks files (Err n)
      → reading NeverBreaks files (Err n) ⊎ ((of : Role) × breaks of n)

module _ {V : Type 0} (limits : Limits) (text : Text V) (name : List ℕ) where
  named_wider : (less more : Breaks) → ((of : Role) (n : Notice) → less of n → more of n)
      → (files : Option Files) (r : Result text.Value Notice)
      → Named limits text name less files r → Named limits text name more files r
  named_wider less more wider files r (inl given) = inl given
  named_wider less more wider files r (inr (n, is, there, breaks)) =
      inr (n, is, there, wider text.role n breaks)

  named_value : (less more : Breaks) (files : Option Files) (w : text.Value)
      → Named limits text name less files (Ok w) → Named limits text name more files (Ok w)
  named_value less more files w (inl given) = inl given
  named_value less more files w (inr (n, is, there, breaks)) = cc

  named_ends : (breaks : Breaks) (files : Option Files) (n : Notice)
      → Named limits text name breaks files (Err n)
      → Named limits text name NeverBreaks files (Err n) ⊎ ((of : Role) × breaks of n)
  named_ends breaks files n (inl given) = inl (inl given)
  named_ends breaks files n (inr (k, is, there, broken)) =
      let same : k ≡ n = cc in
      inr (text.role, subst (λ (m : Notice). breaks text.role m) same broken)

  pub named_fair : IsFair (Named limits text name)
  named_fair = record { wider = named_wider; value = named_value; ends = named_ends }

module _ {V W : Type 0} (first : Reading V) (later : V → Reading W) (fair : IsFair first)
    (fair_later : (v : V) → IsFair (later v)) where
  then_wider : (less more : Breaks) → ((of : Role) (n : Notice) → less of n → more of n)
      → (files : Option Files) (r : Result W Notice)
      → Then first later less files r → Then first later more files r
  then_wider less more wider files r (inl (v, is, behind)) =
      inl (
        v,
        fair.wider less more wider files (Ok v) is,
        (fair_later v).wider less more wider files r behind,
      )
  then_wider less more wider files r (inr (n, is, ends)) =
      inr (n, fair.wider less more wider files (Err n) is, ends)

  then_value : (less more : Breaks) (files : Option Files) (w : W)
      → Then first later less files (Ok w) → Then first later more files (Ok w)
  then_value less more files w (inl (v, is, behind)) =
      inl (v, fair.value less more files v is, (fair_later v).value less more files w behind)
  then_value less more files w (inr (n, is, ends)) = cc

  then_ends : (breaks : Breaks) (files : Option Files) (n : Notice)
      → Then first later breaks files (Err n)
      → Then first later NeverBreaks files (Err n) ⊎ ((of : Role) × breaks of n)
  then_ends breaks files n (inl (v, is, behind)) =
      elim ((fair_later v).ends breaks files n behind) [
        | inl given ↦ inl (inl (v, fair.value breaks NeverBreaks files v is, given))
        | inr broken ↦ inr broken
      ]
  then_ends breaks files n (inr (k, is, ends)) =
      let same : k ≡ n = cc in
      elim (fair.ends breaks files k is) [
        | inl given ↦ inl (inr (k, given, ends))
        | inr broken ↦ inr (broken.0, subst (λ (m : Notice). breaks broken.0 m) same broken.1)
      ]

  pub then_fair : IsFair (Then first later)
  then_fair = record { wider = then_wider; value = then_value; ends = then_ends }

pub return_fair : {V : Type 0} (v : V) → IsFair (Returns v)
return_fair v = record {
  wider = λ less more wider files r is. is;
  value = λ less more files w is. is;
  ends = λ breaks files n is. absurd (let e : Err n ≡ Ok v = is in cc);
}

-- what broke off a later reading did so since the one before
breaks_behind : (a b c : ShelfState) (is : Option (List ℕ) → Type 0)
    → a.read_faults ≤ b.read_faults
    → (of : Role) (n : Notice) → MayBreak b c is of n → MayBreak a c is of n
breaks_behind a b c is later of n (inl m) = inl m
breaks_behind a b c is later of n (inr (m, counted)) =
    let e : Rose b.read_faults c.read_faults = counted.rose in
    inr (m, record { rose = omega arith; unreliable = counted.unreliable })

-- ---- what is the same

module _ {V W : Type 0} (first : Reading V) (later : V → Reading W) (told : Files) where
  abbrev Settled : {X : Type 0} → Reading X → Result X Notice → Type 0
  Settled {X} reading r = (o : Result X Notice) → reading NeverBreaks (Some told) o → Settles r o

  settles_err : (n : Notice) → Settled first (Err n) → Settled (Then first later) (Err n)
  settles_err n settled other (inl (v, is, behind)) = elim (settled (Ok v) is) [
    | inl broken ↦ inl broken
    | inr none ↦ absurd none
  ]
  settles_err n settled other (inr (e, is, ends)) = elim (settled (Err e) is) [
    | inl broken ↦ inl broken
    | inr same ↦ inr (subst (λ (o : Result W Notice). IsSameAnswer (Err n) o) (sym ends) same)
  ]

  settles_then : (v : V) (r : Result W Notice) → Settled first (Ok v) → Settled (later v) r
      → Settled (Then first later) r
  settles_then v r settled behind other (inl (w, is, more)) = elim (settled (Ok w) is) [
    | inl none ↦ absurd none
    | inr same ↦ behind other
        (subst (λ (x : V). later x NeverBreaks (Some told) other) (sym same) more)
  ]
  settles_then v r settled behind other (inr (e, is, ends)) = elim (settled (Err e) is) [
    | inl none ↦ absurd none
    | inr none ↦ absurd none
  ]

-- ---- what was found

module _ {V W : Type 0} (first : Reading V) (later : V → Reading W) where
  pub found_err : (a b : ShelfState) (reliable : Option (List ℕ) → Type 0) (n : Notice)
      → Found first a b reliable (Err n) → Found (Then first later) a b reliable (Err n)
  found_err a b reliable n found = record {
    reads = inr (n, found.reads, refl);
    same = λ told other is. settles_err first later told n (λ o. found.same told o is) other;
  }

  module _ (fair : IsFair first) (fair_later : (v : V) → IsFair (later v)) where
    pub found_then : {X : Type 0} (xs : NamedSlots) (a b c : ShelfState)
        (ra rb : Option (List ℕ) → Type 0) (x : Result X Notice) (v : V) (r : Result W Notice)
        → OnlyReads xs a b x → Found first a b ra (Ok v) → Found (later v) b c rb r
        → Found (Then first later) a c rb r
    found_then xs a b c ra rb x v r here found more =
        let files = here.untouched.leaves.files in
        record {
          reads = inl (
            v,
            fair.value (MayBreak a b ra) (MayBreak a c rb) (files_of a) v found.reads,
            (fair_later v).wider (MayBreak b c rb) (MayBreak a c rb)
                (breaks_behind a b c rb here.later) (files_of a) r
                (subst (λ (fs : Option Files). later v (MayBreak b c rb) fs r) files more.reads),
          );
          same = λ told other is. settles_then first later told v r
              (λ o. found.same told o is) (λ o. more.same told o (files ∙ is)) other;
        }

-- a value is found whatever comes behind
pub found_value : {V : Type 0} (reading : Reading V) (a b c : ShelfState)
    (ra rb : Option (List ℕ) → Type 0) (v : V) → IsFair reading
    → Found reading a b ra (Ok v) → Found reading a c rb (Ok v)
found_value reading a b c ra rb v fair found = record {
  reads = fair.value (MayBreak a b ra) (MayBreak a c rb) (files_of a) v found.reads;
  same = found.same;
}

pub found_return : {V : Type 0} (v : V) (a b : ShelfState) (reliable : Option (List ℕ) → Type 0)
    → Found (Returns v) a b reliable (Ok v)
found_return v a b reliable = record {
  reads = refl;
  same = λ told other is e. inr (subst (λ (o : Result _ Notice). IsSameAnswer (Ok v) o) (sym e)
      refl);
}

-- ---- the slots

opens_front : (xs ys : NamedSlots) (a b : Openings) → Opens xs false a b
    → Opens (xs ++ ys) false a b
opens_front [] ys a b opens = let e : false ≡ true = opens.0 in cc
opens_front ((of, name) ∷ xs) ys a b (phase, reads, inl last) = (phase, reads, inl last)
opens_front ((of, name) ∷ xs) ys a b (phase, reads, inr more) =
    (phase, reads, inr (opens_front xs ys _ b more))

opens_then : (xs ys : NamedSlots) (all : Bool) (a b c : Openings) → Opens xs true a b
    → Opens ys all b c → Opens (xs ++ ys) all a c
opens_then [] ys all a b c (e, is) behind = subst (λ (p : Openings). Opens ys all p c) is behind
opens_then ((of, name) ∷ xs) ys all a b c (phase, reads, inl last) behind =
    let e : true ≡ false = last.0 in cc
opens_then ((of, name) ∷ xs) ys all a b c (phase, reads, inr more) behind =
    (phase, reads, inr (opens_then xs ys all _ b c more behind))

leaves_then : (a b c : ShelfState) → LeavesFiles a b → LeavesFiles b c → LeavesFiles a c
leaves_then a b c here behind =
    record {
      files = behind.files ∙ here.files;
      written = behind.written ∙ here.written;
      terms = behind.terms ∙ here.terms;
    }

pub only_err : {V W : Type 0} (xs ys : NamedSlots) (a b : ShelfState) (n : Notice)
    → OnlyReads {V = V} xs a b (Err n) → OnlyReads {V = W} (xs ++ ys) a b (Err n)
only_err xs ys a b n only = record {
  untouched = record {
    leaves = only.untouched.leaves;
    openings = opens_front xs ys a.openings b.openings only.untouched.openings;
    write_faults = only.untouched.write_faults;
  };
  ends = only.ends;
  later = only.later;
}

pub only_then : {V W : Type 0} (xs ys : NamedSlots) (a b c : ShelfState) (v : V)
    (r : Result W Notice) → OnlyReads xs a b (Ok v) → OnlyReads ys b c r
    → OnlyReads (xs ++ ys) a c r
only_then xs ys a b c v r here behind = record {
  untouched = record {
    leaves = leaves_then a b c here.untouched.leaves behind.untouched.leaves;
    openings = opens_then xs ys (is_ok r) a.openings b.openings c.openings here.untouched.openings
        behind.untouched.openings;
    write_faults = behind.untouched.write_faults ∙ here.untouched.write_faults;
  };
  ends = behind.ends;
  later = omega (arith, here.later, behind.later);
}

-- another value in the place of the one that was read
pub only_as : {V W : Type 0} (xs : NamedSlots) (a b : ShelfState) (v : V) (w : W)
    → OnlyReads xs a b (Ok v) → OnlyReads xs a b (Ok w)
only_as xs a b v w only = record {
  untouched = only.untouched;
  ends = tt;
  later = only.later;
}

-- of another value, which wasn't read either
pub only_err_as : {V W : Type 0} (xs : NamedSlots) (a b : ShelfState) (n : Notice)
    → OnlyReads {V = V} xs a b (Err n) → OnlyReads {V = W} xs a b (Err n)
only_err_as xs a b n only = record {
  untouched = only.untouched;
  ends = only.ends;
  later = only.later;
}

-- nothing was read
pub only_nothing : {V : Type 0} (a : ShelfState) (v : V) → OnlyReads [] a a (Ok v)
only_nothing a v = record {
  untouched = record {
    leaves = record { files = refl; written = refl; terms = refl };
    openings = (refl, refl);
    write_faults = refl;
  };
  ends = tt;
  later = omega arith;
}
