-- The reading of one file: from its bytes to what it gives.
use Rattle.std.proofs.Common.{◌≡◌, ◌<◌, ◌≤◌, ℕ, Bool, true, false, not, List, [], ◌∷◌, length}
use Rattle.std.proofs.Common.{Option, None, Some, IsSomeAnd, is_some, Result, Ok, Err, IfErr, is_ok}
use Rattle.std.proofs.Common.{inl, inr, refl, sym, ap, subst, arith}
use Rattle.std.specs.FinMap as map
use Rattle.std.specs.Option.{option_map}
use Rattle.outer_io.specs.Told.{Files, Told, ShelfState, files_of, lacks}
use Rattle.outer_io.specs.declared.slots.Slot.{Slot}
use Rattle.input_files.specs.Reading.{Text, Gives, GivesOrEnds, GivesWithin, ReadsFile, Named}
use Rattle.input_files.specs.Reading.{MayBreak}
use Rattle.input_files.specs.Reading.{NeverBreaks, IsCounted, Found, Settles, IsSameAnswer, file_in}
use Rattle.input_files.specs.Reading.{limit_of}
use Rattle.input_files.specs.Reading.{IsOfReading, OnlyReads, Opens, Touches, valued}
use Rattle.input_files.specs.Roles.{slot_of}
use Rattle.input_files.specs.Statuses.{status_of}
use Rattle.input_files.specs.Unread.{HasFile, IsTold, IsUnread}
use Rattle.input_files.specs.declared.limits.Limits.{Limits}
use Rattle.input_files.specs.declared.notice.Notice.{Notice}
use Rattle.input_files.specs.declared.notice.Notice.TheVariants as notice
use Rattle.input_files.specs.declared.role.Role.{Role}

-- ---- the slot

opens_one : (of : Slot) (name : List ℕ) (all : Bool) (a b : ShelfState)
    → Touches of name a b → Opens ((of, name) ∷ []) all a.openings b.openings
opens_one of name true a b t = (t.openings.0, t.openings.1, inr (refl, t.openings.2))
opens_one of name false a b t = (t.openings.0, t.openings.1, inl (refl, t.openings.2))

pub only_one : {V : Type 0} (of to : Role) (name : List ℕ) (a b : ShelfState)
    (r : Result V Notice) → of ≡ to → Touches (slot_of of) name a b → IfErr r IsOfReading
    → OnlyReads ((slot_of to, name) ∷ []) a b r
only_one {V} of to name a b r e t ends =
    subst (λ (s : Role). OnlyReads {V = V} ((slot_of s, name) ∷ []) a b r) e
    (record {
      untouched = record {
        leaves = t.leaves;
        openings = opens_one (slot_of of) name (is_ok r) a b t;
        write_faults = t.write_faults;
      };
      ends = ends;
      later = t.later;
    })

pub unread_ends : (of : Role) (limit : ℕ) (n : Notice) → IsUnread of limit n → IsOfReading n
unread_ends of limit n (inl m) = inr (inr (ap status_of m))
unread_ends of limit n (inr (inl m)) = inr (inl (ap status_of m))
unread_ends of limit n (inr (inr m)) = inl (ap status_of m)

module _ {V : Type 0} (text : Text V) where
  text_ends_at : (bytes : List ℕ) (n : Notice) → GivesOrEnds text bytes (Err n) → IsOfReading n
  text_ends_at bytes n (inl e) = let m : n ≡ notice.NoMemory = cc in inr (inr (ap status_of m))
  text_ends_at bytes n (inr given) = inl given.0

  pub text_ends : (bytes : List ℕ) (r : Result V Notice)
      → GivesOrEnds text bytes (valued text.value r) → IfErr r IsOfReading
  text_ends bytes (Ok v) gives = tt
  text_ends bytes (Err n) gives = text_ends_at bytes n gives

  module _ (limit : ℕ) (name : List ℕ) where
    abbrev Here : Option Told → Option (Option (List ℕ))
    Here told = file_in (option_map (λ t. t.files) told) name

    -- ---- what was read

    unread_told : (a b : ShelfState) (reliable : Option (List ℕ) → Type 0)
        (file : Option (List ℕ)) (n : Notice) → IsUnread text.role limit n
        → (n ≡ notice.TooLong text.role limit → IsSomeAnd file (λ bytes. limit < length bytes))
        → (not (is_some file) ≡ true → n ≡ notice.ReadFault text.role)
        → (n ≡ notice.ReadFault text.role → not (is_some file) ≡ false → IsCounted a b reliable)
        → ReadsFile text limit (MayBreak a b reliable) (Some file) (Err n)
    unread_told a b reliable None n unread long missing fault =
        inl (ap Err (missing refl))
    unread_told a b reliable (Some bytes) n (inl m) long missing fault = inr (n, refl, tt, inl m)
    unread_told a b reliable (Some bytes) n (inr (inl m)) long missing fault =
        inr (n, refl, tt, inr (m, fault m refl))
    unread_told a b reliable (Some bytes) n (inr (inr m)) long missing fault =
        inl (inr (long m, ap Err m))

    unread_reads : (a b : ShelfState) (reliable : Option (List ℕ) → Type 0)
        (told : Option Told) (n : Notice) → IsUnread text.role limit n
        → (n ≡ notice.TooLong text.role limit → IsTold told name (λ bytes. limit < length bytes))
        → (lacks told name ≡ true → n ≡ notice.ReadFault text.role)
        → (n ≡ notice.ReadFault text.role → lacks told name ≡ false → IsCounted a b reliable)
        → ReadsFile text limit (MayBreak a b reliable) (Here told) (Err n)
    unread_reads a b reliable (Some t) n unread long missing fault =
        unread_told a b reliable (map.get t.files name) n unread long missing fault
    unread_reads a b reliable None n (inl m) long missing fault = inr (n, refl, tt, inl m)
    unread_reads a b reliable None n (inr (inl m)) long missing fault =
        inr (n, refl, tt, inr (m, fault m refl))
    unread_reads a b reliable None n (inr (inr m)) long missing fault = inl (ap status_of m)

    text_told : (a b : ShelfState) (reliable : Option (List ℕ) → Type 0) (file : Option (List ℕ))
        (all : List ℕ) (r : Result text.Value Notice) → IsSomeAnd file (λ bytes. all ≡ bytes)
        → length all ≤ limit → GivesOrEnds text all r
        → ReadsFile text limit (MayBreak a b reliable) (Some file) r
    text_told a b reliable None all r has within gives = absurd has
    text_told a b reliable (Some bytes) all r has within (inl m) =
        inr (notice.NoMemory, m, tt, inl refl)
    text_told a b reliable (Some bytes) all r has within (inr given) =
        inl (subst (λ (bs : List ℕ). GivesWithin text limit bs r) has (inl (within, given)))

    text_untold : (a b : ShelfState) (reliable : Option (List ℕ) → Type 0) (all : List ℕ)
        (r : Result text.Value Notice) → GivesOrEnds text all r
        → ReadsFile text limit (MayBreak a b reliable) None r
    text_untold a b reliable all r (inl m) = inr (notice.NoMemory, m, tt, inl refl)
    text_untold a b reliable all (Ok w) (inr given) = inl tt
    text_untold a b reliable all (Err n) (inr given) = inl given.0

    text_reads : (a b : ShelfState) (reliable : Option (List ℕ) → Type 0) (told : Option Told)
        (all : List ℕ) (r : Result text.Value Notice) → IsTold told name (λ bytes. all ≡ bytes)
        → length all ≤ limit → GivesOrEnds text all r
        → ReadsFile text limit (MayBreak a b reliable) (Here told) r
    text_reads a b reliable None all r has within gives = text_untold a b reliable all r gives
    text_reads a b reliable (Some t) all r has within gives =
        text_told a b reliable (map.get t.files name) all r has within gives

    -- ---- what told files give is read

    long_is : (bytes : List ℕ) (n : Notice) (other : Result text.Value Notice)
        → limit < length bytes → n ≡ notice.TooLong text.role limit
        → ReadsFile text limit NeverBreaks (Some (Some bytes)) other → Settles (Err n) other
    long_is bytes n other long m (inl (inl (within, given))) = absurd (omega arith)
    long_is bytes n other long m (inl (inr (le, is))) =
        inr (subst (λ (o : Result text.Value Notice). IsSameAnswer (Err n) o) (sym is)
        (ap status_of m))
    long_is bytes n other long m (inr (k, is, there, breaks)) = absurd breaks

    unread_settles : (file : Option (List ℕ)) (n : Notice) (other : Result text.Value Notice)
        → IsUnread text.role limit n
        → (n ≡ notice.TooLong text.role limit → IsSomeAnd file (λ bytes. limit < length bytes))
        → ReadsFile text limit NeverBreaks (Some file) other → Settles (Err n) other
    unread_settles file n other (inl m) long reads = inl (inr (inr (ap status_of m)))
    unread_settles file n other (inr (inl m)) long reads = inl (inl (ap status_of m))
    unread_settles None n other (inr (inr m)) long reads = absurd (long m)
    unread_settles (Some bytes) n other (inr (inr m)) long reads =
        long_is bytes n other (long m) m reads

    unread_same : (told : Option Told) (files : Files) (n : Notice)
        (other : Result text.Value Notice) → option_map (λ t. t.files) told ≡ Some files
        → IsUnread text.role limit n
        → (n ≡ notice.TooLong text.role limit → IsTold told name (λ bytes. limit < length bytes))
        → ReadsFile text limit NeverBreaks (Here told) other → Settles (Err n) other
    unread_same None files n other is unread long reads = cc
    unread_same (Some t) files n other is unread long reads =
        unread_settles (map.get t.files name) n other unread long reads

    text_settles : (file : Option (List ℕ)) (all : List ℕ) (r other : Result text.Value Notice)
        → IsSomeAnd file (λ bytes. all ≡ bytes) → length all ≤ limit
        → ((o : Result text.Value Notice) → Gives text all o → Settles r o)
        → ReadsFile text limit NeverBreaks (Some file) other → Settles r other
    text_settles None all r other has within same reads = absurd has
    text_settles (Some bytes) all r other has within same (inl (inl (le, given))) =
        same other (subst (λ (bs : List ℕ). Gives text bs other) (sym has) given)
    text_settles (Some bytes) all r other has within same (inl (inr (long, is))) =
        let e : length all ≡ length bytes = ap length has in absurd (omega arith)
    text_settles (Some bytes) all r other has within same (inr (k, is, there, breaks)) =
        absurd breaks

    text_same : (told : Option Told) (files : Files) (all : List ℕ)
        (r other : Result text.Value Notice) → option_map (λ t. t.files) told ≡ Some files
        → IsTold told name (λ bytes. all ≡ bytes) → length all ≤ limit
        → ((o : Result text.Value Notice) → Gives text all o → Settles r o)
        → ReadsFile text limit NeverBreaks (Here told) other → Settles r other
    text_same None files all r other is has within same reads = cc
    text_same (Some t) files all r other is has within same reads =
        text_settles (map.get t.files name) all r other has within same reads

-- ---- both

module _ {V : Type 0} (limits : Limits) (text : Text V) (name : List ℕ) (a b : ShelfState)
    (reliable : Option (List ℕ) → Type 0) where
  -- why the bytes weren't read
  pub record IsUnreadAt (of : Role) (n : Notice) : Type 0 where
    pub unread : IsUnread of (limit_of limits of) n
    pub long : n ≡ notice.TooLong of (limit_of limits of)
        → HasFile a name (λ bytes. limit_of limits of < length bytes)
    pub missing : lacks a.told name ≡ true → n ≡ notice.ReadFault of
    pub fault : n ≡ notice.ReadFault of → lacks a.told name ≡ false → IsCounted a b reliable

  there : (files : Files) (other : Result text.Value Notice) → files_of a ≡ Some files
      → Named limits text name NeverBreaks (Some files) other
      → Named limits text name NeverBreaks (files_of a) other
  there files other is reads =
      subst (λ (fs : Option Files). Named limits text name NeverBreaks fs other) (sym is) reads

  pub found_unread : (of : Role) (n : Notice) → of ≡ text.role → IsUnreadAt of n
      → Found (Named limits text name) a b reliable (Err n)
  found_unread of n e at_slot =
      let u = subst (λ (s : Role). IsUnreadAt s n) e at_slot in
      let limit = limit_of limits text.role in
      record {
        reads =
            unread_reads text limit name a b reliable a.told n u.unread u.long u.missing u.fault;
        same = λ told other is reads. unread_same text limit name a.told told n other is u.unread
            u.long (there told other is reads);
      }

  pub found_text : (of : Role) (all : List ℕ) (r : Result text.Value Notice) → of ≡ text.role
      → HasFile a name (λ bytes. all ≡ bytes) → length all ≤ limit_of limits of
      → GivesOrEnds text all r → ((o : Result text.Value Notice) → Gives text all o → Settles r o)
      → Found (Named limits text name) a b reliable r
  found_text of all r e has within gives same =
      let limit = limit_of limits text.role in
      let fits = subst (λ (s : Role). length all ≤ limit_of limits s) e within in
      record {
        reads = text_reads text limit name a b reliable a.told all r has fits gives;
        same = λ told other is reads. text_same text limit name a.told told all r other is has fits
            same (there told other is reads);
      }
