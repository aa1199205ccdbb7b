-- A text tells the steps and the other lines that it is made of: each fitting line has one
-- spelling, which holds no LF.
use Rattle.std.proofs.Common.{◌≡◌, ◌≢◌, ℕ, zero, suc, ◌+◌, ◌*◌, ◌<◌, ◌≤◌, ◌^◌, ℤ, pos, negsuc, Bool, true, false, List, [], ◌∷◌, ◌++◌, length, drop, refl, sym, ap, ◌∙◌, lit<, arith}
use Rattle.std.specs.Prelude.{nat_eq}
use Rattle.std.specs.List.{AllByRecursion, AllByRecursion-prop, count_by}
use Rattle.std.specs.Coded.{×_prop, →_prop, Σ_prop, le_prop, Coded-set, coded_list, coded_ℕ, coded_bool}
use Rattle.std.specs.Fmt.{decimal, signed_decimal}
use Rattle.std.specs.Str.Parse.{AllDigits, digits_value}
use Rattle.std.proofs.lemmas.Fmt.{decimal_is_IsNumeral_wide}
use Rattle.std.proofs.lemmas.Str.Parse.{digit_from_value}
use Rattle.std.proofs.lemmas.Int.{ints}
use Rattle.std.proofs.lemmas.Bool.{eqb-true}
use Rattle.std.proofs.lemmas.List.{length-append}
use Rattle.std.proofs.Math.ListN.{get_or}
use mathlib.Core.HLevel.{is_prop→PathP}
use Rattle.grid_model.specs.Sizes.{IsWithin, IsBoxSize, IsClockSize}
use Rattle.grid_model.proofs.OrderLemmas.{le_prop as int_prop}
use Rattle.sat_model.specs.StepKinds.{is_kept_step}
use Rattle.sat_model.specs.declared.steps.Step.{Step}
use Rattle.sat_model.specs.declared.steps.Step.TheVariants.{Cut, Split, Outside, Inside, Edge}
use Rattle.log_tokens.specs.Words.{words, joined}
use Rattle.log_tokens.specs.Fields.{IsCountFromTo}
use Rattle.log_tokens.proofs.JoinedLemmas.{HasNoBlank, words-joined}
use Rattle.log_tokens.proofs.NumberLemmas.{one_number}
use Rattle.step_lines.specs.declared.names.StepName.{StepName}
use Rattle.step_lines.specs.declared.names.StepName.TheVariants as name
use Rattle.step_lines.specs.Lines.{step_words, IsId, StepFits, name_word, step_name, line_words, step_text}
use Rattle.step_lines.specs.Texts.{AnyLine, OfStep, Other, bytes_in, HasNoEnd, is_renewing, AnyFits, text_of, told_steps, AreLines, AreMany, AreCounted}

-- each byte is above the blank
abbrev pub IsWord : List ℕ → Type 0
IsWord word = AllByRecursion (λ byte. 32 < byte) word

abbrev pub AreWords : List (List ℕ) → Type 0
AreWords ws = AllByRecursion IsWord ws

-- ---- numbers

digits_word : (ds : List ℕ) → AllDigits 10 ds → IsWord ds
digits_word [] digits = tt
digits_word (d ∷ ds) digits =
    let range = digit_from_value d digits.0 in
    (omega (arith, range.0), digits_word ds digits.1)

pub decimal_word : (n : ℕ) → n < 10 ^ 64 → IsWord (decimal n)
decimal_word n small = digits_word (decimal n) (decimal_is_IsNumeral_wide n small).0.1

-- a number within a bound of at most 64 digits
pub within_word : (bound : ℕ) (z : ℤ) → bound < 10 ^ 64 → IsWithin bound z
    → IsWord (signed_decimal z)
within_word bound (pos n) small within = decimal_word n (omega (arith, ints, within.high))
within_word zero (negsuc n) small within = absurd (omega (arith, ints, within.low))
within_word (suc bound) (negsuc n) small within =
    (lit< tt, decimal_word (suc n) (omega (arith, ints, within.low)))

-- a count of at most 64 digits
pub count_word : (high n : ℕ) → high < 10 ^ 64 → n ≤ high → IsWord (decimal n)
count_word high n small le = decimal_word n (omega arith)

-- ---- fields

clock_word : (z : ℤ) → IsClockSize z → IsWord (signed_decimal z)
clock_word z within = within_word 200000000000000 z (lit< tt) within

id_word : (id : ℕ) → IsId id → IsWord (decimal id)
id_word id fits = count_word 400000 id (lit< tt) fits.1

pub step_are : (s : Step) → StepFits s → AreWords (step_words s)
step_are (Cut id face bound) fits =
    let at = within_word 10000000000000 bound (lit< tt) fits.2 in
    (id_word id fits.0, (count_word 5 face (lit< tt) fits.1.1, (at, tt)))
step_are (Split id axis) fits = (id_word id fits.0, (count_word 2 axis (lit< tt) fits.1.1, tt))
step_are (Outside id) fits = (id_word id fits, tt)
step_are (Inside id clock lo hi) fits = (
  id_word id fits.0,
  (clock_word clock fits.1, (clock_word lo fits.2, (clock_word hi fits.3, tt))),
)
step_are (Edge id lo hi) fits =
    (id_word id fits.0, (clock_word lo fits.1, (clock_word hi fits.2, tt)))

-- ---- names

pub name_is : (n : StepName) → IsWord (name_word n)
name_is name.Cut = (lit< tt, (lit< tt, (lit< tt, tt)))
name_is name.Split = (lit< tt, (lit< tt, (lit< tt, (lit< tt, (lit< tt, tt)))))
name_is name.Out = (lit< tt, (lit< tt, (lit< tt, tt)))
name_is name.In = (lit< tt, (lit< tt, tt))
name_is name.Edge = (lit< tt, (lit< tt, (lit< tt, (lit< tt, tt))))

-- tells the names apart: the first byte, and how many follow
abbrev digest : List ℕ → ℕ
digest (first ∷ more) = first + 256 * length more
digest [] = 0

pub same_name : (m n : StepName) → name_word m ≡ name_word n → m ≡ n
same_name name.Cut name.Cut e = refl
same_name name.Split name.Split e = refl
same_name name.Out name.Out e = refl
same_name name.In name.In e = refl
same_name name.Edge name.Edge e = refl
same_name _ _ e = absurd (omega (arith, ap digest e))

-- ---- words and ends

pub not_blank : (word : List ℕ) → IsWord word → HasNoBlank word
not_blank [] above = tt
not_blank (byte ∷ bytes) above = (apart byte (nat_eq byte 32) refl above.0, not_blank bytes above.1)
  where
    apart : (b : ℕ) (test : Bool) → nat_eq b 32 ≡ test → 32 < b → nat_eq b 32 ≡ false
    apart b true is lt = absurd (omega (arith, eqb-true b 32 is))
    apart b false is lt = is

pub none_blank : (ws : List (List ℕ)) → AreWords ws → AllByRecursion HasNoBlank ws
none_blank [] above = tt
none_blank (w ∷ ws) above = (not_blank w above.0, none_blank ws above.1)

-- the words of a step that fits are those that its line was joined of
pub words-step_text : (s : Step) → StepFits s → words (step_text s) ≡ line_words s
words-step_text s fits =
    words-joined (name_word (step_name s)) (step_words s) (not_blank _ (name_is (step_name s)))
    (none_blank _ (step_are s fits))

end-on : (a b : List ℕ) → HasNoEnd a → HasNoEnd b → HasNoEnd (a ++ b)
end-on [] b first second = second
end-on (x ∷ a) b first second = (first.0, end-on a b first.1 second)

word_end : (word : List ℕ) → IsWord word → HasNoEnd word
word_end [] above = tt
word_end (byte ∷ bytes) above = (λ e. omega (arith, above.0), word_end bytes above.1)

pub joined_end : (ws : List (List ℕ)) → AreWords ws → HasNoEnd (joined ws)
joined_end [] above = tt
joined_end (w ∷ []) above = word_end w above.0
joined_end (w ∷ v ∷ more) above =
    end-on w (32 ∷ joined (v ∷ more)) (word_end w above.0)
    (λ e. omega arith, joined_end (v ∷ more) above.1)

pub step_end : (s : Step) → StepFits s → HasNoEnd (step_text s)
step_end s fits = joined_end (line_words s) (name_is (step_name s), step_are s fits)

-- what stands before the first LF of a text
pub same_front : (a b rest more : List ℕ) → HasNoEnd a → HasNoEnd b
    → a ++ 10 ∷ rest ≡ b ++ 10 ∷ more → (a ≡ b) × (rest ≡ more)
same_front [] [] rest more f g e = (refl, cc)
same_front [] (y ∷ b) rest more f g e = let h : y ≡ 10 = cc in absurd (g.0 h)
same_front (x ∷ a) [] rest more f g e = let h : x ≡ 10 = cc in absurd (f.0 h)
same_front (x ∷ a) (y ∷ b) rest more f g e =
    let tails : a ++ 10 ∷ rest ≡ b ++ 10 ∷ more = cc in
    let heads : x ≡ y = cc in
    let later = same_front a b rest more f.1 g.1 tails in
    (ap (λ (t : List ℕ). x ∷ t) later.0 ∙ ap (λ (h : ℕ). h ∷ b) heads, later.1)

-- ---- values

pub count_same : (high m n : ℕ) → high < 10 ^ 64 → m ≤ high → n ≤ high
    → decimal m ≡ decimal n → m ≡ n
count_same high m n small f g e =
    sym (decimal_is_IsNumeral_wide m (omega arith)).1 ∙ ap (digits_value 10) e
    ∙ (decimal_is_IsNumeral_wide n (omega arith)).1

-- the words at one index
pub at_index : (k : ℕ) (ws vs : List (List ℕ)) → ws ≡ vs → get_or ws k [] ≡ get_or vs k []
at_index k ws vs e = ap (λ (all : List (List ℕ)). get_or all k []) e

id_from : (m n : ℕ) → IsId m → IsId n → decimal m ≡ decimal n → m ≡ n
id_from m n f g e = count_same 400000 m n (lit< tt) f.1 g.1 e

clock_from : (m n : ℤ) → IsClockSize m → IsClockSize n → signed_decimal m ≡ signed_decimal n → m ≡ n
clock_from m n f g e = one_number 200000000000000 m n (lit< tt) f g e

bound_from : (m n : ℤ) → IsBoxSize m → IsBoxSize n → signed_decimal m ≡ signed_decimal n → m ≡ n
bound_from m n f g e = one_number 10000000000000 m n (lit< tt) f g e

pub step_from : (a b : Step) → StepFits a → StepFits b → step_name a ≡ step_name b
    → step_words a ≡ step_words b → a ≡ b
step_from (Cut i face bound) (Cut j other limit) f g name e =
    let id = id_from i j f.0 g.0 (at_index 0 _ _ e) in
    let same = count_same 5 face other (lit< tt) f.1.1 g.1.1 (at_index 1 _ _ e) in
    let at = bound_from bound limit f.2 g.2 (at_index 2 _ _ e) in
    cc
step_from (Split i axis) (Split j other) f g name e =
    let id = id_from i j f.0 g.0 (at_index 0 _ _ e) in
    let same = count_same 2 axis other (lit< tt) f.1.1 g.1.1 (at_index 1 _ _ e) in
    cc
step_from (Outside i) (Outside j) f g name e = ap Outside (id_from i j f g (at_index 0 _ _ e))
step_from (Inside i clock lo hi) (Inside j offset low high) f g name e =
    let id = id_from i j f.0 g.0 (at_index 0 _ _ e) in
    let at = clock_from clock offset f.1 g.1 (at_index 1 _ _ e) in
    let from = clock_from lo low f.2 g.2 (at_index 2 _ _ e) in
    let to = clock_from hi high f.3 g.3 (at_index 3 _ _ e) in
    cc
step_from (Edge i lo hi) (Edge j low high) f g name e =
    let id = id_from i j f.0 g.0 (at_index 0 _ _ e) in
    let from = clock_from lo low f.1 g.1 (at_index 1 _ _ e) in
    let to = clock_from hi high f.2 g.2 (at_index 2 _ _ e) in
    cc
step_from _ _ f g name e = cc

abbrev head_of : List (List ℕ) → List ℕ
head_of [] = []
head_of (word ∷ more) = word

-- steps that fit and have the same words are one
pub same_step : (s t : Step) → StepFits s → StepFits t → line_words s ≡ line_words t → s ≡ t
same_step s t f g e =
    let rest : step_words s ≡ step_words t = ap (drop 1) e in
    step_from s t f g (same_name (step_name s) (step_name t) (ap head_of e)) rest

-- ---- lines

-- no step's line begins as one of a renewal
step_apart : (s : Step) → is_renewing (step_text s) ≡ false
step_apart (Cut id face bound) = refl
step_apart (Split id axis) = refl
step_apart (Outside id) = refl
step_apart (Inside id clock lo hi) = refl
step_apart (Edge id lo hi) = refl

pub not_renewing : (s : Step) (bytes : List ℕ) → step_text s ≡ bytes → is_renewing bytes ≡ true → ⊥
not_renewing s bytes e is =
    let no : is_renewing bytes ≡ false = ap is_renewing (sym e) ∙ step_apart s in
    cc

pub no_end : (l : AnyLine) → AnyFits l → HasNoEnd (bytes_in l)
no_end (OfStep s) fits = step_end s fits
no_end (Other bytes) fits = fits.0

same_line : (l m : AnyLine) → AnyFits l → AnyFits m → bytes_in l ≡ bytes_in m → l ≡ m
same_line (OfStep s) (OfStep t) f g e =
    ap OfStep (same_step s t f g (sym (words-step_text s f) ∙ ap words e ∙ words-step_text t g))
same_line (OfStep s) (Other bytes) f g e = absurd (not_renewing s bytes e g.1)
same_line (Other bytes) (OfStep s) f g e = absurd (not_renewing s bytes (sym e) f.1)
same_line (Other a) (Other b) f g e = ap Other e

line_some : (l : AnyLine) (rest : List ℕ) → bytes_in l ++ 10 ∷ rest ≡ [] → ⊥
line_some l rest none = omega (arith, ap length none, length-append (bytes_in l) (10 ∷ rest))

-- lines that fit and have the same text are the same
pub same_lines : (lines others : List AnyLine) → AllByRecursion AnyFits lines
    → AllByRecursion AnyFits others → text_of lines ≡ text_of others → lines ≡ others
same_lines [] [] f g e = refl
same_lines [] (m ∷ others) f g e = absurd (line_some m (text_of others) (sym e))
same_lines (l ∷ lines) [] f g e = absurd (line_some l (text_of lines) e)
same_lines (l ∷ lines) (m ∷ others) f g e =
    let first =
    same_front (bytes_in l) (bytes_in m) (text_of lines) (text_of others)
    (no_end l f.0) (no_end m g.0) e in
    let one = same_line l m f.0 g.0 first.0 in
    let later = same_lines lines others f.1 g.1 first.1 in
    cc

-- ---- one proof at most

within_prop : (n : ℕ) (z : ℤ) → IsProp (IsWithin n z)
within_prop n z p q = λ i. record {
  low = int_prop _ z p.low q.low i;
  high = int_prop z _ p.high q.high i;
}

count_prop : (low high n : ℕ) → IsProp (IsCountFromTo low high n)
count_prop low high n = ×_prop le_prop le_prop

step_prop : (s : Step) → IsProp (StepFits s)
step_prop (Cut id face bound) p q = λ i. (
  count_prop 0 400000 id p.0 q.0 i,
  count_prop 0 5 face p.1 q.1 i,
  within_prop _ bound p.2 q.2 i,
)
step_prop (Split id axis) p q = λ i. (
  count_prop 0 400000 id p.0 q.0 i,
  count_prop 0 2 axis p.1 q.1 i,
)
step_prop (Outside id) p q = count_prop 0 400000 id p q
step_prop (Inside id clock lo hi) p q = λ i. (
  count_prop 0 400000 id p.0 q.0 i,
  within_prop _ clock p.1 q.1 i,
  within_prop _ lo p.2 q.2 i,
  within_prop _ hi p.3 q.3 i,
  int_prop lo hi p.4 q.4 i,
)
step_prop (Edge id lo hi) p q = λ i. (
  count_prop 0 400000 id p.0 q.0 i,
  within_prop _ lo p.1 q.1 i,
  within_prop _ hi p.2 q.2 i,
  int_prop lo hi p.3 q.3 i,
)

end_prop : (bytes : List ℕ) → IsProp (HasNoEnd bytes)
end_prop bytes = AllByRecursion-prop (λ byte. byte ≢ 10) (λ byte. →_prop (λ a b. absurd a)) bytes

any_prop : (l : AnyLine) → IsProp (AnyFits l)
any_prop (OfStep s) = step_prop s
any_prop (Other bytes) = ×_prop (end_prop bytes) (Coded-set coded_bool _ _)

pub AreLines-prop : (text : List ℕ) → IsProp (AreLines text)
AreLines-prop text x y =
    let same : x.lines ≡ y.lines = same_lines x.lines y.lines x.fit y.fit (sym x.parts ∙ y.parts) in
    λ i. record {
      lines = same i;
      parts =
          is_prop→PathP (λ j. text ≡ text_of (same j))
          (λ j. Coded-set (coded_list coded_ℕ) text (text_of (same j))) x.parts y.parts i;
      fit =
          is_prop→PathP (λ j. AllByRecursion AnyFits (same j))
          (λ j. AllByRecursion-prop AnyFits any_prop (same j)) x.fit y.fit i;
    }

many_prop : (steps : List Step) (count kept : ℕ) → IsProp (AreMany steps count kept)
many_prop steps count kept p q = λ i. record {
  all = Coded-set coded_ℕ (length steps) count p.all q.all i;
  closing = Coded-set coded_ℕ (count_by is_kept_step steps) kept p.closing q.closing i;
}

pub AreCounted-prop : (text : List ℕ) (count kept : ℕ) → IsProp (AreCounted text count kept)
AreCounted-prop text count kept =
    Σ_prop (AreLines-prop text) (λ found. many_prop (told_steps text found) count kept)
