-- Where clap takes the words, each argument that was met has a value.
use Rattle.std.proofs.Common.{◌≡◌, ◌≢◌, ◌⊎◌, inl, inr, ◌==◌, ◌&&◌, ◌++◌, ℕ, zero, suc, Bool, true, false, not, cond, List, [], ◌∷◌, Option, Some, None, length, refl, sym, subst}
use Rattle.std.specs.Prelude.{option_and_then, fold, find, nat_lt, slice_get, is_some, if◌then◌else◌, drop, encode_utf8}
use Rattle.std.specs.Option.{option_map_or}
use Rattle.std.specs.Str.{bytes_eq, chars}
use Rattle.clap.specs.Lexer.{long_of, short_of}
use Rattle.clap.specs.Facts.{explicit_source, unwrap_or_range}
use Rattle.clap.specs.Kinds.{Kinds, or_else, range_kinds}
use Rattle.clap.specs.Walk.{Text, Row, Rule, Held, Step, Walk, Waiting, Outcome, Names, idle, option, positional, value, next, trailing, subcommand, done, waits, plain, refused, action_of, reading_by, most_values, takes_values, takes_several, at_row, without, more_values, with_values, used, used_as, values_or_missing, used_by_id, settled, settled_rows, reacted, option_met, flag_met, long_met, short_met, bundle_met, bundle_step, bundle, attached_value, plain_word, option_word, after_flag, short_or_plain, long_or_other, subcommand_or_other, subcommand_met, word_met, is_pending, to_positional, after_step, walked, walked_from, with_default, default_rows, has_row, finished, arg_by_id, arg_by_long, arg_by_short, arg_by_index, first_of, has_short, has_long}
use Rattle.clap.specs.Simple.{Shape}
use Rattle.clap.specs.Takes.{is_given}
use Rattle.clap.specs.Faults.{action_fault, stray_fault, use_fault, settle_fault, react_fault, option_fault, long_fault, short_fault, bundle_step_fault, flags_fault, bundle_fault, flag_word_fault, other_fault, word_fault, positional_fault, step_fault, turn_fault, walk_fault}
use Rattle.clap.specs.declared.builder.action.ArgAction.{ArgAction}
use Rattle.clap.specs.declared.builder.action.ArgAction.TheVariants.{Set, SetTrue}
use Rattle.clap.specs.declared.error.kind.ErrorKind.TheVariants.{InvalidValue, WrongNumberOfValues, TooFewValues, TooManyValues}
use Rattle.clap.specs.declared.parser.matches.ValueSource.{ValueSource}
use Rattle.clap.specs.declared.parser.matches.ValueSource.TheVariants.{CommandLine, DefaultValue}
use Rattle.clap.specs.declared.builder.value_parser.Reading.{Reading}
use Rattle.std.proofs.lemmas.Option.{same_Some as same_some}

-- the argument keeps the last use, and a use has a value: one of the words, or for a flag what
-- stands for none
pub record IsSet (a : Rule) : Type 0 where
  pub set : (action_of a ≡ Set) ⊎ (action_of a ≡ SetTrue)
  pub some : (nat_lt 0 (unwrap_or_range a.range).start_inclusive ≡ true) ⊎ (a.missing ≢ [])

abbrev pub AllSet : List Rule → Type 0
AllSet [] = Unit {0}
AllSet (a ∷ c) = IsSet a × AllSet c

-- each row has a value
abbrev pub Filled : List Row → Type 0
Filled [] = Unit {0}
Filled (r ∷ rows) = (r.values ≢ []) × Filled rows

pub both : (a b : Kinds) → or_else a b ≡ [] → (a ≡ []) × (b ≡ [])
both [] b e = (refl, e)
both (k ∷ ks) b e = cc

either : {X : Type 0} (P : X → Type 0) (t : Bool) (x y : X) (f g : Kinds) → (f ≡ [] → P x)
    → (g ≡ [] → P y) → cond t f g ≡ [] → P (cond t x y)
either P true x y f g p q e = p e
either P false x y f g p q e = q e

set_found : (c : List Rule) (p : Rule → Bool) (a : Rule) → AllSet c → find p c ≡ Some a → IsSet a
set_found [] p a all e = cc
set_found (b ∷ c) p a all e = go (p b) e (set_found c p a all.1)
  where
    go : (t : Bool) → cond t (Some b) (find p c) ≡ Some a → (find p c ≡ Some a → IsSet a) → IsSet a
    go true e later = subst IsSet (same_some b a e) all.0
    go false e later = later e

filled_cond : (t : Bool) (x y : List Row) → Filled x → Filled y → Filled (cond t x y)
filled_cond true x y f g = f
filled_cond false x y f g = g

filled_both : (xs ys : List Row) → Filled xs → Filled ys → Filled (xs ++ ys)
filled_both [] ys f g = g
filled_both (r ∷ xs) ys f g = (f.0, filled_both xs ys f.1 g)

at_row_filled : (id : Text) (change : Row → List Row) (missing rows : List Row)
    → ((r : Row) → r.values ≢ [] → Filled (change r)) → Filled missing → Filled rows
    → Filled (at_row id change missing rows)
at_row_filled id change missing [] c m f = m
at_row_filled id change missing (r ∷ rows) c m f =
    filled_cond (bytes_eq r.id id) (change r ++ rows) (r ∷ at_row id change missing rows) (filled_both (change r) rows (c r f.0) f.1)
    (f.0, at_row_filled id change missing rows c m f.1)

without_filled : (id : Text) (rows : List Row) → Filled rows → Filled (without id rows)
without_filled id rows f = at_row_filled id (λ r. []) [] rows (λ r s. tt) tt f

some_more : (xs : List Text) (v : Text) (vs : List Text) → (xs ++ (v ∷ vs)) ≢ []
some_more [] v vs e = cc
some_more (x ∷ xs) v vs e = cc

with_values_filled : (id : Text) (how : Reading) (s : ValueSource) (v : Text) (vs : List Text) (rows : List Row)
    → Filled rows → Filled (with_values id how s (v ∷ vs) rows)
with_values_filled id how s v vs rows f =
    at_row_filled id (more_values s (v ∷ vs)) (record { id = id; values = v ∷ vs; count = None; source = Some s; reading = how } ∷ []) rows
    (λ r some. (some_more r.values v vs, tt)) ((λ e. cc), tt) f

-- ---- a use

abbrev range_rest : ℕ → ℕ → Kinds
range_rest least most =
    if least == most then (if least == 0 then [] else WrongNumberOfValues ∷ [])
    else (if nat_lt 0 least then TooFewValues ∷ [] else (if nat_lt most 0 then TooManyValues ∷ [] else []))

use_some : (again : Bool) (a : Rule) (rows : List Row) → nat_lt 0 (unwrap_or_range a.range).start_inclusive ≡ true → use_fault again a [] rows ≡ [] → ⊥
use_some again a rows some e = go (nat_lt 0 (unwrap_or_range a.range).start_inclusive) some (both (range_kinds (unwrap_or_range a.range).start_inclusive (most_values a) 0) (action_fault (action_of a) again a (values_or_missing a []) rows) e).0
  where
    go : (t : Bool) → t ≡ true
        → cond (t && true) (InvalidValue ∷ []) (range_rest (unwrap_or_range a.range).start_inclusive (most_values a)) ≡ []
        → ⊥
    go true is e = cc
    go false is e = cc

some_values : (a : Rule) (values : List Text) (rows : List Row) (again : Bool)
    → (nat_lt 0 (unwrap_or_range a.range).start_inclusive ≡ true) ⊎ (a.missing ≢ [])
    → use_fault again a values rows ≡ [] → values_or_missing a values ≢ []
some_values a [] rows again (inl some) e = absurd (use_some again a rows some e)
some_values a [] rows again (inr missing) e = missing
some_values a (v ∷ vs) rows again some e = λ none. cc

kept_values : (id : Text) (how : Reading) (values : List Text) (rows : List Row) → values ≢ []
    → Filled rows → Filled (with_values id how CommandLine values (without id rows))
kept_values id how [] rows some f = absurd (some refl)
kept_values id how (v ∷ vs) rows some f = with_values_filled id how CommandLine v vs (without id rows) (without_filled id rows f)

kept_filled : (a : Rule) (values : List Text) (rows : List Row)
    → (action_of a ≡ Set) ⊎ (action_of a ≡ SetTrue) → values ≢ [] → Filled rows
    → Filled (used_as (action_of a) a.id (reading_by a) values rows)
kept_filled a values rows (inl is) some f =
    subst (λ (x : ArgAction). Filled (used_as x a.id (reading_by a) values rows)) (sym is) (kept_values a.id (reading_by a) values rows some f)
kept_filled a values rows (inr is) some f =
    subst (λ (x : ArgAction). Filled (used_as x a.id (reading_by a) values rows)) (sym is) (kept_values a.id (reading_by a) values rows some f)

used_filled : (again : Bool) (a : Rule) (values : List Text) (rows : List Row) → IsSet a → use_fault again a values rows ≡ [] → Filled rows → Filled (used a values rows)
used_filled again a values rows k e f =
    kept_filled a (values_or_missing a values) rows k.set (some_values a values rows again k.some e) f

settled_filled : (c : List Rule) (again : Bool) (h : Held) → AllSet c → settle_fault c again h ≡ []
    → Filled h.rows → Filled (settled c h).rows
settled_filled c again h all e f = go h.pending e
  where
    found : (p : Text × List Text) (o : Option Rule) → arg_by_id c p.0 ≡ o
        → option_map_or (λ a. use_fault again a p.1 h.rows) o [] ≡ []
        → Filled (used_by_id o p.1 h.rows)
    found p None is e = f
    found p (Some a) is e = used_filled again a p.1 h.rows (set_found c (λ b. bytes_eq b.id p.0) a all is) e f

    go : (o : Option (Text × List Text))
        → option_map_or (λ p. option_map_or (λ a. use_fault again a p.1 h.rows) (arg_by_id c p.0) []) o [] ≡ []
        → Filled (settled_rows c o h.rows)
    go None e = f
    go (Some p) e = found p (arg_by_id c p.0) refl e

reacted_filled : (c : List Rule) (again : Bool) (a : Rule) (values : List Text) (h : Held)
    → AllSet c → IsSet a → react_fault c again a values h ≡ [] → Filled h.rows
    → Filled (reacted c a values h).rows
reacted_filled c again a values h all k e f =
    let two = both (settle_fault c again h) (use_fault again a values (settled c h).rows) e in
    used_filled again a values (settled c h).rows k two.1 (settled_filled c again h all two.0 f)

option_filled : (c : List Rule) (again : Bool) (a : Rule) (v : Option Text) (h : Held) → AllSet c
    → IsSet a → option_fault c again a v h ≡ [] → Filled h.rows
    → Filled (option_met c a v h).0.rows
option_filled c again a (Some v) h all k e f = reacted_filled c again a (v ∷ []) h all k e f
option_filled c again a None h all k e f = settled_filled c again h all e f

-- ---- one word

abbrev FilledHeld : Held × Outcome → Type 0
FilledHeld m = Filled m.0.rows

long_filled : (c : List Rule) (again : Bool) (o : Option Rule) (p : Rule → Bool) (v : Option Text) (h : Held)
    → AllSet c → find p c ≡ o → long_fault c again o v h ≡ [] → Filled h.rows
    → Filled (long_met c o v h).0.rows
long_filled c again None p v h all is e f = f
long_filled c again (Some a) p v h all is e f =
    either FilledHeld (takes_values a) (option_met c a v h) (flag_met c a v h) (option_fault c again a v h) (if is_some v then TooManyValues ∷ [] else react_fault c again a [] h)
    (λ e. option_filled c again a v h all (set_found c p a all is) e f) (flag v) e
  where
    flag : (v : Option Text)
        → (if is_some v then TooManyValues ∷ [] else react_fault c again a [] h) ≡ []
        → FilledHeld (flag_met c a v h)
    flag (Some v) e = f
    flag None e = reacted_filled c again a [] h all (set_found c p a all is) e f

plain_filled : (c : List Rule) (waiting : Waiting) (word : Text) (h : Held) → Filled h.rows
    → Filled (plain_word c waiting word h).0.rows
plain_filled c idle word h f = f
plain_filled c positional word h f = f
plain_filled c (option id) word h f = go (arg_by_id c id)
  where
    go : (o : Option Rule) → Filled (option_word o id word h).0.rows
    go None = f
    go (Some a) = f

flag_filled : (c : List Rule) (waiting : Waiting) (word : Text) (h : Held) (o : Outcome)
    → Filled h.rows → Filled (after_flag c waiting word h o).0.rows
flag_filled c waiting word h done f = f
flag_filled c waiting word h (waits id) f = f
flag_filled c waiting word h plain f = plain_filled c waiting word h f
flag_filled c waiting word h refused f = plain_filled c waiting word h f

bundle_filled : (c : List Rule) (again : Bool) (k : ℕ) (flags : Text) (skip : ℕ) (so_far : Outcome) (h : Held)
    → AllSet c → flags_fault c again k flags skip h ≡ [] → Filled h.rows
    → Filled (bundle_met c k flags skip so_far h).0.rows
unfolding bundle_met flags_fault
bundle_filled c again zero flags skip so_far h all e f = f
bundle_filled c again (suc k) flags skip so_far h all e f =
    go (slice_get (chars flags) 0) skip e (λ rest less o held. bundle_filled c again k rest less o held all)
  where
    go : (x : Option ℕ) (skip : ℕ)
        → bundle_step_fault c again x flags skip h (flags_fault c again k) ≡ []
        → ((rest : Text) (less : ℕ) (o : Outcome) (held : Held) → flags_fault c again k rest less held ≡ [] → Filled held.rows → Filled (bundle_met c k rest less o held).0.rows)
        → Filled (bundle_step c x flags skip so_far h (bundle_met c k)).0.rows
    go None skip e more = f
    go (Some x) (suc skip) e more = more (drop (length (encode_utf8 x)) flags) skip so_far h e f
    go (Some x) zero e more = short (arg_by_short c x) refl e
      where
        rest : Text
        rest = drop (length (encode_utf8 x)) flags

        short : (o : Option Rule) → arg_by_short c x ≡ o
            → short_fault c again o rest h (flags_fault c again k rest 0) ≡ []
            → Filled (short_met c o rest h (bundle_met c k rest 0 done)).0.rows
        short None is e = f
        short (Some a) is e =
            let set = set_found c (λ a. not (is_some a.index) && has_short a x) a all is in
            either FilledHeld (takes_values a) (option_met c a (attached_value rest) h) (bundle_met c k rest 0 done (reacted c a [] h))
            (option_fault c again a (attached_value rest) h) (or_else (react_fault c again a [] h) (flags_fault c again k rest 0 (reacted c a [] h)))
            (λ e. option_filled c again a (attached_value rest) h all set e f)
            (λ e. let two = both (react_fault c again a [] h) (flags_fault c again k rest 0 (reacted c a [] h)) e in
            more rest 0 done (reacted c a [] h) two.1 (reacted_filled c again a [] h all set two.0 f))
            e

abbrev FilledStep : Held × Step → Type 0
FilledStep m = Filled m.0.rows

other_filled : (s : Shape) (waiting : Waiting) (word : Text) (o : Option (Text × Option Text)) (h : Held)
    → AllSet s.rules
    → flag_word_fault s.rules s.args_override_self o word h ≡ [] → Filled h.rows
    → Filled (long_or_other s.rules waiting word o h).0.rows
other_filled s waiting word (Some p) h all e f =
    flag_filled s.rules waiting word (long_met s.rules (arg_by_long s.rules p.0) p.1 h).0 (long_met s.rules (arg_by_long s.rules p.0) p.1 h).1
    (long_filled s.rules s.args_override_self (arg_by_long s.rules p.0) (λ a. not (is_some a.index) && has_long a p.0) p.1 h all refl e f)
other_filled s waiting word None h all e f = go (short_of word) e
  where
    go : (o : Option Text)
        → option_map_or (λ flags. bundle_fault s.rules s.args_override_self flags h) o [] ≡ []
        → Filled (short_or_plain s.rules waiting word o h).0.rows
    go None e = plain_filled s.rules waiting word h f
    go (Some flags) e =
        flag_filled s.rules waiting word (bundle s.rules flags h).0 (bundle s.rules flags h).1
        (bundle_filled s.rules s.args_override_self (length flags) flags h.skip plain (record h { skip = 0 }) all e f)

met_filled : (s : Shape) (names : Names) (trail : Bool) (waiting : Waiting) (position : ℕ) (word : Text) (h : Held)
    → AllSet s.rules
    → word_fault s names trail waiting word h ≡ [] → Filled h.rows
    → Filled (word_met s.rules names trail waiting position word h).0.rows
met_filled s names trail waiting position word h all e f =
    either FilledStep trail (h, value) (subcommand_or_other s.rules (subcommand_met names waiting word) waiting position word h) []
    (other_fault s (subcommand_met names waiting word) word h) (λ e. f) (λ e. go (subcommand_met names waiting word) e) e
  where
    go : (o : Option Text) → other_fault s o word h ≡ []
        → Filled (subcommand_or_other s.rules o waiting position word h).0.rows
    go (Some name) e = f
    go None e =
        either FilledStep (bytes_eq word (45 ∷ 45 ∷ [])) (h, trailing position) (long_or_other s.rules waiting word (long_of word) h) []
        (flag_word_fault s.rules s.args_override_self (long_of word) word h) (λ e. f) (λ e. other_filled s waiting word (long_of word) h all e f) e

abbrev FilledHeldOnly : Held → Type 0
FilledHeldOnly h = Filled h.rows

step_filled : (s : Shape) (word : Text) (w : Walk) (h : Held) (step : Step) → AllSet s.rules
    → step_fault s w.position h step ≡ [] → Filled h.rows
    → Filled (after_step s.rules word w h step).held.rows
step_filled s word w h (next waiting) all e f = f
step_filled s word w h (trailing position) all e f = f
step_filled s word w h (subcommand name) all e f = f
step_filled s word w h value all e f = go (arg_by_index s.rules w.position) e
  where
    go : (o : Option Rule)
        → option_map_or (λ a. positional_fault s.rules s.args_override_self a h) o (stray_fault s) ≡ []
        → Filled (to_positional s.rules o word w h).held.rows
    go None e = f
    go (Some a) e =
        either FilledHeldOnly (is_pending a h.pending && takes_several a) h (settled s.rules h) [] (settle_fault s.rules s.args_override_self h)
        (λ e. f) (λ e. settled_filled s.rules s.args_override_self h all e f) e

turn_filled : (s : Shape) (names : Names) (w : Walk) (word : Text) → AllSet s.rules
    → turn_fault s names w word ≡ [] → Filled w.held.rows
    → Filled (walked s.rules names w word).held.rows
unfolding walked
turn_filled s names w word all e f = go w.stopped e
  where
    m : Held × Step
    m = word_met s.rules names w.is_trailing w.waiting w.position word w.held

    go : (o : Option (Text × List Text))
        → (if is_some o then [] else or_else (word_fault s names w.is_trailing w.waiting word w.held)
        (step_fault s w.position (word_met s.rules names w.is_trailing w.waiting w.position word w.held).0 (word_met s.rules names w.is_trailing w.waiting w.position word w.held).1)) ≡ []
        → Filled (walked_from s.rules names o w word).held.rows
    go (Some p) e = f
    go None e =
        let met = word_met s.rules names w.is_trailing w.waiting w.position word w.held in
        let two = both (word_fault s names w.is_trailing w.waiting word w.held) (step_fault s w.position met.0 met.1) e in
        step_filled s word w met.0 met.1 all two.1 (met_filled s names w.is_trailing w.waiting w.position word w.held all two.0 f)

pub walk_filled : (s : Shape) (names : Names) (w : Walk) (words : List Text) → AllSet s.rules
    → walk_fault s names w words ≡ [] → Filled w.held.rows
    → Filled (fold (walked s.rules names) w words).held.rows
unfolding walk_fault
walk_filled s names w [] all e f = f
walk_filled s names w (word ∷ words) all e f =
    let two = both (turn_fault s names w word) (walk_fault s names (walked s.rules names w word) words) e in
    walk_filled s names (walked s.rules names w word) words all two.1 (turn_filled s names w word all two.0 f)

-- ---- the end

default_filled : (rows : List Row) (a : Rule) → Filled rows → Filled (with_default rows a)
default_filled rows a f = filled_cond (has_row a.id rows) rows (default_rows a.id (reading_by a) a.defaults rows) f (go a.defaults)
  where
    go : (vs : List Text) → Filled (default_rows a.id (reading_by a) vs rows)
    go [] = f
    go (v ∷ vs) = with_values_filled a.id (reading_by a) DefaultValue v vs rows f

defaults_filled : (c : List Rule) (rows : List Row) → Filled rows
    → Filled (fold with_default rows c)
defaults_filled [] rows f = f
defaults_filled (a ∷ c) rows f = defaults_filled c (with_default rows a) (default_filled rows a f)

pub finished_filled : (s : Shape) (h : Held) → AllSet s.rules
    → settle_fault s.rules s.args_override_self h ≡ [] → Filled h.rows → Filled (finished s.rules h)
finished_filled s h all e f = defaults_filled s.rules (settled s.rules h).rows (settled_filled s.rules s.args_override_self h all e f)

-- what is given has a text
pub given_text : (id : Text) (rows : List Row) → Filled rows → is_given id rows ≡ true
    → (t : Text) × (first_of id rows ≡ Some t)
given_text id [] f e = cc
given_text id (r ∷ rows) f e = go (bytes_eq r.id id) e (given_text id rows f.1)
  where
    head : (vs : List Text) → vs ≢ [] → (t : Text) × (slice_get vs 0 ≡ Some t)
    head [] some = absurd (some refl)
    head (v ∷ vs) some = (v, refl)

    go : (t : Bool)
        → option_map_or (λ r. explicit_source r.source) (cond t (Some r) (find (λ r. bytes_eq r.id id) rows)) false ≡ true
        → (is_given id rows ≡ true → (t : Text) × (first_of id rows ≡ Some t))
        → (x : Text) × (option_and_then (λ r. slice_get r.values 0) (cond t (Some r) (find (λ r. bytes_eq r.id id) rows)) ≡ Some x)
    go true e later = head r.values f.0
    go false e later = later e
