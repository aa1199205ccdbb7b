-- What clap makes of the words behind a subcommand's name, one word at a time.
use Rattle.std.proofs.Common.{◌≡◌, ◌++◌, ℕ, Bool, true, false, List, [], ◌∷◌, Option, None, Some, get_or, refl, sym, ap, ◌∙◌, append_assoc, append-nil}
use Rattle.std.specs.Prelude.{fold, is_some, if◌then◌else◌}
use Rattle.std.specs.Option.{option_map_or}
use Rattle.std.specs.Str.{bytes_eq}
use Rattle.clap.specs.Lexer.{long_of, short_of}
use Rattle.clap.specs.Kinds.{Kinds, or_else}
use Rattle.clap.specs.Walk.{Text, Row, Rule, Held, Step, Walk, Waiting, Names, is_empty, idle, option, value, trailing, word_met, walked, after_step, to_positional, arg_by_index, plain_word, long_or_other, short_or_plain, nothing_held, walk_from, finished, settled, rows_after}
use Rattle.clap.specs.Simple.{Shape, built, entered, is_simple, names_of}
use Rattle.clap.specs.Faults.{level_fault, walk_fault, turn_fault, other_fault, flag_word_fault, bundle_fault, step_fault, settle_fault, defaults_fault, check_fault, entered_fault, is_simple_and_free}
use Rattle.clap.proofs.OnLiterals.{clap_on_literals}
use Rattle.command_words.specs.Commands.{Command, command_of, command_said}
use Rattle.command_words.specs.Program.{program, bare, files_form, form_app, with_command}
use Rattle.command_words.specs.Stated.{begins_with_dash, IsName}

-- the subcommands as they are built
abbrev built_sub : ℕ → Shape
built_sub i = get_or (built program).subs i (built program).top

abbrev pub judge_shape : Shape
judge_shape = built_sub 0

abbrev pub pave_shape : Shape
pave_shape = built_sub 1

abbrev pub solve_shape : Shape
solve_shape = built_sub 2

abbrev pub check_shape : Shape
check_shape = built_sub 3

abbrev pub track_shape : Shape
track_shape = built_sub 4

abbrev pub retrack_shape : Shape
retrack_shape = built_sub 5

-- the commands on files differ in their names, options and flags alone
abbrev pub files_shape : Text → List Text → List Text → Shape
files_shape name options flags = get_or (built (with_command bare (form_app (files_form name options flags)))).subs 0 (built program).top

abbrev pub guard_shape : Shape
guard_shape = built_sub 6

abbrev pub make_shape : Shape
make_shape = built_sub 7

pub simple : is_simple program ≡ true
unfolding clap_on_literals
simple = refl

pub simple_and_free : is_simple_and_free program ≡ true
unfolding clap_on_literals
simple_and_free = refl

-- ---- a word without a dash in front is plain

abbrev dashes : Text
dashes = 45 ∷ 45 ∷ []

no_long : (word : Text) → begins_with_dash word ≡ false → long_of word ≡ None
no_long [] e = refl
no_long (x ∷ xs) e = rw e refl

no_short : (word : Text) → begins_with_dash word ≡ false → short_of word ≡ None
no_short [] e = refl
no_short (x ∷ xs) e = rw e refl

no_dashes : (word : Text) → begins_with_dash word ≡ false → bytes_eq word dashes ≡ false
no_dashes [] e = refl
no_dashes (x ∷ xs) e = rw e refl

abbrev pub at : Held → Waiting → ℕ → Walk
at h waiting position = record { held = h; waiting = waiting; position = position; is_trailing = false; stopped = None }

plain_met : (c : List Rule) (position : ℕ) (word : Text) (h : Held) → begins_with_dash word ≡ false
    → word_met c [] false idle position word h ≡ (h, value)
plain_met c position word h e =
    ap (λ (b : Bool). if b then (h, trailing position) else long_or_other c idle word (long_of word) h) (no_dashes word e)
    ∙ ap (λ l. long_or_other c idle word l h) (no_long word e)
    ∙ ap (λ s. short_or_plain c idle word s h) (no_short word e)

value_met : (c : List Rule) (id : Text) (position : ℕ) (word : Text) (h : Held)
    → begins_with_dash word ≡ false
    → word_met c [] false (option id) position word h ≡ plain_word c (option id) word h
value_met c id position word h e =
    ap (λ (b : Bool). if b then (h, trailing position) else long_or_other c (option id) word (long_of word) h) (no_dashes word e)
    ∙ ap (λ l. long_or_other c (option id) word l h) (no_long word e)
    ∙ ap (λ s. short_or_plain c (option id) word s h) (no_short word e)

other_plain : (s : Shape) (word : Text) (h : Held) → begins_with_dash word ≡ false
    → other_fault s None word h ≡ []
other_plain s word h e =
    ap (λ (b : Bool). if b then [] else flag_word_fault s.rules s.args_override_self (long_of word) word h) (no_dashes word e)
    ∙ ap (λ l. flag_word_fault s.rules s.args_override_self l word h) (no_long word e)
    ∙ ap (λ o. option_map_or (λ flags. bundle_fault s.rules s.args_override_self flags h) o []) (no_short word e)

-- ---- a level

-- the faults of a subcommand's words, and what its matches hold
abbrev pub Level : Type 0
Level = Kinds × List Row

-- what is left of a level, from a place in its words on
unfoldable pub level_from : Shape → Walk → List Text → Level
level_from s w words =
    let end = (fold (walked s.rules []) w words).held in (
      or_else (walk_fault s [] w words)
          (or_else (settle_fault s.rules s.args_override_self end)
          (or_else (defaults_fault (settled s.rules end).rows s.rules) (check_fault s (finished s.rules end) false))),
      finished s.rules end,
    )

abbrev pub level : Shape → List Text → Level
level s words = (level_fault s [] nothing_held words false [], rows_after s.rules [] words)

pub level_is : (s : Shape) (words : List Text)
    → level s words ≡ level_from s (walk_from nothing_held) words
unfolding level_from
level_is s words = refl

-- one word more
pub more : (s : Shape) (w now : Walk) (word : Text) (rest : List Text) → turn_fault s [] w word ≡ []
    → walked s.rules [] w word ≡ now
    → level_from s w (word ∷ rest) ≡ level_from s now rest
unfolding level_from walk_fault
more s w now word rest passes is =
    ap (λ (k : Kinds).
    let end = (fold (walked s.rules []) (walked s.rules [] w word) rest).held in
    let both : Level = (
      or_else (or_else k (walk_fault s [] (walked s.rules [] w word) rest))
          (or_else (settle_fault s.rules s.args_override_self end)
          (or_else (defaults_fault (settled s.rules end).rows s.rules) (check_fault s (finished s.rules end) false))),
      finished s.rules end,
    ) in both) passes
    ∙ ap (λ v. level_from s v rest) is

-- a word for a positional
plain_turn : (s : Shape) (h : Held) (position : ℕ) (word : Text) → begins_with_dash word ≡ false
    → step_fault s position h value ≡ []
    → turn_fault s [] (at h idle position) word ≡ []
plain_turn s h position word e passes =
    ap (λ (m : Held × Step). or_else (other_fault s None word h) (step_fault s position m.0 m.1)) (plain_met s.rules position word h e)
    ∙ ap (λ k. or_else k (step_fault s position h value)) (other_plain s word h e)
    ∙ passes

plain_walked : (c : List Rule) (h : Held) (position : ℕ) (word : Text)
    → begins_with_dash word ≡ false
    → walked c [] (at h idle position) word ≡ to_positional c (arg_by_index c position) word (at h idle position) h
unfolding walked
plain_walked c h position word e = ap (λ (m : Held × Step). after_step c word (at h idle position) m.0 m.1) (plain_met c position word h e)

-- a word that a positional takes
pub name_more : (s : Shape) (h : Held) (position : ℕ) (word : Text) (rest : List Text)
    → begins_with_dash word ≡ false
    → step_fault s position h value ≡ []
    → level_from s (at h idle position) (word ∷ rest)
    ≡ level_from s (to_positional s.rules (arg_by_index s.rules position) word (at h idle position) h) rest
name_more s h position word rest e passes =
    more s (at h idle position) _ word rest (plain_turn s h position word e passes) (plain_walked s.rules h position word e)

-- the walk behind an option's text
abbrev pub behind_value : List Rule → Held → Text → ℕ → Text → Walk
behind_value c h id position word =
    after_step c word (at h (option id) position) (plain_word c (option id) word h).0 (plain_word c (option id) word h).1

value_turn : (s : Shape) (h : Held) (id : Text) (position : ℕ) (word : Text)
    → begins_with_dash word ≡ false
    → step_fault s position (plain_word s.rules (option id) word h).0 (plain_word s.rules (option id) word h).1 ≡ []
    → turn_fault s [] (at h (option id) position) word ≡ []
value_turn s h id position word e passes =
    ap (λ (m : Held × Step). or_else (other_fault s None word h) (step_fault s position m.0 m.1)) (value_met s.rules id position word h e)
    ∙ ap (λ k. or_else k (step_fault s position (plain_word s.rules (option id) word h).0 (plain_word s.rules (option id) word h).1)) (other_plain s word h e)
    ∙ passes

value_walked : (c : List Rule) (h : Held) (id : Text) (position : ℕ) (word : Text)
    → begins_with_dash word ≡ false
    → walked c [] (at h (option id) position) word ≡ behind_value c h id position word
unfolding walked
value_walked c h id position word e = ap (λ (m : Held × Step). after_step c word (at h (option id) position) m.0 m.1) (value_met c id position word h e)

-- a word that is an option's text
pub value_more : (s : Shape) (h : Held) (id : Text) (position : ℕ) (word : Text) (rest : List Text)
    → begins_with_dash word ≡ false
    → step_fault s position (plain_word s.rules (option id) word h).0 (plain_word s.rules (option id) word h).1 ≡ []
    → level_from s (at h (option id) position) (word ∷ rest) ≡ level_from s (behind_value s.rules h id position word) rest
value_more s h id position word rest e passes =
    more s (at h (option id) position) _ word rest (value_turn s h id position word e passes) (value_walked s.rules h id position word e)

-- ---- an option with its text

module _ (s : Shape) (position : ℕ) where
  -- the walk behind an option, which waits for its text
  abbrev pub waits : Walk → Text → Walk
  waits w id = at (record (settled s.rules w.held) { pending = Some (id, []) }) (option id) position

  -- and behind that text
  abbrev pub read : Walk → Text → Text → Walk
  read w id text = behind_value s.rules (waits w id).held id position text

  pub read_more : (w : Walk) (word id text : Text) (rest : List Text) → turn_fault s [] w word ≡ []
      → walked s.rules [] w word ≡ waits w id
      → step_fault s position (plain_word s.rules (option id) text (waits w id).held).0 (plain_word s.rules (option id) text (waits w id).held).1 ≡ []
      → begins_with_dash text ≡ false
      → level_from s w (word ∷ text ∷ rest) ≡ level_from s (read w id text) rest
  read_more w word id text rest passes is step name =
      more s w (waits w id) word (text ∷ rest) passes is
      ∙ value_more s (waits w id).held id position text rest name step

-- ---- options and flags, one behind another

pub data Item : Type 0 where
  Reads : (word id text : Text) → Item
  Flags : (word : Text) → Item

abbrev pub item_words : List Item → List Text
item_words [] = []
item_words (Reads word id text ∷ more) = word ∷ text ∷ item_words more
item_words (Flags word ∷ more) = word ∷ item_words more

-- no option's text begins with a dash
abbrev pub ArePlainItems : List Item → Type 0
ArePlainItems [] = Unit {0}
ArePlainItems (Reads word id text ∷ more) = IsName text × ArePlainItems more
ArePlainItems (Flags word ∷ more) = ArePlainItems more

module _ (s : Shape) (position : ℕ) where
  -- the walk behind them
  abbrev pub run : Walk → List Item → Walk
  run w [] = w
  run w (Reads word id text ∷ more) = run (read s position w id text) more
  run w (Flags word ∷ more) = run (walked s.rules [] w word) more

  -- each has no fault where the walk meets it
  abbrev pub Passes : Walk → List Item → Type 0
  Passes w [] = Unit {0}
  Passes w (Reads word id text ∷ more) =
      (turn_fault s [] w word ≡ []) × (walked s.rules [] w word ≡ waits s position w id)
      × (step_fault s position (plain_word s.rules (option id) text (waits s position w id).held).0 (plain_word s.rules (option id) text (waits s position w id).held).1 ≡ [])
      × Passes (read s position w id text) more
  Passes w (Flags word ∷ more) = (turn_fault s [] w word ≡ []) × Passes (walked s.rules [] w word) more

  pub items_walked : (w : Walk) (items : List Item) → ArePlainItems items → Passes w items
      → level_from s w (item_words items) ≡ level_from s (run w items) []
  items_walked w [] plain passes = refl
  items_walked w (Reads word id text ∷ more_items) plain passes =
      read_more s position w word id text (item_words more_items) passes.0 passes.1 passes.2 plain.0
      ∙ items_walked (read s position w id text) more_items plain.1 passes.3
  items_walked w (Flags word ∷ more_items) plain passes =
      more s w (walked s.rules [] w word) word (item_words more_items) passes.0 refl
      ∙ items_walked (walked s.rules [] w word) more_items plain passes.1

-- ---- a command's name and the words behind it

abbrev top : Shape
top = (built program).top

abbrev names : Names
names = names_of (built program)

-- the walk over the program's words has met a command's name and these words behind it
abbrev pub stopped_at : Text → List Text → Walk
stopped_at name words = record (walk_from nothing_held) { stopped = Some (name, words) }

stays : (name : Text) (seen words : List Text)
    → fold (walked top.rules names) (stopped_at name seen) words ≡ stopped_at name (seen ++ words)
unfolding walked
stays name seen [] = ap (stopped_at name) (sym (append-nil seen))
stays name seen (word ∷ words) =
    stays name (seen ++ word ∷ []) words
    ∙ ap (stopped_at name) (append_assoc seen (word ∷ []) words)

calm : (name : Text) (seen words : List Text) → walk_fault top names (stopped_at name seen) words ≡ []
unfolding walked walk_fault
calm name seen [] = refl
calm name seen (word ∷ words) = calm name (seen ++ word ∷ []) words

-- the command where the walk ends so, and its words have these faults
abbrev pub told_by : Walk → Kinds → Option Command
told_by w faults =
    if is_empty (or_else faults
    (or_else (entered_fault (built program) w.stopped)
    (or_else (settle_fault top.rules top.args_override_self w.held)
    (or_else (defaults_fault (settled top.rules w.held).rows top.rules)
    (check_fault top (finished top.rules w.held) (is_some (entered (built program) w.stopped)))))))
    then command_said (entered (built program) w.stopped) else None

pub said_of : (name : Text) (words : List Text)
    → walked top.rules names (walk_from nothing_held) name ≡ stopped_at name []
    → turn_fault top names (walk_from nothing_held) name ≡ []
    → command_of (name ∷ words) ≡ told_by (stopped_at name words) []
unfolding walk_fault
said_of name words is passes =
    ap (λ (w : Walk).
    told_by (fold (walked top.rules names) w words)
    (or_else (turn_fault top names (walk_from nothing_held) name) (walk_fault top names w words))) is
    ∙ ap (λ (k : Kinds).
    told_by (fold (walked top.rules names) (stopped_at name []) words)
    (or_else k (walk_fault top names (stopped_at name []) words))) passes
    ∙ ap (λ (k : Kinds). told_by (fold (walked top.rules names) (stopped_at name []) words) k)
    (calm name [] words)
    ∙ ap (λ (w : Walk). told_by w []) (stays name [] words)
