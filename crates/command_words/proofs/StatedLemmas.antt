-- Words of the stated form ask for their command.
use Rattle.std.proofs.Common.{◌≡◌, ℕ, Bool, true, false, List, [], ◌∷◌, Option, Some, None, codes, refl, sym, ap, ◌∙◌}
use Rattle.std.specs.Prelude.{option_map, if◌then◌else◌}
use Rattle.clap.specs.Kinds.{Kinds, or_else}
use Rattle.clap.specs.Walk.{Text, Walk, idle, to_positional, arg_by_index, nothing_held, is_empty}
use Rattle.clap.specs.Simple.{Shape}
use Rattle.clap.proofs.OnLiterals.{clap_on_literals}
use Rattle.command_words.specs.Program.{file_options}
use Rattle.command_words.specs.Numbers.{seed_number, count_number, epoch_number, last_epoch}
use Rattle.command_words.specs.Commands.{Epochs, Files, Command, Judge, Pave, Check, files_by, files_of, epochs_of, epochs_by, command_by, command_of, make_of}
use Rattle.command_words.specs.Stated.{begins_with_dash, IsName, IsNameIfGiven, AreNames, Options, Neither, From, To, FromTo, ToFrom, from_text, to_text, after_words, option_words, quiet_if, station_words, JudgeIsTaken, PaveIsTaken, FilesAreTaken, MakeIsTaken}
use Rattle.command_words.proofs.LevelLemmas.{judge_shape, pave_shape, files_shape, make_shape, Item, Flags, Level, level, level_from, level_is, at, items_walked, name_more, read, read_more, run, said_of}
use Rattle.command_words.proofs.NumberLemmas.{number_plain}

-- the command of a subcommand's level
abbrev said_at : Text → Level → Option Command
said_at name l = if is_empty (or_else l.0 []) then command_by name l.1 else None

-- where the walk stands behind a word for a positional
abbrev pub taken : Shape → Walk → ℕ → Text → Walk
taken s w position word = to_positional s.rules (arg_by_index s.rules position) word (at w.held idle position) w.held

abbrev pub start : Walk
start = at nothing_held idle 1

-- ---- `judge LOG`

judge_end : (log : Text)
    → said_at (codes "judge") (level_from judge_shape (taken judge_shape start 1 log) []) ≡ Some (Judge log)
unfolding level_from clap_on_literals
judge_end log = refl

judge_said : (log : Text)
    → command_of (codes "judge" ∷ log ∷ []) ≡ said_at (codes "judge") (level judge_shape (log ∷ []))
unfolding clap_on_literals
judge_said log = refl

pub judge_taken : JudgeIsTaken
judge_taken log e =
    judge_said log
    ∙ ap (said_at (codes "judge")) (level_is judge_shape (log ∷ []) ∙ name_more judge_shape nothing_held 1 log [] e refl)
    ∙ judge_end log

-- ---- `pave ROWS LOG`

module _ (rows log : Text) (r : begins_with_dash rows ≡ false) (l : begins_with_dash log ≡ false) where
  abbrev p₁ : Walk
  p₁ = taken pave_shape start 1 rows

  abbrev p₂ : Walk
  p₂ = taken pave_shape p₁ 2 log

  abbrev pave_items : Bool → List Item
  pave_items true = Flags (codes "--quiet") ∷ []
  pave_items false = []

  pave_flag : (quiet : Bool)
      → level_from pave_shape p₂ (quiet_if quiet) ≡ level_from pave_shape (run pave_shape 3 p₂ (pave_items quiet)) []
  unfolding clap_on_literals
  pave_flag true = items_walked pave_shape 3 p₂ (pave_items true) tt (refl, tt)
  pave_flag false = refl

  pave_end : (quiet : Bool)
      → said_at (codes "pave") (level_from pave_shape (run pave_shape 3 p₂ (pave_items quiet)) []) ≡ Some (Pave rows log quiet)
  unfolding level_from clap_on_literals
  pave_end true = refl
  pave_end false = refl

  pave_said : (quiet : Bool)
      → command_of (codes "pave" ∷ rows ∷ log ∷ quiet_if quiet) ≡ said_at (codes "pave") (level pave_shape (rows ∷ log ∷ quiet_if quiet))
  unfolding clap_on_literals
  pave_said true = refl
  pave_said false = refl

  pave_is : (quiet : Bool) → command_of (codes "pave" ∷ rows ∷ log ∷ quiet_if quiet) ≡ Some (Pave rows log quiet)
  pave_is quiet =
      pave_said quiet
      ∙ ap (said_at (codes "pave")) (level_is pave_shape (rows ∷ log ∷ quiet_if quiet)
      ∙ name_more pave_shape nothing_held 1 rows (log ∷ quiet_if quiet) r refl
      ∙ name_more pave_shape p₁.held 2 log (quiet_if quiet) l refl
      ∙ pave_flag quiet)
      ∙ pave_end quiet

pub pave_taken : PaveIsTaken
pave_taken rows log quiet r l = pave_is rows log r l quiet

-- ---- `make SEED EPOCHS`

module _ (seed_text epochs_text : Text) (s : begins_with_dash seed_text ≡ false) (e : begins_with_dash epochs_text ≡ false) where
  abbrev m₁ : Walk
  m₁ = taken make_shape start 1 seed_text

  make_end : said_at (codes "make") (level_from make_shape (taken make_shape m₁ 2 epochs_text) []) ≡ make_of (seed_number seed_text) (count_number epochs_text)
  unfolding level_from clap_on_literals
  make_end = refl

  make_said : command_of (codes "make" ∷ seed_text ∷ epochs_text ∷ []) ≡ said_at (codes "make") (level make_shape (seed_text ∷ epochs_text ∷ []))
  unfolding clap_on_literals
  make_said = refl

  make_is : command_of (codes "make" ∷ seed_text ∷ epochs_text ∷ []) ≡ make_of (seed_number seed_text) (count_number epochs_text)
  make_is =
      make_said
      ∙ ap (said_at (codes "make")) (level_is make_shape (seed_text ∷ epochs_text ∷ [])
      ∙ name_more make_shape nothing_held 1 seed_text (epochs_text ∷ []) s refl
      ∙ name_more make_shape m₁.held 2 epochs_text [] e refl)
      ∙ make_end

pub make_taken : MakeIsTaken
make_taken seed_text epochs_text seed epochs s e =
    make_is seed_text epochs_text (number_plain 0 4294967295 seed_text seed s) (number_plain 1 240 epochs_text epochs e)
    ∙ ap (λ n. make_of n (count_number epochs_text)) s ∙ ap (make_of (Some seed)) e

-- ---- `check OBS NAV SETTINGS LOG`, and its options

-- the faults of a level on files, and the files that its matches hold
abbrev FilesSeen : Type 0
FilesSeen = Kinds × Option Files

abbrev files_seen : Level → FilesSeen
files_seen l = (l.0, files_by None l.1)

-- the names, and what the options say
abbrev asked_of : Files → Option Text → Options → FilesSeen
asked_of f station options = (
  [],
  files_of (Some f.obs) (Some f.nav) (Some f.settings) (Some f.log) (epochs_by (from_text options) (to_text options)) station None,
)

-- the texts of the options don't begin with a dash
abbrev pub ArePlain : Options → Type 0
ArePlain Neither = Unit {0}
ArePlain (From from) = IsName from
ArePlain (To to) = IsName to
ArePlain (FromTo from to) = IsName from × IsName to
ArePlain (ToFrom to from) = IsName from × IsName to

epochs_given : (from to : Option ℕ) (epochs : Epochs) → epochs_of from to ≡ Some epochs
    → ((n : ℕ) × (from ≡ Some n)) × ((m : ℕ) × (to ≡ Some m))
epochs_given None to epochs e = cc
epochs_given (Some n) None epochs e = cc
epochs_given (Some n) (Some m) epochs e = ((n, refl), (m, refl))

pub plain_options : (options : Options) (epochs : Epochs)
    → epochs_by (from_text options) (to_text options) ≡ Some epochs → ArePlain options
plain_options Neither epochs e = tt
plain_options (From from) epochs e =
    let k = epochs_given (epoch_number from) (Some last_epoch) epochs e in number_plain 1 last_epoch from k.0.0 k.0.1
plain_options (To to) epochs e =
    let k = epochs_given (Some 1) (epoch_number to) epochs e in number_plain 1 last_epoch to k.1.0 k.1.1
plain_options (FromTo from to) epochs e =
    let k = epochs_given (epoch_number from) (epoch_number to) epochs e in
    (number_plain 1 last_epoch from k.0.0 k.0.1, number_plain 1 last_epoch to k.1.0 k.1.1)
plain_options (ToFrom to from) epochs e =
    let k = epochs_given (epoch_number from) (epoch_number to) epochs e in
    (number_plain 1 last_epoch from k.0.0 k.0.1, number_plain 1 last_epoch to k.1.0 k.1.1)

module _ (f : Files) (n : AreNames f) where
  abbrev s : Shape
  s = files_shape (codes "check") file_options []

  abbrev f₁ : Walk
  f₁ = taken s start 1 f.obs

  abbrev f₂ : Walk
  f₂ = taken s f₁ 2 f.nav

  abbrev f₃ : Walk
  f₃ = taken s f₂ 3 f.settings

  abbrev f₄ : Walk
  f₄ = taken s f₃ 4 f.log

  names_walked : (rest : List Text)
      → level s (f.obs ∷ f.nav ∷ f.settings ∷ f.log ∷ rest) ≡ level_from s f₄ rest
  names_walked rest =
      level_is s (f.obs ∷ f.nav ∷ f.settings ∷ f.log ∷ rest)
      ∙ name_more s nothing_held 1 f.obs (f.nav ∷ f.settings ∷ f.log ∷ rest) n.0 refl
      ∙ name_more s f₁.held 2 f.nav (f.settings ∷ f.log ∷ rest) n.1 refl
      ∙ name_more s f₂.held 3 f.settings (f.log ∷ rest) n.2 refl
      ∙ name_more s f₃.held 4 f.log rest n.3 refl

  -- where the walk stands behind the station's file, where one is given
  abbrev stationed : Option Text → Walk
  stationed None = f₄
  stationed (Some file) = read s 5 f₄ (codes "station") file

  station_walked : (station : Option Text) (rest : List Text) → IsNameIfGiven station
      → level_from s f₄ (station_words station rest) ≡ level_from s (stationed station) rest
  unfolding clap_on_literals
  station_walked None rest name = refl
  station_walked (Some file) rest name =
      read_more s 5 f₄ (codes "--station") (codes "station") file rest refl refl refl name

  abbrev from_of : Walk → Text → Walk
  from_of w from = read s 5 w (codes "from") from

  abbrev to_of : Walk → Text → Walk
  to_of w to = read s 5 w (codes "to") to

  -- and behind the other options
  abbrev last_walk : Walk → Options → Walk
  last_walk w Neither = w
  last_walk w (From from) = from_of w from
  last_walk w (To to) = to_of w to
  last_walk w (FromTo from to) = to_of (from_of w from) to
  last_walk w (ToFrom to from) = from_of (to_of w to) from

  options_walked : (station : Option Text) (options : Options) → ArePlain options
      → level_from s (stationed station) (option_words options) ≡ level_from s (last_walk (stationed station) options) []
  unfolding clap_on_literals
  options_walked None Neither p = refl
  options_walked None (From from) p =
      read_more s 5 f₄ (codes "--from") (codes "from") from [] refl refl refl p
  options_walked None (To to) p =
      read_more s 5 f₄ (codes "--to") (codes "to") to [] refl refl refl p
  options_walked None (FromTo from to) p =
      read_more s 5 f₄ (codes "--from") (codes "from") from (codes "--to" ∷ to ∷ []) refl refl refl p.0
      ∙ read_more s 5 (from_of f₄ from) (codes "--to") (codes "to") to [] refl refl refl p.1
  options_walked None (ToFrom to from) p =
      read_more s 5 f₄ (codes "--to") (codes "to") to (codes "--from" ∷ from ∷ []) refl refl refl p.1
      ∙ read_more s 5 (to_of f₄ to) (codes "--from") (codes "from") from [] refl refl refl p.0
  options_walked (Some file) Neither p = refl
  options_walked (Some file) (From from) p =
      read_more s 5 (stationed (Some file)) (codes "--from") (codes "from") from [] refl refl refl p
  options_walked (Some file) (To to) p =
      read_more s 5 (stationed (Some file)) (codes "--to") (codes "to") to [] refl refl refl p
  options_walked (Some file) (FromTo from to) p =
      read_more s 5 (stationed (Some file)) (codes "--from") (codes "from") from (codes "--to" ∷ to ∷ []) refl refl refl p.0
      ∙ read_more s 5 (from_of (stationed (Some file)) from) (codes "--to") (codes "to") to [] refl refl refl p.1
  options_walked (Some file) (ToFrom to from) p =
      read_more s 5 (stationed (Some file)) (codes "--to") (codes "to") to (codes "--from" ∷ from ∷ []) refl refl refl p.1
      ∙ read_more s 5 (to_of (stationed (Some file)) to) (codes "--from") (codes "from") from [] refl refl refl p.0

  ended : (station : Option Text) (options : Options)
      → files_seen (level_from s (last_walk (stationed station) options) []) ≡ asked_of f station options
  unfolding level_from clap_on_literals
  ended None Neither = refl
  ended None (From from) = refl
  ended None (To to) = refl
  ended None (FromTo from to) = refl
  ended None (ToFrom to from) = refl
  ended (Some file) Neither = refl
  ended (Some file) (From from) = refl
  ended (Some file) (To to) = refl
  ended (Some file) (FromTo from to) = refl
  ended (Some file) (ToFrom to from) = refl

  files_level : (options : Options) → ArePlain options
      → epochs_by (from_text options) (to_text options) ≡ Some f.epochs
      → files_seen (level s (f.obs ∷ f.nav ∷ f.settings ∷ f.log ∷ station_words f.station (option_words options)))
      ≡ ([], Some (record f { after = None }))
  files_level options p e =
      ap files_seen (names_walked (station_words f.station (option_words options))
      ∙ station_walked f.station (option_words options) n.4 ∙ options_walked f.station options p)
      ∙ ended f.station options
      ∙ ap (λ (o : Option Epochs). let both : FilesSeen = ([], files_of (Some f.obs) (Some f.nav) (Some f.settings) (Some f.log) o f.station None) in both) e

abbrev files_said : (Files → Command) → FilesSeen → Option Command
files_said made l = if is_empty (or_else l.0 []) then option_map made l.1 else None

check_said : (words : List Text)
    → command_of (codes "check" ∷ words) ≡ files_said Check (files_seen (level (files_shape (codes "check") file_options []) words))
unfolding clap_on_literals
check_said words = said_of (codes "check") words refl refl

pub check_taken : FilesAreTaken (codes "check") false Check
check_taken f options names none e =
    ap (λ (after : Option Text).
    command_of (codes "check" ∷ f.obs ∷ f.nav ∷ f.settings ∷ f.log ∷ station_words f.station (after_words after (option_words options)))) none
    ∙ check_said (f.obs ∷ f.nav ∷ f.settings ∷ f.log ∷ station_words f.station (option_words options))
    ∙ ap (files_said Check) (files_level f names options (plain_options options f.epochs e) e)
    ∙ ap (λ (after : Option Text). Some (Check (record f { after = after }))) (sym none)
