-- Words of `solve` ask for it, quiet or not.
use Rattle.std.proofs.Common.{◌≡◌, List, [], ◌∷◌, Option, Some, None, codes, refl, sym, ap, ◌∙◌}
use Rattle.std.specs.Prelude.{Bool, false, if◌then◌else◌, option_map}
use Rattle.clap.specs.Kinds.{Kinds, or_else}
use Rattle.clap.specs.Walk.{Text, Walk, nothing_held, is_empty}
use Rattle.clap.specs.Simple.{Shape}
use Rattle.clap.proofs.OnLiterals.{clap_on_literals}
use Rattle.command_words.specs.Program.{file_options, quiet_flag}
use Rattle.command_words.specs.Commands.{Epochs, Files, Command, Solve, files_by, files_of, epochs_by, is_quiet, command_of}
use Rattle.command_words.specs.Stated.{AreNames, Options, Neither, From, To, FromTo, ToFrom, Flag, Nowhere, Before, BehindFirst, Behind, from_text, to_text, is_given, after_words, flagged_words, station_words, QuietIsTaken}
use Rattle.command_words.proofs.FlagLemmas.{after_items, flagged_items, items_plain, station_items, words_same}
use Rattle.command_words.proofs.LevelLemmas.{files_shape, Item, Level, Passes, items_walked, level, level_from, level_is, name_more, run, said_of}
use Rattle.command_words.proofs.StatedLemmas.{ArePlain, plain_options, start, taken}

-- the faults of a level, the files that its matches hold, and whether it is quiet
abbrev QuietSeen : Type 0
QuietSeen = Kinds × Option Files × Bool

abbrev quiet_seen : Level → QuietSeen
quiet_seen l = (l.0, files_by None l.1, is_quiet l.1)

-- the names, and what the options say
abbrev asked_of : Files → Option Text → Bool → Options → QuietSeen
asked_of f station quiet options = (
  [],
  files_of (Some f.obs) (Some f.nav) (Some f.settings) (Some f.log) (epochs_by (from_text options) (to_text options)) station None,
  quiet,
)

module _ (f : Files) (n : AreNames f) where
  abbrev s : Shape
  s = files_shape (codes "solve") file_options quiet_flag

  abbrev q₁ : Walk
  q₁ = taken s start 1 f.obs

  abbrev q₂ : Walk
  q₂ = taken s q₁ 2 f.nav

  abbrev q₃ : Walk
  q₃ = taken s q₂ 3 f.settings

  abbrev q₄ : Walk
  q₄ = taken s q₃ 4 f.log

  names_walked : (rest : List Text)
      → level s (f.obs ∷ f.nav ∷ f.settings ∷ f.log ∷ rest) ≡ level_from s q₄ rest
  names_walked rest =
      level_is s (f.obs ∷ f.nav ∷ f.settings ∷ f.log ∷ rest)
      ∙ name_more s nothing_held 1 f.obs (f.nav ∷ f.settings ∷ f.log ∷ rest) n.0 refl
      ∙ name_more s q₁.held 2 f.nav (f.settings ∷ f.log ∷ rest) n.1 refl
      ∙ name_more s q₂.held 3 f.settings (f.log ∷ rest) n.2 refl
      ∙ name_more s q₃.held 4 f.log rest n.3 refl

  -- what stands behind the names
  abbrev behind : Option Text → Flag → Options → List Item
  behind station flag options = station_items station (after_items None (flagged_items (codes "--quiet") flag options))

  passes : (station : Option Text) (flag : Flag) (options : Options) → Passes s 5 q₄ (behind station flag options)
  unfolding clap_on_literals
  passes None Nowhere Neither = tt
  passes None Nowhere (From from) = (refl, refl, refl, tt)
  passes None Nowhere (To to) = (refl, refl, refl, tt)
  passes None Nowhere (FromTo from to) = (refl, refl, refl, (refl, refl, refl, tt))
  passes None Nowhere (ToFrom to from) = (refl, refl, refl, (refl, refl, refl, tt))
  passes None Before Neither = (refl, tt)
  passes None Before (From from) = (refl, (refl, refl, refl, tt))
  passes None Before (To to) = (refl, (refl, refl, refl, tt))
  passes None Before (FromTo from to) = (refl, (refl, refl, refl, (refl, refl, refl, tt)))
  passes None Before (ToFrom to from) = (refl, (refl, refl, refl, (refl, refl, refl, tt)))
  passes None BehindFirst Neither = (refl, tt)
  passes None BehindFirst (From from) = (refl, refl, refl, (refl, tt))
  passes None BehindFirst (To to) = (refl, refl, refl, (refl, tt))
  passes None BehindFirst (FromTo from to) = (refl, refl, refl, (refl, (refl, refl, refl, tt)))
  passes None BehindFirst (ToFrom to from) = (refl, refl, refl, (refl, (refl, refl, refl, tt)))
  passes None Behind Neither = (refl, tt)
  passes None Behind (From from) = (refl, refl, refl, (refl, tt))
  passes None Behind (To to) = (refl, refl, refl, (refl, tt))
  passes None Behind (FromTo from to) = (refl, refl, refl, (refl, refl, refl, (refl, tt)))
  passes None Behind (ToFrom to from) = (refl, refl, refl, (refl, refl, refl, (refl, tt)))
  passes (Some file) Nowhere Neither = (refl, refl, refl, tt)
  passes (Some file) Nowhere (From from) = (refl, refl, refl, (refl, refl, refl, tt))
  passes (Some file) Nowhere (To to) = (refl, refl, refl, (refl, refl, refl, tt))
  passes (Some file) Nowhere (FromTo from to) = (refl, refl, refl, (refl, refl, refl, (refl, refl, refl, tt)))
  passes (Some file) Nowhere (ToFrom to from) = (refl, refl, refl, (refl, refl, refl, (refl, refl, refl, tt)))
  passes (Some file) Before Neither = (refl, refl, refl, (refl, tt))
  passes (Some file) Before (From from) = (refl, refl, refl, (refl, (refl, refl, refl, tt)))
  passes (Some file) Before (To to) = (refl, refl, refl, (refl, (refl, refl, refl, tt)))
  passes (Some file) Before (FromTo from to) = (refl, refl, refl, (refl, (refl, refl, refl, (refl, refl, refl, tt))))
  passes (Some file) Before (ToFrom to from) = (refl, refl, refl, (refl, (refl, refl, refl, (refl, refl, refl, tt))))
  passes (Some file) BehindFirst Neither = (refl, refl, refl, (refl, tt))
  passes (Some file) BehindFirst (From from) = (refl, refl, refl, (refl, refl, refl, (refl, tt)))
  passes (Some file) BehindFirst (To to) = (refl, refl, refl, (refl, refl, refl, (refl, tt)))
  passes (Some file) BehindFirst (FromTo from to) = (refl, refl, refl, (refl, refl, refl, (refl, (refl, refl, refl, tt))))
  passes (Some file) BehindFirst (ToFrom to from) = (refl, refl, refl, (refl, refl, refl, (refl, (refl, refl, refl, tt))))
  passes (Some file) Behind Neither = (refl, refl, refl, (refl, tt))
  passes (Some file) Behind (From from) = (refl, refl, refl, (refl, refl, refl, (refl, tt)))
  passes (Some file) Behind (To to) = (refl, refl, refl, (refl, refl, refl, (refl, tt)))
  passes (Some file) Behind (FromTo from to) = (refl, refl, refl, (refl, refl, refl, (refl, refl, refl, (refl, tt))))
  passes (Some file) Behind (ToFrom to from) = (refl, refl, refl, (refl, refl, refl, (refl, refl, refl, (refl, tt))))

  ended : (station : Option Text) (flag : Flag) (options : Options)
      → quiet_seen (level_from s (run s 5 q₄ (behind station flag options)) []) ≡ asked_of f station (is_given flag) options
  unfolding level_from clap_on_literals
  ended None Nowhere Neither = refl
  ended None Nowhere (From from) = refl
  ended None Nowhere (To to) = refl
  ended None Nowhere (FromTo from to) = refl
  ended None Nowhere (ToFrom to from) = refl
  ended None Before Neither = refl
  ended None Before (From from) = refl
  ended None Before (To to) = refl
  ended None Before (FromTo from to) = refl
  ended None Before (ToFrom to from) = refl
  ended None BehindFirst Neither = refl
  ended None BehindFirst (From from) = refl
  ended None BehindFirst (To to) = refl
  ended None BehindFirst (FromTo from to) = refl
  ended None BehindFirst (ToFrom to from) = refl
  ended None Behind Neither = refl
  ended None Behind (From from) = refl
  ended None Behind (To to) = refl
  ended None Behind (FromTo from to) = refl
  ended None Behind (ToFrom to from) = refl
  ended (Some file) Nowhere Neither = refl
  ended (Some file) Nowhere (From from) = refl
  ended (Some file) Nowhere (To to) = refl
  ended (Some file) Nowhere (FromTo from to) = refl
  ended (Some file) Nowhere (ToFrom to from) = refl
  ended (Some file) Before Neither = refl
  ended (Some file) Before (From from) = refl
  ended (Some file) Before (To to) = refl
  ended (Some file) Before (FromTo from to) = refl
  ended (Some file) Before (ToFrom to from) = refl
  ended (Some file) BehindFirst Neither = refl
  ended (Some file) BehindFirst (From from) = refl
  ended (Some file) BehindFirst (To to) = refl
  ended (Some file) BehindFirst (FromTo from to) = refl
  ended (Some file) BehindFirst (ToFrom to from) = refl
  ended (Some file) Behind Neither = refl
  ended (Some file) Behind (From from) = refl
  ended (Some file) Behind (To to) = refl
  ended (Some file) Behind (FromTo from to) = refl
  ended (Some file) Behind (ToFrom to from) = refl

  quiet_level : (flag : Flag) (options : Options) → ArePlain options
      → epochs_by (from_text options) (to_text options) ≡ Some f.epochs
      → quiet_seen (level s (f.obs ∷ f.nav ∷ f.settings ∷ f.log ∷ station_words f.station (flagged_words (codes "--quiet") flag options)))
      ≡ ([], Some (record f { after = None }), is_given flag)
  quiet_level flag options p e =
      ap quiet_seen (names_walked (station_words f.station (flagged_words (codes "--quiet") flag options))
      ∙ ap (level_from s q₄) (words_same (codes "--quiet") f.station None flag options)
      ∙ items_walked s 5 q₄ (behind f.station flag options) (items_plain (codes "--quiet") f.station None flag options n.4 tt p) (passes f.station flag options))
      ∙ ended f.station flag options
      ∙ ap (λ (o : Option Epochs).
      let all : QuietSeen = ([], files_of (Some f.obs) (Some f.nav) (Some f.settings) (Some f.log) o f.station None, is_given flag) in all) e

abbrev quiet_told : (Files → Bool → Command) → QuietSeen → Option Command
quiet_told made l = if is_empty (or_else l.0 []) then option_map (λ files. made files l.2) l.1 else None

solve_said : (words : List Text)
    → command_of (codes "solve" ∷ words) ≡ quiet_told Solve (quiet_seen (level (files_shape (codes "solve") file_options quiet_flag) words))
unfolding clap_on_literals
solve_said words = said_of (codes "solve") words refl refl

pub solve_taken : QuietIsTaken (codes "solve") false Solve
solve_taken f flag options names none e =
    ap (λ (after : Option Text).
    command_of (codes "solve" ∷ f.obs ∷ f.nav ∷ f.settings ∷ f.log ∷ station_words f.station (after_words after (flagged_words (codes "--quiet") flag options)))) none
    ∙ solve_said (f.obs ∷ f.nav ∷ f.settings ∷ f.log ∷ station_words f.station (flagged_words (codes "--quiet") flag options))
    ∙ ap (quiet_told Solve) (quiet_level f names flag options (plain_options options f.epochs e) e)
    ∙ ap (λ (after : Option Text). Some (Solve (record f { after = after }) (is_given flag))) (sym none)
