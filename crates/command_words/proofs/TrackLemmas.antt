-- Words of `track` ask for it, quiet or not, and behind an earlier log or not.
use Rattle.std.proofs.Common.{◌≡◌, List, [], ◌∷◌, Option, Some, None, codes, refl, ap, ◌∙◌}
use Rattle.std.specs.Prelude.{Bool, true, if◌then◌else◌, option_map}
use Rattle.clap.specs.Kinds.{Kinds, or_else}
use Rattle.clap.specs.Walk.{Text, Walk, nothing_held, is_empty}
use Rattle.clap.specs.Simple.{Shape}
use Rattle.clap.proofs.OnLiterals.{clap_on_literals}
use Rattle.command_words.specs.Program.{quiet_flag, track_options}
use Rattle.command_words.specs.Commands.{Epochs, Files, Command, Track, files_of, track_files_by, epochs_by, is_quiet, command_of}
use Rattle.command_words.specs.Stated.{AreNames, Options, Neither, From, To, FromTo, ToFrom, Flag, Nowhere, Before, BehindFirst, Behind, from_text, to_text, is_given, after_words, flagged_words, quiet_words, station_words, QuietIsTaken}
use Rattle.command_words.proofs.FlagLemmas.{after_items, flagged_items, items_plain, station_items, words_same}
use Rattle.command_words.proofs.LevelLemmas.{files_shape, Item, Level, Passes, items_walked, level, level_from, level_is, name_more, run, said_of}
use Rattle.command_words.proofs.StatedLemmas.{ArePlain, plain_options, start, taken}

-- the faults of a level, the files that its matches hold, and whether it is quiet
abbrev TrackSeen : Type 0
TrackSeen = Kinds × Option Files × Bool

abbrev track_seen : Level → TrackSeen
track_seen l = (l.0, track_files_by l.1, is_quiet l.1)

-- the names, and what the options say
abbrev asked_of : Files → (station after : Option Text) → Bool → Options → TrackSeen
asked_of f station after quiet options = (
  [],
  files_of (Some f.obs) (Some f.nav) (Some f.settings) (Some f.log) (epochs_by (from_text options) (to_text options)) station after,
  quiet,
)

module _ (f : Files) (n : AreNames f) where
  abbrev s : Shape
  s = files_shape (codes "track") track_options quiet_flag

  abbrev t₁ : Walk
  t₁ = taken s start 1 f.obs

  abbrev t₂ : Walk
  t₂ = taken s t₁ 2 f.nav

  abbrev t₃ : Walk
  t₃ = taken s t₂ 3 f.settings

  abbrev t₄ : Walk
  t₄ = taken s t₃ 4 f.log

  names_walked : (rest : List Text)
      → level s (f.obs ∷ f.nav ∷ f.settings ∷ f.log ∷ rest) ≡ level_from s t₄ rest
  names_walked rest =
      level_is s (f.obs ∷ f.nav ∷ f.settings ∷ f.log ∷ rest)
      ∙ name_more s nothing_held 1 f.obs (f.nav ∷ f.settings ∷ f.log ∷ rest) n.0 refl
      ∙ name_more s t₁.held 2 f.nav (f.settings ∷ f.log ∷ rest) n.1 refl
      ∙ name_more s t₂.held 3 f.settings (f.log ∷ rest) n.2 refl
      ∙ name_more s t₃.held 4 f.log rest n.3 refl

  -- what stands behind the names
  abbrev behind : (station after : Option Text) → Flag → Options → List Item
  behind station after flag options =
      station_items station (after_items after (flagged_items (codes "--quiet") flag options))

  passes : (station after : Option Text) (flag : Flag) (options : Options)
      → Passes s 5 t₄ (behind station after flag options)
  unfolding clap_on_literals
  passes None None Nowhere Neither = tt
  passes None None Nowhere (From from) = (refl, refl, refl, tt)
  passes None None Nowhere (To to) = (refl, refl, refl, tt)
  passes None None Nowhere (FromTo from to) = (refl, refl, refl, (refl, refl, refl, tt))
  passes None None Nowhere (ToFrom to from) = (refl, refl, refl, (refl, refl, refl, tt))
  passes None None Before Neither = (refl, tt)
  passes None None Before (From from) = (refl, (refl, refl, refl, tt))
  passes None None Before (To to) = (refl, (refl, refl, refl, tt))
  passes None None Before (FromTo from to) = (refl, (refl, refl, refl, (refl, refl, refl, tt)))
  passes None None Before (ToFrom to from) = (refl, (refl, refl, refl, (refl, refl, refl, tt)))
  passes None None BehindFirst Neither = (refl, tt)
  passes None None BehindFirst (From from) = (refl, refl, refl, (refl, tt))
  passes None None BehindFirst (To to) = (refl, refl, refl, (refl, tt))
  passes None None BehindFirst (FromTo from to) = (refl, refl, refl, (refl, (refl, refl, refl, tt)))
  passes None None BehindFirst (ToFrom to from) = (refl, refl, refl, (refl, (refl, refl, refl, tt)))
  passes None None Behind Neither = (refl, tt)
  passes None None Behind (From from) = (refl, refl, refl, (refl, tt))
  passes None None Behind (To to) = (refl, refl, refl, (refl, tt))
  passes None None Behind (FromTo from to) = (refl, refl, refl, (refl, refl, refl, (refl, tt)))
  passes None None Behind (ToFrom to from) = (refl, refl, refl, (refl, refl, refl, (refl, tt)))
  passes (Some file) None Nowhere Neither = (refl, refl, refl, tt)
  passes (Some file) None Nowhere (From from) = (refl, refl, refl, (refl, refl, refl, tt))
  passes (Some file) None Nowhere (To to) = (refl, refl, refl, (refl, refl, refl, tt))
  passes (Some file) None Nowhere (FromTo from to) = (refl, refl, refl, (refl, refl, refl, (refl, refl, refl, tt)))
  passes (Some file) None Nowhere (ToFrom to from) = (refl, refl, refl, (refl, refl, refl, (refl, refl, refl, tt)))
  passes (Some file) None Before Neither = (refl, refl, refl, (refl, tt))
  passes (Some file) None Before (From from) = (refl, refl, refl, (refl, (refl, refl, refl, tt)))
  passes (Some file) None Before (To to) = (refl, refl, refl, (refl, (refl, refl, refl, tt)))
  passes (Some file) None Before (FromTo from to) = (refl, refl, refl, (refl, (refl, refl, refl, (refl, refl, refl, tt))))
  passes (Some file) None Before (ToFrom to from) = (refl, refl, refl, (refl, (refl, refl, refl, (refl, refl, refl, tt))))
  passes (Some file) None BehindFirst Neither = (refl, refl, refl, (refl, tt))
  passes (Some file) None BehindFirst (From from) = (refl, refl, refl, (refl, refl, refl, (refl, tt)))
  passes (Some file) None BehindFirst (To to) = (refl, refl, refl, (refl, refl, refl, (refl, tt)))
  passes (Some file) None BehindFirst (FromTo from to) = (refl, refl, refl, (refl, refl, refl, (refl, (refl, refl, refl, tt))))
  passes (Some file) None BehindFirst (ToFrom to from) = (refl, refl, refl, (refl, refl, refl, (refl, (refl, refl, refl, tt))))
  passes (Some file) None Behind Neither = (refl, refl, refl, (refl, tt))
  passes (Some file) None Behind (From from) = (refl, refl, refl, (refl, refl, refl, (refl, tt)))
  passes (Some file) None Behind (To to) = (refl, refl, refl, (refl, refl, refl, (refl, tt)))
  passes (Some file) None Behind (FromTo from to) = (refl, refl, refl, (refl, refl, refl, (refl, refl, refl, (refl, tt))))
  passes (Some file) None Behind (ToFrom to from) = (refl, refl, refl, (refl, refl, refl, (refl, refl, refl, (refl, tt))))
  passes None (Some earlier) Nowhere Neither = (refl, refl, refl, tt)
  passes None (Some earlier) Nowhere (From from) = (refl, refl, refl, (refl, refl, refl, tt))
  passes None (Some earlier) Nowhere (To to) = (refl, refl, refl, (refl, refl, refl, tt))
  passes None (Some earlier) Nowhere (FromTo from to) = (refl, refl, refl, (refl, refl, refl, (refl, refl, refl, tt)))
  passes None (Some earlier) Nowhere (ToFrom to from) = (refl, refl, refl, (refl, refl, refl, (refl, refl, refl, tt)))
  passes None (Some earlier) Before Neither = (refl, refl, refl, (refl, tt))
  passes None (Some earlier) Before (From from) = (refl, refl, refl, (refl, (refl, refl, refl, tt)))
  passes None (Some earlier) Before (To to) = (refl, refl, refl, (refl, (refl, refl, refl, tt)))
  passes None (Some earlier) Before (FromTo from to) = (refl, refl, refl, (refl, (refl, refl, refl, (refl, refl, refl, tt))))
  passes None (Some earlier) Before (ToFrom to from) = (refl, refl, refl, (refl, (refl, refl, refl, (refl, refl, refl, tt))))
  passes None (Some earlier) BehindFirst Neither = (refl, refl, refl, (refl, tt))
  passes None (Some earlier) BehindFirst (From from) = (refl, refl, refl, (refl, refl, refl, (refl, tt)))
  passes None (Some earlier) BehindFirst (To to) = (refl, refl, refl, (refl, refl, refl, (refl, tt)))
  passes None (Some earlier) BehindFirst (FromTo from to) = (refl, refl, refl, (refl, refl, refl, (refl, (refl, refl, refl, tt))))
  passes None (Some earlier) BehindFirst (ToFrom to from) = (refl, refl, refl, (refl, refl, refl, (refl, (refl, refl, refl, tt))))
  passes None (Some earlier) Behind Neither = (refl, refl, refl, (refl, tt))
  passes None (Some earlier) Behind (From from) = (refl, refl, refl, (refl, refl, refl, (refl, tt)))
  passes None (Some earlier) Behind (To to) = (refl, refl, refl, (refl, refl, refl, (refl, tt)))
  passes None (Some earlier) Behind (FromTo from to) = (refl, refl, refl, (refl, refl, refl, (refl, refl, refl, (refl, tt))))
  passes None (Some earlier) Behind (ToFrom to from) = (refl, refl, refl, (refl, refl, refl, (refl, refl, refl, (refl, tt))))
  passes (Some file) (Some earlier) Nowhere Neither = (refl, refl, refl, (refl, refl, refl, tt))
  passes (Some file) (Some earlier) Nowhere (From from) = (refl, refl, refl, (refl, refl, refl, (refl, refl, refl, tt)))
  passes (Some file) (Some earlier) Nowhere (To to) = (refl, refl, refl, (refl, refl, refl, (refl, refl, refl, tt)))
  passes (Some file) (Some earlier) Nowhere (FromTo from to) = (refl, refl, refl, (refl, refl, refl, (refl, refl, refl, (refl, refl, refl, tt))))
  passes (Some file) (Some earlier) Nowhere (ToFrom to from) = (refl, refl, refl, (refl, refl, refl, (refl, refl, refl, (refl, refl, refl, tt))))
  passes (Some file) (Some earlier) Before Neither = (refl, refl, refl, (refl, refl, refl, (refl, tt)))
  passes (Some file) (Some earlier) Before (From from) = (refl, refl, refl, (refl, refl, refl, (refl, (refl, refl, refl, tt))))
  passes (Some file) (Some earlier) Before (To to) = (refl, refl, refl, (refl, refl, refl, (refl, (refl, refl, refl, tt))))
  passes (Some file) (Some earlier) Before (FromTo from to) = (refl, refl, refl, (refl, refl, refl, (refl, (refl, refl, refl, (refl, refl, refl, tt)))))
  passes (Some file) (Some earlier) Before (ToFrom to from) = (refl, refl, refl, (refl, refl, refl, (refl, (refl, refl, refl, (refl, refl, refl, tt)))))
  passes (Some file) (Some earlier) BehindFirst Neither = (refl, refl, refl, (refl, refl, refl, (refl, tt)))
  passes (Some file) (Some earlier) BehindFirst (From from) = (refl, refl, refl, (refl, refl, refl, (refl, refl, refl, (refl, tt))))
  passes (Some file) (Some earlier) BehindFirst (To to) = (refl, refl, refl, (refl, refl, refl, (refl, refl, refl, (refl, tt))))
  passes (Some file) (Some earlier) BehindFirst (FromTo from to) = (refl, refl, refl, (refl, refl, refl, (refl, refl, refl, (refl, (refl, refl, refl, tt)))))
  passes (Some file) (Some earlier) BehindFirst (ToFrom to from) = (refl, refl, refl, (refl, refl, refl, (refl, refl, refl, (refl, (refl, refl, refl, tt)))))
  passes (Some file) (Some earlier) Behind Neither = (refl, refl, refl, (refl, refl, refl, (refl, tt)))
  passes (Some file) (Some earlier) Behind (From from) = (refl, refl, refl, (refl, refl, refl, (refl, refl, refl, (refl, tt))))
  passes (Some file) (Some earlier) Behind (To to) = (refl, refl, refl, (refl, refl, refl, (refl, refl, refl, (refl, tt))))
  passes (Some file) (Some earlier) Behind (FromTo from to) = (refl, refl, refl, (refl, refl, refl, (refl, refl, refl, (refl, refl, refl, (refl, tt)))))
  passes (Some file) (Some earlier) Behind (ToFrom to from) = (refl, refl, refl, (refl, refl, refl, (refl, refl, refl, (refl, refl, refl, (refl, tt)))))

  ended : (station after : Option Text) (flag : Flag) (options : Options)
      → track_seen (level_from s (run s 5 t₄ (behind station after flag options)) []) ≡ asked_of f station after (is_given flag) options
  unfolding level_from clap_on_literals
  ended None None Nowhere Neither = refl
  ended None None Nowhere (From from) = refl
  ended None None Nowhere (To to) = refl
  ended None None Nowhere (FromTo from to) = refl
  ended None None Nowhere (ToFrom to from) = refl
  ended None None Before Neither = refl
  ended None None Before (From from) = refl
  ended None None Before (To to) = refl
  ended None None Before (FromTo from to) = refl
  ended None None Before (ToFrom to from) = refl
  ended None None BehindFirst Neither = refl
  ended None None BehindFirst (From from) = refl
  ended None None BehindFirst (To to) = refl
  ended None None BehindFirst (FromTo from to) = refl
  ended None None BehindFirst (ToFrom to from) = refl
  ended None None Behind Neither = refl
  ended None None Behind (From from) = refl
  ended None None Behind (To to) = refl
  ended None None Behind (FromTo from to) = refl
  ended None None Behind (ToFrom to from) = refl
  ended (Some file) None Nowhere Neither = refl
  ended (Some file) None Nowhere (From from) = refl
  ended (Some file) None Nowhere (To to) = refl
  ended (Some file) None Nowhere (FromTo from to) = refl
  ended (Some file) None Nowhere (ToFrom to from) = refl
  ended (Some file) None Before Neither = refl
  ended (Some file) None Before (From from) = refl
  ended (Some file) None Before (To to) = refl
  ended (Some file) None Before (FromTo from to) = refl
  ended (Some file) None Before (ToFrom to from) = refl
  ended (Some file) None BehindFirst Neither = refl
  ended (Some file) None BehindFirst (From from) = refl
  ended (Some file) None BehindFirst (To to) = refl
  ended (Some file) None BehindFirst (FromTo from to) = refl
  ended (Some file) None BehindFirst (ToFrom to from) = refl
  ended (Some file) None Behind Neither = refl
  ended (Some file) None Behind (From from) = refl
  ended (Some file) None Behind (To to) = refl
  ended (Some file) None Behind (FromTo from to) = refl
  ended (Some file) None Behind (ToFrom to from) = refl
  ended None (Some earlier) Nowhere Neither = refl
  ended None (Some earlier) Nowhere (From from) = refl
  ended None (Some earlier) Nowhere (To to) = refl
  ended None (Some earlier) Nowhere (FromTo from to) = refl
  ended None (Some earlier) Nowhere (ToFrom to from) = refl
  ended None (Some earlier) Before Neither = refl
  ended None (Some earlier) Before (From from) = refl
  ended None (Some earlier) Before (To to) = refl
  ended None (Some earlier) Before (FromTo from to) = refl
  ended None (Some earlier) Before (ToFrom to from) = refl
  ended None (Some earlier) BehindFirst Neither = refl
  ended None (Some earlier) BehindFirst (From from) = refl
  ended None (Some earlier) BehindFirst (To to) = refl
  ended None (Some earlier) BehindFirst (FromTo from to) = refl
  ended None (Some earlier) BehindFirst (ToFrom to from) = refl
  ended None (Some earlier) Behind Neither = refl
  ended None (Some earlier) Behind (From from) = refl
  ended None (Some earlier) Behind (To to) = refl
  ended None (Some earlier) Behind (FromTo from to) = refl
  ended None (Some earlier) Behind (ToFrom to from) = refl
  ended (Some file) (Some earlier) Nowhere Neither = refl
  ended (Some file) (Some earlier) Nowhere (From from) = refl
  ended (Some file) (Some earlier) Nowhere (To to) = refl
  ended (Some file) (Some earlier) Nowhere (FromTo from to) = refl
  ended (Some file) (Some earlier) Nowhere (ToFrom to from) = refl
  ended (Some file) (Some earlier) Before Neither = refl
  ended (Some file) (Some earlier) Before (From from) = refl
  ended (Some file) (Some earlier) Before (To to) = refl
  ended (Some file) (Some earlier) Before (FromTo from to) = refl
  ended (Some file) (Some earlier) Before (ToFrom to from) = refl
  ended (Some file) (Some earlier) BehindFirst Neither = refl
  ended (Some file) (Some earlier) BehindFirst (From from) = refl
  ended (Some file) (Some earlier) BehindFirst (To to) = refl
  ended (Some file) (Some earlier) BehindFirst (FromTo from to) = refl
  ended (Some file) (Some earlier) BehindFirst (ToFrom to from) = refl
  ended (Some file) (Some earlier) Behind Neither = refl
  ended (Some file) (Some earlier) Behind (From from) = refl
  ended (Some file) (Some earlier) Behind (To to) = refl
  ended (Some file) (Some earlier) Behind (FromTo from to) = refl
  ended (Some file) (Some earlier) Behind (ToFrom to from) = refl

  track_level : (flag : Flag) (options : Options) → ArePlain options
      → epochs_by (from_text options) (to_text options) ≡ Some f.epochs
      → track_seen (level s (quiet_words f flag options)) ≡ ([], Some f, is_given flag)
  track_level flag options p e =
      ap track_seen (names_walked (station_words f.station (after_words f.after (flagged_words (codes "--quiet") flag options)))
      ∙ ap (level_from s t₄) (words_same (codes "--quiet") f.station f.after flag options)
      ∙ items_walked s 5 t₄ (behind f.station f.after flag options) (items_plain (codes "--quiet") f.station f.after flag options n.4 n.5 p) (passes f.station f.after flag options))
      ∙ ended f.station f.after flag options
      ∙ ap (λ (o : Option Epochs).
      let all : TrackSeen = ([], files_of (Some f.obs) (Some f.nav) (Some f.settings) (Some f.log) o f.station f.after, is_given flag) in all) e

abbrev track_told : TrackSeen → Option Command
track_told l = if is_empty (or_else l.0 []) then option_map (λ files. Track files l.2) l.1 else None

track_said : (words : List Text)
    → command_of (codes "track" ∷ words) ≡ track_told (track_seen (level (files_shape (codes "track") track_options quiet_flag) words))
unfolding clap_on_literals
track_said words = said_of (codes "track") words refl refl

pub track_taken : QuietIsTaken (codes "track") true Track
track_taken f flag options names may e =
    track_said (quiet_words f flag options)
    ∙ ap track_told (track_level f names flag options (plain_options options f.epochs e) e)
