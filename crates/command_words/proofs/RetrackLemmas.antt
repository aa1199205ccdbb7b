-- Words of `retrack` ask for it, behind an earlier log or not.
use Rattle.std.proofs.Common.{◌≡◌, List, [], ◌∷◌, Option, Some, None, codes, refl, ap, ◌∙◌}
use Rattle.std.specs.Prelude.{true, if◌then◌else◌, option_map}
use Rattle.clap.specs.Kinds.{Kinds, or_else}
use Rattle.clap.specs.Walk.{Text, Walk, nothing_held, is_empty}
use Rattle.clap.specs.Simple.{Shape}
use Rattle.clap.proofs.OnLiterals.{clap_on_literals}
use Rattle.command_words.specs.Program.{track_options}
use Rattle.command_words.specs.Commands.{Epochs, Files, Command, Retrack, files_of, track_files_by, epochs_by, command_of}
use Rattle.command_words.specs.Stated.{AreNames, Options, Neither, From, To, FromTo, ToFrom, Nowhere, from_text, to_text, after_words, file_words, option_words, station_words, FilesAreTaken}
use Rattle.command_words.proofs.FlagLemmas.{after_items, items_plain, option_items, station_items, words_same}
use Rattle.command_words.proofs.LevelLemmas.{files_shape, Item, Level, Passes, items_walked, level, level_from, level_is, name_more, run, said_of}
use Rattle.command_words.proofs.StatedLemmas.{ArePlain, plain_options, start, taken}

-- the faults of a level, and the files that its matches hold
abbrev RetrackSeen : Type 0
RetrackSeen = Kinds × Option Files

abbrev retrack_seen : Level → RetrackSeen
retrack_seen l = (l.0, track_files_by l.1)

-- the names, and what the options say
abbrev asked_of : Files → (station after : Option Text) → Options → RetrackSeen
asked_of f station after options = (
  [],
  files_of (Some f.obs) (Some f.nav) (Some f.settings) (Some f.log) (epochs_by (from_text options) (to_text options)) station after,
)

module _ (f : Files) (n : AreNames f) where
  abbrev s : Shape
  s = files_shape (codes "retrack") track_options []

  abbrev r₁ : Walk
  r₁ = taken s start 1 f.obs

  abbrev r₂ : Walk
  r₂ = taken s r₁ 2 f.nav

  abbrev r₃ : Walk
  r₃ = taken s r₂ 3 f.settings

  abbrev r₄ : Walk
  r₄ = taken s r₃ 4 f.log

  names_walked : (rest : List Text)
      → level s (f.obs ∷ f.nav ∷ f.settings ∷ f.log ∷ rest) ≡ level_from s r₄ rest
  names_walked rest =
      level_is s (f.obs ∷ f.nav ∷ f.settings ∷ f.log ∷ rest)
      ∙ name_more s nothing_held 1 f.obs (f.nav ∷ f.settings ∷ f.log ∷ rest) n.0 refl
      ∙ name_more s r₁.held 2 f.nav (f.settings ∷ f.log ∷ rest) n.1 refl
      ∙ name_more s r₂.held 3 f.settings (f.log ∷ rest) n.2 refl
      ∙ name_more s r₃.held 4 f.log rest n.3 refl

  -- what stands behind the names
  abbrev behind : (station after : Option Text) → Options → List Item
  behind station after options = station_items station (after_items after (option_items options))

  passes : (station after : Option Text) (options : Options) → Passes s 5 r₄ (behind station after options)
  unfolding clap_on_literals
  passes None None Neither = tt
  passes None None (From from) = (refl, refl, refl, tt)
  passes None None (To to) = (refl, refl, refl, tt)
  passes None None (FromTo from to) = (refl, refl, refl, (refl, refl, refl, tt))
  passes None None (ToFrom to from) = (refl, refl, refl, (refl, refl, refl, tt))
  passes (Some file) None Neither = (refl, refl, refl, tt)
  passes (Some file) None (From from) = (refl, refl, refl, (refl, refl, refl, tt))
  passes (Some file) None (To to) = (refl, refl, refl, (refl, refl, refl, tt))
  passes (Some file) None (FromTo from to) = (refl, refl, refl, (refl, refl, refl, (refl, refl, refl, tt)))
  passes (Some file) None (ToFrom to from) = (refl, refl, refl, (refl, refl, refl, (refl, refl, refl, tt)))
  passes None (Some earlier) Neither = (refl, refl, refl, tt)
  passes None (Some earlier) (From from) = (refl, refl, refl, (refl, refl, refl, tt))
  passes None (Some earlier) (To to) = (refl, refl, refl, (refl, refl, refl, tt))
  passes None (Some earlier) (FromTo from to) = (refl, refl, refl, (refl, refl, refl, (refl, refl, refl, tt)))
  passes None (Some earlier) (ToFrom to from) = (refl, refl, refl, (refl, refl, refl, (refl, refl, refl, tt)))
  passes (Some file) (Some earlier) Neither = (refl, refl, refl, (refl, refl, refl, tt))
  passes (Some file) (Some earlier) (From from) = (refl, refl, refl, (refl, refl, refl, (refl, refl, refl, tt)))
  passes (Some file) (Some earlier) (To to) = (refl, refl, refl, (refl, refl, refl, (refl, refl, refl, tt)))
  passes (Some file) (Some earlier) (FromTo from to) = (refl, refl, refl, (refl, refl, refl, (refl, refl, refl, (refl, refl, refl, tt))))
  passes (Some file) (Some earlier) (ToFrom to from) = (refl, refl, refl, (refl, refl, refl, (refl, refl, refl, (refl, refl, refl, tt))))

  ended : (station after : Option Text) (options : Options)
      → retrack_seen (level_from s (run s 5 r₄ (behind station after options)) []) ≡ asked_of f station after options
  unfolding level_from clap_on_literals
  ended None None Neither = refl
  ended None None (From from) = refl
  ended None None (To to) = refl
  ended None None (FromTo from to) = refl
  ended None None (ToFrom to from) = refl
  ended (Some file) None Neither = refl
  ended (Some file) None (From from) = refl
  ended (Some file) None (To to) = refl
  ended (Some file) None (FromTo from to) = refl
  ended (Some file) None (ToFrom to from) = refl
  ended None (Some earlier) Neither = refl
  ended None (Some earlier) (From from) = refl
  ended None (Some earlier) (To to) = refl
  ended None (Some earlier) (FromTo from to) = refl
  ended None (Some earlier) (ToFrom to from) = refl
  ended (Some file) (Some earlier) Neither = refl
  ended (Some file) (Some earlier) (From from) = refl
  ended (Some file) (Some earlier) (To to) = refl
  ended (Some file) (Some earlier) (FromTo from to) = refl
  ended (Some file) (Some earlier) (ToFrom to from) = refl

  -- they stand there as among the words of a flag that is nowhere
  retrack_level : (options : Options) → ArePlain options
      → epochs_by (from_text options) (to_text options) ≡ Some f.epochs
      → retrack_seen (level s (file_words f options)) ≡ ([], Some f)
  retrack_level options p e =
      ap retrack_seen (names_walked (station_words f.station (after_words f.after (option_words options)))
      ∙ ap (level_from s r₄) (words_same [] f.station f.after Nowhere options)
      ∙ items_walked s 5 r₄ (behind f.station f.after options) (items_plain [] f.station f.after Nowhere options n.4 n.5 p) (passes f.station f.after options))
      ∙ ended f.station f.after options
      ∙ ap (λ (o : Option Epochs).
      let both : RetrackSeen = ([], files_of (Some f.obs) (Some f.nav) (Some f.settings) (Some f.log) o f.station f.after) in both) e

abbrev retrack_told : RetrackSeen → Option Command
retrack_told l = if is_empty (or_else l.0 []) then option_map Retrack l.1 else None

retrack_said : (words : List Text)
    → command_of (codes "retrack" ∷ words) ≡ retrack_told (retrack_seen (level (files_shape (codes "retrack") track_options []) words))
unfolding clap_on_literals
retrack_said words = said_of (codes "retrack") words refl refl

pub retrack_taken : FilesAreTaken (codes "retrack") true Retrack
retrack_taken f options names may e =
    retrack_said (file_words f options) ∙ ap retrack_told (retrack_level f names options (plain_options options f.epochs e) e)
