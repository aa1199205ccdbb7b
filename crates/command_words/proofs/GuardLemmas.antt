-- Words of `guard` ask for it.
use Rattle.std.proofs.Common.{◌≡◌, List, [], ◌∷◌, Option, Some, None, codes, refl, ap, ◌∙◌}
use Rattle.std.specs.Prelude.{Bool, true, false, if◌then◌else◌}
use Rattle.clap.specs.Kinds.{Kinds, or_else}
use Rattle.clap.specs.Walk.{Text, Walk, nothing_held, is_empty}
use Rattle.clap.specs.Simple.{Shape}
use Rattle.clap.proofs.OnLiterals.{clap_on_literals}
use Rattle.command_words.specs.Commands.{Epochs, Files, Command, Guard, guard_by, guard_of, files_of, epochs_by, is_alone, command_of}
use Rattle.command_words.specs.Stated.{IsName, AreNames, Options, Neither, From, To, FromTo, ToFrom, Flag, Nowhere, Before, BehindFirst, Behind, from_text, to_text, is_given, after_words, flagged_words, guard_words, station_words, GuardIsTaken, MayHaveEarlier}
use Rattle.command_words.proofs.FlagLemmas.{after_items, flagged_items, items_plain, station_items, words_same}
use Rattle.command_words.proofs.LevelLemmas.{guard_shape, Item, Level, Passes, items_walked, level, level_from, level_is, name_more, run, said_of}
use Rattle.command_words.proofs.StatedLemmas.{ArePlain, plain_options, start, taken}

-- the faults of its level, and the command that its matches hold
abbrev GuardSeen : Type 0
GuardSeen = Kinds × Option Command

abbrev guard_seen : Level → GuardSeen
guard_seen l = (l.0, guard_by l.1)

-- the names, and what the options say
abbrev asked_of : Files → Text → (station after : Option Text) → Bool → Options → GuardSeen
asked_of f zones station after tracked options = (
  [],
  guard_of (files_of (Some f.obs) (Some f.nav) (Some f.settings) (Some f.log) (epochs_by (from_text options) (to_text options)) station after) (Some zones) tracked,
)

module _ (f : Files) (zones : Text) (n : AreNames f) (z : IsName zones) where
  abbrev s : Shape
  s = guard_shape

  abbrev g₁ : Walk
  g₁ = taken s start 1 f.obs

  abbrev g₂ : Walk
  g₂ = taken s g₁ 2 f.nav

  abbrev g₃ : Walk
  g₃ = taken s g₂ 3 f.settings

  abbrev g₄ : Walk
  g₄ = taken s g₃ 4 zones

  abbrev g₅ : Walk
  g₅ = taken s g₄ 5 f.log

  names_walked : (rest : List Text)
      → level s (f.obs ∷ f.nav ∷ f.settings ∷ zones ∷ f.log ∷ rest) ≡ level_from s g₅ rest
  names_walked rest =
      level_is s (f.obs ∷ f.nav ∷ f.settings ∷ zones ∷ f.log ∷ rest)
      ∙ name_more s nothing_held 1 f.obs (f.nav ∷ f.settings ∷ zones ∷ f.log ∷ rest) n.0 refl
      ∙ name_more s g₁.held 2 f.nav (f.settings ∷ zones ∷ f.log ∷ rest) n.1 refl
      ∙ name_more s g₂.held 3 f.settings (zones ∷ f.log ∷ rest) n.2 refl
      ∙ name_more s g₃.held 4 zones (f.log ∷ rest) z refl
      ∙ name_more s g₄.held 5 f.log rest n.3 refl

  -- what stands behind the names
  abbrev behind : (station after : Option Text) → Flag → Options → List Item
  behind station after flag options =
      station_items station (after_items after (flagged_items (codes "--track") flag options))

  passes : (station after : Option Text) (flag : Flag) (options : Options)
      → Passes s 6 g₅ (behind station after flag options)
  unfolding clap_on_literals
  passes None None Nowhere Neither = tt
  passes None None Nowhere (From from) = (refl, refl, refl, tt)
  passes None None Nowhere (To to) = (refl, refl, refl, tt)
  passes None None Nowhere (FromTo from to) = (refl, refl, refl, (refl, refl, refl, tt))
  passes None None Nowhere (ToFrom to from) = (refl, refl, refl, (refl, refl, refl, tt))
  passes None None Before Neither = (refl, tt)
  passes None None Before (From from) = (refl, (refl, refl, refl, tt))
  passes None None Before (To to) = (refl, (refl, refl, refl, tt))
  passes None None Before (FromTo from to) = (refl, (refl, refl, refl, (refl, refl, refl, tt)))
  passes None None Before (ToFrom to from) = (refl, (refl, refl, refl, (refl, refl, refl, tt)))
  passes None None BehindFirst Neither = (refl, tt)
  passes None None BehindFirst (From from) = (refl, refl, refl, (refl, tt))
  passes None None BehindFirst (To to) = (refl, refl, refl, (refl, tt))
  passes None None BehindFirst (FromTo from to) = (refl, refl, refl, (refl, (refl, refl, refl, tt)))
  passes None None BehindFirst (ToFrom to from) = (refl, refl, refl, (refl, (refl, refl, refl, tt)))
  passes None None Behind Neither = (refl, tt)
  passes None None Behind (From from) = (refl, refl, refl, (refl, tt))
  passes None None Behind (To to) = (refl, refl, refl, (refl, tt))
  passes None None Behind (FromTo from to) = (refl, refl, refl, (refl, refl, refl, (refl, tt)))
  passes None None Behind (ToFrom to from) = (refl, refl, refl, (refl, refl, refl, (refl, tt)))
  passes (Some file) None Nowhere Neither = (refl, refl, refl, tt)
  passes (Some file) None Nowhere (From from) = (refl, refl, refl, (refl, refl, refl, tt))
  passes (Some file) None Nowhere (To to) = (refl, refl, refl, (refl, refl, refl, tt))
  passes (Some file) None Nowhere (FromTo from to) = (refl, refl, refl, (refl, refl, refl, (refl, refl, refl, tt)))
  passes (Some file) None Nowhere (ToFrom to from) = (refl, refl, refl, (refl, refl, refl, (refl, refl, refl, tt)))
  passes (Some file) None Before Neither = (refl, refl, refl, (refl, tt))
  passes (Some file) None Before (From from) = (refl, refl, refl, (refl, (refl, refl, refl, tt)))
  passes (Some file) None Before (To to) = (refl, refl, refl, (refl, (refl, refl, refl, tt)))
  passes (Some file) None Before (FromTo from to) = (refl, refl, refl, (refl, (refl, refl, refl, (refl, refl, refl, tt))))
  passes (Some file) None Before (ToFrom to from) = (refl, refl, refl, (refl, (refl, refl, refl, (refl, refl, refl, tt))))
  passes (Some file) None BehindFirst Neither = (refl, refl, refl, (refl, tt))
  passes (Some file) None BehindFirst (From from) = (refl, refl, refl, (refl, refl, refl, (refl, tt)))
  passes (Some file) None BehindFirst (To to) = (refl, refl, refl, (refl, refl, refl, (refl, tt)))
  passes (Some file) None BehindFirst (FromTo from to) = (refl, refl, refl, (refl, refl, refl, (refl, (refl, refl, refl, tt))))
  passes (Some file) None BehindFirst (ToFrom to from) = (refl, refl, refl, (refl, refl, refl, (refl, (refl, refl, refl, tt))))
  passes (Some file) None Behind Neither = (refl, refl, refl, (refl, tt))
  passes (Some file) None Behind (From from) = (refl, refl, refl, (refl, refl, refl, (refl, tt)))
  passes (Some file) None Behind (To to) = (refl, refl, refl, (refl, refl, refl, (refl, tt)))
  passes (Some file) None Behind (FromTo from to) = (refl, refl, refl, (refl, refl, refl, (refl, refl, refl, (refl, tt))))
  passes (Some file) None Behind (ToFrom to from) = (refl, refl, refl, (refl, refl, refl, (refl, refl, refl, (refl, tt))))
  passes None (Some earlier) Nowhere Neither = (refl, refl, refl, tt)
  passes None (Some earlier) Nowhere (From from) = (refl, refl, refl, (refl, refl, refl, tt))
  passes None (Some earlier) Nowhere (To to) = (refl, refl, refl, (refl, refl, refl, tt))
  passes None (Some earlier) Nowhere (FromTo from to) = (refl, refl, refl, (refl, refl, refl, (refl, refl, refl, tt)))
  passes None (Some earlier) Nowhere (ToFrom to from) = (refl, refl, refl, (refl, refl, refl, (refl, refl, refl, tt)))
  passes None (Some earlier) Before Neither = (refl, refl, refl, (refl, tt))
  passes None (Some earlier) Before (From from) = (refl, refl, refl, (refl, (refl, refl, refl, tt)))
  passes None (Some earlier) Before (To to) = (refl, refl, refl, (refl, (refl, refl, refl, tt)))
  passes None (Some earlier) Before (FromTo from to) = (refl, refl, refl, (refl, (refl, refl, refl, (refl, refl, refl, tt))))
  passes None (Some earlier) Before (ToFrom to from) = (refl, refl, refl, (refl, (refl, refl, refl, (refl, refl, refl, tt))))
  passes None (Some earlier) BehindFirst Neither = (refl, refl, refl, (refl, tt))
  passes None (Some earlier) BehindFirst (From from) = (refl, refl, refl, (refl, refl, refl, (refl, tt)))
  passes None (Some earlier) BehindFirst (To to) = (refl, refl, refl, (refl, refl, refl, (refl, tt)))
  passes None (Some earlier) BehindFirst (FromTo from to) = (refl, refl, refl, (refl, refl, refl, (refl, (refl, refl, refl, tt))))
  passes None (Some earlier) BehindFirst (ToFrom to from) = (refl, refl, refl, (refl, refl, refl, (refl, (refl, refl, refl, tt))))
  passes None (Some earlier) Behind Neither = (refl, refl, refl, (refl, tt))
  passes None (Some earlier) Behind (From from) = (refl, refl, refl, (refl, refl, refl, (refl, tt)))
  passes None (Some earlier) Behind (To to) = (refl, refl, refl, (refl, refl, refl, (refl, tt)))
  passes None (Some earlier) Behind (FromTo from to) = (refl, refl, refl, (refl, refl, refl, (refl, refl, refl, (refl, tt))))
  passes None (Some earlier) Behind (ToFrom to from) = (refl, refl, refl, (refl, refl, refl, (refl, refl, refl, (refl, tt))))
  passes (Some file) (Some earlier) Nowhere Neither = (refl, refl, refl, (refl, refl, refl, tt))
  passes (Some file) (Some earlier) Nowhere (From from) = (refl, refl, refl, (refl, refl, refl, (refl, refl, refl, tt)))
  passes (Some file) (Some earlier) Nowhere (To to) = (refl, refl, refl, (refl, refl, refl, (refl, refl, refl, tt)))
  passes (Some file) (Some earlier) Nowhere (FromTo from to) = (refl, refl, refl, (refl, refl, refl, (refl, refl, refl, (refl, refl, refl, tt))))
  passes (Some file) (Some earlier) Nowhere (ToFrom to from) = (refl, refl, refl, (refl, refl, refl, (refl, refl, refl, (refl, refl, refl, tt))))
  passes (Some file) (Some earlier) Before Neither = (refl, refl, refl, (refl, refl, refl, (refl, tt)))
  passes (Some file) (Some earlier) Before (From from) = (refl, refl, refl, (refl, refl, refl, (refl, (refl, refl, refl, tt))))
  passes (Some file) (Some earlier) Before (To to) = (refl, refl, refl, (refl, refl, refl, (refl, (refl, refl, refl, tt))))
  passes (Some file) (Some earlier) Before (FromTo from to) = (refl, refl, refl, (refl, refl, refl, (refl, (refl, refl, refl, (refl, refl, refl, tt)))))
  passes (Some file) (Some earlier) Before (ToFrom to from) = (refl, refl, refl, (refl, refl, refl, (refl, (refl, refl, refl, (refl, refl, refl, tt)))))
  passes (Some file) (Some earlier) BehindFirst Neither = (refl, refl, refl, (refl, refl, refl, (refl, tt)))
  passes (Some file) (Some earlier) BehindFirst (From from) = (refl, refl, refl, (refl, refl, refl, (refl, refl, refl, (refl, tt))))
  passes (Some file) (Some earlier) BehindFirst (To to) = (refl, refl, refl, (refl, refl, refl, (refl, refl, refl, (refl, tt))))
  passes (Some file) (Some earlier) BehindFirst (FromTo from to) = (refl, refl, refl, (refl, refl, refl, (refl, refl, refl, (refl, (refl, refl, refl, tt)))))
  passes (Some file) (Some earlier) BehindFirst (ToFrom to from) = (refl, refl, refl, (refl, refl, refl, (refl, refl, refl, (refl, (refl, refl, refl, tt)))))
  passes (Some file) (Some earlier) Behind Neither = (refl, refl, refl, (refl, refl, refl, (refl, tt)))
  passes (Some file) (Some earlier) Behind (From from) = (refl, refl, refl, (refl, refl, refl, (refl, refl, refl, (refl, tt))))
  passes (Some file) (Some earlier) Behind (To to) = (refl, refl, refl, (refl, refl, refl, (refl, refl, refl, (refl, tt))))
  passes (Some file) (Some earlier) Behind (FromTo from to) = (refl, refl, refl, (refl, refl, refl, (refl, refl, refl, (refl, refl, refl, (refl, tt)))))
  passes (Some file) (Some earlier) Behind (ToFrom to from) = (refl, refl, refl, (refl, refl, refl, (refl, refl, refl, (refl, refl, refl, (refl, tt)))))

  ended : (station after : Option Text) (flag : Flag) (options : Options)
      → guard_seen (level_from s (run s 6 g₅ (behind station after flag options)) []) ≡ asked_of f zones station after (is_given flag) options
  unfolding level_from clap_on_literals
  ended None None Nowhere Neither = refl
  ended None None Nowhere (From from) = refl
  ended None None Nowhere (To to) = refl
  ended None None Nowhere (FromTo from to) = refl
  ended None None Nowhere (ToFrom to from) = refl
  ended None None Before Neither = refl
  ended None None Before (From from) = refl
  ended None None Before (To to) = refl
  ended None None Before (FromTo from to) = refl
  ended None None Before (ToFrom to from) = refl
  ended None None BehindFirst Neither = refl
  ended None None BehindFirst (From from) = refl
  ended None None BehindFirst (To to) = refl
  ended None None BehindFirst (FromTo from to) = refl
  ended None None BehindFirst (ToFrom to from) = refl
  ended None None Behind Neither = refl
  ended None None Behind (From from) = refl
  ended None None Behind (To to) = refl
  ended None None Behind (FromTo from to) = refl
  ended None None Behind (ToFrom to from) = refl
  ended (Some file) None Nowhere Neither = refl
  ended (Some file) None Nowhere (From from) = refl
  ended (Some file) None Nowhere (To to) = refl
  ended (Some file) None Nowhere (FromTo from to) = refl
  ended (Some file) None Nowhere (ToFrom to from) = refl
  ended (Some file) None Before Neither = refl
  ended (Some file) None Before (From from) = refl
  ended (Some file) None Before (To to) = refl
  ended (Some file) None Before (FromTo from to) = refl
  ended (Some file) None Before (ToFrom to from) = refl
  ended (Some file) None BehindFirst Neither = refl
  ended (Some file) None BehindFirst (From from) = refl
  ended (Some file) None BehindFirst (To to) = refl
  ended (Some file) None BehindFirst (FromTo from to) = refl
  ended (Some file) None BehindFirst (ToFrom to from) = refl
  ended (Some file) None Behind Neither = refl
  ended (Some file) None Behind (From from) = refl
  ended (Some file) None Behind (To to) = refl
  ended (Some file) None Behind (FromTo from to) = refl
  ended (Some file) None Behind (ToFrom to from) = refl
  ended None (Some earlier) Nowhere Neither = refl
  ended None (Some earlier) Nowhere (From from) = refl
  ended None (Some earlier) Nowhere (To to) = refl
  ended None (Some earlier) Nowhere (FromTo from to) = refl
  ended None (Some earlier) Nowhere (ToFrom to from) = refl
  ended None (Some earlier) Before Neither = refl
  ended None (Some earlier) Before (From from) = refl
  ended None (Some earlier) Before (To to) = refl
  ended None (Some earlier) Before (FromTo from to) = refl
  ended None (Some earlier) Before (ToFrom to from) = refl
  ended None (Some earlier) BehindFirst Neither = refl
  ended None (Some earlier) BehindFirst (From from) = refl
  ended None (Some earlier) BehindFirst (To to) = refl
  ended None (Some earlier) BehindFirst (FromTo from to) = refl
  ended None (Some earlier) BehindFirst (ToFrom to from) = refl
  ended None (Some earlier) Behind Neither = refl
  ended None (Some earlier) Behind (From from) = refl
  ended None (Some earlier) Behind (To to) = refl
  ended None (Some earlier) Behind (FromTo from to) = refl
  ended None (Some earlier) Behind (ToFrom to from) = refl
  ended (Some file) (Some earlier) Nowhere Neither = refl
  ended (Some file) (Some earlier) Nowhere (From from) = refl
  ended (Some file) (Some earlier) Nowhere (To to) = refl
  ended (Some file) (Some earlier) Nowhere (FromTo from to) = refl
  ended (Some file) (Some earlier) Nowhere (ToFrom to from) = refl
  ended (Some file) (Some earlier) Before Neither = refl
  ended (Some file) (Some earlier) Before (From from) = refl
  ended (Some file) (Some earlier) Before (To to) = refl
  ended (Some file) (Some earlier) Before (FromTo from to) = refl
  ended (Some file) (Some earlier) Before (ToFrom to from) = refl
  ended (Some file) (Some earlier) BehindFirst Neither = refl
  ended (Some file) (Some earlier) BehindFirst (From from) = refl
  ended (Some file) (Some earlier) BehindFirst (To to) = refl
  ended (Some file) (Some earlier) BehindFirst (FromTo from to) = refl
  ended (Some file) (Some earlier) BehindFirst (ToFrom to from) = refl
  ended (Some file) (Some earlier) Behind Neither = refl
  ended (Some file) (Some earlier) Behind (From from) = refl
  ended (Some file) (Some earlier) Behind (To to) = refl
  ended (Some file) (Some earlier) Behind (FromTo from to) = refl
  ended (Some file) (Some earlier) Behind (ToFrom to from) = refl

  -- with an earlier log the track is asked for
  not_alone : (after : Option Text) (tracked : Bool) → MayHaveEarlier tracked after
      → is_alone after tracked ≡ false
  not_alone None tracked may = refl
  not_alone (Some after) true may = refl
  not_alone (Some after) false may = cc

  guard_level : (flag : Flag) (options : Options) → ArePlain options
      → MayHaveEarlier (is_given flag) f.after
      → epochs_by (from_text options) (to_text options) ≡ Some f.epochs
      → guard_seen (level s (guard_words f zones flag options)) ≡ ([], Some (Guard f zones (is_given flag)))
  guard_level flag options p may e =
      ap guard_seen (names_walked (station_words f.station (after_words f.after (flagged_words (codes "--track") flag options)))
      ∙ ap (level_from s g₅) (words_same (codes "--track") f.station f.after flag options)
      ∙ items_walked s 6 g₅ (behind f.station f.after flag options) (items_plain (codes "--track") f.station f.after flag options n.4 n.5 p) (passes f.station f.after flag options))
      ∙ ended f.station f.after flag options
      ∙ ap (λ (o : Option Epochs).
      let both : GuardSeen = ([], guard_of (files_of (Some f.obs) (Some f.nav) (Some f.settings) (Some f.log) o f.station f.after) (Some zones) (is_given flag)) in both) e
      ∙ ap (λ (alone : Bool).
      let both : GuardSeen = ([], if alone then None else Some (Guard f zones (is_given flag))) in both) (not_alone f.after (is_given flag) may)

abbrev guard_told : GuardSeen → Option Command
guard_told l = if is_empty (or_else l.0 []) then l.1 else None

guard_said : (words : List Text)
    → command_of (codes "guard" ∷ words) ≡ guard_told (guard_seen (level guard_shape words))
unfolding clap_on_literals
guard_said words = said_of (codes "guard") words refl refl

pub guard_taken : GuardIsTaken
guard_taken f zones flag options names zone may e =
    guard_said (guard_words f zones flag options) ∙ ap guard_told (guard_level f zones names zone flag options (plain_options options f.epochs e) may e)
