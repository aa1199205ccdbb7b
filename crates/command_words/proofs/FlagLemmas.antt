-- Options with a flag among them, one behind another.
use Rattle.std.proofs.Common.{◌≡◌, List, [], ◌∷◌, ◌++◌, Option, Some, None, codes, refl, ap}
use Rattle.clap.specs.Walk.{Text}
use Rattle.command_words.specs.Stated.{IsNameIfGiven, Options, Neither, From, To, FromTo, ToFrom, Flag, Nowhere, Before, BehindFirst, Behind, after_words, flagged_words, station_words}
use Rattle.command_words.proofs.LevelLemmas.{ArePlainItems, Flags, Item, Reads, item_words}
use Rattle.command_words.proofs.StatedLemmas.{ArePlain}

abbrev pub from_item : Text → Item
from_item from = Reads (codes "--from") (codes "from") from

abbrev pub to_item : Text → Item
to_item to = Reads (codes "--to") (codes "to") to

abbrev pub option_items : Options → List Item
option_items Neither = []
option_items (From from) = from_item from ∷ []
option_items (To to) = to_item to ∷ []
option_items (FromTo from to) = from_item from ∷ to_item to ∷ []
option_items (ToFrom to from) = to_item to ∷ from_item from ∷ []

-- the word of the flag among them
abbrev pub flagged_items : (word : Text) → Flag → Options → List Item
flagged_items word Nowhere options = option_items options
flagged_items word Before options = Flags word ∷ option_items options
flagged_items word BehindFirst Neither = Flags word ∷ []
flagged_items word BehindFirst (From from) = from_item from ∷ Flags word ∷ []
flagged_items word BehindFirst (To to) = to_item to ∷ Flags word ∷ []
flagged_items word BehindFirst (FromTo from to) = from_item from ∷ Flags word ∷ to_item to ∷ []
flagged_items word BehindFirst (ToFrom to from) = to_item to ∷ Flags word ∷ from_item from ∷ []
flagged_items word Behind options = option_items options ++ Flags word ∷ []

abbrev pub station_items : Option Text → List Item → List Item
station_items None items = items
station_items (Some file) items = Reads (codes "--station") (codes "station") file ∷ items

abbrev pub after_items : Option Text → List Item → List Item
after_items None items = items
after_items (Some file) items = Reads (codes "--after") (codes "after") file ∷ items

flagged_same : (word : Text) (flag : Flag) (options : Options)
    → flagged_words word flag options ≡ item_words (flagged_items word flag options)
flagged_same word Nowhere Neither = refl
flagged_same word Nowhere (From from) = refl
flagged_same word Nowhere (To to) = refl
flagged_same word Nowhere (FromTo from to) = refl
flagged_same word Nowhere (ToFrom to from) = refl
flagged_same word Before Neither = refl
flagged_same word Before (From from) = refl
flagged_same word Before (To to) = refl
flagged_same word Before (FromTo from to) = refl
flagged_same word Before (ToFrom to from) = refl
flagged_same word BehindFirst Neither = refl
flagged_same word BehindFirst (From from) = refl
flagged_same word BehindFirst (To to) = refl
flagged_same word BehindFirst (FromTo from to) = refl
flagged_same word BehindFirst (ToFrom to from) = refl
flagged_same word Behind Neither = refl
flagged_same word Behind (From from) = refl
flagged_same word Behind (To to) = refl
flagged_same word Behind (FromTo from to) = refl
flagged_same word Behind (ToFrom to from) = refl

-- the words and the items of what stands in front of others
station_same : (station : Option Text) (words : List Text) (items : List Item) → words ≡ item_words items
    → station_words station words ≡ item_words (station_items station items)
station_same None words items same = same
station_same (Some file) words items same =
    ap (λ (more : List Text). codes "--station" ∷ file ∷ more) same

after_same : (after : Option Text) (words : List Text) (items : List Item) → words ≡ item_words items
    → after_words after words ≡ item_words (after_items after items)
after_same None words items same = same
after_same (Some file) words items same =
    ap (λ (more : List Text). codes "--after" ∷ file ∷ more) same

pub words_same : (word : Text) (station after : Option Text) (flag : Flag) (options : Options)
    → station_words station (after_words after (flagged_words word flag options))
    ≡ item_words (station_items station (after_items after (flagged_items word flag options)))
words_same word station after flag options =
    station_same station (after_words after (flagged_words word flag options))
    (after_items after (flagged_items word flag options))
    (after_same after (flagged_words word flag options) (flagged_items word flag options) (flagged_same word flag options))

flagged_plain : (word : Text) (flag : Flag) (options : Options) → ArePlain options
    → ArePlainItems (flagged_items word flag options)
flagged_plain word Nowhere Neither p = tt
flagged_plain word Nowhere (From from) p = (p, tt)
flagged_plain word Nowhere (To to) p = (p, tt)
flagged_plain word Nowhere (FromTo from to) p = (p.0, (p.1, tt))
flagged_plain word Nowhere (ToFrom to from) p = (p.1, (p.0, tt))
flagged_plain word Before Neither p = tt
flagged_plain word Before (From from) p = (p, tt)
flagged_plain word Before (To to) p = (p, tt)
flagged_plain word Before (FromTo from to) p = (p.0, (p.1, tt))
flagged_plain word Before (ToFrom to from) p = (p.1, (p.0, tt))
flagged_plain word BehindFirst Neither p = tt
flagged_plain word BehindFirst (From from) p = (p, tt)
flagged_plain word BehindFirst (To to) p = (p, tt)
flagged_plain word BehindFirst (FromTo from to) p = (p.0, (p.1, tt))
flagged_plain word BehindFirst (ToFrom to from) p = (p.1, (p.0, tt))
flagged_plain word Behind Neither p = tt
flagged_plain word Behind (From from) p = (p, tt)
flagged_plain word Behind (To to) p = (p, tt)
flagged_plain word Behind (FromTo from to) p = (p.0, (p.1, tt))
flagged_plain word Behind (ToFrom to from) p = (p.1, (p.0, tt))

station_plain : (station : Option Text) (items : List Item) → IsNameIfGiven station
    → ArePlainItems items → ArePlainItems (station_items station items)
station_plain None items name plain = plain
station_plain (Some file) items name plain = (name, plain)

after_plain : (after : Option Text) (items : List Item) → IsNameIfGiven after
    → ArePlainItems items → ArePlainItems (after_items after items)
after_plain None items name plain = plain
after_plain (Some file) items name plain = (name, plain)

pub items_plain : (word : Text) (station after : Option Text) (flag : Flag) (options : Options)
    → IsNameIfGiven station → IsNameIfGiven after → ArePlain options
    → ArePlainItems (station_items station (after_items after (flagged_items word flag options)))
items_plain word station after flag options file earlier p =
    station_plain station (after_items after (flagged_items word flag options)) file
    (after_plain after (flagged_items word flag options) earlier (flagged_plain word flag options p))
