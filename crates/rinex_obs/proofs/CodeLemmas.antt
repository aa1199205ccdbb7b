-- The first place of a code in a list.
use Rattle.std.proofs.Common.{◌≡◌, ℕ, suc, Bool, true, false, cond, List, [], ◌∷◌, ◌++◌, length, Option, None, Some, is_some, refl, sym}
use Rattle.std.specs.Option.{option_map}
use Rattle.std.specs.Str.{bytes_eq}
use Rattle.rinex_obs.specs.Types.{Code, place_of}

abbrev or_else : Option ℕ → Option ℕ → Option ℕ
or_else None later = later
or_else (Some place) later = Some place

behind_one : (here last : Bool) (place : Option ℕ) (n : ℕ)
    → cond here (Some 0) (option_map suc (or_else place (cond last (Some n) None))) ≡ or_else (cond here (Some 0) (option_map suc place)) (cond last (Some (suc n)) None)
behind_one true last place n = refl
behind_one false last (Some place) n = refl
behind_one false true None n = refl
behind_one false false None n = refl

place_more : (code next : Code) (codes : List Code)
    → place_of code (codes ++ next ∷ []) ≡ or_else (place_of code codes) (cond (bytes_eq next code) (Some (length codes)) None)
place_more code next [] = refl
place_more code next (first ∷ codes) = rw (place_more code next codes) (behind_one (bytes_eq first code) (bytes_eq next code) (place_of code codes) (length codes))

pub place_kept : (found : Option ℕ) (code next : Code) (codes : List Code) → is_some found ≡ true
    → found ≡ place_of code codes → found ≡ place_of code (codes ++ next ∷ [])
place_kept None code next codes some e = absurd cc
place_kept (Some place) code next codes some e = rw (place_more code next codes, sym e) refl

pub place_new : (found : Option ℕ) (code next : Code) (codes : List Code) (seen : ℕ)
    → is_some found ≡ false → found ≡ place_of code codes → bytes_eq next code ≡ true
    → seen ≡ length codes
    → Some seen ≡ place_of code (codes ++ next ∷ [])
place_new None code next codes seen none e same n = rw (place_more code next codes, sym e, same, n) refl
place_new (Some place) code next codes seen none e same n = absurd cc

pub place_none : (found : Option ℕ) (code next : Code) (codes : List Code) → is_some found ≡ false
    → found ≡ place_of code codes → bytes_eq next code ≡ false
    → None ≡ place_of code (codes ++ next ∷ [])
place_none None code next codes none e other = rw (place_more code next codes, sym e, other) refl
place_none (Some place) code next codes none e other = absurd cc
