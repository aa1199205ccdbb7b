-- A line of zones, and which zones have one.
use Rattle.std.specs.Prelude.{◌≡◌, ◌⊎◌, ℕ, ◌≤◌, ◌≤ℤ◌, List, ◌∷◌, ◌++◌, length, codes}
use Rattle.std.specs.List.{AllByRecursion}
use Rattle.log_tokens.specs.Fields.{pos_words, IsPosWithin, IsCountFromTo}
use Rattle.grid_model.specs.declared.boxes.Pos.{Pos}
use Rattle.zone_guard.specs.declared.zone.Zone.{Zone}

-- a to z, 0 to 9, or `-`
abbrev pub IsNameByte : ℕ → Type 0
IsNameByte byte = IsCountFromTo 97 122 byte ⊎ (IsCountFromTo 48 57 byte ⊎ (byte ≡ 45))

-- 1 to 16 of them
pub record IsName (name : List ℕ) : Type 0 where
  pub bytes : AllByRecursion IsNameByte name
  pub some : 1 ≤ length name
  pub few : length name ≤ 16

-- a name, and the low and the high corner of a box
pub record ZoneValue : Type 0 where
  pub name : List ℕ
  pub lo : Pos
  pub hi : Pos

-- each coordinate within 10^13 um
pub record ZoneFits (z : ZoneValue) : Type 0 where
  pub name : IsName z.name
  pub lo_within : IsPosWithin 10000000000000 z.lo
  pub hi_within : IsPosWithin 10000000000000 z.hi
  pub x_ordered : z.lo.x ≤ℤ z.hi.x
  pub y_ordered : z.lo.y ≤ℤ z.hi.y
  pub z_ordered : z.lo.z ≤ℤ z.hi.z

-- the words of its line
abbrev pub zone_words : ZoneValue → List (List ℕ)
zone_words z = codes "zone" ∷ z.name ∷ (pos_words z.lo ++ pos_words z.hi)

abbrev pub zone_value : Zone → ZoneValue
zone_value z = record { name = z.name.bytes; lo = z.part.lo; hi = z.part.hi }
