-- The settings of a receiver that moves: its greatest speed has to be declared.
use Rattle.std.specs.Prelude.{ℕ, Bool, true, false, Option, None, Some}
use Rattle.error_bounds.specs.Texts.{SettingsValue}
use Rattle.error_bounds.specs.declared.settings.Settings.{Settings}

-- the greatest speed, in mm/s
abbrev pub speed_in : SettingsValue → Option ℕ
speed_in v = v.speed

abbrev pub speed_of : Settings → Option ℕ
speed_of s = s.speed

-- it is there
abbrev pub HasSpeed : Option ℕ → Type 0
HasSpeed None = ⊥
HasSpeed (Some speed) = Unit {0}

-- where the receiver moves
abbrev pub HasMotion : Bool → Option ℕ → Type 0
HasMotion false speed = Unit {0}
HasMotion true speed = HasSpeed speed
