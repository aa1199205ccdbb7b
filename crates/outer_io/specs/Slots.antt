-- A value for each slot.
use Rattle.outer_io.specs.declared.slots.Slot.{Slot}
use Rattle.outer_io.specs.declared.slots.Slot.TheVariants.{Settings, Nav, Obs, Station, Rows, Log}
use Rattle.outer_io.specs.declared.slots.Slots.{Slots}

-- the value at a slot
abbrev pub at : {X : Type 0} → Slots X → Slot → X
at s Settings = s.settings
at s Nav = s.nav
at s Obs = s.obs
at s Station = s.station
at s Rows = s.rows
at s Log = s.log

-- with another value at a slot
abbrev pub put : {X : Type 0} → Slots X → Slot → X → Slots X
put s Settings x = record s { settings = x }
put s Nav x = record s { nav = x }
put s Obs x = record s { obs = x }
put s Station x = record s { station = x }
put s Rows x = record s { rows = x }
put s Log x = record s { log = x }

-- the same value at each slot
abbrev pub all : {X : Type 0} → X → Slots X
all x = record { settings = x; nav = x; obs = x; station = x; rows = x; log = x }

-- the same function of each value
abbrev pub each : {X Y : Type 0} → (X → Y) → Slots X → Slots Y
each f s = record {
  settings = f s.settings;
  nav = f s.nav;
  obs = f s.obs;
  station = f s.station;
  rows = f s.rows;
  log = f s.log;
}

-- the same fact of each value
pub record AtEach {X : Type 0} (P : X → Type 0) (s : Slots X) : Type 0 where
  pub settings : P s.settings
  pub nav : P s.nav
  pub obs : P s.obs
  pub station : P s.station
  pub rows : P s.rows
  pub log : P s.log
