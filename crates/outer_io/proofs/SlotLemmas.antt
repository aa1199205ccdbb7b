-- A value for each slot.
use Rattle.std.proofs.Common.{◌≡◌, refl}
use Rattle.outer_io.specs.declared.slots.Slot.{Slot}
use Rattle.outer_io.specs.declared.slots.Slot.TheVariants.{Settings, Nav, Obs, Station, Rows, Log}
use Rattle.outer_io.specs.declared.slots.Slots.{Slots}
use Rattle.outer_io.specs.Slots.{at, put, each, AtEach}

pub at-put : {X : Type 0} (s : Slots X) (slot : Slot) (x : X) → at (put s slot x) slot ≡ x
at-put s Settings x = refl
at-put s Nav x = refl
at-put s Obs x = refl
at-put s Station x = refl
at-put s Rows x = refl
at-put s Log x = refl

pub put-put : {X : Type 0} (s : Slots X) (slot : Slot) (x y : X)
    → put (put s slot x) slot y ≡ put s slot y
put-put s Settings x y = refl
put-put s Nav x y = refl
put-put s Obs x y = refl
put-put s Station x y = refl
put-put s Rows x y = refl
put-put s Log x y = refl

pub each-at : {X Y : Type 0} (f : X → Y) (s : Slots X) (slot : Slot)
    → at (each f s) slot ≡ f (at s slot)
each-at f s Settings = refl
each-at f s Nav = refl
each-at f s Obs = refl
each-at f s Station = refl
each-at f s Rows = refl
each-at f s Log = refl

pub each-put : {X Y : Type 0} (f : X → Y) (s : Slots X) (slot : Slot) (x : X)
    → each f (put s slot x) ≡ put (each f s) slot (f x)
each-put f s Settings x = refl
each-put f s Nav x = refl
each-put f s Obs x = refl
each-put f s Station x = refl
each-put f s Rows x = refl
each-put f s Log x = refl

pub AtEach-at : {X : Type 0} (P : X → Type 0) (s : Slots X) (slot : Slot) → AtEach P s
    → P (at s slot)
AtEach-at P s Settings all = all.settings
AtEach-at P s Nav all = all.nav
AtEach-at P s Obs all = all.obs
AtEach-at P s Station all = all.station
AtEach-at P s Rows all = all.rows
AtEach-at P s Log all = all.log

-- a fact that each value keeps, and that a new one has
pub AtEach-put : {X : Type 0} (P Q : X → Type 0) (s : Slots X) (slot : Slot) (x : X)
    → ((y : X) → P y → Q y) → AtEach P s → Q x → AtEach Q (put s slot x)
AtEach-put P Q s Settings x keeps all new = record { settings = new; nav = keeps _ all.nav; obs = keeps _ all.obs; station = keeps _ all.station; rows = keeps _ all.rows; log = keeps _ all.log }
AtEach-put P Q s Nav x keeps all new = record { settings = keeps _ all.settings; nav = new; obs = keeps _ all.obs; station = keeps _ all.station; rows = keeps _ all.rows; log = keeps _ all.log }
AtEach-put P Q s Obs x keeps all new = record { settings = keeps _ all.settings; nav = keeps _ all.nav; obs = new; station = keeps _ all.station; rows = keeps _ all.rows; log = keeps _ all.log }
AtEach-put P Q s Station x keeps all new = record { settings = keeps _ all.settings; nav = keeps _ all.nav; obs = keeps _ all.obs; station = new; rows = keeps _ all.rows; log = keeps _ all.log }
AtEach-put P Q s Rows x keeps all new = record { settings = keeps _ all.settings; nav = keeps _ all.nav; obs = keeps _ all.obs; station = keeps _ all.station; rows = new; log = keeps _ all.log }
AtEach-put P Q s Log x keeps all new = record { settings = keeps _ all.settings; nav = keeps _ all.nav; obs = keeps _ all.obs; station = keeps _ all.station; rows = keeps _ all.rows; log = new }
