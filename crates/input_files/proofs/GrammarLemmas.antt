-- What a text that was read or refused settles.
use Rattle.std.proofs.Common.{Option, ◌≡◌, ℕ, Bool, true, false, List, [], ◌∷◌, Result, Ok, Err, inl, inr, refl, ap, sym}
use Rattle.std.proofs.Common.{◌∙◌}
use Rattle.command_words.specs.Commands.{Epochs}
use Rattle.paving_log.specs.declared.log.LogError.{LogError}
use Rattle.gnss_model.specs.declared.systems.Message.{Message}
use Rattle.rinex_nav.specs.Files as nav
use Rattle.rinex_obs.specs.Files as obs
use Rattle.rinex_text.specs.Lines.{lines_of}
use Rattle.rinex_text.specs.Reading.{Refuses}
use Rattle.rinex_text.specs.declared.fault.ReadError.{ReadError}
use Rattle.rinex_text.specs.declared.fault.ReadError.TheVariants.{Refused, NoMemory}
use Rattle.rinex_text.specs.declared.fault.Refusal.{Refusal}
use Rattle.sat_model.specs.Logs.{LogValue}
use Rattle.rinex_obs.specs.Facts.{AreSatsOf, AreNamedSats, InEach, IsSatOf}
use Rattle.rinex_obs.specs.Epochs.{Observed}
use Rattle.rinex_obs.specs.declared.obs.SatObs.{SatObs}
use Rattle.rinex_obs.specs.declared.sought.Sought.{Sought}
use Rattle.input_files.specs.Inputs.{NamesNavFault, NamesObsFault, nav_text, obs_text}
use Rattle.input_files.specs.Logs.{NamesFirst}
use Rattle.input_files.specs.Reading.{Text, Gives, GivesOrEnds, Settles}
use Rattle.input_files.specs.Statuses.{notice_of_file, status_of}
use Rattle.input_files.specs.declared.input_fault.InputFault.{InputFault}
use Rattle.input_files.specs.declared.input_fault.InputFault.TheVariants as input
use Rattle.input_files.specs.declared.notice.Notice.{Notice}
use Rattle.input_files.specs.declared.notice.Notice.TheVariants as notice
use Rattle.input_files.specs.declared.role.Role.{Role}
use Rattle.input_files.specs.declared.status.Status.TheVariants as status

module _ {V : Type 0} (text : Text V) (bytes : List ℕ) where
  -- it was read, and no other value is spelled, and no fault named
  pub read_settles : (w : text.Value)
      → ((other : text.Value) → text.Spells bytes other → w ≡ other)
      → ((n : Notice) → text.Names bytes n → ⊥)
      → (other : Result text.Value Notice) → Gives text bytes other → Settles (Ok w) other
  read_settles w one none (Ok v) given = inr (one v given)
  read_settles w one none (Err n) given = absurd (none n given.1)

  -- memory ran out
  pub memory_settles : (n : Notice) → n ≡ notice.NoMemory
      → (other : Result text.Value Notice) → Gives text bytes other
      → Settles {V = text.Value} (Err n) other
  memory_settles n m other given = inl (inr (inr (ap status_of m)))

  -- it was refused, so that it spells nothing
  pub refused_settles : (n : Notice) → status_of n ≡ status.Refused
      → ((v : text.Value) → text.Spells bytes v → n ≡ notice.NoMemory)
      → (other : Result text.Value Notice) → Gives text bytes other
      → Settles {V = text.Value} (Err n) other
  refused_settles n is none (Ok v) given = inl (inr (inr (ap status_of (none v given))))
  refused_settles n is none (Err m) given = inr (is ∙ sym given.0)

-- ---- texts of rows and logs

-- the text of one has no first fault
pub no_first : (of : Role) (IsText : LogValue → List ℕ → Type 0)
    (First : List ℕ → LogError → Type 0) (bytes : List ℕ) (log : LogValue) → IsText log bytes
    → (n : Notice) → NamesFirst of IsText First bytes n → ⊥
no_first of IsText First bytes log is (notice.BadLog at line kind) names = names.1.0 log is
no_first of IsText First bytes log is _ names = names

-- ---- files with lines

-- what was read has no first fault
pub no_nav_fault : (both : Option Message) (bytes : List ℕ)
    → ((r : Refusal) → nav.IsFirstFaultOf both bytes r → ⊥) → (n : Notice)
    → NamesNavFault both bytes n → ⊥
no_nav_fault both bytes none (notice.BadInput (input.Nav r)) is = none r is
no_nav_fault both bytes none _ is = is

pub no_obs_fault : (sought : Sought) (position : Bool) (bytes : List ℕ)
    → ((r : Refusal) → obs.IsFirstFaultOf sought position bytes r → ⊥)
    → (n : Notice) → NamesObsFault sought position bytes n → ⊥
no_obs_fault sought position bytes none (notice.BadInput (input.Obs r)) is = none r is
no_obs_fault sought position bytes none _ is = is

-- a text ends so, whatever else it gives
abbrev pub SettlesErr : {V : Type 0} → (text : Text V) → List ℕ → Notice → Type 0
SettlesErr text bytes n = (other : Result text.Value Notice) → Gives text bytes other
    → Settles {V = text.Value} (Err n) other

-- what was refused spells nothing
pub file_settles : {V : Type 0} (text : Text V) (bytes : List ℕ) (input_of : Refusal → InputFault)
    (e : ReadError) → ((v : text.Value) → text.Spells bytes v → e ≡ NoMemory)
    → SettlesErr text bytes (notice_of_file input_of e)
file_settles text bytes input_of (Refused r) none =
    refused_settles text bytes (notice.BadInput (input_of r)) refl
    (λ v is. let m : Refused r ≡ NoMemory = none v is in cc)
file_settles text bytes input_of NoMemory none =
    memory_settles text bytes notice.NoMemory refl

pub nav_gives : (both : Option Message) (bytes : List ℕ) (e : ReadError)
    → Refuses (nav.nav_file_of both (lines_of bytes)) e
    → GivesOrEnds (nav_text both) bytes (Err (notice_of_file (λ r. input.Nav r) e))
nav_gives both bytes (Refused r) refuses = inr (refl, refuses)
nav_gives both bytes NoMemory refuses = inl refl

pub obs_gives : (sought : Sought) (position : Bool) (epochs : Epochs) (bytes : List ℕ) (e : ReadError)
    → Refuses (obs.obs_file_of sought position (lines_of bytes)) e
    → GivesOrEnds (obs_text sought position epochs) bytes (Err (notice_of_file (λ r. input.Obs r) e))
obs_gives sought position epochs bytes (Refused r) refuses = inr (refl, refuses)
obs_gives sought position epochs bytes NoMemory refuses = inl refl

-- ---- satellites that are named

sat_named : (both : Bool) (seen : SatObs) → IsSatOf both seen → IsSatOf true seen
sat_named false seen is = record { system = inl is.system; from = is.from; to = is.to }
sat_named true seen is = is

sats_named : (both : Bool) (sats : List SatObs) → AreSatsOf both sats → AreNamedSats sats
sats_named both [] are = tt
sats_named both (seen ∷ sats) are = (sat_named both seen are.0, sats_named both sats are.1)

pub each_named : (both : Bool) (epochs : List Observed) → InEach (AreSatsOf both) epochs
    → InEach AreNamedSats epochs
each_named both [] are = tt
each_named both (epoch ∷ epochs) are =
    (sats_named both epoch.sats are.0, each_named both epochs are.1)
