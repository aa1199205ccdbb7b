-- The lines of a header, one behind another.
use Rattle.std.proofs.Common.{◌≡◌, ℕ, ◌+◌, Bool, List, ◌∷◌, refl, inl, inr, Option, None, Some, Result, Ok, Err}
use Rattle.rinex_text.specs.Faults.{refusal}
use Rattle.rinex_text.specs.Headers.{IsShort, IsHeaderEnd}
use Rattle.rinex_text.specs.Lines.{TextLine}
use Rattle.rinex_text.specs.declared.fault.Fault.{Fault}
use Rattle.rinex_text.specs.declared.fault.Refusal.{Refusal}
use Rattle.gnss_model.specs.declared.satellites.Signal.{Signal}
use Rattle.rinex_obs.specs.declared.sought.Sought.{Sought}
use Rattle.rinex_obs.specs.Types.{Types}
use Rattle.rinex_obs.specs.Header.{Header, header_line, are_both, header_end, Start, header_lines}
use Rattle.rinex_obs.specs.Reading.{MayBeFound, AreFoundOf}
use Rattle.rinex_obs.specs.declared.found.Found.{Found}

module _ (sought : Sought) (position : Bool) (known : Header) (n : ℕ) (lines more : List TextLine) (line : TextLine) (e : lines ≡ line ∷ more) where
  pub line_step : (next : Header) (m : ℕ) (answer : Result Start Refusal) → m ≡ n + 1 → IsShort line
      → (IsHeaderEnd line → ⊥) → header_line (are_both sought) position known line (Ok next)
      → header_lines sought position next m more answer
      → header_lines sought position known n lines answer
  line_step next m answer f short other is h = rw e (inl (short, inr (other, inl (next, is, rw f at h))))

  pub line_fault : (f : Fault) → IsShort line → (IsHeaderEnd line → ⊥)
      → header_line (are_both sought) position known line (Err f)
      → header_lines sought position known n lines (Err (refusal f n))
  line_fault f short other is = rw e (inl (short, inr (other, inr (f, is, refl))))

  pub end_fault : (f : Fault) → IsShort line → IsHeaderEnd line
      → header_end sought position known (Err f)
      → header_lines sought position known n lines (Err (refusal f n))
  end_fault f short end is = rw e (inl (short, inl (end, inr (f, is, refl))))

-- ---- what its end gives

-- as for a system whose codes are wanted, where those of Galileo may not be
pub as_found : (signal : Signal) (galileo : Option Signal) (types : Option Types) (found : Option Found)
    → AreFoundOf galileo types found → (some : Signal) × MayBeFound some types found
as_found signal None types found m = (signal, rw (m.0, m.1) tt)
as_found signal (Some galileo) types found m = (galileo, m)

-- before the first line
pub none_known : (galileo : Option Signal) → AreFoundOf galileo None None
none_known None = (refl, refl)
none_known (Some signal) = tt
