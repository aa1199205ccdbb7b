-- The line of a satellite, test by test.
use Rattle.std.proofs.Common.{◌≡◌, ℕ, ◌<◌, true, false, List, [], ◌∷◌, ◌++◌, length, refl, inl, inr, Option, None, Some, is_some, Ok, Err}
use Rattle.std.specs.Option.{option_map}
use Rattle.std.specs.List.{list_all, list_any}
use Rattle.exact_decimal.specs.declared.decimal.Decimal.{Decimal}
use Rattle.rinex_text.specs.Bodies.{is_printable}
use Rattle.rinex_text.specs.Columns.{column_of}
use Rattle.rinex_text.specs.Counts.{IsNumber}
use Rattle.rinex_text.specs.Headers.{IsShort}
use Rattle.rinex_text.specs.Lines.{TextLine}
use Rattle.rinex_text.specs.declared.fault.Fault.TheVariants as fault
use Rattle.rinex_obs.specs.Header.{CodePlaces, Wanted, have_both}
use Rattle.rinex_obs.specs.Epochs.{IsOtherSystem, ArePlacesOf, has_sat, field_at, IsObserved, IsSecond, satellite_line}
use Rattle.rinex_obs.specs.Reading.{code_places}
use Rattle.rinex_obs.specs.declared.found.Places.{Places}
use Rattle.rinex_obs.specs.declared.obs.SatObs.{SatObs}

-- places that are kept are there where those that they stand for are
pub same_both : (galileo : Option Places)
    → is_some galileo ≡ is_some (option_map code_places galileo)
same_both None = refl
same_both (Some places) = refl

module _ (wanted : Wanted) (sats : List SatObs) (line : TextLine) (letter : ℕ) (same : letter ≡ column_of line.text 1) (short : IsShort line) where
  module _ (read : IsOtherSystem (have_both wanted) letter → ⊥) where
    module _ (ascii : list_all is_printable line.text ≡ true) where
      pub no_system : ((places : CodePlaces) → ArePlacesOf wanted letter places → ⊥)
          → satellite_line wanted sats line (Err fault.BadSatellite)
      no_system none = inl (short, inr ((rw same at read), inl (ascii, inr ((rw same at none), refl))))

      module _ (places : CodePlaces) (own : ArePlacesOf wanted letter places) where
        pub no_number : ((number : ℕ) → IsNumber line.text number → ⊥)
            → satellite_line wanted sats line (Err fault.BadSatellite)
        no_number none = inl (short, inr ((rw same at read), inl (ascii, inl (places, (rw same at own), inr (none, refl)))))

        module _ (number : ℕ) (is : IsNumber line.text number) where
          pub again : (list_any (has_sat (record { system = letter; number = number })) sats ≡ false → ⊥)
              → satellite_line wanted sats line (Err fault.RepeatSatellite)
          again old = inl (short, inr ((rw same at read), inl (ascii, inl (places, (rw same at own), inl (number, is, inr ((rw same at old), refl))))))

          module _ (new : list_any (has_sat (record { system = letter; number = number })) sats ≡ false) where
            pub no_room : (length sats < 64 → ⊥)
                → satellite_line wanted sats line (Err fault.TooMany)
            no_room full = inl (short, inr ((rw same at read), inl (ascii, inl (places, (rw same at own), inl (number, is, inl ((rw same at new), inr (full, refl)))))))

            module _ (room : length sats < 64) where
              pub no_first : ((first : Option Decimal) → IsObserved (field_at line.text places.first) first → ⊥)
                  → satellite_line wanted sats line (Err fault.BadNumber)
              no_first none = inl (short, inr ((rw same at read), inl (ascii, inl (places, (rw same at own), inl (number, is, inl ((rw same at new), inl (room, inr (none, refl))))))))

              module _ (first : Option Decimal) (a : IsObserved (field_at line.text places.first) first) where
                pub no_second : ((second : Option Decimal) → IsSecond line.text places.second second → ⊥)
                    → satellite_line wanted sats line (Err fault.BadNumber)
                no_second none = inl (short, inr ((rw same at read), inl (ascii, inl (places, (rw same at own), inl (number, is, inl ((rw same at new), inl (room, inl (first, a, inr (none, refl)))))))))

                pub one_more : (second : Option Decimal) → IsSecond line.text places.second second
                    → satellite_line wanted sats line (Ok (sats ++ record { sat = record { system = letter; number = number }; first = first; second = second } ∷ []))
                one_more second b = rw same (inl (short, inr ((rw same at read), inl (ascii, inl (places, (rw same at own), inl (number, is, inl ((rw same at new), inl (room, inl (first, a, inl (second, b, refl))))))))))
